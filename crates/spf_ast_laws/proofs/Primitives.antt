-- The primitives of forms see visible slots alone.
use Rattle.std.proofs.Common.{◌≡◌, ℕ, zero, suc, Bool, true, false, List, [], ◌∷◌, ◌++◌, length, ℤ, pos, negsuc, refl, ap}
use Rattle.std.specs.Prelude.{Result, Ok, Err, if◌then◌else◌, nat_lt, ◌&&◌}
use Rattle.std.specs.List.{Contains}
use Rattle.spf_ast.specs.declared.outcome.TrapKind.{TrapKind}
use Rattle.spf_ast.specs.declared.outcome.TrapKind.TheVariants as trap
use Rattle.spf_ast.specs.Carried.{Carried}
use Rattle.spf_ast.specs.GoingOn.{GoesOn}
use Rattle.spf_ast.specs.Interaction.{Interaction, Answer, AskLoad, AskStore, AskTurn, State, Flow, Onward, Broken, Ending, Value, Trapped, Meaning, after_ending, ◌>>=◌, ◌>->◌, unless_broken, unless_ended}
use Rattle.spf_ast.specs.Meaning.{gives, traps, checked, reads, sets, sets_row, turns, loads, stores, stores_each, emits, max_output, with_slots, in_own_slots}
use Rattle.spf_ast.specs.Lawful.{Agree}
use Rattle.spf_ast_laws.specs.Agreement.{Relation, LookAlike, EndAlike, LeftAlike, Relates, RelatesLeft}
use Rattle.spf_ast_laws.proofs.Alike.{AskAlike, bind-alike, ends-alike, weaken-alike, perform-alike}
use Rattle.spf_ast_laws.proofs.Slots.{IsWithin, look_narrower, look_set, look_row, same_read}

-- from related states before it a form asks alike, and it ends alike in related states
pub record Sees {A : Type 0} (Before After : Relation) (form : Meaning A) : Type 0 where
  pub alike : (one other : State) → Before one other → AskAlike (EndAlike After) (form one) (form other)

-- what is asked alike is performed alike
pub performed : {A : Type 0} {Before After : Relation} {form : Meaning A} → Sees Before After form → Relates Before After form
performed {A} {Before} {After} {form} s one other h shared memory stop events =
    perform-alike (EndAlike After) shared memory stop (form one) (form other) (s.alike one other h) events

-- a statement, which may break off, asks alike from related states, and ends alike in related states
pub record SeesLeft (Before After Out : Relation) (form : Meaning Flow) : Type 0 where
  pub alike : (one other : State) → Before one other → AskAlike (LeftAlike After Out) (form one) (form other)

pub performed-left : {Before After Out : Relation} {form : Meaning Flow} → SeesLeft Before After Out form → RelatesLeft Before After Out form
performed-left {Before} {After} {Out} {form} s one other h shared memory stop events =
    perform-alike (LeftAlike After Out) shared memory stop (form one) (form other) (s.alike one other h) events

-- related states agree on these slots, and still are related when both have the same other output
pub record IsView (visible : List ℕ) (R : Relation) : Type 0 where
  pub agrees : (one other : State) → R one other → Agree visible one other
  pub emitted : (one other : State) → R one other → (output : List ℕ) → R (record one { output = output }) (record other { output = output })

-- to agree is a view
pub agreeing : (visible : List ℕ) → IsView visible (Agree visible)
agreeing visible = record {
  agrees = λ one other h. h;
  emitted = λ one other h output. record { slots = h.slots; output = refl };
}

-- to look alike is a view
pub looking : (visible : List ℕ) → IsView visible (LookAlike visible)
looking visible = record {
  agrees = λ one other h. h.agree;
  emitted = λ one other h output. record { agree = record { slots = h.agree.slots; output = refl }; slot_count = h.slot_count };
}

-- ---- putting forms together

-- one form after another
pub sees-then : {A B : Type 0} {Before Between After : Relation} {first : Meaning A} {next : A → Meaning B} → Sees Before Between first → ((a : A) → Sees Between After (next a)) → Sees Before After (first >>= next)
sees-then {A} {B} {Before} {Between} {After} {first} {next} f n = record {
  alike = λ one other h. bind-alike (EndAlike Between) (EndAlike After) (after_ending next) (after_ending next) step (first one) (first other) (f.alike one other h);
}
  where
    step : (e d : Ending A) → EndAlike Between e d → AskAlike (EndAlike After) (after_ending next e) (after_ending next d)
    step (Value a s) (Value b t) h = rw h.0 ((n b).alike s t h.1)
    step (Value a s) (Trapped y o) h = elim h [ ]
    step (Trapped x o) (Value b t) h = elim h [ ]
    step (Trapped x o) (Trapped y p) h = h

-- the same with a statement in the second index
pub sees-before : {A : Type 0} {Before Between After Out : Relation} {first : Meaning A} {next : A → Meaning Flow} → Sees Before Between first → ((a : A) → SeesLeft Between After Out (next a)) → SeesLeft Before After Out (first >>= next)
sees-before {A} {Before} {Between} {After} {Out} {first} {next} f n = record {
  alike = λ one other h. bind-alike (EndAlike Between) (LeftAlike After Out) (after_ending next) (after_ending next) step (first one) (first other) (f.alike one other h);
}
  where
    step : (e d : Ending A) → EndAlike Between e d → AskAlike (LeftAlike After Out) (after_ending next e) (after_ending next d)
    step (Value a s) (Value b t) h = rw h.0 ((n b).alike s t h.1)
    step (Value a s) (Trapped y o) h = elim h [ ]
    step (Trapped x o) (Value b t) h = elim h [ ]
    step (Trapped x o) (Trapped y p) h = h

-- one statement, and then others
pub sees-on : {Before Between After Out : Relation} {first next : Meaning Flow} → SeesLeft Before Between Out first → SeesLeft Between After Out next → SeesLeft Before After Out (first >-> next)
sees-on {Before} {Between} {After} {Out} {first} {next} f n = record {
  alike = λ one other h. bind-alike (LeftAlike Between Out) (LeftAlike After Out) (after_ending (unless_broken next)) (after_ending (unless_broken next)) step (first one) (first other) (f.alike one other h);
}
  where
    step : (e d : Ending Flow) → LeftAlike Between Out e d → AskAlike (LeftAlike After Out) (after_ending (unless_broken next) e) (after_ending (unless_broken next) d)
    step (Value Onward s) (Value Onward t) h = n.alike s t h
    step (Value Broken s) (Value Broken t) h = h
    step (Trapped x o) (Trapped y p) h = h
    step (Value Onward s) (Value Broken t) h = elim h [ ]
    step (Value Broken s) (Value Onward t) h = elim h [ ]
    step (Value Onward s) (Trapped y p) h = elim h [ ]
    step (Value Broken s) (Trapped y p) h = elim h [ ]
    step (Trapped x o) (Value Onward t) h = elim h [ ]
    step (Trapped x o) (Value Broken t) h = elim h [ ]

-- the body of a loop, and then its other turns
pub sees-turn : {Before R : Relation} {body others : Meaning Flow} → SeesLeft Before R R body → Sees R R others → Sees Before R (body >>= unless_ended others)
sees-turn {Before} {R} {body} {others} b n = record {
  alike = λ one other h. bind-alike (LeftAlike R R) (EndAlike R) (after_ending (unless_ended others)) (after_ending (unless_ended others)) step (body one) (body other) (b.alike one other h);
}
  where
    step : (e d : Ending Flow) → LeftAlike R R e d → AskAlike (EndAlike R) (after_ending (unless_ended others) e) (after_ending (unless_ended others) d)
    step (Value Onward s) (Value Onward t) h = n.alike s t h
    step (Value Broken s) (Value Broken t) h = (refl, h)
    step (Trapped x o) (Trapped y p) h = h
    step (Value Onward s) (Value Broken t) h = elim h [ ]
    step (Value Broken s) (Value Onward t) h = elim h [ ]
    step (Value Onward s) (Trapped y p) h = elim h [ ]
    step (Value Broken s) (Trapped y p) h = elim h [ ]
    step (Trapped x o) (Value Onward t) h = elim h [ ]
    step (Trapped x o) (Value Broken t) h = elim h [ ]

-- a form that breaks off alike, where more is related
pub sees-left : {Before After Out : Relation} {form : Meaning Flow} → ((one other : State) → After one other → Out one other) → Sees Before After form → SeesLeft Before After Out form
sees-left {Before} {After} {Out} {form} weaker f = record {
  alike = λ one other h. weaken-alike (EndAlike After) (LeftAlike After Out) step (form one) (form other) (f.alike one other h);
}
  where
    step : (e d : Ending Flow) → EndAlike After e d → LeftAlike After Out e d
    step (Value Onward s) (Value Onward t) h = h.1
    step (Value Broken s) (Value Broken t) h = weaker s t h.1
    step (Value Onward s) (Value Broken t) h = let e = h.0 in cc
    step (Value Broken s) (Value Onward t) h = let e = h.0 in cc
    step (Value Onward s) (Trapped y p) h = elim h [ ]
    step (Value Broken s) (Trapped y p) h = elim h [ ]
    step (Trapped x o) (Value Onward t) h = elim h [ ]
    step (Trapped x o) (Value Broken t) h = elim h [ ]
    step (Trapped x o) (Trapped y p) h = h

-- a statement that never breaks off
unbroken-alike : (After Out : Relation) (t u : Interaction (Ending Flow)) → GoesOn t → AskAlike (LeftAlike After Out) t u → AskAlike (EndAlike After) t u
unbroken-alike After Out (Answer (Value Onward s)) (Answer (Value Onward r)) g h = (refl, h)
unbroken-alike After Out (Answer (Value Onward s)) (Answer (Value Broken r)) g h = elim h [ ]
unbroken-alike After Out (Answer (Value Onward s)) (Answer (Trapped y p)) g h = elim h [ ]
unbroken-alike After Out (Answer (Value Broken s)) (Answer b) g h = absurd g
unbroken-alike After Out (Answer (Trapped x o)) (Answer (Value Onward r)) g h = elim h [ ]
unbroken-alike After Out (Answer (Trapped x o)) (Answer (Value Broken r)) g h = elim h [ ]
unbroken-alike After Out (Answer (Trapped x o)) (Answer (Trapped y p)) g h = h
unbroken-alike After Out (AskLoad c k) (AskLoad d l) g h = (h.0, λ word. unbroken-alike After Out (k word) (l word) (g word) (h.1 word))
unbroken-alike After Out (AskStore c v t) (AskStore d w u) g h = (h.0, h.1, unbroken-alike After Out t u g h.2)
unbroken-alike After Out (AskTurn t) (AskTurn u) g h = unbroken-alike After Out t u g h
unbroken-alike After Out (Answer a) (AskLoad d l) g h = elim h [ ]
unbroken-alike After Out (Answer a) (AskStore d w u) g h = elim h [ ]
unbroken-alike After Out (Answer a) (AskTurn u) g h = elim h [ ]
unbroken-alike After Out (AskLoad c k) (Answer b) g h = elim h [ ]
unbroken-alike After Out (AskLoad c k) (AskStore d w u) g h = elim h [ ]
unbroken-alike After Out (AskLoad c k) (AskTurn u) g h = elim h [ ]
unbroken-alike After Out (AskStore c v t) (Answer b) g h = elim h [ ]
unbroken-alike After Out (AskStore c v t) (AskLoad d l) g h = elim h [ ]
unbroken-alike After Out (AskStore c v t) (AskTurn u) g h = elim h [ ]
unbroken-alike After Out (AskTurn t) (Answer b) g h = elim h [ ]
unbroken-alike After Out (AskTurn t) (AskLoad d l) g h = elim h [ ]
unbroken-alike After Out (AskTurn t) (AskStore d w u) g h = elim h [ ]

pub sees-unbroken : {Before After Out : Relation} {form : Meaning Flow} → ((s : State) → GoesOn (form s)) → SeesLeft Before After Out form → Sees Before After form
sees-unbroken {Before} {After} {Out} {form} g f = record {
  alike = λ one other h. unbroken-alike After Out (form one) (form other) (g one) (f.alike one other h);
}

-- either of two statements
pub sees-either : {Before After Out : Relation} (b : Bool) {first second : Meaning Flow} → SeesLeft Before After Out first → SeesLeft Before After Out second → SeesLeft Before After Out (if b then first else second)
sees-either true f g = f
sees-either false f g = g

-- fewer slots may be visible after a statement
pub sees-less : {Before : Relation} {few many less more : List ℕ} {form : Meaning Flow} → IsWithin few many → IsWithin less more → SeesLeft Before (LookAlike many) (LookAlike more) form → SeesLeft Before (LookAlike few) (LookAlike less) form
sees-less {Before} {few} {many} {less} {more} {form} within out f = record {
  alike = λ one other h. weaken-alike (LeftAlike (LookAlike many) (LookAlike more)) (LeftAlike (LookAlike few) (LookAlike less)) weaker (form one) (form other) (f.alike one other h);
}
  where
    weaker : (e d : Ending Flow) → LeftAlike (LookAlike many) (LookAlike more) e d → LeftAlike (LookAlike few) (LookAlike less) e d
    weaker (Value Onward s) (Value Onward t) h = look_narrower few many s t within h
    weaker (Value Broken s) (Value Broken t) h = look_narrower less more s t out h
    weaker (Value Onward s) (Value Broken t) h = h
    weaker (Value Broken s) (Value Onward t) h = h
    weaker (Value Onward s) (Trapped y o) h = h
    weaker (Value Broken s) (Trapped y o) h = h
    weaker (Trapped x o) (Value Onward t) h = h
    weaker (Trapped x o) (Value Broken t) h = h
    weaker (Trapped x o) (Trapped y p) h = h

-- either of two forms
pub sees-if : {A : Type 0} {Before After : Relation} (b : Bool) {first second : Meaning A} → Sees Before After first → Sees Before After second → Sees Before After (if b then first else second)
sees-if true f g = f
sees-if false f g = g

-- fewer slots may be visible after a form
pub sees-fewer : {A : Type 0} {Before : Relation} {few many : List ℕ} {form : Meaning A} → IsWithin few many → Sees Before (LookAlike many) form → Sees Before (LookAlike few) form
sees-fewer {A} {Before} {few} {many} {form} within f = record {
  alike = λ one other h. weaken-alike (EndAlike (LookAlike many)) (EndAlike (LookAlike few)) weaker (form one) (form other) (f.alike one other h);
}
  where
    weaker : (e d : Ending A) → EndAlike (LookAlike many) e d → EndAlike (LookAlike few) e d
    weaker (Value a s) (Value b t) h = (h.0, look_narrower few many s t within h.1)
    weaker (Value a s) (Trapped y o) h = h
    weaker (Trapped x o) (Value b t) h = h
    weaker (Trapped x o) (Trapped y p) h = h

-- more slots may be visible before a form
pub sees-more : {A : Type 0} {After : Relation} {few many : List ℕ} {form : Meaning A} → IsWithin few many → Sees (LookAlike few) After form → Sees (LookAlike many) After form
sees-more {A} {After} {few} {many} {form} within f = record {
  alike = λ one other h. f.alike one other (look_narrower few many one other within h);
}

-- ---- primitives

-- a value
pub gives-sees : {A : Type 0} {R : Relation} (a : A) → Sees R R (gives a)
gives-sees a = record { alike = λ one other h. (refl, h) }

-- a trap, which shows the output
pub traps-sees : {A : Type 0} {After : Relation} (visible : List ℕ) (R : Relation) → IsView visible R → (why : TrapKind) (line : ℕ) → Sees R After (traps {A = A} why line)
traps-sees visible R v why line = record { alike = λ one other h. (refl, (v.agrees one other h).output) }

-- a value or a trap
pub checked-sees : {A : Type 0} (visible : List ℕ) (R : Relation) → IsView visible R → (line : ℕ) (r : Result A TrapKind) → Sees R R (checked line r)
checked-sees visible R v line (Ok value) = gives-sees value
checked-sees visible R v line (Err why) = traps-sees visible R v why line

-- the word in a visible slot
pub reads-sees : (visible : List ℕ) (R : Relation) → IsView visible R → (slot : ℕ) → Contains visible slot → Sees R R (reads slot)
reads-sees visible R v slot c = record {
  alike = λ one other h. (same_read one.slots other.slots slot ((v.agrees one other h).slots slot c), h);
}

-- a slot that is set is seen alike from then on
pub sets-sees : {visible : List ℕ} (slot : ℕ) (word : ℤ) → Sees (LookAlike visible) (LookAlike (slot ∷ visible)) (sets slot word)
sets-sees {visible} slot word = record { alike = λ one other h. (refl, look_set visible one other slot word h) }

-- and so are the slots that a row is put into
pub sets_row-sees : {visible : List ℕ} (slots : List ℕ) (row : Carried) → Sees (LookAlike visible) (LookAlike (slots ++ visible)) (sets_row slots row)
sets_row-sees {visible} slots row = record { alike = λ one other h. (refl, look_row visible slots row one other h) }

-- a turn
pub turns-sees : {R : Relation} → Sees R R turns
turns-sees = record { alike = λ one other h. (refl, h) }

-- a load
pub loads-sees : {R : Relation} (cell : ℕ) → Sees R R (loads cell)
loads-sees cell = record { alike = λ one other h. (refl, λ word. (refl, h)) }

-- a store
pub stores-sees : {R : Relation} (cell : ℕ) (word : ℤ) → Sees R R (stores cell word)
stores-sees cell word = record { alike = λ one other h. (refl, refl, (refl, h)) }

-- stores one after the other
pub stores_each-sees : {R : Relation} (first count : ℕ) (word : ℤ) → Sees R R (stores_each first count word)
stores_each-sees first zero word = gives-sees Onward
stores_each-sees first (suc count) word = sees-then (stores-sees first word) (λ u. stores_each-sees (suc first) count word)

-- the same byte is added to the same output, or doesn't fit into either
byte-alike : (visible : List ℕ) (b c : Bool) (line n : ℕ) (one other : State) → b ≡ c → LookAlike visible one other → AskAlike (EndAlike (LookAlike visible)) (if b then Answer (Value Onward (record one { output = one.output ++ n ∷ [] })) else traps trap.Emit line one) (if c then Answer (Value Onward (record other { output = other.output ++ n ∷ [] })) else traps trap.Emit line other)
byte-alike visible true true line n one other e h =
    (refl, record { agree = record { slots = h.agree.slots; output = ap (λ output. output ++ n ∷ []) h.agree.output }; slot_count = h.slot_count })
byte-alike visible true false line n one other e h = cc
byte-alike visible false true line n one other e h = cc
byte-alike visible false false line n one other e h = (refl, h.agree.output)

-- a byte or a trap
pub emits-sees : {visible : List ℕ} (line : ℕ) (word : ℤ) → Sees (LookAlike visible) (LookAlike visible) (emits line word)
emits-sees {visible} line (pos n) = record {
  alike = λ one other h. byte-alike visible _ _ line n one other (ap (λ output. nat_lt n 256 && nat_lt (length output) max_output) h.agree.output) h;
}
emits-sees {visible} line (negsuc n) = record { alike = λ one other h. (refl, h.agree.output) }

-- a form over slots of its own sees none of the others
pub own-sees : {A : Type 0} (visible : List ℕ) (R : Relation) → IsView visible R → (own : List ℤ) (inner : Meaning A) → Sees R R (in_own_slots own inner)
own-sees {A} visible R v own inner = record {
  alike = λ one other h. rw (v.agrees one other h).output (ends-alike (EndAlike R) (with_slots one.slots) (with_slots other.slots) (restored one other h) (inner (record { slots = own; output = other.output })));
}
  where
    restored : (one other : State) → R one other → (e : Ending A) → EndAlike R (with_slots one.slots e) (with_slots other.slots e)
    restored one other h (Value a s) = (refl, v.emitted one other h s.output)
    restored one other h (Trapped trap output) = (refl, refl)
