-- Forms that only add to the output, and trees that events lead into.
use Rattle.std.proofs.Common.{◌≡◌, ℕ, zero, suc, Bool, true, false, List, [], ◌∷◌, ◌++◌, Option, Result, Ok, Err, ℤ, pos, ◌+ℤ◌, refl, sym, ap, subst, ◌∙◌, append-nil, append_assoc}
use Rattle.std.specs.Prelude.{if◌then◌else◌, ◌==◌, ◌&&◌, nat_lt, negsuc, length}
use Rattle.std.specs.Ordering.{int_eq}
use Rattle.std.proofs.lemmas.Bool.Decides.{Decides-int_eq, Decides-eqb}
use Rattle.spf_ast.specs.declared.outcome.TrapKind.{TrapKind}
use Rattle.spf_ast.specs.declared.outcome.TrapKind.TheVariants as trap
use Rattle.spf_ast.specs.Carried.{Carried}
use Rattle.spf_ast.specs.Event.{Event, Load, Store, Turn}
use Rattle.spf_ast.specs.Interaction.{Interaction, Answer, AskLoad, AskStore, AskTurn, bind, Performed, Ended, Stopped, reaches, perform, every_cell, State, Flow, Onward, Broken, Ending, Value, Trapped, Meaning, after_ending, ◌>>=◌, ◌>>◌, ◌>->◌, unless_broken, unless_ended}
use Rattle.spf_ast.specs.Meaning.{gives, traps, checked, reads, sets, sets_row, turns, loads, stores, stores_each, emits, max_output, for_turns, while_turns, with_slots, in_own_slots}
use Rattle.spf_ast.proofs.PlainRuns.{chosen}
use Rattle.spf_exec_memory.specs.Growing.{IsPrefix, output_of, Extends, OnlyAdds, IsUnfinished}

-- ---- prefixes

pub prefix-all : (bytes : List ℕ) → IsPrefix bytes bytes
prefix-all bytes = record { back = []; joined = sym (append-nil bytes) }

pub prefix-on : {a b c : List ℕ} → IsPrefix a b → IsPrefix b c → IsPrefix a c
prefix-on {a = a} p q = record {
  back = p.back ++ q.back;
  joined = q.joined ∙ ap (λ x. x ++ q.back) p.joined ∙ append_assoc a p.back q.back;
}

extends-less : {A : Type 0} {few many : List ℕ} → IsPrefix few many → (t : Interaction (Ending A)) → Extends many t → Extends few t
extends-less p (Answer e) x = prefix-on p x
extends-less p (AskLoad c k) x = λ word. extends-less p (k word) (x word)
extends-less p (AskStore c v t) x = extends-less p t x
extends-less p (AskTurn t) x = extends-less p t x

-- a form, and then others
pub extends-then : {A B : Type 0} (bytes : List ℕ) (t : Interaction (Ending A)) (next : A → Meaning B) → ((a : A) → OnlyAdds (next a)) → Extends bytes t → Extends bytes (bind t (after_ending next))
extends-then bytes (Answer (Value a s)) next n x = extends-less x (next a s) ((n a).adds s)
extends-then bytes (Answer (Trapped w o)) next n x = x
extends-then bytes (AskLoad c k) next n x = λ word. extends-then bytes (k word) next n (x word)
extends-then bytes (AskStore c v t) next n x = extends-then bytes t next n x
extends-then bytes (AskTurn t) next n x = extends-then bytes t next n x

-- an ending that is changed, but for its output
pub extends-as : {A B : Type 0} (bytes : List ℕ) (t : Interaction (Ending A)) (f : Ending A → Ending B) → ((e : Ending A) → output_of (f e) ≡ output_of e) → Extends bytes t → Extends bytes (bind t (λ e. Answer (f e)))
extends-as bytes (Answer e) f same x = subst (IsPrefix bytes) (sym (same e)) x
extends-as bytes (AskLoad c k) f same x = λ word. extends-as bytes (k word) f same (x word)
extends-as bytes (AskStore c v t) f same x = extends-as bytes t f same x
extends-as bytes (AskTurn t) f same x = extends-as bytes t f same x

-- ---- trees that events lead into

-- what is left in the middle of a form is left in the middle of more
pub unfinished-then : {A B : Type 0} (t : Interaction (Ending A)) (es : List Event) (bytes : List ℕ) (next : A → Meaning B) → ((a : A) → OnlyAdds (next a)) → IsUnfinished t es bytes → IsUnfinished (bind t (after_ending next)) es bytes
unfinished-then t [] bytes next n u = extends-then bytes t next n u
unfinished-then (Answer e) (x ∷ es) bytes next n u = absurd u
unfinished-then (AskLoad c k) (Load d w ∷ es) bytes next n u = (u.0, unfinished-then (k w) es bytes next n u.1)
unfinished-then (AskLoad c k) (Store d w ∷ es) bytes next n u = absurd u
unfinished-then (AskLoad c k) (Turn m ∷ es) bytes next n u = absurd u
unfinished-then (AskStore c v t) (Load d w ∷ es) bytes next n u = absurd u
unfinished-then (AskStore c v t) (Store d w ∷ es) bytes next n u = (u.0, u.1, unfinished-then t es bytes next n u.2)
unfinished-then (AskStore c v t) (Turn m ∷ es) bytes next n u = absurd u
unfinished-then (AskTurn t) (Load d w ∷ es) bytes next n u = absurd u
unfinished-then (AskTurn t) (Store d w ∷ es) bytes next n u = absurd u
unfinished-then (AskTurn t) (Turn m ∷ es) bytes next n u = unfinished-then t es bytes next n u

-- so it is where only the ending is changed, but for its output
pub unfinished-as : {A B : Type 0} (t : Interaction (Ending A)) (es : List Event) (bytes : List ℕ) (f : Ending A → Ending B) → ((e : Ending A) → output_of (f e) ≡ output_of e) → IsUnfinished t es bytes → IsUnfinished (bind t (λ e. Answer (f e))) es bytes
unfinished-as t [] bytes f same u = extends-as bytes t f same u
unfinished-as (Answer e) (x ∷ es) bytes f same u = absurd u
unfinished-as (AskLoad c k) (Load d w ∷ es) bytes f same u = (u.0, unfinished-as (k w) es bytes f same u.1)
unfinished-as (AskLoad c k) (Store d w ∷ es) bytes f same u = absurd u
unfinished-as (AskLoad c k) (Turn m ∷ es) bytes f same u = absurd u
unfinished-as (AskStore c v t) (Load d w ∷ es) bytes f same u = absurd u
unfinished-as (AskStore c v t) (Store d w ∷ es) bytes f same u = (u.0, u.1, unfinished-as t es bytes f same u.2)
unfinished-as (AskStore c v t) (Turn m ∷ es) bytes f same u = absurd u
unfinished-as (AskTurn t) (Load d w ∷ es) bytes f same u = absurd u
unfinished-as (AskTurn t) (Store d w ∷ es) bytes f same u = absurd u
unfinished-as (AskTurn t) (Turn m ∷ es) bytes f same u = unfinished-as t es bytes f same u

-- a turn that doesn't stop a performance
went_on : {A : Type 0} (b : Bool) (n : ℕ) (rest : List Event) (r : Performed A) (a : A) → (if b then Stopped n rest else r) ≡ Ended a [] → r ≡ Ended a []
went_on true n rest r a e = cc
went_on false n rest r a e = e

both_true : (x y : Bool) → (x && y) ≡ true → (x ≡ true) × (y ≡ true)
both_true true y e = (refl, e)
both_true false y e = cc

-- one form to its end, and then the middle of another
pub unfinished-after : {A B : Type 0} (stop : Option ℕ) (t : Interaction A) (es fs : List Event) (a : A) (bytes : List ℕ) (next : A → Interaction (Ending B)) → perform every_cell [] stop t es ≡ Ended a [] → IsUnfinished (next a) fs bytes → IsUnfinished (bind t next) (es ++ fs) bytes
unfinished-after stop (Answer b) [] fs a bytes next e u =
    let same : b ≡ a = cc in
    subst (λ x. IsUnfinished (next x) fs bytes) (sym same) u
unfinished-after stop (Answer b) (x ∷ es) fs a bytes next e u = cc
unfinished-after stop (AskLoad c k) [] fs a bytes next e u = cc
unfinished-after stop (AskLoad c k) (Load d w ∷ es) fs a bytes next e u =
    let h = chosen (c == d) _ a [] e in
    ((Decides-eqb c d).0 h.0, unfinished-after stop (k w) es fs a bytes next h.1 u)
unfinished-after stop (AskLoad c k) (Store d w ∷ es) fs a bytes next e u = cc
unfinished-after stop (AskLoad c k) (Turn m ∷ es) fs a bytes next e u = cc
unfinished-after stop (AskStore c v t) [] fs a bytes next e u = cc
unfinished-after stop (AskStore c v t) (Load d w ∷ es) fs a bytes next e u = cc
unfinished-after stop (AskStore c v t) (Store d w ∷ es) fs a bytes next e u =
    let h = chosen ((c == d) && int_eq v w) _ a [] e in
    let both = both_true (c == d) (int_eq v w) h.0 in
    ((Decides-eqb c d).0 both.0, (Decides-int_eq v w).0 both.1, unfinished-after stop t es fs a bytes next h.1 u)
unfinished-after stop (AskStore c v t) (Turn m ∷ es) fs a bytes next e u = cc
unfinished-after stop (AskTurn t) [] fs a bytes next e u = cc
unfinished-after stop (AskTurn t) (Load d w ∷ es) fs a bytes next e u = cc
unfinished-after stop (AskTurn t) (Store d w ∷ es) fs a bytes next e u = cc
unfinished-after stop (AskTurn t) (Turn m ∷ es) fs a bytes next e u =
    unfinished-after stop t es fs a bytes next (went_on (reaches stop m) m es _ a e) u

-- ---- the primitives of forms

pub adds-then : {A B : Type 0} {first : Meaning A} {next : A → Meaning B} → OnlyAdds first → ((a : A) → OnlyAdds (next a)) → OnlyAdds (first >>= next)
adds-then {first = first} {next = next} f n = record { adds = λ s. extends-then s.output (first s) next n (f.adds s) }

pub adds-if : {A : Type 0} (b : Bool) {first second : Meaning A} → OnlyAdds first → OnlyAdds second → OnlyAdds (if b then first else second)
adds-if true f g = f
adds-if false f g = g

pub gives-adds : {A : Type 0} (a : A) → OnlyAdds (gives a)
gives-adds a = record { adds = λ s. prefix-all s.output }

pub traps-add : {A : Type 0} (why : TrapKind) (line : ℕ) → OnlyAdds {A = A} (traps why line)
traps-add why line = record { adds = λ s. prefix-all s.output }

pub checked-adds : {A : Type 0} (line : ℕ) (r : Result A TrapKind) → OnlyAdds (checked line r)
checked-adds line (Ok value) = gives-adds value
checked-adds line (Err why) = traps-add why line

pub reads-add : (slot : ℕ) → OnlyAdds (reads slot)
reads-add slot = record { adds = λ s. prefix-all s.output }

pub sets-add : (slot : ℕ) (word : ℤ) → OnlyAdds (sets slot word)
sets-add slot word = record { adds = λ s. prefix-all s.output }

pub sets_row-adds : (slots : List ℕ) (row : Carried) → OnlyAdds (sets_row slots row)
sets_row-adds slots row = record { adds = λ s. prefix-all s.output }

pub turns-add : OnlyAdds turns
turns-add = record { adds = λ s. prefix-all s.output }

pub loads-add : (cell : ℕ) → OnlyAdds (loads cell)
loads-add cell = record { adds = λ s word. prefix-all s.output }

pub stores-add : (cell : ℕ) (word : ℤ) → OnlyAdds (stores cell word)
stores-add cell word = record { adds = λ s. prefix-all s.output }

pub stores_each-adds : (first count : ℕ) (word : ℤ) → OnlyAdds (stores_each first count word)
stores_each-adds first zero word = gives-adds Onward
stores_each-adds first (suc count) word = adds-then (stores-add first word) (λ u. stores_each-adds (suc first) count word)

pub emits-add : (line : ℕ) (value : ℤ) → OnlyAdds (emits line value)
emits-add line (pos n) = record { adds = λ s. go s (nat_lt n 256 && nat_lt (length s.output) max_output) }
  where
    go : (s : State) (b : Bool) → Extends s.output (if b then Answer (Value Onward (record s { output = s.output ++ n ∷ [] })) else traps trap.Emit line s)
    go s true = record { back = n ∷ []; joined = refl }
    go s false = prefix-all s.output
emits-add line (negsuc n) = record { adds = λ s. prefix-all s.output }

pub broken-adds : {next : Meaning Flow} → OnlyAdds next → (flow : Flow) → OnlyAdds (unless_broken next flow)
broken-adds n Onward = n
broken-adds n Broken = gives-adds Broken

pub ended-adds : {others : Meaning Flow} → OnlyAdds others → (flow : Flow) → OnlyAdds (unless_ended others flow)
ended-adds n Onward = n
ended-adds n Broken = gives-adds Onward

-- statements, one after another
pub adds-on : {first next : Meaning Flow} → OnlyAdds first → OnlyAdds next → OnlyAdds (first >-> next)
adds-on f n = adds-then f (broken-adds n)

pub for-adds : (count : ℕ) (i : ℤ) (slot : ℕ) {body : Meaning Flow} → OnlyAdds body → OnlyAdds (for_turns count i slot body)
for-adds zero i slot b = gives-adds Onward
for-adds (suc count) i slot b =
    adds-then turns-add (λ u. adds-then (sets-add slot i) (λ v. adds-then b (ended-adds (for-adds count (i +ℤ pos 1) slot b))))

-- what a turn of a `for` does, and the others
pub turn-adds : (count : ℕ) (i : ℤ) (slot : ℕ) {body : Meaning Flow} → OnlyAdds body → OnlyAdds (sets slot i >> (body >>= unless_ended (for_turns count (i +ℤ pos 1) slot body)))
turn-adds count i slot b = adds-then (sets-add slot i) (λ v. adds-then b (ended-adds (for-adds count (i +ℤ pos 1) slot b)))

pub while-adds : (line most : ℕ) {test : Meaning Bool} {body : Meaning Flow} → OnlyAdds test → OnlyAdds body → OnlyAdds (while_turns line most test body)
while-adds line zero t b = adds-then t (λ holds. adds-if holds (traps-add trap.Turns line) (gives-adds Onward))
while-adds line (suc most) t b =
    adds-then t (λ holds. adds-if holds (adds-then turns-add (λ u. adds-then b (ended-adds (while-adds line most t b)))) (gives-adds Onward))

slots-keep : {A : Type 0} (slots : List ℤ) (e : Ending A) → output_of (with_slots slots e) ≡ output_of e
slots-keep slots (Value a s) = refl
slots-keep slots (Trapped t o) = refl

pub own-adds : {A : Type 0} (own : List ℤ) {inner : Meaning A} → OnlyAdds inner → OnlyAdds (in_own_slots own inner)
own-adds own {inner = inner} n = record { adds = λ s. extends-as s.output (inner (record { slots = own; output = s.output })) (with_slots s.slots) (slots-keep s.slots) (n.adds (record { slots = own; output = s.output })) }

-- what is left in the middle of a form over slots of its own
pub unfinished-own : {A : Type 0} (slots : List ℤ) (t : Interaction (Ending A)) (es : List Event) (bytes : List ℕ) → IsUnfinished t es bytes → IsUnfinished (bind t (λ e. Answer (with_slots slots e))) es bytes
unfinished-own slots t es bytes u = unfinished-as t es bytes (with_slots slots) (slots-keep slots) u
