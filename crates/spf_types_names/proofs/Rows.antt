-- Names that are declared one after another.
use Rattle.std.proofs.Common.{◌≡◌, ℕ, ◌+◌, ◌<◌, ◌≤◌, suc, Bool, true, false, ◌||◌, cond, Option, Some, None, is_some, List, [], ◌∷◌, ◌++◌, length, get_or, drop, map, refl, sym, ap, ◌∙◌, subst, arith, append_assoc, length-append}
use Rattle.std.specs.Str.{bytes_eq}
use Rattle.std.proofs.Math.Seq.{drop-cons}
use Rattle.std.proofs.lemmas.List.{drop_all}
use Rattle.spf_ast.specs.declared.syntax.Name as code_name
use Rattle.spf_ast.specs.View.{name}
use Rattle.spf_types_names.specs.declared.locals.Binding.{Binding}
use Rattle.spf_types_names.specs.declared.fault.TypeFault.TheVariants.{Twice}
use Rattle.spf_types_names.specs.Globals.{global_named}
use Rattle.spf_types_names.specs.Locals.{Local, Seen, binding_of, AreNew}
use Rattle.spf_types_names.specs.Faults.{Setting, Fault, when, showing, local_named, declared_faults, each_declared_faults}
use Rattle.spf_types_names.specs.Resolved.{scope, free, with_each, row_slots, after_names}
use Rattle.spf_types_names.proofs.Scopes.{is_local_is}

-- what is left of a list at an item
pub item_at : {A : Type 0} (xs : List A) (i : ℕ) (x : A) → i < length xs → x ≡ get_or xs i x → drop i xs ≡ x ∷ drop (i + 1) xs
item_at xs i x h e =
    drop-cons xs i x h ∙ ap (λ z. z ∷ drop (suc i) xs) (sym e) ∙ ap (λ n. x ∷ drop n xs) (let n : suc i ≡ i + 1 = omega arith in n)

pub append_nil : {A : Type 0} (xs : List A) → xs ++ [] ≡ xs
append_nil [] = refl
append_nil (x ∷ xs) = ap (λ ys. x ∷ ys) (append_nil xs)

-- ---- names that are new

-- where the one list of locals has no local of a name, the other has none either
abbrev pub Hides : List Local → List Local → Type 0
Hides ls ms = (q : List ℕ) → binding_of ls q ≡ None → binding_of ms q ≡ None

pub hides_both : (ls ms : List Local) (x : List ℕ) (n m : ℕ) (a b : Bool) → Hides ls ms → Hides (record { name = x; slot = n; fixed = a } ∷ ls) (record { name = x; slot = m; fixed = b } ∷ ms)
hides_both ls ms x n m a b h q = at (bytes_eq x q)
  where
    at : (t : Bool) → cond t (Some (record { slot = n; fixed = a })) (binding_of ls q) ≡ None → cond t (Some (record { slot = m; fixed = b })) (binding_of ms q) ≡ None
    at true e = cc
    at false e = h q e

pub new_along : (ls ms : List Local) (xs : List (List ℕ)) → Hides ls ms → AreNew ls xs → AreNew ms xs
new_along ls ms [] h new = tt
new_along ls ms (x ∷ xs) h new = (h x new.0, new_along (free x 0 ∷ ls) (free x 0 ∷ ms) xs (hides_both ls ms x 0 0 false false h) new.1)

-- where names were made usable, a name that is new then was new before
pub hidden_before : (fixed : Bool) (ls : List Local) (n : ℕ) (xs : List (List ℕ)) → Hides (with_each fixed ls n xs) ls
hidden_before fixed ls n [] q e = e
hidden_before fixed ls n (x ∷ xs) q e = past (bytes_eq x q) (hidden_before fixed (record { name = x; slot = n; fixed = fixed } ∷ ls) (n + 1) xs q e)
  where
    past : (t : Bool) → cond t (Some (record { slot = n; fixed = fixed })) (binding_of ls q) ≡ None → binding_of ls q ≡ None
    past true e = cc
    past false e = e

-- and it is new where they were made usable otherwise
pub hidden_so : (one other : Bool) (ls ms : List Local) (n m : ℕ) (xs : List (List ℕ)) → Hides ls ms → Hides (with_each one ls n xs) (with_each other ms m xs)
hidden_so one other ls ms n m [] h = h
hidden_so one other ls ms n m (x ∷ xs) h =
    hidden_so one other (record { name = x; slot = n; fixed = one } ∷ ls) (record { name = x; slot = m; fixed = other } ∷ ms) (n + 1) (m + 1) xs (hides_both ls ms x n m one other h)

or_false : (a b : Bool) → (a || b) ≡ false → (a ≡ false) × (b ≡ false)
or_false true b e = cc
or_false false b e = (refl, e)

none_is : {A : Type 0} (o : Option A) → is_some o ≡ false → o ≡ None
none_is (Some x) e = cc
none_is None e = refl

no_when : (t : Bool) (what : _) (line : ℕ) → when t what line ≡ [] → t ≡ false
no_when true what line e = cc
no_when false what line e = refl

left_none : {A : Type 0} (xs ys : List A) → xs ++ ys ≡ [] → xs ≡ []
left_none [] ys e = refl
left_none (x ∷ xs) ys e = cc

right_none : {A : Type 0} (xs ys : List A) → xs ++ ys ≡ [] → ys ≡ []
right_none [] ys e = e
right_none (x ∷ xs) ys e = cc

-- what is declared without a fault is no local and nothing of the whole program
pub declared_is : (here : Setting) (ls : List Local) (line : ℕ) (x : List ℕ) → declared_faults here (scope ls) line x ≡ [] → (binding_of ls x ≡ None) × (global_named here.globals x ≡ None)
declared_is here ls line x h =
    let o = or_false (is_some (local_named (scope ls) x)) (is_some (global_named here.globals x)) (no_when _ _ line h) in
    (none_is (binding_of ls x) (sym (is_local_is ls x) ∙ o.0), none_is (global_named here.globals x) o.1)

-- names that are declared without a fault are new
pub all_new : (here : Setting) (ls : List Local) (line : ℕ) (xs : List (List ℕ)) → each_declared_faults here (scope ls) line xs ≡ [] → AreNew ls xs
all_new here ls line [] h = tt
all_new here ls line (x ∷ xs) h =
    ((declared_is here ls line x (left_none _ _ h)).0, all_new here (free x 0 ∷ ls) line xs (right_none (declared_faults here (scope ls) line x) _ h))

-- ---- names that are declared

-- the first i names are declared, without a fault
pub record AreDeclared (here : Setting) (start now : Seen) (line : ℕ) (raw : List code_name.Name) (i : ℕ) : Type 0 where
  pub faults : each_declared_faults here (scope start.locals) line (map name raw) ≡ each_declared_faults here (scope now.locals) line (map name (drop i raw))
  pub after : after_names start (map name raw) ≡ after_names now (map name (drop i raw))

pub one_declared : (here : Setting) (start now next : Seen) (line : ℕ) (raw : List code_name.Name) (i slot : ℕ) (x : code_name.Name) → i < length raw → x ≡ get_or raw i x → AreDeclared here start now line raw i → declared_faults here (scope now.locals) line (name x) ≡ [] → slot ≡ length now.slots → next ≡ record { locals = free (name x) slot ∷ now.locals; slots = now.slots ++ name x ∷ [] } → AreDeclared here start next line raw (i + 1)
one_declared here start now next line raw i slot x h is so none k e =
    let rest = map name (drop (i + 1) raw) in
    let n : length now.slots + 1 ≡ length next.slots = sym (ap (λ (z : Seen). length z.slots) e ∙ length-append now.slots (name x ∷ [])) in
    record {
      faults =
          so.faults ∙ ap (λ xs. each_declared_faults here (scope now.locals) line (map name xs)) (item_at raw i x h is)
          ∙ ap (λ (fs : List Fault). fs ++ each_declared_faults here (showing (name x) (scope now.locals)) line rest) none
          ∙ ap (λ (z : Seen). each_declared_faults here (scope z.locals) line rest) (sym e);
      after =
          so.after ∙ ap (λ xs. after_names now (map name xs)) (item_at raw i x h is)
          ∙ (λ j. record {
            locals = with_each false ((ap (λ m. free (name x) m ∷ now.locals) (sym k) ∙ ap (λ (z : Seen). z.locals) (sym e)) j) (n j) rest;
            slots = (sym (append_assoc now.slots (name x ∷ []) rest) ∙ ap (λ (z : Seen). z.slots ++ rest) (sym e)) j;
          });
    }

pub all_declared : (here : Setting) (start now : Seen) (line : ℕ) (raw : List code_name.Name) (i : ℕ) → length raw ≤ i → AreDeclared here start now line raw i → (each_declared_faults here (scope start.locals) line (map name raw) ≡ []) × (now ≡ after_names start (map name raw))
all_declared here start now line raw i h so =
    let none = drop_all i raw h in (
      so.faults ∙ ap (λ xs. each_declared_faults here (scope now.locals) line (map name xs)) none,
      sym (so.after ∙ ap (λ xs. after_names now (map name xs)) none ∙ (λ j. record { locals = now.locals; slots = append_nil now.slots j })),
    )

-- the rest of the faults at a name
pub declared_behind : (here : Setting) (start now : Seen) (line : ℕ) (raw : List code_name.Name) (i : ℕ) (x : code_name.Name) → i < length raw → x ≡ get_or raw i x → AreDeclared here start now line raw i →
    each_declared_faults here (scope start.locals) line (map name raw) ≡ declared_faults here (scope now.locals) line (name x) ++ each_declared_faults here (showing (name x) (scope now.locals)) line (map name (drop (i + 1) raw))
declared_behind here start now line raw i x h is so = so.faults ∙ ap (λ xs. each_declared_faults here (scope now.locals) line (map name xs)) (item_at raw i x h is)

-- ---- names that are made usable

-- the first i names are made usable, and the others are new
pub record AreShown (start now : Seen) (first : ℕ) (fixed : Bool) (raw : List code_name.Name) (i : ℕ) : Type 0 where
  pub locals : with_each fixed start.locals first (map name raw) ≡ with_each fixed now.locals (first + i) (map name (drop i raw))
  pub slots : now.slots ≡ start.slots
  pub new : AreNew now.locals (map name (drop i raw))

pub none_shown : (start : Seen) (first : ℕ) (fixed : Bool) (raw : List code_name.Name) → AreNew start.locals (map name raw) → AreShown start start first fixed raw 0
none_shown start first fixed raw new = record {
  locals = ap (λ n. with_each fixed start.locals n (map name raw)) (let e : first ≡ first + 0 = omega arith in e);
  slots = refl;
  new = new;
}

pub one_new : (start now : Seen) (first : ℕ) (fixed : Bool) (raw : List code_name.Name) (i : ℕ) (x : code_name.Name) → i < length raw → x ≡ get_or raw i x → AreShown start now first fixed raw i → AreNew now.locals (name x ∷ map name (drop (i + 1) raw))
one_new start now first fixed raw i x h is so = subst (λ xs. AreNew now.locals (map name xs)) (item_at raw i x h is) so.new

pub one_shown : (start now next : Seen) (first : ℕ) (fixed : Bool) (raw : List code_name.Name) (i slot : ℕ) (x : code_name.Name) → i < length raw → x ≡ get_or raw i x → AreShown start now first fixed raw i → slot ≡ first + i → next ≡ record { locals = record { name = name x; slot = slot; fixed = fixed } ∷ now.locals; slots = now.slots } → AreShown start next first fixed raw (i + 1)
one_shown start now next first fixed raw i slot x h is so k e =
    let rest = map name (drop (i + 1) raw) in
    let new = one_new start now first fixed raw i x h is so in
    let ls = ap (λ (z : Seen). z.locals) e in
    let one : Local = record { name = name x; slot = slot; fixed = fixed } in
    let n : first + i + 1 ≡ first + (i + 1) = omega arith in
    record {
      locals =
          so.locals ∙ ap (λ xs. with_each fixed now.locals (first + i) (map name xs)) (item_at raw i x h is)
          ∙ (λ j. with_each fixed (record { name = name x; slot = sym k j; fixed = fixed } ∷ now.locals) (n j) rest)
          ∙ ap (λ zs. with_each fixed zs (first + (i + 1)) rest) (sym ls);
      slots = ap (λ (z : Seen). z.slots) e ∙ so.slots;
      new = subst (λ zs. AreNew zs rest) (sym ls) (new_along (free (name x) 0 ∷ now.locals) (one ∷ now.locals) rest (hides_both now.locals now.locals (name x) 0 slot false fixed (λ q none. none)) new.1);
    }

pub all_shown : (start now : Seen) (first : ℕ) (fixed : Bool) (raw : List code_name.Name) (i : ℕ) → length raw ≤ i → AreShown start now first fixed raw i → now ≡ record { locals = with_each fixed start.locals first (map name raw); slots = start.slots }
all_shown start now first fixed raw i h so =
    let none = drop_all i raw h in
    let ls = so.locals ∙ ap (λ xs. with_each fixed now.locals (first + i) (map name xs)) none in
    λ j. record { locals = sym ls j; slots = so.slots j }

-- ---- the slots of names

abbrev pub AreSlots : ℕ → List code_name.Name → List ℕ → ℕ → Type 0
AreSlots first raw done i = row_slots first (map name raw) ≡ done ++ row_slots (first + i) (map name (drop i raw))

pub one_slot : (first : ℕ) (raw : List code_name.Name) (done now : List ℕ) (i slot : ℕ) (x : code_name.Name) → i < length raw → x ≡ get_or raw i x → AreSlots first raw done i → slot ≡ first + i → now ≡ done ++ slot ∷ [] → AreSlots first raw now (i + 1)
one_slot first raw done now i slot x h is so k e =
    let n : first + i + 1 ≡ first + (i + 1) = omega arith in
    let rest = map name (drop (i + 1) raw) in
    so ∙ ap (λ xs. done ++ row_slots (first + i) (map name xs)) (item_at raw i x h is)
    ∙ (λ j. done ++ sym k j ∷ row_slots (n j) rest)
    ∙ sym (append_assoc done (slot ∷ []) (row_slots (first + (i + 1)) rest))
    ∙ ap (λ zs. zs ++ row_slots (first + (i + 1)) rest) (sym e)

pub all_slots : (first : ℕ) (raw : List code_name.Name) (done : List ℕ) (i : ℕ) → length raw ≤ i → AreSlots first raw done i → done ≡ row_slots first (map name raw)
all_slots first raw done i h so =
    sym (so ∙ ap (λ xs. done ++ row_slots (first + i) (map name xs)) (drop_all i raw h) ∙ append_nil done)

pub no_slots : (first : ℕ) (raw : List code_name.Name) (done : List ℕ) → done ≡ [] → AreSlots first raw done 0
no_slots first raw done e =
    ap (λ n. row_slots n (map name raw)) (let k : first ≡ first + 0 = omega arith in k) ∙ ap (λ zs. zs ++ row_slots (first + 0) (map name raw)) (sym e)
