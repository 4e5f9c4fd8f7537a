-- A lawful form is spelled without faults.
use Rattle.std.proofs.Common.{◌≡◌, ℕ, ◌+◌, ◌<◌, ◌≤◌, zero, suc, Bool, true, false, ◌||◌, inl, inr, not, nat_eq, nat_lt, cond, Option, Some, None, is_some, List, [], ◌∷◌, ◌++◌, length, map, refl, sym, ap, ◌∙◌, subst, arith}
use Rattle.std.specs.Prelude.{IfSome, slice_get, slice_index_or}
use Rattle.std.specs.List.{All, Contains}
use Rattle.std.specs.Str.{bytes_eq}
use Rattle.std.proofs.lemmas.Bool.Decides.{nat_tests}
use Rattle.std.proofs.lemmas.List.{length-map}
use Rattle.std.proofs.lemmas.List.Elements.{All-contains}
use Rattle.spf_ast.specs.Syntax.{Expression, Number, Local, Len, Input, Load, Call, Neg, Binary, Arguments, no_more, argument, Condition, Compare, Both, Either, Not, Predictor, By, Host, FoldHead}
use Rattle.spf_ast.specs.Syntax.{Statement, Let, Assign, Store, Fill, Emit, Fail, If, For, While, Do, Fold, Pair, Break, PairHead, Block, end, on_line}
use Rattle.spf_ast.specs.Meaning as meaning
use Rattle.spf_ast.specs.Lawful as w
use Rattle.spf_ast.specs.Lawful.{Names, IsNew, Declares, DeclaresEach, IsCallable, IsLawfulExpression, AreLawfulArguments, IsLawfulCondition, IsLawfulPredictor, AreLawfulPredictors, IsLawfulStatement, IsLawfulBlock, declared, declared_in}
use Rattle.spf_ast.specs.Spelling.{Vocabulary, name_at, spelled_expression, spelled_arguments, spelled_condition, spelled_names, spelled_predictor, spelled_fold, spelled_pair, spelled_statement, spelled_block}
use Rattle.spf_types_names.specs.declared.fault.TypeFault.{TypeFault}
use Rattle.spf_types_names.specs.declared.fault.TypeFault.TheVariants.{Twice, Arity, Kind, CallsLater, Misplaced, MisplacedBreak}
use Rattle.spf_types_names.specs.declared.globals.Outer.TheVariants as outer
use Rattle.spf_types_names.specs.Globals.{global_named, params_of}
use Rattle.spf_types_names.specs.Faults.{Setting, Fault, Scope, when, in_turn, in_part, local_named, declared_faults, each_declared_faults, used_faults, assigned_faults, indexed_faults, callee_faults, later_faults, called_faults, count_of, expression_faults, arguments_faults, predictor_faults, predictors_faults, names_faults, width_faults, fold_widths_faults, pair_widths_faults, fold_faults, statement_faults, block_faults, is_byte, a_number, a_truth}
use Rattle.spf_types_names.specs.Faults as f
use Rattle.spf_types_names.proofs.Tables.{same_bytes, bytes_are}
use Rattle.spf_types_forms.proofs.Alike.{all_along, to_front, from_front, each_is_there, there_is_each}
use Rattle.spf_types_forms.proofs.Steps.{none_in}
use Rattle.spf_types_forms.proofs.Sound.{contains_here, contains_there, contains_cases, at_index}

-- ---- what a scope of names shows

-- a slot that a scope of names shows: its name finds it, and where it may not be assigned it is among the fixed ones
pub record Shown (slots : List (List ℕ)) (fixed : List ℕ) (sc : Scope) (slot : ℕ) : Type 0 where
  pub name : List ℕ
  pub there : slice_get slots slot ≡ Some name
  pub is_fixed : Bool
  pub found : local_named sc name ≡ Some is_fixed
  pub fixed_too : is_fixed ≡ true → Contains fixed slot

-- none of these slots has the name
abbrev pub IsNameOfNone : List (List ℕ) → List ℕ → List ℕ → Type 0
IsNameOfNone slots visible x = All (λ (other : ℕ). slice_get slots other ≡ Some x → ⊥) visible

-- a scope of names shows these slots, and no other name
pub record Shows (slots : List (List ℕ)) (visible fixed : List ℕ) (sc : Scope) : Type 0 where
  pub sees : (slot : ℕ) → Contains visible slot → Shown slots fixed sc slot
  pub hides : (x : List ℕ) → IsNameOfNone slots visible x → local_named sc x ≡ None

shown_first : (slots : List (List ℕ)) (fixed : List ℕ) (sc : Scope) (x : List ℕ) (slot : ℕ) (b : Bool) → slice_get slots slot ≡ Some x → (b ≡ true → Contains fixed slot) → Shown slots fixed (record { name = x; fixed = b } ∷ sc) slot
shown_first slots fixed sc x slot b e h = record {
  name = x;
  there = e;
  is_fixed = b;
  found = ap (λ t. cond t (Some b) (local_named sc x)) (bytes_are x);
  fixed_too = h;
}

shown_past : (slots : List (List ℕ)) (one other : List ℕ) (sc : Scope) (x : List ℕ) (slot : ℕ) (b : Bool) → (slice_get slots slot ≡ Some x → ⊥) → ((k : ℕ) → Contains one k → Contains other k) → Shown slots one sc slot → Shown slots other (record { name = x; fixed = b } ∷ sc) slot
shown_past slots one other sc x slot b never more s = record {
  name = s.name;
  there = s.there;
  is_fixed = s.is_fixed;
  found = past (bytes_eq x s.name) refl;
  fixed_too = λ e. more slot (s.fixed_too e);
}
  where
    past : (t : Bool) → bytes_eq x s.name ≡ t → cond t (Some b) (local_named sc s.name) ≡ Some s.is_fixed
    past true e = absurd (never (s.there ∙ ap Some (sym (same_bytes x s.name e))))
    past false e = s.found

hidden_past : (slots : List (List ℕ)) (sc : Scope) (x y : List ℕ) (slot : ℕ) (b t : Bool) → bytes_eq x y ≡ t → slice_get slots slot ≡ Some x → (slice_get slots slot ≡ Some y → ⊥) → local_named sc y ≡ None → cond t (Some b) (local_named sc y) ≡ None
hidden_past slots sc x y slot b true e h never n = absurd (never (h ∙ ap Some (same_bytes x y e)))
hidden_past slots sc x y slot b false e h never n = n

-- one more slot, of a new name
shows_more : (slots : List (List ℕ)) (visible one other : List ℕ) (sc : Scope) (x : List ℕ) (slot : ℕ) (b : Bool) → Shows slots visible one sc → slice_get slots slot ≡ Some x → IsNameOfNone slots visible x → ((k : ℕ) → Contains one k → Contains other k) → (b ≡ true → Contains other slot) →
    Shows slots (slot ∷ visible) other (record { name = x; fixed = b } ∷ sc)
shows_more slots visible one other sc x slot b shows e new more fixed = record {
  sees = λ k c. elim (contains_cases slot k visible c) [
    | inl same ↦ subst (λ z. Shown slots other (record { name = x; fixed = b } ∷ sc) z) same (shown_first slots other sc x slot b e fixed)
    | inr later ↦ shown_past slots one other sc x k b (All-contains (λ (other : ℕ). slice_get slots other ≡ Some x → ⊥) visible k new later) more (shows.sees k later)
  ];
  hides = λ y none. hidden_past slots sc x y slot b (bytes_eq x y) refl e (none 0 slot (omega arith)) (shows.hides y (all_along (λ (other : ℕ). slice_get slots other ≡ Some y → ⊥) (slot ∷ visible) visible (λ k c. contains_there slot k visible c) none));
}

pub shows_free : (slots : List (List ℕ)) (visible fixed : List ℕ) (sc : Scope) (x : List ℕ) (slot : ℕ) → Shows slots visible fixed sc → slice_get slots slot ≡ Some x → IsNameOfNone slots visible x → Shows slots (slot ∷ visible) fixed (f.showing x sc)
shows_free slots visible fixed sc x slot shows e new = shows_more slots visible fixed fixed sc x slot false shows e new (λ k c. c) (λ t. cc)

shows_fixed : (slots : List (List ℕ)) (visible fixed : List ℕ) (sc : Scope) (x : List ℕ) (slot : ℕ) → Shows slots visible fixed sc → slice_get slots slot ≡ Some x → IsNameOfNone slots visible x → Shows slots (slot ∷ visible) (slot ∷ fixed) (f.showing_fixed x sc)
shows_fixed slots visible fixed sc x slot shows e new = shows_more slots visible fixed (slot ∷ fixed) sc x slot true shows e new (λ k c. contains_there slot k fixed c) (λ t. contains_here slot slot fixed refl)

-- the same slots in another order
pub shows_along : (slots : List (List ℕ)) (one other fixed : List ℕ) (sc : Scope) → ((k : ℕ) → Contains one k → Contains other k) → ((k : ℕ) → Contains other k → Contains one k) → Shows slots one fixed sc → Shows slots other fixed sc
shows_along slots one other fixed sc there back shows = record {
  sees = λ k c. shows.sees k (back k c);
  hides = λ x none. shows.hides x (all_along (λ (other : ℕ). slice_get slots other ≡ Some x → ⊥) other one there none);
}

-- the same slots in another order, and perhaps more that may not be assigned
shows_in : (slots : List (List ℕ)) (one other fixed more : List ℕ) (sc : Scope) → ((k : ℕ) → Contains one k → Contains other k) → ((k : ℕ) → Contains other k → Contains one k) → ((k : ℕ) → Contains fixed k → Contains more k) → Shows slots one fixed sc → Shows slots other more sc
shows_in slots one other fixed more sc there back wide shows = record {
  sees = λ k c.
      let q = shows.sees k (back k c) in
      record { name = q.name; there = q.there; is_fixed = q.is_fixed; found = q.found; fixed_too = λ e. wide k (q.fixed_too e) };
  hides = λ x none. shows.hides x (all_along (λ (other : ℕ). slice_get slots other ≡ Some x → ⊥) other one there none);
}

-- ---- names

-- the names of arrays and functions are found as theirs, and no other name is found
pub record Known (here : Setting) (names : Names) (v : Vocabulary) : Type 0 where
  pub arrays : (a : ℕ) → a < names.arrays → global_named here.globals (name_at v.arrays a) ≡ Some (outer.Array a)
  pub functions : (k count : ℕ) → IsCallable names k count → (global_named here.globals (name_at v.functions k) ≡ Some (outer.Function k)) × (count ≡ params_of here.globals k)
  pub index : names.index ≡ here.index
  pub untaken : (x : List ℕ) → (Contains names.taken x → ⊥) → global_named here.globals x ≡ None
  pub slots : v.slots ≡ names.slots

when_not : (b : Bool) (what : TypeFault) (line : ℕ) → b ≡ true → when (not b) what line ≡ []
when_not b what line e = ap (λ t. when (not t) what line) e

used_in : (here : Setting) (sc : Scope) (line : ℕ) (x : List ℕ) (b : Bool) → local_named sc x ≡ Some b → used_faults here sc line x ≡ []
used_in here sc line x b e = rw e refl

assigned_in : (here : Setting) (sc : Scope) (line : ℕ) (x : List ℕ) (b : Bool) → local_named sc x ≡ Some b → (b ≡ true → ⊥) → assigned_faults here sc line x ≡ []
assigned_in here sc line x true e never = absurd (never refl)
assigned_in here sc line x false e never = rw e refl

named : (here : Setting) (names : Names) (v : Vocabulary) (fixed : List ℕ) (sc : Scope) (slot : ℕ) → Known here names v → (s : Shown names.slots fixed sc slot) → s.name ≡ name_at v.slots slot
named here names v fixed sc slot known s = sym (ap (λ sl. name_at sl slot) known.slots ∙ at_index names.slots slot s.name [] s.there)

used_none : (here : Setting) (names : Names) (v : Vocabulary) (s : w.Scope) (sc : Scope) (line slot : ℕ) → Known here names v → Shows names.slots s.visible s.fixed sc → Contains s.visible slot → used_faults here sc line (name_at v.slots slot) ≡ []
used_none here names v s sc line slot known shows h =
    let k = shows.sees slot h in
    subst (λ x. used_faults here sc line x ≡ []) (named here names v s.fixed sc slot known k) (used_in here sc line k.name k.is_fixed k.found)

assigned_none : (here : Setting) (names : Names) (v : Vocabulary) (s : w.Scope) (sc : Scope) (line slot : ℕ) → Known here names v → Shows names.slots s.visible s.fixed sc → Contains s.visible slot → (Contains s.fixed slot → ⊥) → assigned_faults here sc line (name_at v.slots slot) ≡ []
assigned_none here names v s sc line slot known shows h never =
    let k = shows.sees slot h in
    subst (λ x. assigned_faults here sc line x ≡ []) (named here names v s.fixed sc slot known k) (assigned_in here sc line k.name k.is_fixed k.found (λ e. never (k.fixed_too e)))

indexed_in : (here : Setting) (sc : Scope) (line : ℕ) (x : List ℕ) (n : ℕ) → global_named here.globals x ≡ Some (outer.Array n) → indexed_faults here sc line x ≡ []
indexed_in here sc line x n e = rw e refl

callee_in : (here : Setting) (sc : Scope) (line : ℕ) (x : List ℕ) (n count : ℕ) → global_named here.globals x ≡ Some (outer.Function n) → nat_eq count (params_of here.globals n) ≡ true → callee_faults here sc line x count ≡ []
callee_in here sc line x n count e h = rw e (when_not (nat_eq count (params_of here.globals n)) Arity line h)

later_in : (here : Setting) (line : ℕ) (x : List ℕ) (n : ℕ) → global_named here.globals x ≡ Some (outer.Function n) → nat_lt n here.index ≡ true → later_faults here line x ≡ []
later_in here line x n e h = rw e (when_not (nat_lt n here.index) CallsLater line h)

same_numbers : (a b : ℕ) → a ≡ b → nat_eq a b ≡ true
same_numbers a b e = grind (arith, nat_tests)

is_below : (a b : ℕ) → a < b → nat_lt a b ≡ true
is_below a b e = grind (arith, nat_tests)

called_none : (here : Setting) (names : Names) (v : Vocabulary) (sc : Scope) (line k count same : ℕ) → Known here names v → IsCallable names k same → count ≡ same → called_faults here sc line (name_at v.functions k) count [] ≡ []
called_none here names v sc line k count same known h e =
    let x = known.functions k same h in
    let p = known.index in
    none_in (callee_faults here sc line (name_at v.functions k) count) (later_faults here line (name_at v.functions k))
    (callee_in here sc line (name_at v.functions k) k count x.0 (same_numbers count (params_of here.globals k) (e ∙ x.1)))
    (later_in here line (name_at v.functions k) k x.0 (is_below k here.index (omega (arith, h.0, p))))

-- a slot that is declared has its name, which is a new one
pub record IsFresh (names : Names) (visible : List ℕ) (slot : ℕ) (x : List ℕ) : Type 0 where
  pub there : slice_get names.slots slot ≡ Some x
  pub untaken : Contains names.taken x → ⊥
  pub new : IsNameOfNone names.slots visible x

slot_there : (slots : List (List ℕ)) (n : ℕ) → n < length slots → slice_get slots n ≡ Some (slice_index_or slots n [])
slot_there [] n h = absurd (omega (arith, h))
slot_there (x ∷ xs) zero h = refl
slot_there (x ∷ xs) (suc n) h = slot_there xs n (omega (arith, h))

pub fresh_in : (names : Names) (s : w.Scope) (slot : ℕ) (x : List ℕ) → slice_get names.slots slot ≡ Some x → IsNew names s slot → IsFresh names s.visible slot x
fresh_in names s slot x e h =
    let P : List ℕ → Type 0 = λ y. (Contains names.taken y → ⊥) × All (λ other. slice_get names.slots other ≡ Some y → ⊥) s.visible in
    let q : P x = subst (λ (o : Option (List ℕ)). IfSome o P) e h in
    record { there = e; untaken = q.0; new = q.1 }

pub fresh : (names : Names) (v : Vocabulary) (s : w.Scope) (slot : ℕ) → v.slots ≡ names.slots → slot < length names.slots → IsNew names s slot → IsFresh names s.visible slot (name_at v.slots slot)
fresh names v s slot same room h = fresh_in names s slot (name_at v.slots slot) (slot_there names.slots slot room ∙ ap (λ sl. Some (name_at sl slot)) (sym same)) h

both_none : (here : Setting) (sc : Scope) (line : ℕ) (x : List ℕ) → local_named sc x ≡ None → global_named here.globals x ≡ None → declared_faults here sc line x ≡ []
both_none here sc line x a b = λ i. when (is_some (a i) || is_some (b i)) Twice line

pub declared_none : (here : Setting) (names : Names) (v : Vocabulary) (visible fixed : List ℕ) (sc : Scope) (line slot : ℕ) (x : List ℕ) → Known here names v → Shows names.slots visible fixed sc → IsFresh names visible slot x → declared_faults here sc line x ≡ []
declared_none here names v visible fixed sc line slot x known shows h = both_none here sc line x (shows.hides x h.new) (known.untaken x h.untaken)

-- ---- expressions

count_is : (v : Vocabulary) (given : Arguments) → count_of (spelled_arguments v given) ≡ meaning.count_of given
count_is v no_more = refl
count_is v (argument first rest) = let r = count_is v rest in omega (arith, r)

mutual
  pub number_none : (here : Setting) (names : Names) (v : Vocabulary) (s : w.Scope) (sc : Scope) (line : ℕ) → Known here names v → Shows names.slots s.visible s.fixed sc → (e : Expression) → IsLawfulExpression names s e → expression_faults here sc line a_number (spelled_expression v e) ≡ []
  number_none here names v s sc line known shows (Number n) h = refl
  number_none here names v s sc line known shows (Local slot) h = none_in _ _ (used_none here names v s sc line slot known shows h) refl
  number_none here names v s sc line known shows Len h = refl
  number_none here names v s sc line known shows (Input i) h = number_none here names v s sc line known shows i h
  number_none here names v s sc line known shows (Load a i) h = none_in _ _ (indexed_in here sc line (name_at v.arrays a) a (known.arrays a h.0)) (number_none here names v s sc line known shows i h.1)
  number_none here names v s sc line known shows (Call k given) h =
      none_in _ _ (called_none here names v sc line k (count_of (spelled_arguments v given)) (meaning.count_of given) known h.0 (count_is v given)) (numbers_none here names v s sc line known shows given h.1)
  number_none here names v s sc line known shows (Neg i) h = number_none here names v s sc line known shows i h
  number_none here names v s sc line known shows (Binary op a b) h = none_in _ _ (number_none here names v s sc line known shows a h.0) (number_none here names v s sc line known shows b h.1)

  pub numbers_none : (here : Setting) (names : Names) (v : Vocabulary) (s : w.Scope) (sc : Scope) (line : ℕ) → Known here names v → Shows names.slots s.visible s.fixed sc → (es : Arguments) → AreLawfulArguments names s es → arguments_faults here sc line (spelled_arguments v es) ≡ []
  numbers_none here names v s sc line known shows no_more h = refl
  numbers_none here names v s sc line known shows (argument first rest) h = none_in _ _ (number_none here names v s sc line known shows first h.0) (numbers_none here names v s sc line known shows rest h.1)

truth_none : (here : Setting) (names : Names) (v : Vocabulary) (s : w.Scope) (sc : Scope) (line : ℕ) → Known here names v → Shows names.slots s.visible s.fixed sc → (c : Condition) → IsLawfulCondition names s c → expression_faults here sc line a_truth (spelled_condition v c) ≡ []
truth_none here names v s sc line known shows (Compare t a b) h = none_in _ _ (number_none here names v s sc line known shows a h.0) (number_none here names v s sc line known shows b h.1)
truth_none here names v s sc line known shows (Both a b) h = none_in _ _ (truth_none here names v s sc line known shows a h.0) (truth_none here names v s sc line known shows b h.1)
truth_none here names v s sc line known shows (Either a b) h = none_in _ _ (truth_none here names v s sc line known shows a h.0) (truth_none here names v s sc line known shows b h.1)
truth_none here names v s sc line known shows (Not a) h = truth_none here names v s sc line known shows a h

predictor_none : (here : Setting) (names : Names) (v : Vocabulary) (s : w.Scope) (sc : Scope) (line : ℕ) → Known here names v → Shows names.slots s.visible s.fixed sc → (p : Predictor) → IsLawfulPredictor names s p → predictor_faults here sc line (spelled_predictor v p) ≡ []
predictor_none here names v s sc line known shows (By e) h = number_none here names v s sc line known shows e h
predictor_none here names v s sc line known shows (Host n) h = refl

predictors_none : (here : Setting) (names : Names) (v : Vocabulary) (s : w.Scope) (sc : Scope) (line : ℕ) → Known here names v → Shows names.slots s.visible s.fixed sc → (ps : List Predictor) → AreLawfulPredictors names s ps → predictors_faults here sc line (map (spelled_predictor v) ps) ≡ []
predictors_none here names v s sc line known shows [] h = refl
predictors_none here names v s sc line known shows (p ∷ ps) h = none_in _ _ (predictor_none here names v s sc line known shows p h.0) (predictors_none here names v s sc line known shows ps h.1)

-- ---- statements

-- in a loop or not, the same is visible in the whole program
known_in : (here : Setting) (names : Names) (v : Vocabulary) (in_loop : Bool) → Known here names v → Known (record here { in_loop = in_loop }) names v
known_in here names v in_loop known = record { arrays = known.arrays; functions = known.functions; index = known.index; untaken = known.untaken; slots = known.slots }

-- what a statement or a block may rest on: the scope of names shows the slots, there is room for those that it declares, and it is in a loop or not
pub record Ready (here : Setting) (names : Names) (s : w.Scope) (sc : Scope) (count : ℕ) : Type 0 where
  pub shows : Shows names.slots s.visible s.fixed sc
  pub room : s.next + count ≤ length names.slots
  pub loop : s.in_loop ≡ here.in_loop

-- a declaration in a scope is of a new name
declares : (here : Setting) (names : Names) (v : Vocabulary) (s : w.Scope) (slot : ℕ) → Known here names v → s.next < length names.slots → Declares names s slot → IsFresh names s.visible slot (name_at v.slots slot)
declares here names v s slot known room h = fresh names v s slot known.slots (omega (arith, h.0, room)) h.1

-- declarations from left to right are of new names
each_none : (here : Setting) (names : Names) (v : Vocabulary) (s : w.Scope) (sc : Scope) (line : ℕ) → Known here names v → (slots : List ℕ) → Shows names.slots s.visible s.fixed sc → s.next + length slots ≤ length names.slots → DeclaresEach names s slots → each_declared_faults here sc line (spelled_names v slots) ≡ []
each_none here names v s sc line known [] shows room h = refl
each_none here names v s sc line known (slot ∷ slots) shows room h =
    let x = name_at v.slots slot in
    let d = declares here names v s slot known (omega (arith, room)) h.0 in
    none_in _ _ (declared_none here names v s.visible s.fixed sc line slot x known shows d)
    (each_none here names v (w.behind 1 (w.showing slot s)) (f.showing x sc) line known slots (shows_free names.slots s.visible s.fixed sc x slot shows d.there d.new) (omega (arith, room)) h.1)

-- and may then be used
shows_each : (here : Setting) (names : Names) (v : Vocabulary) (s : w.Scope) (fixed : List ℕ) (sc : Scope) → Known here names v → (slots : List ℕ) → Shows names.slots s.visible fixed sc → s.next + length slots ≤ length names.slots → DeclaresEach names s slots → Shows names.slots (slots ++ s.visible) fixed (f.showing_each false sc (spelled_names v slots))
shows_each here names v s fixed sc known [] shows room h = shows
shows_each here names v s fixed sc known (slot ∷ slots) shows room h =
    let x = name_at v.slots slot in
    let d = declares here names v s slot known (omega (arith, room)) h.0 in
    shows_in names.slots _ _ fixed fixed (f.showing_each false sc (spelled_names v (slot ∷ slots))) (to_front slots s.visible slot) (from_front slots s.visible slot) (λ k c. c)
    (shows_each here names v (w.behind 1 (w.showing slot s)) fixed (f.showing x sc) known slots (shows_free names.slots s.visible fixed sc x slot shows d.there d.new) (omega (arith, room)) h.1)

-- and not be assigned
shows_each_fixed : (here : Setting) (names : Names) (v : Vocabulary) (s : w.Scope) (fixed : List ℕ) (sc : Scope) → Known here names v → (slots : List ℕ) → Shows names.slots s.visible fixed sc → s.next + length slots ≤ length names.slots → DeclaresEach names s slots → Shows names.slots (slots ++ s.visible) (slots ++ fixed) (f.showing_each true sc (spelled_names v slots))
shows_each_fixed here names v s fixed sc known [] shows room h = shows
shows_each_fixed here names v s fixed sc known (slot ∷ slots) shows room h =
    let x = name_at v.slots slot in
    let d = declares here names v s slot known (omega (arith, room)) h.0 in
    shows_in names.slots _ _ _ _ (f.showing_each true sc (spelled_names v (slot ∷ slots))) (to_front slots s.visible slot) (from_front slots s.visible slot) (to_front slots fixed slot)
    (shows_each_fixed here names v (w.behind 1 (w.showing slot s)) (slot ∷ fixed) (f.showing_fixed x sc) known slots (shows_fixed names.slots s.visible fixed sc x slot shows d.there d.new) (omega (arith, room)) h.1)

shows_after : (here : Setting) (names : Names) (v : Vocabulary) (m : Bool) (s : w.Scope) (sc : Scope) → Known here names v → (st : Statement) → Ready here names s sc (declared st) → IsLawfulStatement names m s st → Shows names.slots (w.scope_after s st).visible s.fixed (f.scope_after sc (spelled_statement v st))
shows_after here names v m s sc known (Let slot value) r h =
    let d = declares here names v s slot known (omega (arith, r.room)) h.1 in
    shows_free names.slots s.visible s.fixed sc (name_at v.slots slot) slot r.shows d.there d.new
shows_after here names v m s sc known (Assign slot value) r h = r.shows
shows_after here names v m s sc known (Store a i value) r h = r.shows
shows_after here names v m s sc known (Fill a low high value) r h = r.shows
shows_after here names v m s sc known (Emit value) r h = r.shows
shows_after here names v m s sc known (Fail number) r h = r.shows
shows_after here names v m s sc known (If test a b) r h = r.shows
shows_after here names v m s sc known (For slot low high body) r h = r.shows
shows_after here names v m s sc known (While test most body) r h = r.shows
shows_after here names v m s sc known (Do k given) r h = r.shows
shows_after here names v m s sc known (Fold head body) r h = shows_each here names v s s.fixed sc known head.carried r.shows (omega (arith, r.room)) h.3
shows_after here names v m s sc known (Pair head a b) r h = shows_each here names v s s.fixed sc known head.carried r.shows (omega (arith, r.room)) h.0
shows_after here names v m s sc known Break r h = r.shows

ready_after : (here : Setting) (names : Names) (v : Vocabulary) (m : Bool) (s : w.Scope) (sc : Scope) (count : ℕ) → Known here names v → (st : Statement) → Ready here names s sc (declared st + count) → IsLawfulStatement names m s st → Ready here names (w.scope_after s st) (f.scope_after sc (spelled_statement v st)) count
ready_after here names v m s sc count known st r h = record {
  shows = shows_after here names v m s sc known st (record { shows = r.shows; room = omega (arith, r.room); loop = r.loop }) h;
  room = omega (arith, r.room);
  loop = r.loop;
}

-- the scopes at the end of a block
shows_end : (here : Setting) (names : Names) (v : Vocabulary) (m : Bool) (s : w.Scope) (sc : Scope) → Known here names v → (b : Block) → Ready here names s sc (declared_in b) → IsLawfulBlock names m s b → Shows names.slots (w.scope_at_end s b).visible (w.scope_at_end s b).fixed (f.scope_at_end sc (spelled_block v b))
shows_end here names v m s sc known end r h = r.shows
shows_end here names v m s sc known (on_line line st rest) r h =
    shows_end here names v m (w.scope_after s st) (f.scope_after sc (spelled_statement v st)) known rest (ready_after here names v m s sc (declared_in rest) known st r h.0) h.1

-- a number after a block
value_none : (here : Setting) (names : Names) (v : Vocabulary) (s : w.Scope) (sc : Scope) (line : ℕ) → Known here names v → (b : Block) (e : Expression) → Ready here names s sc (declared_in b) → IsLawfulBlock names here.in_main s b → IsLawfulExpression names (w.scope_at_end s b) e → expression_faults here (f.scope_at_end sc (spelled_block v b)) line a_number (spelled_expression v e) ≡ []
value_none here names v s sc line known b e r h k =
    number_none here names v (w.scope_at_end s b) (f.scope_at_end sc (spelled_block v b)) line known (shows_end here names v here.in_main s sc known b r h) e k

-- a row after the statements of a part
row_none : (here : Setting) (names : Names) (v : Vocabulary) (s : w.Scope) (sc : Scope) (line : ℕ) → Known here names v → (b : Block) (es : Arguments) → Ready (in_part here) names s sc (declared_in b) → IsLawfulBlock names here.in_main s b → AreLawfulArguments names (w.scope_at_end s b) es → arguments_faults here (f.scope_at_end sc (spelled_block v b)) line (spelled_arguments v es) ≡ []
row_none here names v s sc line known b es r h k =
    numbers_none here names v (w.scope_at_end s b) (f.scope_at_end sc (spelled_block v b)) line known (shows_end (in_part here) names v here.in_main s sc (known_in here names v false known) b r h) es k

-- a list that is as long as the names
width_none : (line width count : ℕ) → count ≡ width → width_faults line width count ≡ []
width_none line width count e = when_not (nat_eq count width) Arity line (same_numbers count width e)

fold_widths_none : (v : Vocabulary) (line : ℕ) (head : FoldHead) → w.FoldHasOneWidth head → fold_widths_faults line (spelled_fold v head) ≡ []
fold_widths_none v line head h =
    let width = length (spelled_names v head.carried) in
    let n = sym (length-map head.carried (name_at v.slots)) in
    none_in _ _ (width_none line width (count_of (spelled_arguments v head.start)) (count_is v head.start ∙ h.start ∙ n))
    (none_in _ _ (width_none line width (length (map (spelled_predictor v) head.predict)) (length-map head.predict (spelled_predictor v) ∙ h.predict ∙ n))
    (width_none line width (count_of (spelled_arguments v head.next)) (count_is v head.next ∙ h.next ∙ n)))

pair_widths_none : (v : Vocabulary) (line : ℕ) (head : PairHead) → w.PairHasOneWidth head → pair_widths_faults line (spelled_pair v head) ≡ []
pair_widths_none v line head h =
    let width = length (spelled_names v head.carried) in
    let n = sym (length-map head.carried (name_at v.slots)) in
    none_in _ _ (width_none line width (count_of (spelled_arguments v head.give)) (count_is v head.give ∙ h.give ∙ n))
    (width_none line width (length (map (spelled_predictor v) head.predict)) (length-map head.predict (spelled_predictor v) ∙ h.predict ∙ n))

-- what is declared by a fold: its carried row, and its block number, also where the carried row may not be used
record FoldNames (here : Setting) (names : Names) (v : Vocabulary) (s : w.Scope) (sc : Scope) (line : ℕ) (head : FoldHead) : Type 0 where
  pub faultless : names_faults here sc line (spelled_fold v head) ≡ []
  pub guess : Shows names.slots (head.block ∷ s.visible) (head.block ∷ s.fixed) (f.showing_fixed (name_at v.slots head.block) sc)
  pub inside : Shows names.slots (head.block ∷ (head.carried ++ s.visible)) (head.block ∷ (head.carried ++ s.fixed)) (f.in_body sc (spelled_names v head.carried) (name_at v.slots head.block))

right_there : (front slots : List ℕ) (k : ℕ) → Contains slots k → Contains (front ++ slots) k
right_there [] slots k h = h
right_there (f ∷ front) slots k h = contains_there f k (front ++ slots) (right_there front slots k h)

next_each : (slots : List ℕ) (s : w.Scope) → (w.showing_each slots s).next ≡ s.next + length slots
next_each [] s = omega arith
next_each (slot ∷ slots) s = let r = next_each slots (w.behind 1 (w.showing slot s)) in omega (arith, r)

fold_names : (here : Setting) (names : Names) (v : Vocabulary) (s : w.Scope) (sc : Scope) (line : ℕ) (head : FoldHead) → Known here names v → Shows names.slots s.visible s.fixed sc → s.next + length head.carried + 1 ≤ length names.slots → DeclaresEach names s head.carried → Declares names (w.showing_each head.carried s) head.block → FoldNames here names v s sc line head
fold_names here names v s sc line head known shows room hc hb =
    let bn = name_at v.slots head.block in
    let cs = spelled_names v head.carried in
    let few : s.next + length head.carried ≤ length names.slots = omega (arith, room) in
    let after = w.showing_each head.carried s in
    let b = declares here names v after head.block known (omega (arith, room, next_each head.carried s)) hb in
    let never : ℕ → Type 0 = λ other. slice_get names.slots other ≡ Some bn → ⊥ in
    let new : IsNameOfNone names.slots (head.carried ++ s.visible) bn = all_along never after.visible (head.carried ++ s.visible) (there_is_each head.carried s) b.new in
    let alone : IsFresh names s.visible head.block bn = record { there = b.there; untaken = b.untaken; new = all_along never (head.carried ++ s.visible) s.visible (right_there head.carried s.visible) new } in
    let both : IsFresh names (head.carried ++ s.visible) head.block bn = record { there = b.there; untaken = b.untaken; new = new } in
    let one = shows_each here names v s s.fixed sc known head.carried shows few hc in
    record {
      faultless = none_in _ _ (each_none here names v s sc line known head.carried shows few hc) (declared_none here names v (head.carried ++ s.visible) s.fixed (f.showing_each false sc cs) line head.block bn known one both);
      guess = shows_fixed names.slots s.visible s.fixed sc bn head.block shows b.there alone.new;
      inside = shows_fixed names.slots (head.carried ++ s.visible) (head.carried ++ s.fixed) (f.showing_each true sc cs) bn head.block (shows_each_fixed here names v s s.fixed sc known head.carried shows few hc) b.there new;
    }

mutual
  pub statement_none : (here : Setting) (names : Names) (v : Vocabulary) (s : w.Scope) (sc : Scope) (line : ℕ) → Known here names v → (st : Statement) → Ready here names s sc (declared st) → IsLawfulStatement names here.in_main s st → statement_faults here sc line (spelled_statement v st) ≡ []
  statement_none here names v s sc line known (Let slot value) r h =
      none_in _ _ (declared_none here names v s.visible s.fixed sc line slot (name_at v.slots slot) known r.shows (declares here names v s slot known (omega (arith, r.room)) h.1)) (number_none here names v s sc line known r.shows value h.0)
  statement_none here names v s sc line known (Assign slot value) r h = none_in _ _ (assigned_none here names v s sc line slot known r.shows h.0 h.1) (number_none here names v s sc line known r.shows value h.2)
  statement_none here names v s sc line known (Store a i value) r h =
      none_in _ _ (indexed_in here sc line (name_at v.arrays a) a (known.arrays a h.0)) (none_in _ _ (number_none here names v s sc line known r.shows i h.1) (number_none here names v s sc line known r.shows value h.2))
  statement_none here names v s sc line known (Fill a low high value) r h =
      none_in _ _ (indexed_in here sc line (name_at v.arrays a) a (known.arrays a h.0)) (none_in _ _ (number_none here names v s sc line known r.shows low h.1) (none_in _ _ (number_none here names v s sc line known r.shows high h.2) (number_none here names v s sc line known r.shows value h.3)))
  statement_none here names v s sc line known (Emit value) r h = none_in _ _ (when_not here.in_main Misplaced line h.0) (number_none here names v s sc line known r.shows value h.1)
  statement_none here names v s sc line known (Fail number) r h = when_not (nat_lt number 256) Kind line (is_below number 256 (omega (arith, h)))
  statement_none here names v s sc line known (If test a b) r h =
      none_in _ _ (truth_none here names v s sc line known r.shows test h.0) (none_in _ _
      (block_none here names v s sc known a (record { shows = r.shows; room = omega (arith, r.room); loop = r.loop }) h.1)
      (block_none here names v (w.behind (declared_in a) s) sc known b (record { shows = r.shows; room = omega (arith, r.room); loop = r.loop }) h.2))
  statement_none here names v s sc line known (For slot low high body) r h =
      let x = name_at v.slots slot in
      let d = declares here names v s slot known (omega (arith, r.room)) h.2 in
      none_in _ _ (declared_none here names v s.visible s.fixed sc line slot x known r.shows d) (none_in _ _ (number_none here names v s sc line known r.shows low h.0) (none_in _ _ (number_none here names v s sc line known r.shows high h.1)
      (block_none (in_turn here) names v (w.in_turn (w.behind 1 (w.showing_fixed slot s))) (f.showing_fixed x sc) (known_in here names v true known) body (record { shows = shows_fixed names.slots s.visible s.fixed sc x slot r.shows d.there d.new; room = omega (arith, r.room); loop = refl }) h.3)))
  statement_none here names v s sc line known (While test most body) r h = none_in _ _ (truth_none here names v s sc line known r.shows test h.0) (block_none (in_turn here) names v (w.in_turn s) sc (known_in here names v true known) body (record { shows = r.shows; room = r.room; loop = refl }) h.2)
  statement_none here names v s sc line known (Do k given) r h =
      none_in _ _ (called_none here names v sc line k (count_of (spelled_arguments v given)) (meaning.count_of given) known h.0 (count_is v given)) (numbers_none here names v s sc line known r.shows given h.1)
  statement_none here names v s sc line known (Fold head body) r h =
      let two = fold_names here names v s sc line head known r.shows (omega (arith, r.room)) h.3 h.4 in
      let bn = name_at v.slots head.block in
      let sp = w.in_body s head.carried head.block in
      let scp = f.in_body sc (spelled_names v head.carried) bn in
      let inside : Ready (in_part here) names sp scp (declared_in body) = record { shows = two.inside; room = omega (arith, r.room); loop = refl } in
      none_in _ _ (none_in _ _ two.faultless (none_in _ _ (fold_widths_none v line head h.8) (none_in _ _ (numbers_none here names v s sc line known r.shows head.start h.0) (none_in _ _ (number_none here names v s sc line known r.shows head.low h.1) (none_in _ _ (number_none here names v s sc line known r.shows head.high h.2)
      (predictors_none here names v (w.in_predictor s head.block) (f.showing_fixed bn sc) line known two.guess head.predict h.5))))))
      (none_in _ _ (block_none (in_part here) names v sp scp (known_in here names v false known) body inside h.6) (row_none here names v sp scp head.next_line known body head.next inside h.6 h.7))
  statement_none here names v s sc line known (Pair head a b) r h =
      let n = length head.carried in
      let few : s.next + n ≤ length names.slots = omega (arith, r.room) in
      let cs = spelled_names v head.carried in
      let sp = w.in_producer s head.carried in
      let made : Ready (in_part here) names sp sc (declared_in a) = record { shows = r.shows; room = omega (arith, r.room); loop = refl } in
      let all = shows_each_fixed here names v s s.fixed sc known head.carried r.shows few h.0 in
      none_in _ _ (each_none here names v s sc line known head.carried r.shows few h.0) (none_in _ _ (pair_widths_none v line head h.5) (none_in _ _
      (none_in _ _ (block_none (in_part here) names v sp sc (known_in here names v false known) a made h.1) (row_none here names v sp sc head.give_line known a head.give made h.1 h.2)) (none_in _ _
      (predictors_none here names v s sc line known r.shows head.predict h.3)
      (block_none (in_part here) names v (w.in_consumer s head.carried a) (f.showing_each true sc cs) (known_in here names v false known) b (record { shows = all; room = omega (arith, r.room); loop = refl }) h.4))))
  statement_none here names v s sc line known Break r h = when_not here.in_loop MisplacedBreak line (sym r.loop ∙ h.1)

  pub block_none : (here : Setting) (names : Names) (v : Vocabulary) (s : w.Scope) (sc : Scope) → Known here names v → (b : Block) → Ready here names s sc (declared_in b) → IsLawfulBlock names here.in_main s b → block_faults here sc (spelled_block v b) ≡ []
  block_none here names v s sc known end r h = refl
  block_none here names v s sc known (on_line line st rest) r h =
      none_in _ _ (statement_none here names v s sc line known st (record { shows = r.shows; room = omega (arith, r.room); loop = r.loop }) h.0)
      (block_none here names v (w.scope_after s st) (f.scope_after sc (spelled_statement v st)) known rest (ready_after here names v here.in_main s sc (declared_in rest) known st r h.0) h.1)

-- a block, and then a number
pub valued_none : (here : Setting) (names : Names) (v : Vocabulary) (s : w.Scope) (sc : Scope) (line : ℕ) → Known here names v → (b : Block) (e : Expression) → Ready here names s sc (declared_in b) → IsLawfulBlock names here.in_main s b → IsLawfulExpression names (w.scope_at_end s b) e → f.valued_faults here sc (spelled_block v b) line (spelled_expression v e) ≡ []
valued_none here names v s sc line known b e r h k = none_in _ _ (block_none here names v s sc known b r h) (value_none here names v s sc line known b e r h k)
