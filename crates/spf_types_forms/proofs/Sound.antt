-- Forms without faults: what they stand for is lawful, and is written as they are.
use Rattle.std.proofs.Common.{◌≡◌, ℕ, ◌<◌, zero, suc, Bool, true, false, ◌⊎◌, inl, inr, not, nat_eq, nat_lt, cond, Option, Some, None, is_some, List, [], ◌∷◌, ◌++◌, map, refl, sym, ap, ◌∙◌, subst, arith}
use Rattle.std.specs.Prelude.{IfSome, slice_get, slice_index_or}
use Rattle.std.specs.List.{All, Contains}
use Rattle.std.specs.Str.{bytes_eq}
use Rattle.std.proofs.lemmas.Bool.Decides.{nat_tests}
use Rattle.spf_ast.specs.Meaning as m
use Rattle.spf_ast.specs.RawSyntax.{RawExpression, Number, Local, Len, Input, Load, Call, Neg, Binary, Compare, Both, Either, Not, RawArguments, no_more, argument}
use Rattle.spf_ast.specs.Lawful as w
use Rattle.spf_ast.specs.Lawful.{Names, IsLawfulExpression, AreLawfulArguments, IsLawfulCondition, IsCallable}
use Rattle.spf_ast.specs.Spelling.{Vocabulary, name_at, spelled_expression, spelled_arguments, spelled_condition, IsWritableExpression, AreWritableArguments}
use Rattle.spf_types_names.specs.declared.fault.TypeFault.TheVariants.{Arity, CallsLater}
use Rattle.spf_types_names.specs.declared.locals.Binding.{Binding}
use Rattle.spf_types_names.specs.declared.globals.Outer.{Outer}
use Rattle.spf_types_names.specs.declared.globals.Outer.TheVariants as outer
use Rattle.spf_types_names.specs.Globals.{Globals, global_named, params_of}
use Rattle.spf_types_names.specs.Locals as l
use Rattle.spf_types_names.specs.Locals.{binding_of}
use Rattle.spf_types_names.specs.LocalsView.{AreApart}
use Rattle.spf_types_names.specs.Faults.{Setting, Fault, Scope, when, local_named, used_faults, indexed_faults, callee_faults, later_faults, called_faults, expression_faults, arguments_faults, count_of, a_number, a_truth}
use Rattle.spf_types_names.specs.Resolved.{scope, slot_of, index_of, resolved_expression, resolved_arguments, resolved_condition}
use Rattle.spf_types_names.proofs.Tables.{same_bytes, bytes_are}
use Rattle.spf_types_names.proofs.Scopes.{is_local_is}

-- ---- lists

pub left_none : {A : Type 0} (xs ys : List A) → xs ++ ys ≡ [] → xs ≡ []
left_none [] ys e = refl
left_none (x ∷ xs) ys e = cc

pub right_none : {A : Type 0} (xs ys : List A) → xs ++ ys ≡ [] → ys ≡ []
right_none [] ys e = e
right_none (x ∷ xs) ys e = cc

pub contains_here : {A : Type 0} (x y : A) (xs : List A) → x ≡ y → Contains (x ∷ xs) y
contains_here x y xs e = (0, omega arith, e)

pub contains_there : {A : Type 0} (x y : A) (xs : List A) → Contains xs y → Contains (x ∷ xs) y
contains_there x y xs (k, h, e) = (suc k, omega (arith, h), e)

pub contains_cases : {A : Type 0} (x y : A) (xs : List A) → Contains (x ∷ xs) y → (x ≡ y) ⊎ Contains xs y
contains_cases x y xs (zero, h, e) = inl e
contains_cases x y xs (suc k, h, e) = inr (k, omega (arith, h), e)

pub all_none : {A : Type 0} (P : A → Type 0) → All P []
all_none P k d h = absurd (omega (arith, h))

pub all_more : {A : Type 0} (P : A → Type 0) (x : A) (xs : List A) → P x → All P xs → All P (x ∷ xs)
all_more P x xs p ps zero d h = p
all_more P x xs p ps (suc k) d h = ps k d (omega (arith, h))

pub at_index : {A : Type 0} (xs : List A) (k : ℕ) (x d : A) → slice_get xs k ≡ Some x → slice_index_or xs k d ≡ x
at_index [] k x d e = cc
at_index (y ∷ ys) zero x d e = cc
at_index (y ∷ ys) (suc k) x d e = at_index ys k x d e

-- ---- locals

-- each local's slot has its name
abbrev pub AreThere : List (List ℕ) → List l.Local → Type 0
AreThere slots [] = Unit {0}
AreThere slots (v ∷ ls) = (slice_get slots v.slot ≡ Some v.name) × AreThere slots ls

-- the locals are there and apart
pub record Holds (slots : List (List ℕ)) (ls : List l.Local) : Type 0 where
  pub there : AreThere slots ls
  pub apart : AreApart ls

abbrev pub slots_of : List l.Local → List ℕ
slots_of ls = map (λ (v : l.Local). v.slot) ls

-- the slots of those that may not be assigned
abbrev pub fixed_slots : List l.Local → List ℕ
fixed_slots [] = []
fixed_slots (v ∷ ls) = cond v.fixed (v.slot ∷ fixed_slots ls) (fixed_slots ls)

-- the scope of these locals before slot n, in a loop or not
abbrev pub lawful_scope : List l.Local → ℕ → Bool → w.Scope
lawful_scope ls n in_loop = record { visible = slots_of ls; fixed = fixed_slots ls; next = n; in_loop = in_loop }

found_step : (slots : List (List ℕ)) (v : l.Local) (ls : List l.Local) (x : List ℕ) (b : Binding) (t : Bool) → bytes_eq v.name x ≡ t → slice_get slots v.slot ≡ Some v.name → (binding_of ls x ≡ Some b → (slice_get slots b.slot ≡ Some x) × Contains (slots_of ls) b.slot) →
    cond t (Some (record { slot = v.slot; fixed = v.fixed })) (binding_of ls x) ≡ Some b → (slice_get slots b.slot ≡ Some x) × Contains (v.slot ∷ slots_of ls) b.slot
found_step slots v ls x b true e h rec k =
    let same : v.slot ≡ b.slot = cc in
    (ap (slice_get slots) (sym same) ∙ h ∙ ap Some (same_bytes v.name x e), contains_here v.slot b.slot (slots_of ls) same)
found_step slots v ls x b false e h rec k = let r = rec k in (r.0, contains_there v.slot b.slot (slots_of ls) r.1)

pub found_there : (slots : List (List ℕ)) (ls : List l.Local) (x : List ℕ) (b : Binding) → AreThere slots ls → binding_of ls x ≡ Some b → (slice_get slots b.slot ≡ Some x) × Contains (slots_of ls) b.slot
found_there slots [] x b h e = cc
found_there slots (v ∷ ls) x b h e = found_step slots v ls x b (bytes_eq v.name x) refl h.0 (found_there slots ls x b h.1) e

new_step : (slots : List (List ℕ)) (v : l.Local) (ls : List l.Local) (x : List ℕ) (t : Bool) → bytes_eq v.name x ≡ t → slice_get slots v.slot ≡ Some v.name → (binding_of ls x ≡ None → All (λ other. slice_get slots other ≡ Some x → ⊥) (slots_of ls)) →
    cond t (Some (record { slot = v.slot; fixed = v.fixed })) (binding_of ls x) ≡ None → All (λ other. slice_get slots other ≡ Some x → ⊥) (v.slot ∷ slots_of ls)
new_step slots v ls x true e h rec k = cc
new_step slots v ls x false e h rec k =
    all_more (λ (other : ℕ). slice_get slots other ≡ Some x → ⊥) v.slot (slots_of ls)
    (λ f. let same : v.name ≡ x = cc in let b : bytes_eq v.name x ≡ true = ap (bytes_eq v.name) (sym same) ∙ bytes_are v.name in cc)
    (rec k)

pub new_there : (slots : List (List ℕ)) (ls : List l.Local) (x : List ℕ) → AreThere slots ls → binding_of ls x ≡ None → All (λ other. slice_get slots other ≡ Some x → ⊥) (slots_of ls)
new_there slots [] x h e = all_none (λ (other : ℕ). slice_get slots other ≡ Some x → ⊥)
new_there slots (v ∷ ls) x h e = new_step slots v ls x (bytes_eq v.name x) refl h.0 (new_there slots ls x h.1) e

-- ---- names

-- what is visible in the whole program is as lawful programs have it
pub record Fits (here : Setting) (names : Names) (v : Vocabulary) : Type 0 where
  pub arrays : (x : List ℕ) (n : ℕ) → global_named here.globals x ≡ Some (outer.Array n) → (n < names.arrays) × (name_at v.arrays n ≡ x)
  pub functions : (x : List ℕ) (n : ℕ) → global_named here.globals x ≡ Some (outer.Function n) → IfSome (slice_get names.functions n) (λ f. f.params ≡ params_of here.globals n) × (name_at v.functions n ≡ x)
  pub index : names.index ≡ here.index
  pub taken : (x : List ℕ) → global_named here.globals x ≡ None → Contains names.taken x → ⊥
  pub slots : v.slots ≡ names.slots

no_fault : (t : Bool) (f : Fault) → cond t [] (f ∷ []) ≡ [] → t ≡ true
no_fault true f e = refl
no_fault false f e = cc

pub no_when : (t : Bool) (what : _) (line : ℕ) → when t what line ≡ [] → t ≡ false
no_when true what line e = cc
no_when false what line e = refl

some_is : (o : Option Binding) → is_some o ≡ true → (b : Binding) × (o ≡ Some b)
some_is (Some b) e = (b, refl)
some_is None e = cc

pub used_is : (here : Setting) (ls : List l.Local) (line : ℕ) (x : List ℕ) → used_faults here (scope ls) line x ≡ [] → (b : Binding) × (binding_of ls x ≡ Some b)
used_is here ls line x e = some_is (binding_of ls x) (sym (is_local_is ls x) ∙ no_fault (is_some (local_named (scope ls) x)) _ e)

indexed_in : (here : Setting) (sc : Scope) (line : ℕ) (x : List ℕ) (o : Option Outer) → global_named here.globals x ≡ o → indexed_faults here sc line x ≡ [] → (n : ℕ) × (o ≡ Some (outer.Array n))
indexed_in here sc line x (Some (outer.Array n)) e h = (n, refl)
indexed_in here sc line x (Some (outer.Function n)) e h = let k = rw e at h in cc
indexed_in here sc line x None e h = let k = rw e at h in cc

pub indexed_is : (here : Setting) (sc : Scope) (line : ℕ) (x : List ℕ) → indexed_faults here sc line x ≡ [] → (n : ℕ) × (global_named here.globals x ≡ Some (outer.Array n))
indexed_is here sc line x h = indexed_in here sc line x (global_named here.globals x) refl h

callee_in : (here : Setting) (sc : Scope) (line : ℕ) (x : List ℕ) (count : ℕ) (o : Option Outer) → global_named here.globals x ≡ o → callee_faults here sc line x count ≡ [] → (n : ℕ) × (o ≡ Some (outer.Function n)) × (count ≡ params_of here.globals n)
callee_in here sc line x count (Some (outer.Array n)) e h = let k = rw e at h in cc
callee_in here sc line x count (Some (outer.Function n)) e h =
    let k = rw e at h in
    let t = no_when (not (nat_eq count (params_of here.globals n))) Arity line k in
    (n, refl, grind (arith, nat_tests))
callee_in here sc line x count None e h = let k = rw e at h in cc

pub callee_is : (here : Setting) (sc : Scope) (line : ℕ) (x : List ℕ) (count : ℕ) → callee_faults here sc line x count ≡ [] → (n : ℕ) × (global_named here.globals x ≡ Some (outer.Function n)) × (count ≡ params_of here.globals n)
callee_is here sc line x count h = callee_in here sc line x count (global_named here.globals x) refl h

pub later_is : (here : Setting) (line : ℕ) (x : List ℕ) (n : ℕ) → global_named here.globals x ≡ Some (outer.Function n) → later_faults here line x ≡ [] → n < here.index
later_is here line x n e h =
    let k = rw e at h in
    let t = no_when (not (nat_lt n here.index)) CallsLater line k in
    grind (arith, nat_tests)

-- ---- expressions

slot_is : (ls : List l.Local) (x : List ℕ) (b : Binding) → binding_of ls x ≡ Some b → slot_of ls x ≡ b.slot
slot_is ls x b e = rw e refl

array_index_is : (g : Globals) (x : List ℕ) (n : ℕ) → global_named g x ≡ Some (outer.Array n) → index_of g x ≡ n
array_index_is g x n e = rw e refl

function_index_is : (g : Globals) (x : List ℕ) (n : ℕ) → global_named g x ≡ Some (outer.Function n) → index_of g x ≡ n
function_index_is g x n e = rw e refl

pub count_is : (g : Globals) (ls : List l.Local) (given : RawArguments) → m.count_of (resolved_arguments g ls given) ≡ count_of given
count_is g ls no_more = refl
count_is g ls (argument first rest) = let r = count_is g ls rest in omega (arith, r)

-- the local that a name stands for may be used, and is written so
pub local_ok : (here : Setting) (names : Names) (v : Vocabulary) (ls : List l.Local) (n : ℕ) (in_loop : Bool) (line : ℕ) (x : List ℕ) → Fits here names v → Holds names.slots ls → used_faults here (scope ls) line x ≡ [] → Contains (lawful_scope ls n in_loop).visible (slot_of ls x) × (name_at v.slots (slot_of ls x) ≡ x)
local_ok here names v ls n in_loop line x fits holds h =
    let u = used_is here ls line x h in
    let f = found_there names.slots ls x u.0 holds.there u.1 in
    let e = slot_is ls x u.0 u.1 in
    (rw e f.1, ap (λ k. name_at v.slots k) e ∙ ap (λ sl. name_at sl u.0.slot) fits.slots ∙ at_index names.slots u.0.slot x [] f.0)

pub array_ok : (here : Setting) (names : Names) (v : Vocabulary) (sc : Scope) (line : ℕ) (x : List ℕ) → Fits here names v → indexed_faults here sc line x ≡ [] → (index_of here.globals x < names.arrays) × (name_at v.arrays (index_of here.globals x) ≡ x)
array_ok here names v sc line x fits h =
    let a = indexed_is here sc line x h in
    let e = array_index_is here.globals x a.0 a.1 in
    let f = fits.arrays x a.0 a.1 in
    (omega (arith, e, f.0), ap (λ k. name_at v.arrays k) e ∙ f.1)

pub call_ok : (here : Setting) (names : Names) (v : Vocabulary) (sc : Scope) (line : ℕ) (x : List ℕ) (count same : ℕ) → Fits here names v → called_faults here sc line x count [] ≡ [] → same ≡ count → IsCallable names (index_of here.globals x) same × (name_at v.functions (index_of here.globals x) ≡ x)
call_ok here names v sc line x count same fits h k =
    let c = callee_is here sc line x count (left_none _ _ h) in
    let t = later_is here line x c.0 c.1 (right_none (callee_faults here sc line x count) _ h) in
    let e = function_index_is here.globals x c.0 c.1 in
    let f = fits.functions x c.0 c.1 in
    let p = fits.index in
    let P : ℕ → Type 0 = λ q. IfSome (slice_get names.functions c.0) (λ z. z.params ≡ q) in
    let Q : ℕ → Type 0 = λ q. IsCallable names q same in
    (subst Q (sym e) (omega (arith, p, t), subst P (sym (k ∙ c.2)) f.0), ap (λ q. name_at v.functions q) e ∙ f.1)

mutual
  pub number_ok : (here : Setting) (names : Names) (v : Vocabulary) (ls : List l.Local) (n : ℕ) (in_loop : Bool) (line : ℕ) → Fits here names v → Holds names.slots ls → (e : RawExpression) → expression_faults here (scope ls) line a_number e ≡ [] → IsWritableExpression e →
      IsLawfulExpression names (lawful_scope ls n in_loop) (resolved_expression here.globals ls e) × (spelled_expression v (resolved_expression here.globals ls e) ≡ e)
  number_ok here names v ls n in_loop line fits holds (Number k) h w = (w, refl)
  number_ok here names v ls n in_loop line fits holds (Local x) h w =
      let r = local_ok here names v ls n in_loop line x fits holds (left_none _ _ h) in
      (r.0, ap Local r.1)
  number_ok here names v ls n in_loop line fits holds Len h w = (tt, refl)
  number_ok here names v ls n in_loop line fits holds (Input i) h w =
      let r = number_ok here names v ls n in_loop line fits holds i h w in
      (r.0, ap Input r.1)
  number_ok here names v ls n in_loop line fits holds (Load a i) h w =
      let x = array_ok here names v (scope ls) line a fits (left_none _ _ h) in
      let r = number_ok here names v ls n in_loop line fits holds i (right_none (indexed_faults here (scope ls) line a) _ h) w.1 in
      ((x.0, r.0), λ j. Load (x.1 j) (r.1 j))
  number_ok here names v ls n in_loop line fits holds (Call f given) h w =
      let x = call_ok here names v (scope ls) line f (count_of given) (m.count_of (resolved_arguments here.globals ls given)) fits (left_none _ _ h) (count_is here.globals ls given) in
      let r = numbers_ok here names v ls n in_loop line fits holds given (right_none (called_faults here (scope ls) line f (count_of given) []) _ h) w.1 in
      ((x.0, r.0), λ j. Call (x.1 j) (r.1 j))
  number_ok here names v ls n in_loop line fits holds (Neg i) h w =
      let r = number_ok here names v ls n in_loop line fits holds i h w in
      (r.0, ap Neg r.1)
  number_ok here names v ls n in_loop line fits holds (Binary op a b) h w =
      let r = number_ok here names v ls n in_loop line fits holds a (left_none _ _ h) w.0 in
      let q = number_ok here names v ls n in_loop line fits holds b (right_none (expression_faults here (scope ls) line a_number a) _ h) w.1 in
      ((r.0, q.0), λ j. Binary op (r.1 j) (q.1 j))
  number_ok here names v ls n in_loop line fits holds (Compare t a b) h w = cc
  number_ok here names v ls n in_loop line fits holds (Both a b) h w = cc
  number_ok here names v ls n in_loop line fits holds (Either a b) h w = cc
  number_ok here names v ls n in_loop line fits holds (Not a) h w = cc

  pub numbers_ok : (here : Setting) (names : Names) (v : Vocabulary) (ls : List l.Local) (n : ℕ) (in_loop : Bool) (line : ℕ) → Fits here names v → Holds names.slots ls → (es : RawArguments) → arguments_faults here (scope ls) line es ≡ [] → AreWritableArguments es →
      AreLawfulArguments names (lawful_scope ls n in_loop) (resolved_arguments here.globals ls es) × (spelled_arguments v (resolved_arguments here.globals ls es) ≡ es)
  numbers_ok here names v ls n in_loop line fits holds no_more h w = (tt, refl)
  numbers_ok here names v ls n in_loop line fits holds (argument first rest) h w =
      let r = number_ok here names v ls n in_loop line fits holds first (left_none _ _ h) w.0 in
      let q = numbers_ok here names v ls n in_loop line fits holds rest (right_none (expression_faults here (scope ls) line a_number first) _ h) w.1 in
      ((r.0, q.0), λ j. argument (r.1 j) (q.1 j))

pub truth_ok : (here : Setting) (names : Names) (v : Vocabulary) (ls : List l.Local) (n : ℕ) (in_loop : Bool) (line : ℕ) → Fits here names v → Holds names.slots ls → (e : RawExpression) → expression_faults here (scope ls) line a_truth e ≡ [] → IsWritableExpression e →
    IsLawfulCondition names (lawful_scope ls n in_loop) (resolved_condition here.globals ls e) × (spelled_condition v (resolved_condition here.globals ls e) ≡ e)
truth_ok here names v ls n in_loop line fits holds (Compare t a b) h w =
    let r = number_ok here names v ls n in_loop line fits holds a (left_none _ _ h) w.0 in
    let q = number_ok here names v ls n in_loop line fits holds b (right_none (expression_faults here (scope ls) line a_number a) _ h) w.1 in
    ((r.0, q.0), λ j. Compare t (r.1 j) (q.1 j))
truth_ok here names v ls n in_loop line fits holds (Both a b) h w =
    let r = truth_ok here names v ls n in_loop line fits holds a (left_none _ _ h) w.0 in
    let q = truth_ok here names v ls n in_loop line fits holds b (right_none (expression_faults here (scope ls) line a_truth a) _ h) w.1 in
    ((r.0, q.0), λ j. Both (r.1 j) (q.1 j))
truth_ok here names v ls n in_loop line fits holds (Either a b) h w =
    let r = truth_ok here names v ls n in_loop line fits holds a (left_none _ _ h) w.0 in
    let q = truth_ok here names v ls n in_loop line fits holds b (right_none (expression_faults here (scope ls) line a_truth a) _ h) w.1 in
    ((r.0, q.0), λ j. Either (r.1 j) (q.1 j))
truth_ok here names v ls n in_loop line fits holds (Not a) h w =
    let r = truth_ok here names v ls n in_loop line fits holds a h w in
    (r.0, ap Not r.1)
truth_ok here names v ls n in_loop line fits holds (Number k) h w = cc
truth_ok here names v ls n in_loop line fits holds (Local x) h w = let e = right_none (used_faults here (scope ls) line x) _ h in cc
truth_ok here names v ls n in_loop line fits holds Len h w = cc
truth_ok here names v ls n in_loop line fits holds (Input i) h w = cc
truth_ok here names v ls n in_loop line fits holds (Load a i) h w = let e = right_none (indexed_faults here (scope ls) line a) _ h in cc
truth_ok here names v ls n in_loop line fits holds (Call f given) h w =
    let e = right_none (callee_faults here (scope ls) line f (count_of given)) _ (left_none _ (arguments_faults here (scope ls) line given) h) in cc
truth_ok here names v ls n in_loop line fits holds (Neg i) h w = cc
truth_ok here names v ls n in_loop line fits holds (Binary op a b) h w = cc
