-- Programs without faults: what they stand for is lawful but for its size, and is written as they are.
use Rattle.std.proofs.Common.{◌≡◌, ℕ, ◌+◌, ◌<◌, ◌≤◌, zero, suc, Bool, true, false, ◌||◌, ◌⊎◌, inl, inr, cond, Option, Some, None, List, [], ◌∷◌, ◌++◌, length, map, refl, sym, ap, ◌∙◌, subst, arith, append_assoc, length-append, zero-add}
use Rattle.std.specs.Prelude.{IfSome, slice_get, slice_index_or}
use Rattle.std.specs.List.{All, Contains, range_with_len}
use Rattle.std.specs.Option.{option_map}
use Rattle.std.specs.Str.{bytes_eq}
use Rattle.std.proofs.lemmas.Option.{slice_get-map}
use Rattle.std.proofs.lemmas.List.{length-map}
use Rattle.std.proofs.lemmas.List.FromFn.{length-range_with_len, get_or-range_with_len}
use Rattle.std.proofs.Math.Seq.{take-append_seam}
use Rattle.spf_ast.specs.Syntax.{Array, Function}
use Rattle.spf_ast.specs.RawSyntax.{RawStatement, Let, Assign, Store, Fill, Emit, Fail, If, For, While, Do, Fold, Pair, Break, RawBlock, end, on_line, RawFunction, RawProgram}
use Rattle.spf_ast.specs.Lawful as lawful
use Rattle.spf_ast.specs.Lawful.{IsName, AreDifferent, Names, IsNew, names_taken, names_at, parameters, IsLawfulFunction, IsScoped, IsLawfulBlock, IsLawfulExpression}
use Rattle.spf_ast.specs.Spelling.{Vocabulary, name_at, vocabulary, spelled_function, spelled, IsWritableStatement, IsWritableBlock, IsWritableArray, IsWritableFunction, IsWellFormed, holds_break}
use Rattle.spf_types_names.specs.declared.globals.Outer.TheVariants as outer
use Rattle.spf_types_names.specs.Names.{has, index_in}
use Rattle.spf_types_names.specs.Globals.{Globals, globals_of, either}
use Rattle.spf_types_names.specs.Locals as l
use Rattle.spf_types_names.specs.Locals.{binding_of}
use Rattle.spf_types_names.specs.Faults.{Setting, when, declared_faults, each_declared_faults, function_faults, valued_faults, arrays_faults, functions_faults, block_faults, faults}
use Rattle.spf_types_names.specs.Resolved as z
use Rattle.spf_types_names.specs.Resolved.{scope, free, names_of, names_in, resolved_block, resolved_function, resolved}
use Rattle.spf_types_names.proofs.Tables.{same_bytes, bytes_are, map_twice}
use Rattle.spf_types_names.proofs.Rows.{append_nil, declared_is}
use Rattle.spf_types_forms.proofs.Blocks.{scope_each-is}
use Rattle.spf_types_forms.proofs.Sound.{left_none, right_none, contains_here, contains_there, contains_cases, all_none, all_more, at_index, Holds, Fits, slots_of, fixed_slots, lawful_scope, no_when}
use Rattle.spf_types_forms.proofs.SoundStatements.{Stand, stand_left, stand_right, is_new, one_more, declared_in_is, block_ok, value_ok}
use Rattle.spf_types_forms.proofs.Alike.{Alike, new_along, alike_block, alike_expression, alike_end}

-- ---- lists

all_first : {A : Type 0} (P : A → Type 0) (x : A) (xs : List A) → All P (x ∷ xs) → P x
all_first P x xs ps = ps 0 x (omega arith)

all_rest : {A : Type 0} (P : A → Type 0) (x : A) (xs : List A) → All P (x ∷ xs) → All P xs
all_rest P x xs ps k d h = ps (suc k) d (omega (arith, h))

all_append : {A : Type 0} (P : A → Type 0) (xs ys : List A) → All P xs → All P ys → All P (xs ++ ys)
all_append P [] ys a b = b
all_append P (x ∷ xs) ys a b = all_more P x (xs ++ ys) (all_first P x xs a) (all_append P xs ys (all_rest P x xs a) b)

all_map : {A B : Type 0} (P : A → Type 0) (Q : B → Type 0) (f : A → B) (xs : List A) → ((x : A) → P x → Q (f x)) → All P xs → All Q (map f xs)
all_map P Q f [] h a = all_none Q
all_map P Q f (x ∷ xs) h a = all_more Q (f x) (map f xs) (h x (all_first P x xs a)) (all_map P Q f xs h (all_rest P x xs a))

all_at : {A : Type 0} (P : A → Type 0) (xs : List A) (k : ℕ) → All P xs → IfSome (slice_get xs k) P
all_at P [] k a = tt
all_at P (x ∷ xs) zero a = all_first P x xs a
all_at P (x ∷ xs) (suc k) a = all_at P xs k (all_rest P x xs a)

pub contains_append : {A : Type 0} (xs ys : List A) (x : A) → Contains (xs ++ ys) x → Contains xs x ⊎ Contains ys x
contains_append [] ys x h = inr h
contains_append (y ∷ xs) ys x h =
    elim (contains_cases y x (xs ++ ys) h) [ inl e ↦ inl (contains_here y x xs e) | inr g ↦ elim (contains_append xs ys x g) [ inl a ↦ inl (contains_there y x xs a) | inr b ↦ inr b ] ]

stand_front : (front xs : List (List ℕ)) → Stand (front ++ xs) (length front) xs
stand_front front [] = tt
stand_front front (x ∷ xs) = (
  here front x xs,
  subst (λ sl. Stand sl (length front + 1) xs) (append_assoc front (x ∷ []) xs) (subst (λ n. Stand ((front ++ x ∷ []) ++ xs) n xs) (length-append front (x ∷ [])) (stand_front (front ++ x ∷ []) xs)),
)
  where
    here : (front : List (List ℕ)) (x : List ℕ) (xs : List (List ℕ)) → slice_get (front ++ x ∷ xs) (length front) ≡ Some x
    here [] x xs = refl
    here (y ∷ front) x xs = here front x xs

pub stand_self : (xs : List (List ℕ)) → Stand xs 0 xs
stand_self xs = stand_front [] xs

-- ---- names

mutual
  names_written : (st : RawStatement) → IsWritableStatement st → All IsName (names_of st)
  names_written (Let x value) h = all_more IsName x [] h.0 (all_none IsName)
  names_written (Assign x value) h = all_none IsName
  names_written (Store a i value) h = all_none IsName
  names_written (Fill a low high value) h = all_none IsName
  names_written (Emit value) h = all_none IsName
  names_written (Fail number) h = all_none IsName
  names_written (If test a b) h = all_append IsName (names_in a) (names_in b) (names_in_written a h.1) (names_in_written b h.2)
  names_written (For x low high body) h = all_more IsName x (names_in body) h.0 (names_in_written body h.3)
  names_written (While test most body) h = names_in_written body h.2
  names_written (Do f given) h = all_none IsName
  names_written (Fold head body) h =
      all_append IsName head.carried (head.block ∷ names_in body) h.0.0 (all_more IsName head.block (names_in body) h.0.2 (names_in_written body h.1))
  names_written (Pair head p q) h =
      all_append IsName head.carried (names_in p ++ names_in q) h.0.0 (all_append IsName (names_in p) (names_in q) (names_in_written p h.1) (names_in_written q h.2))
  names_written Break h = all_none IsName

  names_in_written : (b : RawBlock) → IsWritableBlock b → All IsName (names_in b)
  names_in_written end h = all_none IsName
  names_in_written (on_line line st rest) h = all_append IsName (names_of st) (names_in rest) (names_written st h.0) (names_in_written rest h.1)

index_step : (o : Option ℕ) (n : ℕ) → option_map (λ k. k + 1) o ≡ Some n → (k : ℕ) × (o ≡ Some k) × (n ≡ suc k)
index_step (Some k) n e = (k, refl, let f : k + 1 ≡ n = cc in omega (arith, f))
index_step None n e = cc

found_at : (xs : List (List ℕ)) (x : List ℕ) (n : ℕ) → index_in xs x ≡ Some n → slice_get xs n ≡ Some x
found_at [] x n e = cc
found_at (y ∷ ys) x n e = step (bytes_eq y x) refl e (λ k. found_at ys x k)
  where
    step : (b : Bool) → bytes_eq y x ≡ b → cond b (Some 0) (option_map (λ k. k + 1) (index_in ys x)) ≡ Some n → ((k : ℕ) → index_in ys x ≡ Some k → slice_get ys k ≡ Some x) → slice_get (y ∷ ys) n ≡ Some x
    step true f h rec = let z : 0 ≡ n = cc in ap (slice_get (y ∷ ys)) (sym z) ∙ ap Some (same_bytes y x f)
    step false f h rec = let p = index_step (index_in ys x) n h in ap (slice_get (y ∷ ys)) p.2 ∙ rec p.0 p.1

none_step : (b : Bool) (o : Option ℕ) → cond b (Some 0) (option_map (λ k. k + 1) o) ≡ None → (b ≡ false) × (o ≡ None)
none_step true o e = cc
none_step false (Some k) e = cc
none_step false None e = (refl, refl)

not_found : (xs : List (List ℕ)) (x : List ℕ) → index_in xs x ≡ None → Contains xs x → ⊥
not_found [] x e h = omega (arith, h.1)
not_found (y ∷ ys) x e h =
    let p = none_step (bytes_eq y x) (index_in ys x) e in
    elim (contains_cases y x ys h) [ inl same ↦ (let t : bytes_eq y x ≡ true = ap (bytes_eq y) (sym same) ∙ bytes_are y in let f = p.0 in cc) | inr later ↦ not_found ys x p.1 later ]

array_in : (o q : Option ℕ) (n : ℕ) → either (option_map outer.Array o) (option_map outer.Function q) ≡ Some (outer.Array n) → o ≡ Some n
array_in (Some k) q n e = cc
array_in None (Some k) n e = cc
array_in None None n e = cc

function_in : (o q : Option ℕ) (n : ℕ) → either (option_map outer.Array o) (option_map outer.Function q) ≡ Some (outer.Function n) → q ≡ Some n
function_in (Some k) q n e = cc
function_in None (Some k) n e = cc
function_in None None n e = cc

none_in : (o q : Option ℕ) → either (option_map outer.Array o) (option_map outer.Function q) ≡ None → (o ≡ None) × (q ≡ None)
none_in (Some k) q e = cc
none_in None (Some k) e = cc
none_in None None e = (refl, refl)

within : {A : Type 0} (xs : List A) (k : ℕ) (x : A) → slice_get xs k ≡ Some x → k < length xs
within [] k x e = cc
within (y ∷ ys) zero x e = omega arith
within (y ∷ ys) (suc k) x e = let r = within ys k x e in omega (arith, r)

params_at : (g : Globals) (fs : List RawFunction) (n : ℕ) → IfSome (slice_get (map (resolved_function g) fs) n) (λ f. f.params ≡ slice_index_or (map (λ (k : RawFunction). length k.params) fs) n 0)
params_at g [] n = tt
params_at g (f ∷ fs) zero = refl
params_at g (f ∷ fs) (suc n) = params_at g fs n

array_names : RawProgram → List (List ℕ)
array_names p = map (λ (a : Array). a.name) p.arrays

pub taken_is : (p : RawProgram) → names_taken (resolved p) ≡ map (λ (a : Array). a.name) p.arrays ++ map (λ (f : RawFunction). f.name) p.functions
taken_is p = ap (λ ns. map (λ (a : Array). a.name) p.arrays ++ ns) (sym (map_twice (resolved_function (globals_of p.arrays p.functions)) (λ (f : Function). f.name) p.functions))

pub fits_program : (p : RawProgram) (index : ℕ) (m : Bool) (slots : List (List ℕ)) → Fits (record { globals = globals_of p.arrays p.functions; index = index; in_main = m; in_loop = false }) (names_at (resolved p) index slots) (vocabulary (resolved p) slots)
fits_program p index m slots =
    let g = globals_of p.arrays p.functions in
    record {
      arrays = λ x n e.
          let f = found_at g.arrays x n (array_in (index_in g.arrays x) (index_in g.functions x) n e) in
          (omega (arith, within g.arrays n x f, length-map p.arrays (λ (a : Array). a.name)), at_index g.arrays n x [] f);
      functions = λ x n e.
          let f = found_at g.functions x n (function_in (index_in g.arrays x) (index_in g.functions x) n e) in
          (params_at g p.functions n, ap (λ ns. name_at ns n) (sym (map_twice (resolved_function g) (λ (k : Function). k.name) p.functions)) ∙ at_index g.functions n x [] f);
      index = refl;
      taken = λ x e h.
          let q = none_in (index_in g.arrays x) (index_in g.functions x) e in
          elim (contains_append g.arrays g.functions x (subst (λ ns. Contains ns x) (taken_is p) h)) [ inl a ↦ not_found g.arrays x q.0 a | inr b ↦ not_found g.functions x q.1 b ];
      slots = refl;
    }

-- ---- all names are different

or_none : (a b : Bool) → (a || b) ≡ false → (a ≡ false) × (b ≡ false)
or_none true b e = cc
or_none false b e = (refl, e)

different_push : (xs : List (List ℕ)) (x : List ℕ) → AreDifferent xs → has xs x ≡ false → AreDifferent (xs ++ x ∷ [])
different_push [] x d h = (λ c. omega (arith, c.1), tt)
different_push (y ∷ ys) x d h =
    let o = or_none (bytes_eq y x) (has ys x) h in (
      λ c. elim (contains_append ys (x ∷ []) y c) [ inl a ↦ d.0 a | inr b ↦ elim (contains_cases x y [] b) [ inl same ↦ (let t : bytes_eq y x ≡ true = ap (bytes_eq y) same ∙ bytes_are y in let f = o.0 in cc) | inr none ↦ omega (arith, none.1) ] ],
      different_push ys x d.1 o.1,
    )

different_arrays : (names : List (List ℕ)) (arrays : List Array) → AreDifferent names → arrays_faults names arrays ≡ [] → AreDifferent (names ++ map (λ (a : Array). a.name) arrays)
different_arrays names [] d h = subst AreDifferent (sym (append_nil names)) d
different_arrays names (a ∷ rest) d h =
    subst AreDifferent (append_assoc names (a.name ∷ []) (map (λ (k : Array). k.name) rest))
    (different_arrays (names ++ a.name ∷ []) rest (different_push names a.name d (no_when (has names a.name) _ a.line (left_none _ _ h))) (right_none (when (has names a.name) _ a.line) _ h))

different_functions : (g : Globals) (names : List (List ℕ)) (k : ℕ) (fs : List RawFunction) → AreDifferent names → functions_faults g names k fs ≡ [] → AreDifferent (names ++ map (λ (f : RawFunction). f.name) fs)
different_functions g names k [] d h = subst AreDifferent (sym (append_nil names)) d
different_functions g names k (f ∷ fs) d h =
    subst AreDifferent (append_assoc names (f.name ∷ []) (map (λ (q : RawFunction). q.name) fs))
    (different_functions g (names ++ f.name ∷ []) (k + 1) fs (different_push names f.name d (no_when (has names f.name) _ f.line (left_none _ _ h)))
    (right_none (function_faults (record { globals = g; index = k; in_main = false; in_loop = false }) f) _ (right_none (when (has names f.name) _ f.line) _ h)))

functions_none : (g : Globals) (names : List (List ℕ)) (k : ℕ) (fs : List RawFunction) → functions_faults g names k fs ≡ [] → (i : ℕ) → IfSome (slice_get fs i) (λ f. function_faults (record { globals = g; index = k + i; in_main = false; in_loop = false }) f ≡ [])
functions_none g names k [] h i = tt
functions_none g names k (f ∷ fs) h zero =
    let q = left_none (function_faults (record { globals = g; index = k; in_main = false; in_loop = false }) f) _ (right_none (when (has names f.name) _ f.line) _ h) in
    ap (λ n. function_faults (record { globals = g; index = n; in_main = false; in_loop = false }) f) (let e : k + 0 ≡ k = omega arith in e) ∙ q
functions_none g names k (f ∷ fs) h (suc i) =
    let r = functions_none g (names ++ f.name ∷ []) (k + 1) fs (right_none (function_faults (record { globals = g; index = k; in_main = false; in_loop = false }) f) _ (right_none (when (has names f.name) _ f.line) _ h)) i in
    subst (λ n. IfSome (slice_get fs i) (λ q. function_faults (record { globals = g; index = n; in_main = false; in_loop = false }) q ≡ [])) (let e : k + 1 + i ≡ k + suc i = omega arith in e) r

-- ---- parameters

pub in_range : (n k : ℕ) → k < n → Contains (range_with_len 0 n) k
in_range n k h = (k, omega (arith, length-range_with_len 0 n, h), get_or-range_with_len 0 n k k h ∙ zero-add k)

pub range_in : (n k : ℕ) → Contains (range_with_len 0 n) k → k < n
range_in n k (i, h, e) =
    let m : i < n = omega (arith, length-range_with_len 0 n, h) in
    let q = get_or-range_with_len 0 n i k m in
    omega (arith, m, q, e)

pub le_cases : (n slot : ℕ) → n ≤ slot → (n ≡ slot) ⊎ (n + 1 ≤ slot)
le_cases zero zero h = inl refl
le_cases zero (suc slot) h = inr (omega arith)
le_cases (suc n) zero h = absurd (omega (arith, h))
le_cases (suc n) (suc slot) h = elim (le_cases n slot (omega (arith, h))) [ inl e ↦ inl (ap suc e) | inr g ↦ inr (omega (arith, g)) ]

covers_more : (ls : List l.Local) (n : ℕ) (x : List ℕ) → ((k : ℕ) → k < n → Contains (slots_of ls) k) → (k : ℕ) → k < n + 1 → Contains (n ∷ slots_of ls) k
covers_more ls n x c k h = elim (le_cases k n (omega (arith, h))) [ inl e ↦ contains_here n k (slots_of ls) (sym e) | inr g ↦ contains_there n k (slots_of ls) (c k (omega (arith, g))) ]

pub params_new : (here : Setting) (names : Names) (v : Vocabulary) (line : ℕ) → Fits here names v → (ls : List l.Local) (n : ℕ) → Holds names.slots ls → ((k : ℕ) → k < n → Contains (slots_of ls) k) → (xs : List (List ℕ)) → Stand names.slots n xs → each_declared_faults here (scope ls) line xs ≡ [] →
    Holds names.slots (z.with_each false ls n xs) × ((slot : ℕ) → n ≤ slot → slot < n + length xs → IsNew names (parameters slot) slot)
params_new here names v line fits ls n holds c [] k h = (holds, λ slot a b. absurd (omega (arith, a, b)))
params_new here names v line fits ls n holds c (x ∷ xs) k h =
    let d = declared_is here ls line x (left_none _ _ h) in
    let r = params_new here names v line fits (free x n ∷ ls) (n + 1) (one_more names.slots ls x n false holds d.0 k.0) (covers_more ls n x c) xs k.1 (right_none (declared_faults here (scope ls) line x) _ h) in
    let new = new_along (slice_get names.slots n) (λ y. Contains names.taken y → ⊥) names.slots (slots_of ls) (range_with_len 0 n) (λ q g. c q (range_in n q g)) (is_new here names v ls n n false x fits holds d.0 d.1 k.0) in
    (r.0, λ slot a b. elim (le_cases n slot a) [ inl e ↦ subst (λ q. IsNew names (parameters q) q) e new | inr g ↦ r.1 slot g (omega (arith, b)) ])

params_cover : (ls : List l.Local) (n : ℕ) (xs : List (List ℕ)) → ((k : ℕ) → k < n → Contains (slots_of ls) k) → (k : ℕ) → k < n + length xs → Contains (slots_of (z.with_each false ls n xs)) k
params_cover ls n [] c k h = c k (omega (arith, h))
params_cover ls n (x ∷ xs) c k h = params_cover (free x n ∷ ls) (n + 1) xs (covers_more ls n x c) k (omega (arith, h))

back_more : (ls : List l.Local) (n : ℕ) → ((k : ℕ) → Contains (slots_of ls) k → k < n) → (k : ℕ) → Contains (n ∷ slots_of ls) k → k < n + 1
back_more ls n c k h = elim (contains_cases n k (slots_of ls) h) [ inl e ↦ omega (arith, e) | inr g ↦ omega (arith, c k g) ]

params_back : (ls : List l.Local) (n : ℕ) (xs : List (List ℕ)) → ((k : ℕ) → Contains (slots_of ls) k → k < n) → (k : ℕ) → Contains (slots_of (z.with_each false ls n xs)) k → k < n + length xs
params_back ls n [] c k h = omega (arith, c k h)
params_back ls n (x ∷ xs) c k h = let r = params_back (free x n ∷ ls) (n + 1) xs (back_more ls n c) k h in omega (arith, r)

params_free : (ls : List l.Local) (n : ℕ) (xs : List (List ℕ)) → fixed_slots ls ≡ [] → fixed_slots (z.with_each false ls n xs) ≡ []
params_free ls n [] e = e
params_free ls n (x ∷ xs) e = params_free (free x n ∷ ls) (n + 1) xs e

pub params_alike : (xs : List (List ℕ)) → Alike (lawful_scope (z.with_each false [] 0 xs) (length xs) false) (parameters (length xs))
params_alike xs = record {
  shown = λ k h. in_range (length xs) k (let r = params_back [] 0 xs (λ q g. absurd (omega (arith, g.1))) k h in omega (arith, r));
  shown_back = λ k h. params_cover [] 0 xs (λ q g. absurd (omega (arith, g))) k (let r = range_in (length xs) k h in omega (arith, r));
  fixed_back = λ k h. absurd (omega (arith, h.1));
  next = refl;
  in_loop = refl;
}

-- ---- functions

stand_at : (slots : List (List ℕ)) (n k : ℕ) (xs : List (List ℕ)) → n ≡ k → Stand slots n xs → Stand slots k xs
stand_at slots n k xs e h = subst (λ q. Stand slots q xs) e h

-- a function is written with names and numbers that a text can hold, and breaks off in version 2 alone
abbrev IsWrittenIn : RawProgram → RawFunction → Type 0
IsWrittenIn p f = IsWritableFunction f × (holds_break f.body ≡ true → p.version ≡ 2)

may_break : (version : ℕ) (b : Bool) → (version ≡ 1) ⊎ (version ≡ 2) → (version ≡ 1 → b ≡ false) → b ≡ true → version ≡ 2
may_break version b (inl e) h t = let f = h e in cc
may_break version b (inr e) h t = e

pub function_ok : (p : RawProgram) (index : ℕ) (f : RawFunction) → function_faults (record { globals = globals_of p.arrays p.functions; index = index; in_main = false; in_loop = false }) f ≡ [] → IsWrittenIn p f → IsLawfulFunction (resolved p) index (resolved_function (globals_of p.arrays p.functions) f) × (spelled_function (resolved p) (resolved_function (globals_of p.arrays p.functions) f) ≡ f)
function_ok p index f h w =
    let g = globals_of p.arrays p.functions in
    let here : Setting = record { globals = g; index = index; in_main = false; in_loop = false } in
    let slots = f.params ++ names_in f.body in
    let fits = fits_program p index false slots in
    let names = names_at (resolved p) index slots in
    let v = vocabulary (resolved p) slots in
    let n = length f.params in
    let ls = z.with_each false [] 0 f.params in
    let all = stand_self slots in
    let kb = stand_at slots (0 + n) n (names_in f.body) (zero-add n) (stand_right slots 0 f.params (names_in f.body) all) in
    let ps = params_new here names v f.line fits [] 0 (record { there = tt; apart = tt }) (λ q g. absurd (omega (arith, g))) f.params (stand_left slots 0 f.params (names_in f.body) all) (left_none _ _ h) in
    let vh : valued_faults here (scope ls) f.body f.answer_line f.answer ≡ [] = ap (λ sc. valued_faults here sc f.body f.answer_line f.answer) (scope_each-is false [] 0 f.params) ∙ right_none (each_declared_faults here [] f.line f.params) _ h in
    let bo = block_ok here names v ls n fits ps.0 f.body kb (left_none _ _ vh) w.0.2 w.1 in
    let va = value_ok here names v ls n false f.answer_line fits ps.0 f.body f.answer kb (left_none _ _ vh) (right_none (block_faults here (scope ls) f.body) _ vh) w.0.3 in
    let alike = params_alike f.params in (
      record {
        names = all_append IsName f.params (names_in f.body) w.0.1 (names_in_written f.body w.0.2);
        parameters_are_new = λ slot a. ps.1 slot (omega arith) (omega (arith, a));
        body = alike_block names false (lawful_scope ls n false) (parameters n) (resolved_block g ls n f.body) alike bo.0;
        answer = alike_expression names (lawful.scope_at_end (lawful_scope ls n false) (resolved_block g ls n f.body)) (lawful.scope_at_end (parameters n) (resolved_block g ls n f.body)) (z.resolved_expression g (z.locals_at_end ls n f.body) f.answer) (alike_end (lawful_scope ls n false) (parameters n) (resolved_block g ls n f.body) alike) va.0;
        slots = length-append f.params (names_in f.body) ∙ ap (λ q. n + q) (sym (declared_in_is g ls n f.body));
      },
      λ j. record { name = f.name; params = take-append_seam f.params (names_in f.body) j; body = bo.1 j; answer = va.1 j; answer_line = f.answer_line; line = f.line },
    )

-- ---- programs

if_both : {A B : Type 0} (o : Option A) (P Q : A → Type 0) (R : B → Type 0) (f : A → B) → IfSome o P → IfSome o Q → ((x : A) → P x → Q x → R (f x)) → IfSome (option_map f o) R
if_both (Some x) P Q R f p q h = h x p q
if_both None P Q R f p q h = tt

if_each : {A : Type 0} (o : Option A) (P Q R : A → Type 0) → IfSome o P → IfSome o Q → ((x : A) → P x → Q x → R x) → IfSome o R
if_each (Some x) P Q R p q h = h x p q
if_each None P Q R p q h = tt

pub same_all : {A : Type 0} (f : A → A) (xs : List A) → ((i : ℕ) → IfSome (slice_get xs i) (λ x. f x ≡ x)) → map f xs ≡ xs
same_all f [] h = refl
same_all f (x ∷ xs) h = λ j. h 0 j ∷ same_all f xs (λ i. h (suc i)) j

pub program_ok : (p : RawProgram) → faults p ≡ [] → IsWellFormed p → IsScoped (resolved p) × (spelled p.main_line (resolved p) ≡ p)
program_ok p h w =
    let g = globals_of p.arrays p.functions in
    let af = left_none (arrays_faults [] p.arrays) _ h in
    let rest = right_none (arrays_faults [] p.arrays) _ h in
    let ff = left_none (functions_faults g g.arrays 0 p.functions) _ rest in
    let mf = right_none (functions_faults g g.arrays 0 p.functions) _ rest in
    let each : (i : ℕ) → IfSome (slice_get p.functions i) (λ f. function_faults (record { globals = g; index = i; in_main = false; in_loop = false }) f ≡ []) = λ i. subst (λ q. IfSome (slice_get p.functions i) (λ f. function_faults (record { globals = g; index = q; in_main = false; in_loop = false }) f ≡ [])) (zero-add i) (functions_none g g.arrays 0 p.functions ff i) in
    let written : (i : ℕ) → IfSome (slice_get p.functions i) (IsWrittenIn p) = λ i. all_at (IsWrittenIn p) p.functions i (λ k d l. (w.functions k d l, may_break p.version _ w.version (λ e. w.breaks.functions e k d l))) in
    let slots = names_in p.main in
    let here : Setting = record { globals = g; index = length p.functions; in_main = true; in_loop = false } in
    let fits = fits_program p (length p.functions) true slots in
    let mo = block_ok here (names_at (resolved p) (length p.functions) slots) (vocabulary (resolved p) slots) [] 0 fits (record { there = tt; apart = tt }) p.main (stand_self slots) mf w.main (may_break p.version (holds_break p.main) w.version w.breaks.main) in
    let index : length p.functions ≡ length (resolved p).functions = sym (length-map p.functions (resolved_function g)) in (
      record {
        taken_are_names = subst (All IsName) (sym (taken_is p)) (all_append IsName (map (λ (a : Array). a.name) p.arrays) (map (λ (f : RawFunction). f.name) p.functions) (all_map IsWritableArray IsName (λ (a : Array). a.name) p.arrays (λ a q. q.0) w.arrays) (all_map IsWritableFunction IsName (λ (f : RawFunction). f.name) p.functions (λ f q. q.0) w.functions));
        taken_are_different = subst AreDifferent (sym (taken_is p)) (different_functions g g.arrays 0 p.functions (different_arrays [] p.arrays tt af) ff);
        sizes = λ k d q. (let a = w.arrays k d q in (a.1, a.2));
        functions = λ i. subst (λ o. IfSome o (IsLawfulFunction (resolved p) i)) (sym (slice_get-map (resolved_function g) p.functions i)) (if_both (slice_get p.functions i) (λ f. function_faults (record { globals = g; index = i; in_main = false; in_loop = false }) f ≡ []) (IsWrittenIn p) (IsLawfulFunction (resolved p) i) (resolved_function g) (each i) (written i) (λ f a b. (function_ok p i f a b).0));
        slots_are_names = names_in_written p.main w.main;
        main = subst (λ q. IsLawfulBlock (names_at (resolved p) q slots) true (lawful_scope [] 0 false) (resolved_block g [] 0 p.main)) index mo.0;
        slots = sym (declared_in_is g [] 0 p.main);
        version = w.version;
      },
      λ j. record {
        version = p.version;
        arrays = p.arrays;
        functions = (sym (map_twice (resolved_function g) (spelled_function (resolved p)) p.functions) ∙ same_all (λ f. spelled_function (resolved p) (resolved_function g f)) p.functions (λ i. if_each (slice_get p.functions i) (λ f. function_faults (record { globals = g; index = i; in_main = false; in_loop = false }) f ≡ []) (IsWrittenIn p) (λ f. spelled_function (resolved p) (resolved_function g f) ≡ f) (each i) (written i) (λ f a b. (function_ok p i f a b).1))) j;
        main = mo.1 j;
        main_line = p.main_line;
      },
    )
