-- Where limits are passed, and that they are kept elsewhere.
use Rattle.std.proofs.Common.{◌≡◌, ℕ, ◌+◌, ◌-◌, ◌^◌, ◌<◌, ◌≤◌, zero, suc, Bool, true, false, not, ◌&&◌, nat_lt, Some, None, List, [], ◌∷◌, ◌++◌, length, get_or, drop, map, inl, inr, refl, sym, ap, ◌∙◌, subst, arith}
use Rattle.std.specs.Prelude.{slice_get, nat_le}
use Rattle.std.specs.Option.{option_map}
use Rattle.std.proofs.lemmas.Bool.{cases_order}
use Rattle.std.proofs.lemmas.Bool.Decides.{nat_tests}
use Rattle.std.proofs.lemmas.List.{length-map, length-drop, drop_all}
use Rattle.std.proofs.lemmas.Option.{slice_get-map}
use Rattle.spf_ast.specs.declared.syntax.Array as code_array
use Rattle.spf_ast.specs.declared.syntax.Function as code_function
use Rattle.spf_ast.specs.Syntax.{Array, Function, Program}
use Rattle.spf_ast.specs.View.{array, function}
use Rattle.spf_ast.specs.Size.{by_size, by_depth, by_slots, block_measure, function_measure, counted_before, function_sizes, function_depths, function_slots, IsWithinLimits}
use Rattle.spf_types_size.specs.declared.size.Size.{Size}
use Rattle.spf_types_names.specs.declared.fault.TypeFault.TheVariants.{TooLarge}
use Rattle.spf_types_names.specs.declared.fault.TypeError.TheVariants.{Refused}
use Rattle.spf_types_names.specs.Faults.{when, first}
use Rattle.spf_types_size.specs.Sizes.{capped, counts_before, all_counts, HasSize, IsTable}
use Rattle.spf_types.specs.TooLarge.{large_array, large_arrays, large_functions, is_main_small, limits_passed}
use Rattle.spf_types_size.proofs.Lists.{item_at, get_is}
use Rattle.spf_types_size.proofs.Counted.{counted_at, counted_stays, counted_beyond, added}
use Rattle.spf_types_size.proofs.Tables.{AreCounted, none_counted, one_counted, all_counted, function_there}
use Rattle.spf_types_forms.proofs.Steps.{none_in, behind, append_none}

-- a count passes a limit exactly where the capped one does
pub same_small : (s n limit : ℕ) → s ≡ capped n → limit < 2 ^ 64 - 1 → nat_le s limit ≡ nat_le n limit
same_small s n limit e h = grind (arith, nat_tests)

-- the first functions are measured and keep their limits
pub record AreMeasured (raw : List code_function.Function) (sizes : List Size) (index : ℕ) : Type 0 where
  pub counted : AreCounted raw sizes index
  pub faults : large_functions (all_counts (map function raw)).nodes 0 (map function raw) ≡ large_functions (all_counts (map function raw)).nodes index (map function (drop index raw))

pub none_measured : (raw : List code_function.Function) → AreMeasured raw [] 0
none_measured raw = record { counted = none_counted raw; faults = refl }

-- what is left of the functions at an index
pub functions_behind : (raw : List code_function.Function) (sizes : List Size) (index : ℕ) (f : code_function.Function) (size : Size) → index < length raw → f ≡ get_or raw index f → AreMeasured raw sizes index → HasSize (counts_before (map function raw) index) (λ m. function_measure m (function f)) size →
    large_functions (all_counts (map function raw)).nodes 0 (map function raw) ≡ when (not (nat_lt index 256 && nat_le size.nodes 65536)) TooLarge f.line ++ large_functions (all_counts (map function raw)).nodes (index + 1) (map function (drop (index + 1) raw))
functions_behind raw sizes index f size h is so has =
    let fs = map function raw in
    let all = (all_counts fs).nodes in
    let measure = λ (sizes : ℕ → ℕ) (g : Function). function_measure (by_size sizes) g in
    let count : length (map function raw) ≡ (length raw - suc index) + suc index = simp length-map (omega arith) in
    let counts : all index ≡ function_measure (by_size (counts_before fs index).nodes) (function f) = ap (λ n. counted_before fs measure n index) count ∙ counted_stays fs measure (suc index) index (length raw - suc index) (omega arith) ∙ counted_at fs measure index (function f) (function_there raw index f h is) in
    let small : nat_le (all index) 65536 ≡ nat_le size.nodes 65536 = ap (λ n. nat_le n 65536) counts ∙ sym (same_small size.nodes (function_measure (by_size (counts_before fs index).nodes) (function f)) 65536 has.nodes_is (omega arith)) in
    so.faults ∙ ap (λ xs. large_functions all index (map function xs)) (item_at raw index f h is)
    ∙ ap (λ b. when (not (nat_lt index 256 && b)) TooLarge f.line ++ large_functions all (index + 1) (map function (drop (index + 1) raw))) small

-- one more function
pub one_measured : (raw : List code_function.Function) (sizes : List Size) (index : ℕ) (f : code_function.Function) (size now : Size) (later : List Size) → index < length raw → f ≡ get_or raw index f → AreMeasured raw sizes index → HasSize (counts_before (map function raw) index) (λ m. function_measure m (function f)) size →
    (nat_lt index 256 && nat_le size.nodes 65536) ≡ true → now.nodes ≡ size.nodes → now.depth ≡ size.depth → now.slots ≡ capped (length f.slots.items + size.slots) → later ≡ sizes ++ now ∷ [] → AreMeasured raw later (index + 1)
one_measured raw sizes index f size now later h is so has small a b c push =
    let fs = map function raw in
    record {
      counted = one_counted raw sizes index f size now later h is so.counted has a b c push;
      faults =
          functions_behind raw sizes index f size h is so has
          ∙ ap (λ t. when (not t) TooLarge f.line ++ large_functions (all_counts fs).nodes (index + 1) (map function (drop (index + 1) raw))) small;
    }

-- a function that passes a limit
pub refused_function : (raw : List code_function.Function) (sizes : List Size) (index : ℕ) (f : code_function.Function) (size : Size) → index < length raw → f ≡ get_or raw index f → AreMeasured raw sizes index → HasSize (counts_before (map function raw) index) (λ m. function_measure m (function f)) size →
    (nat_lt index 256 && nat_le size.nodes 65536) ≡ false → first (large_functions (all_counts (map function raw)).nodes 0 (map function raw)) ≡ Some (record { what = TooLarge; line = f.line })
refused_function raw sizes index f size h is so has large =
    ap first (functions_behind raw sizes index f size h is so has)
    ∙ ap (λ t. first (when (not t) TooLarge f.line ++ large_functions (all_counts (map function raw)).nodes (index + 1) (map function (drop (index + 1) raw)))) large

-- all functions are measured
pub all_measured : (raw : List code_function.Function) (sizes : List Size) (index : ℕ) → length raw ≤ index → index ≤ length raw → AreMeasured raw sizes index →
    (large_functions (all_counts (map function raw)).nodes 0 (map function raw) ≡ []) × IsTable (all_counts (map function raw)) sizes
all_measured raw sizes index h k so = (
  so.faults ∙ ap (λ xs. large_functions (all_counts (map function raw)).nodes index (map function xs)) (drop_all index raw h),
  all_counted raw sizes index h k so.counted,
)

-- ---- arrays

pub drop_at : {A : Type 0} (xs : List A) (n : ℕ) (x : A) → slice_get xs n ≡ Some x → drop n xs ≡ x ∷ drop (suc n) xs
drop_at [] n x e = cc
drop_at (y ∷ ys) zero x e = let same : y ≡ x = cc in ap (λ z. z ∷ ys) same
drop_at (y ∷ ys) (suc n) x e = drop_at ys n x e

pub drop_none : {A : Type 0} (xs : List A) (n : ℕ) → slice_get xs n ≡ None → drop n xs ≡ []
drop_none [] zero e = refl
drop_none [] (suc n) e = refl
drop_none (y ∷ ys) zero e = cc
drop_none (y ∷ ys) (suc n) e = drop_none ys n e

-- the first array that is too many
pub refused_array : (raw : List code_array.Array) (a : code_array.Array) → 64 < length raw → a ≡ get_or raw 64 a → first (large_arrays (map array raw)) ≡ Some (record { what = TooLarge; line = a.line })
refused_array raw a h is =
    let at : slice_get (map array raw) 64 ≡ Some (array a) = slice_get-map array raw 64 ∙ ap (option_map array) (get_is raw 64 a h is) in
    ap (λ xs. first (map large_array xs)) (drop_at (map array raw) 64 (array a) at)

pub few_arrays : (raw : List code_array.Array) → length raw ≤ 64 → large_arrays (map array raw) ≡ []
few_arrays raw h = let l : length (map array raw) ≤ 64 = simp length-map h in ap (map large_array) (drop_all 64 (map array raw) l)

-- ---- `main`

-- what is measured of `main` tells whether it keeps its limits
pub same_main : (p : Program) (main all : Size) → HasSize (all_counts p.functions) (λ m. block_measure m p.main) main → all.nodes ≡ main.nodes → all.depth ≡ main.depth → all.slots ≡ capped (length p.slots + main.slots) →
    (nat_le all.nodes 65536 && (nat_le all.depth 256 && nat_le all.slots 1024)) ≡ is_main_small p
same_main p main all has a b c =
    let slots = c ∙ added (length p.slots) main.slots (block_measure (by_slots (function_slots p)) p.main) has.slots_is in
    let x = same_small all.nodes (block_measure (by_size (function_sizes p)) p.main) 65536 (a ∙ has.nodes_is) (omega arith) in
    let y = same_small all.depth (block_measure (by_depth (function_depths p)) p.main) 256 (b ∙ has.depth_is) (omega arith) in
    let z = same_small all.slots (length p.slots + block_measure (by_slots (function_slots p)) p.main) 1024 slots (omega arith) in
    λ i. (x i && (y i && z i))

pub none_at_main : (line : ℕ) (p : Program) → large_arrays p.arrays ≡ [] → large_functions (function_sizes p) 0 p.functions ≡ [] → is_main_small p ≡ true → limits_passed line p ≡ []
none_at_main line p a f m =
    none_in (large_arrays p.arrays) (large_functions (function_sizes p) 0 p.functions ++ when (not (is_main_small p)) TooLarge line) a
    (none_in (large_functions (function_sizes p) 0 p.functions) (when (not (is_main_small p)) TooLarge line) f (ap (λ b. when (not b) TooLarge line) m))

pub refused_main : (line : ℕ) (p : Program) → large_arrays p.arrays ≡ [] → large_functions (function_sizes p) 0 p.functions ≡ [] → is_main_small p ≡ false → first (limits_passed line p) ≡ Some (record { what = TooLarge; line = line })
refused_main line p a f m =
    behind (large_arrays p.arrays) (large_functions (function_sizes p) 0 p.functions ++ when (not (is_main_small p)) TooLarge line) (Refused TooLarge line) a
    (behind (large_functions (function_sizes p) 0 p.functions) (when (not (is_main_small p)) TooLarge line) (Refused TooLarge line) f (ap (λ b. first (when (not b) TooLarge line)) m))

-- ---- limits that are kept

when_none : (b : Bool) (line : ℕ) → when (not b) TooLarge line ≡ [] → b ≡ true
when_none true line e = refl
when_none false line e = cc

is_below : (a b : ℕ) → nat_lt a b ≡ true → a < b
is_below a b e = grind (arith, nat_tests)

below_is : (a b : ℕ) → a < b → nat_lt a b ≡ true
below_is a b e = grind (arith, nat_tests)

is_at_most : (a b : ℕ) → nat_le a b ≡ true → a ≤ b
is_at_most a b e = grind (arith, nat_tests)

at_most_is : (a b : ℕ) → a ≤ b → nat_le a b ≡ true
at_most_is a b e = grind (arith, nat_tests)

both : (a b : Bool) → (a && b) ≡ true → (a ≡ true) × (b ≡ true)
both true b e = (refl, e)
both false b e = cc

both_are : (a b : Bool) → a ≡ true → b ≡ true → (a && b) ≡ true
both_are a b e f = ap (λ t. t && b) e ∙ f

arrays_kept : (arrays : List Array) → large_arrays arrays ≡ [] → length arrays ≤ 64
arrays_kept arrays e =
    let n : length (large_arrays arrays) ≡ 0 = ap length e in
    let m = length-map (drop 64 arrays) large_array in
    let d = length-drop 64 arrays in
    omega (arith, n, m, d)

functions_kept : (sizes : ℕ → ℕ) (index : ℕ) (fs : List Function) → large_functions sizes index fs ≡ [] → (k : ℕ) → k < length fs → (index + k < 256) × (sizes (index + k) ≤ 65536)
functions_kept sizes index [] e k h = absurd (omega (arith, h))
functions_kept sizes index (f ∷ fs) e zero h =
    let t = when_none (nat_lt index 256 && nat_le (sizes index) 65536) f.line (append_none (when (not (nat_lt index 256 && nat_le (sizes index) 65536)) TooLarge f.line) (large_functions sizes (index + 1) fs) e).0 in
    let b = both (nat_lt index 256) (nat_le (sizes index) 65536) t in
    subst (λ n. (n < 256) × (sizes n ≤ 65536)) (let z : index ≡ index + 0 = omega arith in z) (is_below index 256 b.0, is_at_most (sizes index) 65536 b.1)
functions_kept sizes index (f ∷ fs) e (suc k) h =
    let rest = (append_none (when (not (nat_lt index 256 && nat_le (sizes index) 65536)) TooLarge f.line) (large_functions sizes (index + 1) fs) e).1 in
    subst (λ n. (n < 256) × (sizes n ≤ 65536)) (let z : index + 1 + k ≡ index + suc k = omega arith in z) (functions_kept sizes (index + 1) fs rest k (omega (arith, h)))

functions_none : (sizes : ℕ → ℕ) (index : ℕ) (fs : List Function) → ((k : ℕ) → k < length fs → (index + k < 256) × (sizes (index + k) ≤ 65536)) → large_functions sizes index fs ≡ []
functions_none sizes index [] h = refl
functions_none sizes index (f ∷ fs) h =
    let here = subst (λ n. (n < 256) × (sizes n ≤ 65536)) (let z : index + 0 ≡ index = omega arith in z) (h 0 (omega arith)) in
    let t = both_are (nat_lt index 256) (nat_le (sizes index) 65536) (below_is index 256 here.0) (at_most_is (sizes index) 65536 here.1) in
    let later = λ (k : ℕ) (l : k < length fs). subst (λ n. (n < 256) × (sizes n ≤ 65536)) (let z : index + suc k ≡ index + 1 + k = omega arith in z) (h (suc k) (omega (arith, l))) in
    ap (λ b. when (not b) TooLarge f.line ++ large_functions sizes (index + 1) fs) t ∙ functions_none sizes (index + 1) fs later

few : (n : ℕ) → (0 < n → 0 + (n - 1) < 256) → n ≤ 256
few zero h = omega arith
few (suc n) h = let last = h (omega arith) in omega (arith, last)

-- a program that passes no limit keeps all
pub none_passed : (line : ℕ) (p : Program) → limits_passed line p ≡ [] → IsWithinLimits p
none_passed line p e =
    let fs = p.functions in
    let a = append_none (large_arrays p.arrays) (large_functions (function_sizes p) 0 fs ++ when (not (is_main_small p)) TooLarge line) e in
    let f = append_none (large_functions (function_sizes p) 0 fs) (when (not (is_main_small p)) TooLarge line) a.1 in
    let each : (k : ℕ) → k < length fs → (0 + k < 256) × (function_sizes p k ≤ 65536) = λ k l. subst (λ n. (0 + k < 256) × (function_sizes p n ≤ 65536)) (let z : 0 + k ≡ k = omega arith in z) (functions_kept (function_sizes p) 0 fs f.0 k l) in
    let m = when_none (is_main_small p) line f.1 in
    let size = nat_le (block_measure (by_size (function_sizes p)) p.main) 65536 in
    let depth = nat_le (block_measure (by_depth (function_depths p)) p.main) 256 in
    let slots = nat_le (length p.slots + block_measure (by_slots (function_slots p)) p.main) 1024 in
    let s = both size (depth && slots) m in
    let d = both depth slots s.1 in
    let last : 0 < length fs → 0 + (length fs - 1) < 256 = λ l. (each (length fs - 1) (omega (arith, l))).0 in
    record {
      arrays = arrays_kept p.arrays a.0;
      functions = few (length fs) last;
      function_size = λ k. elim (cases_order k (length fs)) [
        | inl same ↦ beyond k (omega (arith, same))
        | inr order ↦ elim order [ inl l ↦ (each k l).1 | inr g ↦ beyond k (omega (arith, g)) ]
      ];
      size = is_at_most (block_measure (by_size (function_sizes p)) p.main) 65536 s.0;
      depth = is_at_most (block_measure (by_depth (function_depths p)) p.main) 256 d.0;
      slots = is_at_most (length p.slots + block_measure (by_slots (function_slots p)) p.main) 1024 d.1;
    }
  where
    beyond : (k : ℕ) → length p.functions ≤ k → function_sizes p k ≤ 65536
    beyond k l =
        let z = counted_beyond p.functions (λ (sizes : ℕ → ℕ) (g : Function). function_measure (by_size sizes) g) (length p.functions) k l in
        omega (arith, z)

-- and one that keeps all passes none
pub kept_none : (line : ℕ) (p : Program) → IsWithinLimits p → limits_passed line p ≡ []
kept_none line p h =
    let fs = p.functions in
    let count = h.functions in
    let each : (k : ℕ) → k < length fs → (0 + k < 256) × (function_sizes p (0 + k) ≤ 65536) = λ k l. (omega (arith, l, count), h.function_size (0 + k)) in
    let m = both_are (nat_le (block_measure (by_size (function_sizes p)) p.main) 65536) _ (at_most_is (block_measure (by_size (function_sizes p)) p.main) 65536 h.size) (both_are (nat_le (block_measure (by_depth (function_depths p)) p.main) 256) (nat_le (length p.slots + block_measure (by_slots (function_slots p)) p.main) 1024) (at_most_is (block_measure (by_depth (function_depths p)) p.main) 256 h.depth) (at_most_is (length p.slots + block_measure (by_slots (function_slots p)) p.main) 1024 h.slots)) in
    none_at_main line p (ap (map large_array) (drop_all 64 p.arrays h.arrays)) (functions_none (function_sizes p) 0 fs each) m
