-- A byte of a block.
use Rattle.std.proofs.Common.{◌≡◌, ℕ, zero, suc, ◌+◌, ◌-◌, ◌<◌, ◌≤◌, ◌^◌, Bool, true, false, List, [], ◌∷◌, length, Ok, Err, ℤ, pos, negsuc, refl, ap, sym, ◌∙◌, subst, arith}
use Rattle.std.specs.Prelude.{if◌then◌else◌, slice_index, slice_set, ◌+ℤ◌, ◌-ℤ◌, int_lt}
use Rattle.std.specs.Ordering.{int_eq}
use Rattle.std.proofs.lemmas.Int.{ints}
use Rattle.std.proofs.lemmas.Bool.{lt-ltb}
use Rattle.spf_ast.specs.declared.outcome.TrapKind.TheVariants.{Overflow}
use Rattle.spf_ast.specs.declared.syntax.Op.TheVariants.{Add, Sub}
use Rattle.spf_ast.specs.declared.syntax.Test.TheVariants.{Eq, Lt, Gt}
use Rattle.spf_ast.specs.Word.{exact, binary_words}
use Rattle.spf_ast.specs.Interaction.{Onward, State, Value}
use Rattle.spf_ast.specs.Syntax.{Condition, Block, Local, Len, Input, Compare, Let, Assign, Store, If, end}
use Rattle.spf_ast.specs.Meaning.{Environment, block_means, statement_means, extent_in, condition_means}
use Rattle.spf_ast_laws.proofs.Plainly.{Comes}
use Rattle.spf_apps_programs.specs.Writing.{number, plus, minus, only}
use Rattle.spf_apps_programs.specs.PackBits.{header, copied, repeated, data_byte, one_byte}
use Rattle.spf_apps_laws.proofs.Bytes.{Header, header_of, copies, skips, repeats, after_header, next_left, copies_left, repeats_left}
use Rattle.spf_apps_laws.proofs.Indices.{IsSmall}
use Rattle.spf_apps_laws.proofs.Steps.{gives-number, gives-local, gives-len, gives-input, gives-binary, tells, comes-let, comes-assign, comes-store, comes-on, comes-end, comes-only, comes-then_branch, comes-else_branch, word-ok}

-- the state with these words in the slots, and no output
abbrev pub at : (carried number left index byte out turn : ℤ) → State
at carried number left index byte out turn =
    record { slots = carried ∷ number ∷ left ∷ index ∷ byte ∷ out ∷ turn ∷ []; output = [] }

-- ---- a header

next_word : (b : ℕ) → b < 256 → binary_words Add (pos b) (pos 1) ≡ Ok (pos (suc b))
next_word b h = let sum : pos b +ℤ pos 1 ≡ pos (suc b) = omega (arith, ints) in ap exact sum ∙ word-ok (suc b) (omega (arith, h))

repeat_word : (b : ℕ) → 128 < b → b < 256 → binary_words Sub (pos b) (pos 257) ≡ Ok (negsuc (256 - b))
repeat_word b h k =
    let difference : pos b -ℤ pos 257 ≡ negsuc (256 - b) = grind (arith, ints, h, k) in
    ap exact difference ∙ ap (λ t. if t then Ok (negsuc (256 - b)) else Err Overflow) (lt-ltb (256 - b) (2 ^ 63) (omega arith))

abbrev is_low : Condition
is_low = Compare Lt (Local 4) (number 128)

abbrev is_high : Condition
is_high = Compare Gt (Local 4) (number 128)

abbrev copy : Block
copy = only 11 (Assign 2 (plus (Local 4) (number 1)))

abbrev repeat : Block
repeat = only 14 (Assign 2 (minus (Local 4) (number 257)))

low_tells : (g : Environment) (c k t i x y : ℤ) (b : ℕ) (m : List ℤ) (holds : Bool) → int_lt (pos b) (pos 128) ≡ holds → Comes (condition_means g 10 is_low) (at c k t i (pos b) x y) m (Value holds (at c k t i (pos b) x y)) m
low_tells g c k t i x y b m holds e =
    let s = at c k t i (pos b) x y in
    tells g 10 Lt (Local 4) (number 128) s m (pos b) (pos 128) holds (gives-local g 10 4 s m (pos b) refl) (gives-number g 10 (pos 128) s m) e

high_tells : (g : Environment) (c k t i x y : ℤ) (b : ℕ) (m : List ℤ) (holds : Bool) → int_lt (pos 128) (pos b) ≡ holds → Comes (condition_means g 13 is_high) (at c k t i (pos b) x y) m (Value holds (at c k t i (pos b) x y)) m
high_tells g c k t i x y b m holds e =
    let s = at c k t i (pos b) x y in
    tells g 13 Gt (Local 4) (number 128) s m (pos b) (pos 128) holds (gives-local g 13 4 s m (pos b) refl) (gives-number g 13 (pos 128) s m) e

-- the second branch isn't taken
no_repeat : (g : Environment) (c k t i x y : ℤ) (b : ℕ) (m : List ℤ) → b ≤ 128 → Comes (block_means g (only 13 (If is_high repeat end))) (at c k t i (pos b) x y) m (Value Onward (at c k t i (pos b) x y)) m
no_repeat g c k t i x y b m h =
    let s = at c k t i (pos b) x y in
    let high : int_lt (pos 128) (pos b) ≡ false = grind (arith, ints, h) in
    comes-only g 13 (If is_high repeat end) s s m m
    (comes-else_branch g 13 is_high repeat end s m m (Value Onward s) (high_tells g c k t i x y b m false high) (comes-end g s m))

-- the first branch isn't taken
no_copy : (g : Environment) (c k t i x y : ℤ) (b : ℕ) (m : List ℤ) → 128 ≤ b → Comes (statement_means g 10 (If is_low copy end)) (at c k t i (pos b) x y) m (Value Onward (at c k t i (pos b) x y)) m
no_copy g c k t i x y b m h =
    let s = at c k t i (pos b) x y in
    let low : int_lt (pos b) (pos 128) ≡ false = grind (arith, ints, h) in
    comes-else_branch g 10 is_low copy end s m m (Value Onward s) (low_tells g c k t i x y b m false low) (comes-end g s m)

header-copies : (g : Environment) (c k i x y : ℤ) (b : ℕ) (m : List ℤ) → b < 128 → Comes (block_means g header) (at c k (pos 0) i (pos b) x y) m (Value Onward (at c k (pos (suc b)) i (pos b) x y)) m
header-copies g c k i x y b m h =
    let s = at c k (pos 0) i (pos b) x y in
    let t = at c k (pos (suc b)) i (pos b) x y in
    let low : int_lt (pos b) (pos 128) ≡ true = grind (arith, ints, h) in
    comes-on g 10 (If is_low copy end) (only 13 (If is_high repeat end)) s t m m m (Value Onward t)
    (comes-then_branch g 10 is_low copy end s m m (Value Onward t) (low_tells g c k (pos 0) i x y b m true low)
    (comes-only g 11 (Assign 2 (plus (Local 4) (number 1))) s t m m
    (comes-assign g 11 2 (plus (Local 4) (number 1)) s m (pos (suc b))
    (gives-binary g 11 Add (Local 4) (number 1) s m (pos b) (pos 1) (pos (suc b)) (gives-local g 11 4 s m (pos b) refl) (gives-number g 11 (pos 1) s m) (next_word b (omega (arith, h)))))))
    (no_repeat g c k (pos (suc b)) i x y b m (omega (arith, h)))

header-skips : (g : Environment) (c k i x y : ℤ) (b : ℕ) (m : List ℤ) → b ≡ 128 → Comes (block_means g header) (at c k (pos 0) i (pos b) x y) m (Value Onward (at c k (pos 0) i (pos b) x y)) m
header-skips g c k i x y b m e =
    let s = at c k (pos 0) i (pos b) x y in
    comes-on g 10 (If is_low copy end) (only 13 (If is_high repeat end)) s s m m m (Value Onward s)
    (no_copy g c k (pos 0) i x y b m (omega (arith, e))) (no_repeat g c k (pos 0) i x y b m (omega (arith, e)))

header-repeats : (g : Environment) (c k i x y : ℤ) (b : ℕ) (m : List ℤ) → 128 < b → b < 256 → Comes (block_means g header) (at c k (pos 0) i (pos b) x y) m (Value Onward (at c k (negsuc (256 - b)) i (pos b) x y)) m
header-repeats g c k i x y b m h small =
    let s = at c k (pos 0) i (pos b) x y in
    let u = at c k (negsuc (256 - b)) i (pos b) x y in
    let high : int_lt (pos 128) (pos b) ≡ true = grind (arith, ints, h) in
    comes-on g 10 (If is_low copy end) (only 13 (If is_high repeat end)) s s m m m (Value Onward u)
    (no_copy g c k (pos 0) i x y b m (omega (arith, h)))
    (comes-only g 13 (If is_high repeat end) s u m m
    (comes-then_branch g 13 is_high repeat end s m m (Value Onward u) (high_tells g c k (pos 0) i x y b m true high)
    (comes-only g 14 (Assign 2 (minus (Local 4) (number 257))) s u m m
    (comes-assign g 14 2 (minus (Local 4) (number 257)) s m (negsuc (256 - b))
    (gives-binary g 14 Sub (Local 4) (number 257) s m (pos b) (pos 257) (negsuc (256 - b)) (gives-local g 14 4 s m (pos b) refl) (gives-number g 14 (pos 257) s m) (repeat_word b h small))))))

header-comes : (g : Environment) (c k i x y : ℤ) (b : ℕ) (m : List ℤ) → b < 256 → Comes (block_means g header) (at c k (pos 0) i (pos b) x y) m (Value Onward (at c k (after_header b) i (pos b) x y)) m
header-comes g c k i x y b m small = by_header (header_of b)
  where
    by_header : Header b → Comes (block_means g header) (at c k (pos 0) i (pos b) x y) m (Value Onward (at c k (after_header b) i (pos b) x y)) m
    by_header (copies h) = subst (λ l. Comes (block_means g header) (at c k (pos 0) i (pos b) x y) m (Value Onward (at c k l i (pos b) x y)) m) (sym (copies_left b h)) (header-copies g c k i x y b m h)
    by_header (skips e) = subst (λ l. Comes (block_means g header) (at c k (pos 0) i (pos b) x y) m (Value Onward (at c k l i (pos b) x y)) m) (sym (ap after_header e)) (header-skips g c k i x y b m e)
    by_header (repeats h) = subst (λ l. Comes (block_means g header) (at c k (pos 0) i (pos b) x y) m (Value Onward (at c k l i (pos b) x y)) m) (sym (repeats_left b h small)) (header-repeats g c k i x y b m h small)

-- ---- a byte of data

-- the memory after a byte that comes where this is left to be done
abbrev pub stored : ℤ → ℕ → List ℤ → List ℤ
stored (pos zero) p m = m
stored (pos (suc n)) p m = slice_set m p (pos 1)
stored (negsuc n) p m = slice_set m p (pos (suc n))

abbrev is_copied : Condition
is_copied = Compare Gt (Local 2) (number 0)

copied_tells : (g : Environment) (c k t i b x y : ℤ) (m : List ℤ) (holds : Bool) → int_lt (pos 0) t ≡ holds → Comes (condition_means g 17 is_copied) (at c k t i b x y) m (Value holds (at c k t i b x y)) m
copied_tells g c k t i b x y m holds e =
    let s = at c k t i b x y in
    tells g 17 Gt (Local 2) (number 0) s m t (pos 0) holds (gives-local g 17 2 s m t refl) (gives-number g 17 (pos 0) s m) e

-- a byte that is copied, in an array whose first cell is 0
data-copied : (g : Environment) (c k b x y : ℤ) (p n : ℕ) (m : List ℤ) → (extent_in g.extents 0).0 ≡ 0 → p < (extent_in g.extents 0).1 → n ≤ 256 → Comes (block_means g data_byte) (at c k (pos (suc n)) (pos p) b x y) m (Value Onward (at c k (pos n) (pos p) b x y)) (slice_set m p (pos 1))
data-copied g c k b x y p n m first room small =
    let s = at c k (pos (suc n)) (pos p) b x y in
    let t = at c k (pos n) (pos p) b x y in
    let base = (extent_in g.extents 0).0 in
    let above : int_lt (pos 0) (pos (suc n)) ≡ true = grind (arith, ints) in
    let less : pos (suc n) -ℤ pos 1 ≡ pos n = omega (arith, ints) in
    let cell : base + p ≡ p = omega (arith, first) in
    subst (λ q. Comes (block_means g data_byte) s m (Value Onward t) (slice_set m q (pos 1))) cell
    (comes-only g 17 (If is_copied copied repeated) s t m (slice_set m (base + p) (pos 1))
    (comes-then_branch g 17 is_copied copied repeated s m (slice_set m (base + p) (pos 1)) (Value Onward t) (copied_tells g c k (pos (suc n)) (pos p) b x y m true above)
    (comes-on g 18 (Store 0 (Local 3) (number 1)) (only 19 (Assign 2 (minus (Local 2) (number 1)))) s s m (slice_set m (base + p) (pos 1)) (slice_set m (base + p) (pos 1)) (Value Onward t)
    (comes-store g 18 0 (Local 3) (number 1) s m p (pos 1) (gives-local g 18 3 s m (pos p) refl) (gives-number g 18 (pos 1) s m) room)
    (comes-only g 19 (Assign 2 (minus (Local 2) (number 1))) s t (slice_set m (base + p) (pos 1)) (slice_set m (base + p) (pos 1))
    (comes-assign g 19 2 (minus (Local 2) (number 1)) s (slice_set m (base + p) (pos 1)) (pos n)
    (gives-binary g 19 Sub (Local 2) (number 1) s (slice_set m (base + p) (pos 1)) (pos (suc n)) (pos 1) (pos n) (gives-local g 19 2 s (slice_set m (base + p) (pos 1)) (pos (suc n)) refl) (gives-number g 19 (pos 1) s (slice_set m (base + p) (pos 1))) (ap exact less ∙ word-ok n (omega (arith, small)))))))))

-- a byte that is repeated
data-repeated : (g : Environment) (c k b x y : ℤ) (p n : ℕ) (m : List ℤ) → (extent_in g.extents 0).0 ≡ 0 → p < (extent_in g.extents 0).1 → n ≤ 256 → Comes (block_means g data_byte) (at c k (negsuc n) (pos p) b x y) m (Value Onward (at c k (pos 0) (pos p) b x y)) (slice_set m p (pos (suc n)))
data-repeated g c k b x y p n m first room small =
    let s = at c k (negsuc n) (pos p) b x y in
    let t = at c k (pos 0) (pos p) b x y in
    let base = (extent_in g.extents 0).0 in
    let after = slice_set m (base + p) (pos (suc n)) in
    let above : int_lt (pos 0) (negsuc n) ≡ false = grind (arith, ints) in
    let times : pos 0 -ℤ negsuc n ≡ pos (suc n) = omega (arith, ints) in
    let cell : base + p ≡ p = omega (arith, first) in
    subst (λ q. Comes (block_means g data_byte) s m (Value Onward t) (slice_set m q (pos (suc n)))) cell
    (comes-only g 17 (If is_copied copied repeated) s t m after
    (comes-else_branch g 17 is_copied copied repeated s m after (Value Onward t) (copied_tells g c k (negsuc n) (pos p) b x y m false above)
    (comes-on g 21 (Store 0 (Local 3) (minus (number 0) (Local 2))) (only 22 (Assign 2 (number 0))) s s m after after (Value Onward t)
    (comes-store g 21 0 (Local 3) (minus (number 0) (Local 2)) s m p (pos (suc n)) (gives-local g 21 3 s m (pos p) refl)
    (gives-binary g 21 Sub (number 0) (Local 2) s m (pos 0) (negsuc n) (pos (suc n)) (gives-number g 21 (pos 0) s m) (gives-local g 21 2 s m (negsuc n) refl) (ap exact times ∙ word-ok (suc n) (omega (arith, small)))) room)
    (comes-only g 22 (Assign 2 (number 0)) s t after after
    (comes-assign g 22 2 (number 0) s after (pos 0) (gives-number g 22 (pos 0) s after))))))

-- ---- a byte of the input

abbrev is_header : Condition
is_header = Compare Eq (Local 2) (number 0)

header_tells : (g : Environment) (c k t i b x y : ℤ) (m : List ℤ) (holds : Bool) → int_eq t (pos 0) ≡ holds → Comes (condition_means g 9 is_header) (at c k t i b x y) m (Value holds (at c k t i b x y)) m
header_tells g c k t i b x y m holds e =
    let s = at c k t i b x y in
    tells g 9 Eq (Local 2) (number 0) s m t (pos 0) holds (gives-local g 9 2 s m t refl) (gives-number g 9 (pos 0) s m) e

-- what follows the byte
choice-comes : (g : Environment) (c k x y : ℤ) (left : ℤ) (p b : ℕ) (m : List ℤ) → (extent_in g.extents 0).0 ≡ 0 → p < (extent_in g.extents 0).1 → b < 256 → IsSmall left → Comes (statement_means g 9 (If is_header header data_byte)) (at c k left (pos p) (pos b) x y) m (Value Onward (at c k (next_left left b) (pos p) (pos b) x y)) (stored left p m)
choice-comes g c k x y (pos zero) p b m first room small bound =
    comes-then_branch g 9 is_header header data_byte (at c k (pos 0) (pos p) (pos b) x y) m m (Value Onward (at c k (after_header b) (pos p) (pos b) x y))
    (header_tells g c k (pos 0) (pos p) (pos b) x y m true refl)
    (header-comes g c k (pos p) x y b m small)
choice-comes g c k x y (pos (suc n)) p b m first room small bound =
    let other : int_eq (pos (suc n)) (pos 0) ≡ false = grind (arith, ints) in
    comes-else_branch g 9 is_header header data_byte (at c k (pos (suc n)) (pos p) (pos b) x y) m (slice_set m p (pos 1)) (Value Onward (at c k (pos n) (pos p) (pos b) x y))
    (header_tells g c k (pos (suc n)) (pos p) (pos b) x y m false other)
    (data-copied g c k (pos b) x y p n m first room (omega (arith, bound)))
choice-comes g c k x y (negsuc n) p b m first room small bound =
    let other : int_eq (negsuc n) (pos 0) ≡ false = grind (arith, ints) in
    comes-else_branch g 9 is_header header data_byte (at c k (negsuc n) (pos p) (pos b) x y) m (slice_set m p (pos (suc n))) (Value Onward (at c k (pos 0) (pos p) (pos b) x y))
    (header_tells g c k (negsuc n) (pos p) (pos b) x y m false other)
    (data-repeated g c k (pos b) x y p n m first room bound)

abbrev is_inside : Condition
is_inside = Compare Lt (Local 3) Len

inside_tells : (g : Environment) (c k t b x y : ℤ) (p : ℕ) (m : List ℤ) (holds : Bool) → int_lt (pos p) (pos (length g.input)) ≡ holds → Comes (condition_means g 7 is_inside) (at c k t (pos p) b x y) m (Value holds (at c k t (pos p) b x y)) m
inside_tells g c k t b x y p m holds e =
    let s = at c k t (pos p) b x y in
    tells g 7 Lt (Local 3) Len s m (pos p) (pos (length g.input)) holds (gives-local g 7 3 s m (pos p) refl) (gives-len g 7 s m) e

-- an index in the file
pub index-inside : (g : Environment) (c k left b x y : ℤ) (p : ℕ) (m : List ℤ) → (extent_in g.extents 0).0 ≡ 0 → p < (extent_in g.extents 0).1 → p < length g.input → slice_index g.input p < 256 → IsSmall left
    → Comes (block_means g (only 7 (If is_inside one_byte end))) (at c k left (pos p) b x y) m (Value Onward (at c k (next_left left (slice_index g.input p)) (pos p) (pos (slice_index g.input p)) x y)) (stored left p m)
index-inside g c k left b x y p m first room there small bound =
    let s = at c k left (pos p) b x y in
    let byte = slice_index g.input p in
    let u = at c k left (pos p) (pos byte) x y in
    let t = at c k (next_left left byte) (pos p) (pos byte) x y in
    let low : int_lt (pos p) (pos (length g.input)) ≡ true = grind (arith, ints, there) in
    comes-only g 7 (If is_inside one_byte end) s t m (stored left p m)
    (comes-then_branch g 7 is_inside one_byte end s m (stored left p m) (Value Onward t) (inside_tells g c k left b x y p m true low)
    (comes-on g 8 (Let 4 (Input (Local 3))) (only 9 (If is_header header data_byte)) s u m m (stored left p m) (Value Onward t)
    (comes-let g 8 4 (Input (Local 3)) s m (pos byte) (gives-input g 8 (Local 3) s m p (gives-local g 8 3 s m (pos p) refl) there))
    (comes-only g 9 (If is_header header data_byte) u t m (stored left p m)
    (choice-comes g c k x y left p byte m first room small bound))))

-- an index after the file
pub index-outside : (g : Environment) (c k left b x y : ℤ) (p : ℕ) (m : List ℤ) → length g.input ≤ p → Comes (block_means g (only 7 (If is_inside one_byte end))) (at c k left (pos p) b x y) m (Value Onward (at c k left (pos p) b x y)) m
index-outside g c k left b x y p m out =
    let s = at c k left (pos p) b x y in
    let low : int_lt (pos p) (pos (length g.input)) ≡ false = grind (arith, ints, out) in
    comes-only g 7 (If is_inside one_byte end) s s m m
    (comes-else_branch g 7 is_inside one_byte end s m m (Value Onward s) (inside_tells g c k left b x y p m false low) (comes-end g s m))
