-- What is left to be done at each index of a file, and how often each of its bytes is written.
use Rattle.std.proofs.Common.{◌≡◌, ℕ, zero, suc, ◌-◌, ◌<◌, ◌≤◌, Bool, true, false, List, [], ◌∷◌, ◌++◌, length, drop, replicate, ℤ, pos, negsuc, refl, ap, sym, ◌∙◌, subst, arith, append_assoc, length-append}
use Rattle.std.specs.Prelude.{nat_lt, if◌then◌else◌, slice_index, slice_set, slice_index_or}
use Rattle.std.specs.List.{AllByRecursion}
use Rattle.std.proofs.lemmas.Bool.Decides.{nat_tests}
use Rattle.std.proofs.lemmas.Bool.{lt-ltb}
use Rattle.std.proofs.lemmas.List.{append-nil}
use Rattle.spf_apps_laws.proofs.Bytes.{Header, header_of, copies, skips, repeats, after_header, next_left, times_of, read_on, copies_left, repeats_left}

-- what is left to be done at an index; after the file it stays
abbrev pub left_at : List ℕ → ℕ → ℤ
left_at input zero = pos 0
left_at input (suc p) = if nat_lt p (length input) then next_left (left_at input p) (slice_index input p) else left_at input p

-- how often the byte at an index is written; after the file there is none
abbrev pub times_at : List ℕ → ℕ → ℕ
times_at input p = if nat_lt p (length input) then times_of (left_at input p) else 0

-- these, for the indices before one
abbrev pub times_before : List ℕ → ℕ → List ℤ
times_before input zero = []
times_before input (suc p) = times_before input p ++ pos (times_at input p) ∷ []

-- what is written of the bytes before an index
abbrev pub written_before : List ℕ → ℕ → List ℕ
written_before input zero = []
written_before input (suc p) = written_before input p ++ replicate (times_of (left_at input p)) (slice_index input p)

pub inside_test : (input : List ℕ) (p : ℕ) → p < length input → nat_lt p (length input) ≡ true
inside_test input p h = lt-ltb p (length input) h

pub outside_test : (input : List ℕ) (p : ℕ) → length input ≤ p → nat_lt p (length input) ≡ false
outside_test input p h = grind (arith, nat_tests, h)

pub left_inside : (input : List ℕ) (p : ℕ) → p < length input → left_at input (suc p) ≡ next_left (left_at input p) (slice_index input p)
left_inside input p h = ap (λ b. if b then next_left (left_at input p) (slice_index input p) else left_at input p) (inside_test input p h)

pub left_outside : (input : List ℕ) (p : ℕ) → length input ≤ p → left_at input (suc p) ≡ left_at input p
left_outside input p h = ap (λ b. if b then next_left (left_at input p) (slice_index input p) else left_at input p) (outside_test input p h)

pub times_inside : (input : List ℕ) (p : ℕ) → p < length input → times_at input p ≡ times_of (left_at input p)
times_inside input p h = ap (λ b. if b then times_of (left_at input p) else 0) (inside_test input p h)

pub times_outside : (input : List ℕ) (p : ℕ) → length input ≤ p → times_at input p ≡ 0
times_outside input p h = ap (λ b. if b then times_of (left_at input p) else 0) (outside_test input p h)

pub times_count : (input : List ℕ) (p : ℕ) → length (times_before input p) ≡ p
times_count input zero = refl
times_count input (suc p) = length-append (times_before input p) (pos (times_at input p) ∷ []) ∙ (let e = times_count input p in omega (arith, e))

-- ---- what is left is small

abbrev pub IsSmall : ℤ → Type 0
IsSmall (pos n) = n ≤ 256
IsSmall (negsuc n) = n ≤ 256

small_next : (left : ℤ) (b : ℕ) → b < 256 → IsSmall left → IsSmall (next_left left b)
small_next (pos zero) b h s = by_header (header_of b)
  where
    by_header : Header b → IsSmall (after_header b)
    by_header (copies k) = subst IsSmall (sym (copies_left b k)) (omega (arith, k))
    by_header (skips e) = subst (λ n. IsSmall (after_header n)) (sym e) (omega arith)
    by_header (repeats k) = subst IsSmall (sym (repeats_left b k h)) (omega arith)
small_next (pos (suc n)) b h s = omega (arith, s)
small_next (negsuc n) b h s = omega arith

byte_small : (input : List ℕ) (p : ℕ) → AllByRecursion (λ b. b < 256) input → slice_index input p < 256
byte_small [] p h = omega arith
byte_small (b ∷ input) zero h = h.0
byte_small (b ∷ input) (suc p) h = byte_small input p h.1

pub bytes_small : (input : List ℕ) → AllByRecursion (λ b. b < 256) input → (p : ℕ) → slice_index input p < 256
bytes_small input h p = byte_small input p h

small_chosen : (b : Bool) (x y : ℤ) → IsSmall x → IsSmall y → IsSmall (if b then x else y)
small_chosen true x y h k = h
small_chosen false x y h k = k

pub left_small : (input : List ℕ) → ((p : ℕ) → slice_index input p < 256) → (p : ℕ) → IsSmall (left_at input p)
left_small input h zero = omega arith
left_small input h (suc p) =
    small_chosen (nat_lt p (length input)) (next_left (left_at input p) (slice_index input p)) (left_at input p)
    (small_next (left_at input p) (slice_index input p) (h p) (left_small input h p)) (left_small input h p)

-- ---- the memory

-- the cells when the indices before this one were read
abbrev pub memory_at : List ℕ → ℕ → ℕ → List ℤ
memory_at input room p = times_before input p ++ replicate (room - p) (pos 0)

zero_in : (n i : ℕ) → slice_index_or (replicate n (pos 0)) i (pos 0) ≡ pos 0
zero_in zero i = refl
zero_in (suc n) zero = refl
zero_in (suc n) (suc i) = zero_in n i

-- a cell after a list of them, among zeros
pub zero_behind : (before : List ℤ) (n i : ℕ) → length before ≤ i → slice_index_or (before ++ replicate n (pos 0)) i (pos 0) ≡ pos 0
zero_behind [] n i h = zero_in n i
zero_behind (x ∷ before) n zero h = absurd (omega (arith, h))
zero_behind (x ∷ before) n (suc i) h = zero_behind before n i (omega (arith, h))

-- the first of the zeros is set
pub set_next : (before : List ℤ) (n : ℕ) (v : ℤ) → slice_set (before ++ replicate (suc n) (pos 0)) (length before) v ≡ (before ++ v ∷ []) ++ replicate n (pos 0)
set_next [] n v = refl
set_next (x ∷ before) n v = ap (λ l. x ∷ l) (set_next before n v)

-- or isn't
pub keep_next : (before : List ℤ) (n : ℕ) → before ++ replicate (suc n) (pos 0) ≡ (before ++ pos 0 ∷ []) ++ replicate n (pos 0)
keep_next before n = sym (append_assoc before (pos 0 ∷ []) (replicate n (pos 0)))

-- ---- what is written in all

pub drop_next : (input : List ℕ) (p : ℕ) → p < length input → drop p input ≡ slice_index input p ∷ drop (suc p) input
drop_next [] p h = absurd (omega (arith, h))
drop_next (b ∷ input) zero h = refl
drop_next (b ∷ input) (suc p) h = drop_next input p (omega (arith, h))

drop_all : (input : List ℕ) → drop (length input) input ≡ []
drop_all [] = refl
drop_all (b ∷ input) = drop_all input

-- what was written before an index, and what the rest stands for
pub written_on : (input : List ℕ) (p : ℕ) → p ≤ length input → written_before input p ++ read_on (left_at input p) (drop p input) ≡ read_on (pos 0) input
written_on input zero h = refl
written_on input (suc p) h =
    let before = written_before input p in
    let times = replicate (times_of (left_at input p)) (slice_index input p) in
    ap (λ l. (before ++ times) ++ read_on l (drop (suc p) input)) (left_inside input p (omega (arith, h)))
    ∙ append_assoc before times (read_on (next_left (left_at input p) (slice_index input p)) (drop (suc p) input))
    ∙ ap (λ l. before ++ read_on (left_at input p) l) (sym (drop_next input p (omega (arith, h))))
    ∙ written_on input p (omega (arith, h))

pub written_all : (input : List ℕ) → written_before input (length input) ≡ read_on (pos 0) input
written_all input =
    sym (append-nil (written_before input (length input)))
    ∙ ap (λ l. written_before input (length input) ++ read_on (left_at input (length input)) l) (sym (drop_all input))
    ∙ written_on input (length input) (omega arith)
