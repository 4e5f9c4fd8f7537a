-- The bits of a content by their indices: the number at each of them, and the symbol whose code word ends there.
use Rattle.std.proofs.Common.{◌≡◌, ◌⊎◌, ℕ, zero, suc, ◌+◌, ◌-◌, ◌*◌, ◌/◌, ◌%◌, ◌^◌, ◌<◌, ◌≤◌, Bool, true, false, List, [], ◌∷◌, ◌++◌, length, map, drop, replicate, ℤ, pos, refl, ap, sym, ◌∙◌, arith, append_assoc, append-nil, length-append}
use Rattle.std.specs.Prelude.{◌==◌, nat_lt, if◌then◌else◌, slice_index, slice_index_or, slice_set}
use Rattle.std.proofs.lemmas.Bool.{lt-ltb}
use Rattle.std.proofs.lemmas.Bool.Decides.{nat_tests}
use Rattle.std.proofs.lemmas.List.{get_or-append-add, get_or_append_left, set-append_right, length-map}
use Rattle.spf_ast_lemmas.proofs.Members.{cases}
use Rattle.spf_apps_formats.specs.Huffman.{bits, bits_of}
use Rattle.spf_apps_formats.proofs.PrefixFree.{bits_length}
use Rattle.spf_apps_laws.proofs.Indices.{set_next, keep_next, zero_behind}
use Rattle.spf_apps_laws.proofs.HufWords.{next_number, entry_at, symbol, found_from, grown, kept}

-- ---- the bits of bytes

bit_of_bits : (n v j : ℕ) → j < n → slice_index_or (bits n v) j false ≡ (v / 2 ^ (n - suc j) % 2 == 1)
bit_of_bits zero v j h = absurd (omega (arith, h))
bit_of_bits (suc n) v zero h = ap (λ k. v / 2 ^ k % 2 == 1) (let e : n ≡ suc n - 1 = omega arith in e)
bit_of_bits (suc n) v (suc j) h = bit_of_bits n v j (omega (arith, h)) ∙ ap (λ k. v / 2 ^ k % 2 == 1) (let e : n - suc j ≡ suc n - suc (suc j) = omega arith in e)

pub bit_there : (content : List ℕ) (i j : ℕ) → i < length content → j < 8 → slice_index_or (bits_of content) (8 * i + j) false ≡ (slice_index content i / 2 ^ (7 - j) % 2 == 1)
bit_there [] i j h k = absurd (omega (arith, h))
bit_there (b ∷ content) zero j h k =
    let first : 8 * 0 + j ≡ j = omega arith in
    ap (λ p. slice_index_or (bits 8 b ++ bits_of content) p false) first
    ∙ get_or_append_left (bits 8 b) (bits_of content) false j (omega (arith, k, bits_length 8 b))
    ∙ bit_of_bits 8 b j k
    ∙ ap (λ e. b / 2 ^ e % 2 == 1) (let e : 8 - suc j ≡ 7 - j = omega arith in e)
bit_there (b ∷ content) (suc i) j h k =
    let far : 8 * suc i + j ≡ length (bits 8 b) + (8 * i + j) = omega (arith, bits_length 8 b) in
    ap (λ p. slice_index_or (bits 8 b ++ bits_of content) p false) far
    ∙ get_or-append-add (bits 8 b) (bits_of content) (8 * i + j) false
    ∙ bit_there content i j (omega (arith, h)) k

pub bits_long : (content : List ℕ) → length (bits_of content) ≡ 8 * length content
bits_long [] = refl
bits_long (b ∷ content) = length-append (bits 8 b) (bits_of content) ∙ (let e = bits_long content in omega (arith, e, bits_length 8 b))

-- ---- indices

-- the number at an index; after the bits it stays
abbrev pub number_at : List ℕ → List Bool → ℕ → ℕ
number_at code all zero = 1
number_at code all (suc p) = if nat_lt p (length all) then next_number code (number_at code all p) (slice_index_or all p false) else number_at code all p

-- the entry of the code word that ends with the bit at an index
abbrev pub entry_of : List ℕ → List Bool → ℕ → ℕ
entry_of code all p = entry_at code (number_at code all p) (slice_index_or all p false)

-- what its cell is set to; after the bits there is none
abbrev pub cell_at : List ℕ → List Bool → ℕ → ℕ
cell_at code all p = if nat_lt p (length all) then entry_of code all p else 0

-- these, for the indices before one
abbrev pub cells_before : List ℕ → List Bool → ℕ → List ℤ
cells_before code all zero = []
cells_before code all (suc p) = cells_before code all p ++ pos (cell_at code all p) ∷ []

-- the symbols of the indices before one
abbrev pub found_before : List ℕ → List Bool → ℕ → List ℕ
found_before code all zero = []
found_before code all (suc p) = found_before code all p ++ symbol (entry_of code all p)

inside_test : (all : List Bool) (p : ℕ) → p < length all → nat_lt p (length all) ≡ true
inside_test all p h = lt-ltb p (length all) h

outside_test : (all : List Bool) (p : ℕ) → length all ≤ p → nat_lt p (length all) ≡ false
outside_test all p h = grind (arith, nat_tests, h)

pub number_inside : (code : List ℕ) (all : List Bool) (p : ℕ) → p < length all → number_at code all (suc p) ≡ next_number code (number_at code all p) (slice_index_or all p false)
number_inside code all p h = ap (λ b. if b then next_number code (number_at code all p) (slice_index_or all p false) else number_at code all p) (inside_test all p h)

pub number_outside : (code : List ℕ) (all : List Bool) (p : ℕ) → length all ≤ p → number_at code all (suc p) ≡ number_at code all p
number_outside code all p h = ap (λ b. if b then next_number code (number_at code all p) (slice_index_or all p false) else number_at code all p) (outside_test all p h)

pub cell_inside : (code : List ℕ) (all : List Bool) (p : ℕ) → p < length all → cell_at code all p ≡ entry_of code all p
cell_inside code all p h = ap (λ b. if b then entry_of code all p else 0) (inside_test all p h)

pub cell_outside : (code : List ℕ) (all : List Bool) (p : ℕ) → length all ≤ p → cell_at code all p ≡ 0
cell_outside code all p h = ap (λ b. if b then entry_of code all p else 0) (outside_test all p h)

pub cells_count : (code : List ℕ) (all : List Bool) (p : ℕ) → length (cells_before code all p) ≡ p
cells_count code all zero = refl
cells_count code all (suc p) = length-append (cells_before code all p) (pos (cell_at code all p) ∷ []) ∙ (let e = cells_count code all p in omega (arith, e))

-- numbers are those of the table
next_small : (code : List ℕ) (h : ℕ) (b : Bool) → next_number code h b < 65536
next_small code zero b = omega arith
next_small code (suc h) b = by_test (nat_lt 65535 (grown (suc h) b)) refl
  where
    kept_small : (e n : ℕ) → n < 65536 → kept e n < 65536
    kept_small zero n k = k
    kept_small (suc y) n k = omega arith

    by_test : (c : Bool) → nat_lt 65535 (grown (suc h) b) ≡ c → (if c then 0 else kept (slice_index code (grown (suc h) b)) (grown (suc h) b)) < 65536
    by_test true e = omega arith
    by_test false e = kept_small (slice_index code (grown (suc h) b)) (grown (suc h) b) (grind (arith, nat_tests, e))

small_chosen : (b : Bool) (x y n : ℕ) → x < n → y < n → (if b then x else y) < n
small_chosen true x y n h k = h
small_chosen false x y n h k = k

one_small : 1 < 65536
one_small = omega arith

pub number_small : (code : List ℕ) (all : List Bool) (p : ℕ) → number_at code all p < 65536
number_small code all zero = one_small
number_small code all (suc p) =
    small_chosen (nat_lt p (length all)) (next_number code (number_at code all p) (slice_index_or all p false)) (number_at code all p) 65536
    (next_small code (number_at code all p) (slice_index_or all p false)) (number_small code all p)

-- ---- all symbols

drop_next : (all : List Bool) (p : ℕ) → p < length all → drop p all ≡ slice_index_or all p false ∷ drop (suc p) all
drop_next [] p h = absurd (omega (arith, h))
drop_next (b ∷ all) zero h = refl
drop_next (b ∷ all) (suc p) h = drop_next all p (omega (arith, h))

drop_all : (all : List Bool) → drop (length all) all ≡ []
drop_all [] = refl
drop_all (b ∷ all) = drop_all all

found_on : (code : List ℕ) (all : List Bool) (p : ℕ) → p ≤ length all → found_before code all p ++ found_from code (number_at code all p) (drop p all) ≡ found_from code 1 all
found_on code all zero h = refl
found_on code all (suc p) h =
    let before = found_before code all p in
    let n = number_at code all p in
    let b = slice_index_or all p false in
    let one = symbol (entry_of code all p) in
    ap (λ k. (before ++ one) ++ found_from code k (drop (suc p) all)) (number_inside code all p (omega (arith, h)))
    ∙ append_assoc before one (found_from code (next_number code n b) (drop (suc p) all))
    ∙ ap (λ l. before ++ found_from code n l) (sym (drop_next all p (omega (arith, h))))
    ∙ found_on code all p (omega (arith, h))

pub found_all : (code : List ℕ) (all : List Bool) → found_before code all (length all) ≡ found_from code 1 all
found_all code all =
    sym (append-nil (found_before code all (length all)))
    ∙ ap (λ l. found_before code all (length all) ++ found_from code (number_at code all (length all)) l) (sym (drop_all all))
    ∙ found_on code all (length all) (omega arith)

-- ---- the cells

-- the cells of the table, and of the indices before one that were read
abbrev pub cells_at : List ℕ → List Bool → ℕ → ℕ → List ℤ
cells_at code all room p = map pos code ++ (cells_before code all p ++ replicate (room - p) (pos 0))

pub table_word : (code : List ℕ) (rest : List ℤ) (i : ℕ) → i < length code → slice_index_or (map pos code ++ rest) i (pos 0) ≡ pos (slice_index code i)
table_word [] rest i h = absurd (omega (arith, h))
table_word (x ∷ code) rest zero h = refl
table_word (x ∷ code) rest (suc i) h = table_word code rest i (omega (arith, h))

pub table_set : (code : List ℕ) (rest : List ℤ) (i v : ℕ) → i < length code → slice_set (map pos code ++ rest) i (pos v) ≡ map pos (slice_set code i v) ++ rest
table_set [] rest i v h = absurd (omega (arith, h))
table_set (x ∷ code) rest zero v h = refl
table_set (x ∷ code) rest (suc i) v h = ap (λ l. pos x ∷ l) (table_set code rest i v (omega (arith, h)))

-- a word after the table
pub word_after_table : (code : List ℕ) (rest : List ℤ) (n i : ℕ) → length code ≡ n → slice_index_or (map pos code ++ rest) (n + i) (pos 0) ≡ slice_index_or rest i (pos 0)
word_after_table code rest n i h =
    ap (λ k. slice_index_or (map pos code ++ rest) (k + i) (pos 0)) (sym (length-map code pos ∙ h))
    ∙ get_or-append-add (map pos code) rest i (pos 0)

-- the next cell is set
pub cell_set : (code : List ℕ) (all : List Bool) (n room p v : ℕ) → length code ≡ n → p < room → slice_set (cells_at code all room p) (n + p) (pos v) ≡ map pos code ++ ((cells_before code all p ++ pos v ∷ []) ++ replicate (room - suc p) (pos 0))
cell_set code all n room p v h there =
    let before = cells_before code all p in
    let index : (n + p) - n ≡ p = omega arith in
    let many : room - p ≡ suc (room - suc p) = omega (arith, there) in
    set-append_right (map pos code) (before ++ replicate (room - p) (pos 0)) n (n + p) (pos v) (length-map code pos ∙ h) (omega arith)
    ∙ ap (λ l. map pos code ++ l)
    ((λ i. slice_set (before ++ replicate (many i) (pos 0)) (index i) (pos v))
    ∙ ap (λ k. slice_set (before ++ replicate (suc (room - suc p)) (pos 0)) k (pos v)) (sym (cells_count code all p))
    ∙ set_next before (room - suc p) (pos v))

-- or stays 0
pub cell_kept : (code : List ℕ) (all : List Bool) (room p : ℕ) → p < room → cells_at code all room p ≡ map pos code ++ ((cells_before code all p ++ pos 0 ∷ []) ++ replicate (room - suc p) (pos 0))
cell_kept code all room p there =
    let many : room - p ≡ suc (room - suc p) = omega (arith, there) in
    ap (λ l. map pos code ++ l)
    (ap (λ k. cells_before code all p ++ replicate k (pos 0)) many ∙ keep_next (cells_before code all p) (room - suc p))

-- the cells of indices that weren't read are 0
pub cells_zero : (code : List ℕ) (all : List Bool) (n room p c : ℕ) → length code ≡ n → n + p ≤ c → slice_index_or (cells_at code all room p) c (pos 0) ≡ pos 0
cells_zero code all n room p c h there =
    ap (λ (l : List ℤ). slice_index_or l c (pos 0)) (sym (append_assoc (map pos code) (cells_before code all p) (replicate (room - p) (pos 0))))
    ∙ zero_behind (map pos code ++ cells_before code all p) (room - p) c (omega (arith, there, h, length-map code pos, cells_count code all p, length-append (map pos code) (cells_before code all p)))

-- after the bits nothing changes
pub stays_outside : (code : List ℕ) (all : List Bool) (room p n : ℕ) → length all ≤ p → p + n ≤ room → (number_at code all (p + n) ≡ number_at code all p) × (cells_at code all room p ≡ cells_at code all room (p + n))
stays_outside code all room p zero h k =
    let same : p + 0 ≡ p = omega arith in (ap (number_at code all) same, ap (cells_at code all room) (sym same))
stays_outside code all room p (suc n) h k =
    let next : p + suc n ≡ suc p + n = omega arith in
    let rest = stays_outside code all room (suc p) n (omega (arith, h)) (omega (arith, k)) in
    let one : cells_at code all room p ≡ cells_at code all room (suc p) =
    cell_kept code all room p (omega (arith, k)) ∙ ap (λ v. map pos code ++ ((cells_before code all p ++ pos v ∷ []) ++ replicate (room - suc p) (pos 0))) (sym (cell_outside code all p h)) in
    (ap (number_at code all) next ∙ rest.0 ∙ number_outside code all p h, one ∙ rest.1 ∙ ap (cells_at code all room) (sym next))

-- the cell of an index that was read
cells_word : (code : List ℕ) (all : List Bool) (far : ℕ) (behind : List ℤ) (p : ℕ) → p < far → slice_index_or (cells_before code all far ++ behind) p (pos 0) ≡ pos (cell_at code all p)
cells_word code all zero behind p h = absurd (omega (arith, h))
cells_word code all (suc far) behind p h =
    let whole = append_assoc (cells_before code all far) (pos (cell_at code all far) ∷ []) behind in
    ap (λ (l : List ℤ). slice_index_or l p (pos 0)) whole
    ∙ cases (below p far h)
    (λ before. cells_word code all far (pos (cell_at code all far) ∷ behind) p before)
    (λ here. ap (λ q. slice_index_or (cells_before code all far ++ pos (cell_at code all far) ∷ behind) q (pos 0)) (here ∙ sym (cells_count code all far)) ∙ at_seam (cells_before code all far) (pos (cell_at code all far)) behind ∙ ap (λ q. pos (cell_at code all q)) (sym here))
  where
    below : (k n : ℕ) → k < suc n → (k < n) ⊎ (k ≡ n)
    below k n l = grind (arith, l)

    at_seam : (before : List ℤ) (v : ℤ) (more : List ℤ) → slice_index_or (before ++ v ∷ more) (length before) (pos 0) ≡ v
    at_seam [] v more = refl
    at_seam (x ∷ before) v more = at_seam before v more

pub read_word : (code : List ℕ) (all : List Bool) (n room far p : ℕ) → length code ≡ n → p < far → p < length all → slice_index_or (cells_at code all room far) (n + p) (pos 0) ≡ pos (entry_of code all p)
read_word code all n room far p h there inside =
    word_after_table code (cells_before code all far ++ replicate (room - far) (pos 0)) n p h
    ∙ cells_word code all far (replicate (room - far) (pos 0)) p there
    ∙ ap pos (cell_inside code all p inside)
