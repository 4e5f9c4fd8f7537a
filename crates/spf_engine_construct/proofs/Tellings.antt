-- What is told of rows, part by part and row by row.
use Rattle.std.proofs.Common.{◌≡◌, ℕ, zero, suc, ◌<◌, ◌≤◌, min, List, [], ◌∷◌, ◌++◌, length, take, Some, ℤ, pos, ◌+ℤ◌, refl, sym, ap, ◌∙◌, arith, append_assoc}
use Rattle.std.proofs.lemmas.List.{append-nil}
use Rattle.std.proofs.lemmas.Int.{ints}
use Rattle.std.specs.Prelude.{slice_get, slice_index_or}
use Rattle.spf_ast.specs.Carried.{Carried}
use Rattle.spf_ast.specs.Syntax.{Predictor}
use Rattle.spf_guess_statistics.specs.Guess.{tells_part, tells_row, tells_from}

-- one more part
pub row-more : (ps : List Predictor) (n : ℕ) (q : Predictor) (number : ℤ) (row : Carried) (w d : ℤ) → slice_get ps n ≡ Some q → n < length row → w ≡ slice_index_or row n d
    → tells_row (take (suc n) ps) number row ≡ tells_row (take n ps) number row ++ tells_part q number w
row-more [] n q number row w d at h read = cc
row-more (p ∷ ps) n q number [] w d at h read = absurd (omega (arith, h))
row-more (p ∷ ps) zero q number (word ∷ words) w d at h read =
    let same : p ≡ q = cc in
    append-nil (tells_part p number word) ∙ (λ i. tells_part (same i) number (sym read i))
row-more (p ∷ ps) (suc n) q number (word ∷ words) w d at h read =
    ap (λ more. tells_part p number word ++ more) (row-more ps n q number words w d at (omega (arith, h)) read)
    ∙ sym (append_assoc (tells_part p number word) (tells_row (take n ps) number words) (tells_part q number w))

-- all parts
pub row-all : (ps : List Predictor) (n : ℕ) (number : ℤ) (row : Carried) → min (length ps) (length row) ≤ n → tells_row (take n ps) number row ≡ tells_row ps number row
row-all [] zero number row h = refl
row-all [] (suc n) number row h = refl
row-all (p ∷ ps) zero number [] h = refl
row-all (p ∷ ps) (suc n) number [] h = refl
row-all (p ∷ ps) zero number (word ∷ words) h = absurd (none (length ps) (length words) h)
  where
    none : (a b : ℕ) → min (suc a) (suc b) ≤ zero → ⊥
    none a b h = omega (arith, h)
row-all (p ∷ ps) (suc n) number (word ∷ words) h = ap (λ more. tells_part p number word ++ more) (row-all ps n number words (fewer (length ps) (length words) h))
  where
    fewer : (a b : ℕ) → min (suc a) (suc b) ≤ suc n → min a b ≤ n
    fewer a b h = omega (arith, h)

-- one more row
pub rows-more : (ps : List Predictor) (first : ℤ) (rows : List Carried) (n : ℕ) (row : Carried) → n < length rows → row ≡ slice_index_or rows n row
    → tells_from ps first (take (suc n) rows) ≡ tells_from ps first (take n rows) ++ tells_row ps (first +ℤ pos n) row
rows-more ps first [] n row h read = absurd (omega (arith, h))
rows-more ps first (x ∷ xs) zero row h read = append-nil (tells_row ps first x) ∙ (λ i. tells_row ps (first_is first i) (sym read i))
  where
    first_is : (z : ℤ) → z ≡ z +ℤ pos 0
    first_is z = grind (arith, ints)
rows-more ps first (x ∷ xs) (suc n) row h read =
    ap (λ more. tells_row ps first x ++ more)
    (rows-more ps (first +ℤ pos 1) xs n row (omega (arith, h)) read ∙ (λ i. tells_from ps (first +ℤ pos 1) (take n xs) ++ tells_row ps (next first n i) row))
    ∙ sym (append_assoc (tells_row ps first x) (tells_from ps (first +ℤ pos 1) (take n xs)) (tells_row ps (first +ℤ pos (suc n)) row))
  where
    next : (z : ℤ) (n : ℕ) → z +ℤ pos 1 +ℤ pos n ≡ z +ℤ pos (suc n)
    next z n = grind (arith, ints)
