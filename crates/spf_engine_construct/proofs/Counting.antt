-- Guesses one after another, and counts of validated blocks.
use Rattle.std.proofs.Common.{◌≡◌, ℕ, zero, suc, ◌+◌, ◌<◌, ◌≤◌, Bool, true, false, List, [], ◌∷◌, ◌++◌, length, map, drop, ℤ, pos, ◌+ℤ◌, refl, sym, ap, ◌∙◌, arith}
use Rattle.std.proofs.lemmas.Int.{ints}
use Rattle.std.specs.Prelude.{if◌then◌else◌, slice_index_or, ◌≤ℤ◌}
use Rattle.spf_ast.specs.Carried.{Carried}
use Rattle.spf_guess_statistics.specs.declared.guess.Guess as code_guess
use Rattle.spf_guess_statistics.specs.Guess.{Guess}
use Rattle.spf_guess_statistics.specs.Statistics.{guessed_from, statistics_with}
use Rattle.spf_engine_construct.specs.Guesses.{seen_guess, guesses_from, paired, counts_of}

-- one more guess
pub guesses-snoc : (guess : ℕ → Guess) (index count : ℕ) → guesses_from guess index (suc count) ≡ guesses_from guess index count ++ guess (index + count) ∷ []
guesses-snoc guess index zero = let e : index ≡ index + 0 = omega arith in ap (λ n. guess n ∷ []) e
guesses-snoc guess index (suc count) =
    let e : suc index + count ≡ index + suc count = omega arith in
    ap (λ l. guess index ∷ l) (guesses-snoc guess (suc index) count ∙ ap (λ n. guesses_from guess (suc index) count ++ guess n ∷ []) e)

pub guesses-length : (guess : ℕ → Guess) (index count : ℕ) → length (guesses_from guess index count) ≡ count
guesses-length guess index zero = refl
guesses-length guess index (suc count) = ap suc (guesses-length guess (suc index) count)

-- what guesses alike has the same guesses
pub guesses-alike : (one other : ℕ → Guess) → ((n : ℕ) → one n ≡ other n) → (index count : ℕ) → guesses_from one index count ≡ guesses_from other index count
guesses-alike one other same index zero = refl
guesses-alike one other same index (suc count) = λ i. same index i ∷ guesses-alike one other same (suc index) count i

-- guesses in two parts
pub guesses-append : (guess : ℕ → Guess) (index first second : ℕ) → guesses_from guess index (first + second) ≡ guesses_from guess index first ++ guesses_from guess (index + first) second
guesses-append guess index zero second =
    let none : zero + second ≡ second = omega arith in
    let here : index ≡ index + zero = omega arith in
    ap (guesses_from guess index) none ∙ ap (λ n. guesses_from guess n second) here
guesses-append guess index (suc first) second =
    let more : suc first + second ≡ suc (first + second) = omega arith in
    let after : suc index + first ≡ index + suc first = omega arith in
    ap (guesses_from guess index) more
    ∙ ap (λ l. guess index ∷ l) (guesses-append guess (suc index) first second ∙ ap (λ n. guesses_from guess (suc index) first ++ guesses_from guess n second) after)

-- the block at an index with its guess
pub pair-step : (gs : List code_guess.Guess) (bs : List Carried) (index : ℕ) (g : code_guess.Guess) (b : Carried) → index < length gs → index < length bs
    → g ≡ slice_index_or gs index g → b ≡ slice_index_or bs index b
    → paired (drop index (map seen_guess gs)) (drop index bs) ≡ record { guess = seen_guess g; real = b } ∷ paired (drop (suc index) (map seen_guess gs)) (drop (suc index) bs)
pair-step [] bs index g b l k read_g read_b = absurd (omega (arith, l))
pair-step (x ∷ gs) [] index g b l k read_g read_b = absurd (omega (arith, k))
pair-step (x ∷ gs) (y ∷ bs) zero g b l k read_g read_b = λ i. record { guess = seen_guess (sym read_g i); real = sym read_b i } ∷ paired (map seen_guess gs) bs
pair-step (x ∷ gs) (y ∷ bs) (suc index) g b l k read_g read_b = pair-step gs bs index g b (omega (arith, l)) (omega (arith, k)) read_g read_b

-- one more is counted
pub add-step : (new old one more was total : ℕ) → new ≡ old + one → was ≡ one + more → old + was ≡ total → new + more ≡ total
add-step new old one more was total e f h = omega (arith, e, f, h)

-- nothing more is counted
pub add-none : (n was total : ℕ) → was ≡ 0 → n + was ≡ total → n ≡ total
add-none n was total e h = omega (arith, e, h)

-- after the last block there is none
pub none-left : {A : Type 0} (xs : List A) (n : ℕ) → length xs ≤ n → drop n xs ≡ []
none-left [] zero h = refl
none-left [] (suc n) h = refl
none-left (x ∷ xs) zero h = absurd (omega (arith, h))
none-left (x ∷ xs) (suc n) h = none-left xs n (omega (arith, h))

pub paired-nothing : (gs : List Guess) → paired gs [] ≡ []
paired-nothing [] = refl
paired-nothing (g ∷ gs) = refl

pub paired-none : (gs : List Guess) (rs : List Carried) (index : ℕ) → length rs ≤ index → paired (drop index gs) (drop index rs) ≡ []
paired-none gs rs index h = ap (paired (drop index gs)) (none-left rs index h) ∙ paired-nothing (drop index gs)

-- the guesses for blocks from an index on, with the blocks
pub paired-is : (guess : ℕ → Guess) (index count : ℕ) (rs : List Carried) → length rs ≤ count → paired (guesses_from guess index count) rs ≡ guessed_from guess index rs
paired-is guess index zero [] h = refl
paired-is guess index zero (r ∷ rs) h = absurd (omega (arith, h))
paired-is guess index (suc count) [] h = refl
paired-is guess index (suc count) (r ∷ rs) h = ap (λ l. record { guess = guess index; real = r } ∷ l) (paired-is guess (suc index) count rs (omega (arith, h)))

-- a count grows by one at most
pub at-most-more : (new old n : ℕ) (b : Bool) → new ≡ old + (if b then 1 else 0) → old ≤ n → new ≤ suc n
at-most-more new old n true e h = omega (arith, e, h)
at-most-more new old n false e h = omega (arith, e, h)

-- the counts of blocks are their statistics
pub counts-are : (guess : ℕ → Guess) (count : ℕ) (values : List Carried) → length values ≤ count + 1 → counts_of (length values) (paired (guesses_from guess 1 count) (drop 1 values)) ≡ statistics_with guess values
counts-are guess count [] h = ap (counts_of 0) (paired-nothing (guesses_from guess 1 count))
counts-are guess count (v ∷ others) h = ap (counts_of (length (v ∷ others))) (paired-is guess 1 count others (omega (arith, h)))

-- how many guesses there are
pub guess-count : (items : List code_guess.Guess) (guess : ℕ → Guess) (index count : ℕ) → map seen_guess items ≡ guesses_from guess index count → length items ≡ count
guess-count [] guess index zero h = refl
guess-count (x ∷ items) guess index zero h = cc
guess-count [] guess index (suc count) h = cc
guess-count (x ∷ items) guess index (suc count) h = ap suc (guess-count items guess (suc index) count (ap (drop 1) h))

-- the guess for a block
pub guess-at : (items : List code_guess.Guess) (guess : ℕ → Guess) (index count n : ℕ) (g : code_guess.Guess) → map seen_guess items ≡ guesses_from guess index count → n < count
    → g ≡ slice_index_or items n g → seen_guess g ≡ guess (index + n)
guess-at [] guess index zero n g h low read = absurd (omega (arith, low))
guess-at (x ∷ items) guess index zero n g h low read = absurd (omega (arith, low))
guess-at [] guess index (suc count) n g h low read = cc
guess-at (x ∷ items) guess index (suc count) zero g h low read =
    let here : index ≡ index + 0 = omega arith in
    ap seen_guess read ∙ ap (head_or (seen_guess x)) h ∙ ap guess here
  where
    head_or : Guess → List Guess → Guess
    head_or d [] = d
    head_or d (g ∷ gs) = g
guess-at (x ∷ items) guess index (suc count) (suc n) g h low read =
    let there : suc index + n ≡ index + suc n = omega arith in
    guess-at items guess (suc index) count n g (ap (drop 1) h) (omega (arith, low)) read ∙ ap guess there

-- the row of the guess for a block
pub row-at : (items : List code_guess.Guess) (guess : ℕ → Guess) (index count n : ℕ) → map seen_guess items ≡ guesses_from guess index count → n < count
    → slice_index_or (map (λ (g : code_guess.Guess). g.value) items) n [] ≡ (guess (index + n)).value
row-at [] guess index zero n h low = absurd (omega (arith, low))
row-at (x ∷ items) guess index zero n h low = absurd (omega (arith, low))
row-at [] guess index (suc count) n h low = cc
row-at (x ∷ items) guess index (suc count) zero h low =
    let here : index ≡ index + 0 = omega arith in
    ap head-value h ∙ ap (λ k. (guess k).value) here
  where
    head-value : List Guess → Carried
    head-value [] = []
    head-value (g ∷ gs) = g.value
row-at (x ∷ items) guess index (suc count) (suc n) h low =
    let there : suc index + n ≡ index + suc n = omega arith in
    row-at items guess (suc index) count n (ap (drop 1) h) (omega (arith, low)) ∙ ap (λ k. (guess k).value) there

-- what fits with many blocks fits with few
pub fewer-fit : (low most : ℤ) (few many : ℕ) → few ≤ many → (low +ℤ pos many) ≤ℤ most → (low +ℤ pos few) ≤ℤ most
fewer-fit low most few many h fits = grind (arith, ints, h, fits)
