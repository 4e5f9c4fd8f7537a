-- Guesses in pieces of one size, of which the last may be shorter.
use Rattle.std.proofs.Common.{◌≡◌, ℕ, ◌+◌, ◌*◌, ◌-◌, ◌≤◌, ◌++◌, sym, ap, ◌∙◌, arith}
use Rattle.std.specs.Prelude.{min}
use Rattle.std.proofs.Math.Nat.{le_trans, mul-le-mul_right}
use Rattle.spf_engine_construct.specs.Guesses.{Guesses, guesses_from, piece_of}
use Rattle.spf_engine_construct.proofs.Counting.{guesses-append}

-- how many guesses the pieces before one have, with that one
sum : (done size count : ℕ) → min count done + min size (count - done) ≡ min count (done + size)
sum done size count = grind arith

-- that one starts where they end, unless it is empty
starts : (guess : Guesses) (done size count : ℕ) → guesses_from guess (1 + min count done) (min size (count - done)) ≡ guesses_from guess (1 + done) (min size (count - done))
starts guess done size count = grind arith

-- the guesses of one more piece
pub one-piece-more : (guess : Guesses) (i size count : ℕ)
    → guesses_from guess 1 (min count (i * size)) ++ piece_of guess count size i ≡ guesses_from guess 1 (min count ((i + 1) * size))
one-piece-more guess i size count =
    let next : i * size + size ≡ (i + 1) * size = grind arith in
    ap (λ l. guesses_from guess 1 (min count (i * size)) ++ l) (sym (starts guess (i * size) size count))
    ∙ sym (guesses-append guess 1 (min count (i * size)) (min size (count - i * size)))
    ∙ ap (guesses_from guess 1) (sum (i * size) size count ∙ ap (min count) next)

-- enough pieces have all guesses
pub all-pieces : (i pieces size count : ℕ) → pieces ≤ i → count ≤ pieces * size → min count (i * size) ≡ count
all-pieces i pieces size count enough all = least count (i * size) (le_trans all (mul-le-mul_right size enough))
  where
    least : (n m : ℕ) → n ≤ m → min n m ≡ n
    least n m h = grind (arith, h)
