-- How good the guesses of a run are: a function of its plain meaning and of its predictors, in which no attempt occurs.
use Rattle.std.specs.Prelude.{ℕ, suc, ◌+◌, Bool, not, if◌then◌else◌, List, [], ◌∷◌, ◌++◌, length, pos, ◌+ℤ◌}
use Rattle.spf_ast.specs.Carried.{Carried, same_carried}
use Rattle.spf_ast.specs.Syntax.{Program}
use Rattle.spf_ast.specs.Construct.{Construct, constructs_in, Reached, reals}
use Rattle.spf_guess_statistics.specs.Guess.{Guess, Hosts, no_hosts, Telling, guess_for, tells}
use Rattle.spf_guess_statistics.specs.declared.stats.Stats.{Stats}

-- a block with a guess, and the row at which it really begins
pub record Guessed : Type 0 where
  pub guess : Guess
  pub real : Carried

-- the blocks from an index on, with their guesses
abbrev pub guessed_from : (ℕ → Guess) → ℕ → List Carried → List Guessed
guessed_from guess n [] = []
guessed_from guess n (real ∷ others) = record { guess = guess n; real = real } ∷ guessed_from guess (suc n) others

-- the blocks that begin at these rows; the first of them has no guess
abbrev pub guessed : (ℕ → Guess) → List Carried → List Guessed
guessed guess [] = []
guessed guess (start ∷ others) = guessed_from guess 1 others

-- ---- counts

-- how many elements a test holds of
abbrev pub how_many : {A : Type 0} → (A → Bool) → List A → ℕ
how_many test [] = 0
how_many test (x ∷ xs) = (if test x then 1 else 0) + how_many test xs

-- a block was guessed right: in all parts
abbrev pub is_hit : Guessed → Bool
is_hit block = same_carried block.guess.value block.real

-- the statistics of no blocks
abbrev pub none : Stats
none = record { blocks = 0; hits = 0; misses = 0; blind = 0 }

-- the sum of two statistics
abbrev pub plus : Stats → Stats → Stats
plus one other = record {
  blocks = one.blocks + other.blocks;
  hits = one.hits + other.hits;
  misses = one.misses + other.misses;
  blind = one.blind + other.blind;
}

-- the statistics of blocks that begin at these rows, with these guesses
abbrev pub statistics_with : (ℕ → Guess) → List Carried → Stats
statistics_with guess values = record {
  blocks = length values;
  hits = how_many is_hit (guessed guess values);
  misses = how_many (λ block. not (is_hit block)) (guessed guess values);
  blind = how_many (λ block. block.guess.blind) (guessed guess values);
}

-- ---- whole runs

-- the guess for a block of a construct that was reached, by the block's index
abbrev pub guess_at : Hosts → List Telling → Program → List ℕ → Construct → Reached → ℕ → Guess
guess_at hosts telling p input construct r n = guess_for hosts telling p input construct r.slots r.memory (r.header.low +ℤ pos n)

-- the statistics of a run, and what its hosts were told
pub record Tally : Type 0 where
  pub stats : Stats
  pub telling : List Telling

-- one construct that was reached, and those after it: its hosts were told these pairs before it, and are told parts of
-- its blocks' rows after it
abbrev pub tally_from : Hosts → Program → List ℕ → List Construct → List Reached → List Telling → Tally
tally_from hosts p input (construct ∷ constructs) (r ∷ others) telling =
    let later = tally_from hosts p input constructs others (telling ++ tells construct r.header r.reals.values) in
    record { stats = plus (statistics_with (guess_at hosts telling p input construct r) r.reals.values) later.stats; telling = later.telling }
tally_from hosts p input _ _ telling = record { stats = none; telling = telling }

-- the tally of a program's run on an input, whose hosts were told nothing before it
abbrev pub tally : Hosts → Program → List ℕ → Tally
tally hosts p input = tally_from hosts p input (constructs_in p.main) (reals p input) []

-- the statistics of a run to which no host is supplied
abbrev pub statistics : Program → List ℕ → Stats
statistics p input = (tally no_hosts p input).stats
