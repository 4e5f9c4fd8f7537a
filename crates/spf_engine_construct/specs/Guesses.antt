-- The guesses for a construct's blocks, and how good they were.
use Rattle.std.specs.Prelude.{◌≤◌, ◌+◌, ◌-◌, ◌*◌, min, ℕ, zero, suc, not, List, [], ◌∷◌, map, Result, ℤ, pos, ◌+ℤ◌}
use Rattle.spf_ast.specs.declared.outcome.Trap.{Trap}
use Rattle.spf_ast.specs.Carried.{Carried}
use Rattle.spf_ast.specs.Construct.{Construct, predictors_of}
use Rattle.spf_ast.specs.ConstructView.{construct as seen_construct}
use Rattle.spf_exec.specs.declared.pieces.Header.{Header}
use Rattle.spf_exec_instance.specs.Frame.{main_slots}
use Rattle.spf_exec_instance.specs.Instance.{program_of}
use Rattle.spf_guess_statistics.specs.declared.guess.Guess as code_guess
use Rattle.spf_chain.specs.declared.block.ChainBlock.{ChainBlock}
use Rattle.spf_guess_statistics.specs.declared.stats.Stats.{Stats}
use Rattle.spf_guess_statistics.specs.Guess.{Guess, Hosts, no_hosts, Telling, told_to, guess_for}
use Rattle.spf_guess_statistics.specs.Statistics.{Guessed, is_hit, how_many}
use Rattle.spf_guess.specs.Missing.{AreAllHandedIn}
use Rattle.spf_engine_construct.specs.declared.guesses.ReachedConstruct.{ReachedConstruct}

-- a guess, as definitions see it
abbrev pub seen_guess : code_guess.Guess → Guess
seen_guess guess = record { value = guess.value; blind = guess.blind }

-- the guess there for a block number, where these hosts were told these pairs
abbrev pub guess_there : Hosts → List Telling → ReachedConstruct → ℤ → Guess
guess_there hosts telling at number = guess_for hosts telling (program_of at.instance.now) at.instance.now.input
    (seen_construct at.construct) (main_slots (program_of at.instance.now) at.frame.now) at.cells.now number

-- the same for a block of a construct with this header, by the block's index
abbrev pub block_guess : Hosts → List Telling → ReachedConstruct → Header → ℕ → Guess
block_guess hosts telling at header n = guess_there hosts telling at (header.low +ℤ pos n)

-- the guess there of the expressions alone: a part that a host guesses is 0
abbrev pub predicted : ReachedConstruct → ℤ → Guess
predicted at number = guess_there no_hosts [] at number

-- the same for a block of a construct with this header, by the block's index
abbrev pub predicted_at : ReachedConstruct → Header → ℕ → Guess
predicted_at at header n = predicted at (header.low +ℤ pos n)

-- the word that a host answers for a block number, where these hosts were told these pairs
abbrev pub answered : Hosts → List Telling → ℤ → ℕ → ℤ
answered hosts telling number host = hosts host (told_to host telling) number

-- what the expression of each part comes to, by the part's index
abbrev pub Results : Type 0
Results = ℕ → Result ℤ Trap

-- the hosts that a construct names are among the first `count` hosts
abbrev pub IsHandedIn : ℕ → Construct → Type 0
IsHandedIn count construct = AreAllHandedIn count (predictors_of construct)

-- the guesses for a number of blocks from an index on
abbrev pub guesses_from : (ℕ → Guess) → ℕ → ℕ → List Guess
guesses_from guess n zero = []
guesses_from guess n (suc count) = guess n ∷ guesses_from guess (suc n) count

-- a guess for each block, by its index
abbrev pub Guesses : Type 0
Guesses = ℕ → Guess

-- the guesses of the piece at an index, where `count` guesses from index 1 on are cut into pieces of this size, of which the last may be shorter
abbrev pub piece_of : Guesses → ℕ → ℕ → ℕ → List Guess
piece_of guess count size i = guesses_from guess (1 + i * size) (min size (count - i * size))

-- ---- counts

-- the real rows of validated blocks
abbrev pub real_values : List ChainBlock → List Carried
real_values history = map (λ b. b.row) history

-- blocks with their guesses, as far as there are both
abbrev pub paired : List Guess → List Carried → List Guessed
paired (guess ∷ guesses) (real ∷ reals) = record { guess = guess; real = real } ∷ paired guesses reals
paired _ _ = []

-- the statistics of a number of blocks, those of them with guesses being these
abbrev pub counts_of : ℕ → List Guessed → Stats
counts_of blocks guessed_blocks = record {
  blocks = blocks;
  hits = how_many is_hit guessed_blocks;
  misses = how_many (λ block. not (is_hit block)) guessed_blocks;
  blind = how_many (λ block. block.guess.blind) guessed_blocks;
}

-- each count is at most this much
pub record AreAtMost (stats : Stats) (most : ℕ) : Type 0 where
  pub blocks : stats.blocks ≤ most
  pub hits : stats.hits ≤ most
  pub misses : stats.misses ≤ most
  pub blind : stats.blind ≤ most
