-- Guesses for the rows at which blocks begin, part by part, by predictors that are expressions and by hosts.
use Rattle.std.specs.Prelude.{ℕ, suc, Bool, true, false, if◌then◌else◌, nat_eq, List, [], ◌∷◌, ◌++◌, drop, map, Result, Ok, Err, ℤ, pos, ◌+ℤ◌}
use Rattle.std.specs.List.{list_any}
use Rattle.spf_ast.specs.declared.outcome.Trap.{Trap}
use Rattle.spf_ast.specs.Carried.{Carried}
use Rattle.spf_ast.specs.Syntax.{Program, Predictor, By, Host}
use Rattle.spf_ast.specs.BlockRun.{predicts}
use Rattle.spf_ast.specs.Construct.{Construct, predictors_of, Header}

-- a guess for the row at which a block begins, and whether an expression of it trapped
pub record Guess : Type 0 where
  pub value : Carried
  pub blind : Bool

-- a guess for one part of a row, and whether its expression trapped
pub record PartGuess : Type 0 where
  pub word : ℤ
  pub traps : Bool

-- the guess by an expression that comes to this: its value, or 0 where it trapped
abbrev pub part_of_result : Result ℤ Trap → PartGuess
part_of_result (Ok word) = record { word = word; traps = false }
part_of_result (Err trap) = record { word = pos 0; traps = true }

-- the guess for a row of these parts; it is blind where at least one of them trapped
abbrev pub guess_of : List PartGuess → Guess
guess_of parts = record { value = map (λ part. part.word) parts; blind = list_any (λ part. part.traps) parts }

-- ---- hosts: predictors that are supplied

-- what a host was told: that a part of the row of the block of this number was this word
pub record Told : Type 0 where
  pub block : ℤ
  pub real : ℤ

-- what each host answers, by its number, after it was told these pairs, the oldest first, for a block number
abbrev pub Hosts : Type 0
Hosts = ℕ → List Told → ℤ → ℤ

-- no host is supplied: each answers 0
abbrev pub no_hosts : Hosts
no_hosts host told block = pos 0

-- what was told, and to which host
pub record Telling : Type 0 where
  pub host : ℕ
  pub told : Told

-- what was told to this host
abbrev pub told_to : ℕ → List Telling → List Told
told_to host [] = []
told_to host (t ∷ ts) = if nat_eq t.host host then t.told ∷ told_to host ts else told_to host ts

-- ---- the guesses of a construct

-- the guess of a part by its predictor, where hosts answer these words and the part's expression comes to this
abbrev pub part_by : (ℕ → ℤ) → Result ℤ Trap → Predictor → PartGuess
part_by answer result (By guess) = part_of_result result
part_by answer result (Host host) = record { word = answer host; traps = false }

-- the guesses of the parts from an index on, where hosts answer these words and the expression at each index comes to this
abbrev pub parts_from : (ℕ → ℤ) → (ℕ → Result ℤ Trap) → ℕ → List Predictor → List PartGuess
parts_from answer result index [] = []
parts_from answer result index (first ∷ others) = part_by answer (result index) first ∷ parts_from answer result (suc index) others

-- The guess for the block of this number of a construct that was entered with these slots and this memory. A host
-- answers after all that it was told, and an expression comes to what it does at the entry.
abbrev pub guess_for : Hosts → List Telling → Program → List ℕ → Construct → List ℤ → List ℤ → ℤ → Guess
guess_for hosts telling p input construct slots memory number =
    guess_of (parts_from (λ host. hosts host (told_to host telling) number) (predicts p input construct slots memory number) 0 (predictors_of construct))

-- ---- what a construct tells

-- the predictor of a part is told the part of the row of this block where it is a host; an expression is told nothing
abbrev pub tells_part : Predictor → ℤ → ℤ → List Telling
tells_part (By guess) block word = []
tells_part (Host host) block word = record { host = host; told = record { block = block; real = word } } ∷ []

-- the predictors are told the parts of the row of this block, from left to right
abbrev pub tells_row : List Predictor → ℤ → Carried → List Telling
tells_row [] block row = []
tells_row (first ∷ others) block [] = []
tells_row (first ∷ others) block (word ∷ words) = tells_part first block word ++ tells_row others block words

-- the predictors are told the rows of blocks with these numbers from one on, in order
abbrev pub tells_from : List Predictor → ℤ → List Carried → List Telling
tells_from predictors block [] = []
tells_from predictors block (row ∷ rows) = tells_row predictors block row ++ tells_from predictors (block +ℤ pos 1) rows

-- what a construct tells whose validated blocks begin at these rows; nothing is told of the first of them
abbrev pub tells : Construct → Header → List Carried → List Telling
tells construct header rows = tells_from (predictors_of construct) (header.low +ℤ pos 1) (drop 1 rows)
