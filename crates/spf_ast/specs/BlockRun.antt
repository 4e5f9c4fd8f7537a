-- Runs of single parts of top constructs, as each block of a construct is one.
use Rattle.std.specs.Prelude.{◌≡◌, ◌<◌, ℕ, List, [], length, Result, ℤ}
use Rattle.std.specs.List.{All}
use Rattle.spf_ast.specs.declared.syntax.Part.{Part}
use Rattle.spf_ast.specs.Event.{Event}
use Rattle.spf_ast.specs.declared.outcome.Trap.{Trap}
use Rattle.spf_ast.specs.Interaction.{Interaction, Ending, result_of}
use Rattle.spf_ast.specs.Carried.{Carried}
use Rattle.spf_ast.specs.Syntax.{Program}
use Rattle.spf_ast.specs.Construct.{Construct, part_means, guess_part_means}
use Rattle.spf_ast.specs.Plain.{IsPlainRun, unshared_answer}
use Rattle.spf_ast.specs.Program.{environment_of}

-- what a run of a part starts from: the input, the slots of `main`, the output so far, a block number and a carried row
pub record Setup : Type 0 where
  pub input : List ℕ
  pub slots : List ℤ
  pub output : List ℕ
  pub number : ℤ
  pub carried : Carried

-- the input is bytes, and `main` has its slots
pub record IsSetup (p : Program) (s : Setup) : Type 0 where
  pub bytes : All (λ b. b < 256) s.input
  pub slots : length s.slots ≡ length p.slots

-- the setup of a block of a construct that was entered with these slots; a block run has an output of its own, which is empty at first
abbrev pub block_setup : List ℕ → List ℤ → ℤ → Carried → Setup
block_setup input slots number carried = record { input = input; slots = slots; output = []; number = number; carried = carried }

-- What a run of a part asks of the memory, from a setup. This is the one tree of a part: the interpreter performs it,
-- the rules are proved sound for it, and a block run is its plain run.
abbrev pub part_asks : Program → Construct → Part → Setup → Interaction (Ending Carried)
part_asks p construct part s =
    part_means (environment_of p s.input) construct part s.number s.carried (record { slots = s.slots; output = s.output })

-- the block run of a part from a setup, on a memory: its one list of events, and its answer
abbrev pub IsBlockRun : Program → Construct → Part → Setup → List ℤ → List Event → Ending Carried → Type 0
IsBlockRun p construct part s memory events answer = IsPlainRun (part_asks p construct part s) memory events answer

-- what the guess of one part of a row asks of the memory
abbrev pub guess_asks : Program → Construct → ℕ → List ℕ → List ℤ → ℤ → Interaction (Ending ℤ)
guess_asks p construct index input slots number =
    guess_part_means (environment_of p input) construct index number (record { slots = slots; output = [] })

-- What the guess of a part that is an expression comes to for a block number: its value or its trap, from the slots and
-- the memory at the entry of its construct. No cell is shared: a load gives the entry's word, also after a store. A
-- predictor that is supplied gives no value here.
abbrev pub predicts : Program → List ℕ → Construct → List ℤ → List ℤ → ℤ → ℕ → Result ℤ Trap
predicts p input construct slots memory number index =
    result_of (unshared_answer (guess_asks p construct index input slots number) memory)
