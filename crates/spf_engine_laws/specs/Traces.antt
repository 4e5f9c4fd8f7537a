-- The traces of a run: for each construct with blocks, what its attempts left in the logs of its lanes.
use Rattle.std.specs.Prelude.{◌≡◌, ℕ, zero, suc, List, [], ◌∷◌, ◌++◌, length, Result}
use Rattle.spf_ast.specs.declared.outcome.Trap.{Trap}
use Rattle.spf_ast.specs.Carried.{Carried}
use Rattle.spf_ast.specs.Syntax.{Program}
use Rattle.spf_ast.specs.Construct.{Construct, Reached, RealValues}
use Rattle.spf_ast_laws.specs.Chained.{is_trap}
use Rattle.spf_cells.specs.declared.view.LogEntry.{LogEntry}
use Rattle.spf_speculation_entry.specs.Entry.{Entry}
use Rattle.spf_speculation.specs.Steps.{Step, Merges}
use Rattle.spf_speculation.specs.Runs.{IsSpeculativeRun}
use Rattle.spf_speculation_lanes.specs.Lanes.{logs_in}
use Rattle.spf_guess_statistics.specs.Guess.{Hosts, Telling, tells}
use Rattle.spf_guess_statistics.specs.Statistics.{guess_at}

-- the logs of a construct's lanes, block by block
abbrev pub Trace : Type 0
Trace = List (List LogEntry)

-- the entry of a construct that the plain run reached
abbrev pub entry_reached : Program → List ℕ → Construct → Reached → Entry
entry_reached p input construct r = record {
  program = p;
  construct = construct;
  input = input;
  slots = r.slots;
  memory = r.memory;
  header = r.header;
}

-- these steps are a speculative run with the real rows of the plain run, and end with a trap where the plain run does
pub record IsRunReached (e : Entry) (guess : ℕ → Carried) (reals : RealValues) (steps : List Step) : Type 0 where
  pub result : Result Carried Trap
  pub run : IsSpeculativeRun e guess steps reals.values result
  pub trapped : is_trap result ≡ reals.trapped

-- a trace has one log for each block, and every merging of the logs that keeps the order of each log is a speculative run
pub record IsTraceOf (e : Entry) (guess : ℕ → Carried) (reals : RealValues) (trace : Trace) : Type 0 where
  pub logs : length trace ≡ e.header.blocks
  pub merging : (steps : List Step) → Merges e.header.blocks (logs_in trace) steps → IsRunReached e guess reals steps

-- the first trace is that of a construct with this many blocks, and the others are those of later constructs; a
-- construct without blocks has no trace
abbrev pub begin_with : ℕ → (Trace → Type 0) → (List Trace → Type 0) → List Trace → Type 0
begin_with zero First Later traces = Later traces
begin_with (suc blocks) First Later [] = ⊥
begin_with (suc blocks) First Later (trace ∷ traces) = First trace × Later traces

-- one trace for each construct that was reached and has blocks, in their order, each with its predictor's guesses;
-- before the first of them hosts were told these pairs
abbrev pub AreTraces : Hosts → Program → List ℕ → List Construct → List Reached → List Telling → List Trace → Type 0
AreTraces hosts p input (construct ∷ constructs) (r ∷ others) telling traces =
    begin_with r.header.blocks
    (IsTraceOf (entry_reached p input construct r) (λ n. (guess_at hosts telling p input construct r n).value) r.reals)
    (λ later. AreTraces hosts p input constructs others (telling ++ tells construct r.header r.reals.values) later)
    traces
AreTraces hosts p input _ _ telling traces = traces ≡ []
