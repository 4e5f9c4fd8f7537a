-- What the blocks of a construct come to.
use Rattle.std.specs.Prelude.{◌≡◌, ◌≤◌, ℕ, List, length, Some, slice_get, ℤ}
use Rattle.spf_ast.specs.Meaning.{max_blocks}
use Rattle.spf_ast.specs.Carried as carried
use Rattle.spf_ast.specs.Construct.{constructs_in}
use Rattle.spf_ast.specs.ConstructView.{construct as seen_construct}
use Rattle.spf_ast.specs.Program.{cell_count_of}
use Rattle.spf_ast.specs.Syntax.{Program}
use Rattle.spf_check.specs.Plans.{AreBlocksOf}
use Rattle.spf_exec.specs.declared.pieces.Header.{Header}
use Rattle.spf_exec.specs.Pieces.{seen_header}
use Rattle.spf_exec_instance.specs.Frame.{frame_size, main_slots}
use Rattle.spf_exec_instance.specs.Instance.{program_of}
use Rattle.spf_speculation_entry.specs.Entry.{Entry, plain_blocks}
use Rattle.spf_speculation.specs.Steps.{Step, Merges}
use Rattle.spf_speculation.specs.Runs.{IsSpeculativeRun}
use Rattle.spf_speculation_lanes.specs.Lanes.{logs_in}
use Rattle.spf_chain.specs.declared.block.Settled.TheVariants.{Carried}
use Rattle.spf_cells.specs.declared.view.LogEntry.{LogEntry}
use Rattle.spf_chain.specs.declared.block.Settled.{Settled}
use Rattle.spf_chain.specs.Chains.{chain_cells, HasEnded}
use Rattle.spf_chain.specs.Finishing.{result_as, IsFinished}
use Rattle.spf_guess_statistics.specs.Guess.{Guess}
use Rattle.spf_guess_statistics.specs.Statistics.{statistics_with}
use Rattle.spf_engine_construct.specs.declared.guesses.ReachedConstruct.{ReachedConstruct}
use Rattle.spf_engine_construct.specs.declared.construct.Blocks.{Blocks}
use Rattle.spf_engine_construct.specs.declared.construct.ConstructReport.{ConstructReport}

-- a run of this program stands at one of its top constructs, the one at its index, whose header is done: frame and cells are the program's
pub record IsAtConstruct (p : Program) (at : ReachedConstruct) (header : Header) : Type 0 where
  pub program : program_of at.instance.now ≡ p
  pub construct : slice_get (constructs_in (program_of at.instance.now).main) at.index ≡ Some (seen_construct at.construct)
  pub blocks : AreBlocksOf (seen_construct at.construct) header.blocks
  pub some : 1 ≤ header.blocks
  pub few : header.blocks ≤ max_blocks
  pub frame : length at.frame.now ≡ frame_size (program_of at.instance.now)
  pub cells : length at.cells.now ≡ cell_count_of (program_of at.instance.now) (length at.instance.now.input)

-- the entry of the construct at which a run stands
abbrev pub entry_of : ReachedConstruct → Header → Entry
entry_of at header = record {
  program = program_of at.instance.now;
  construct = seen_construct at.construct;
  input = at.instance.now.input;
  slots = main_slots (program_of at.instance.now) at.frame.now;
  memory = at.cells.now;
  header = seen_header header;
}

-- The blocks from this entry came to this, and left this memory: the result is that of their plain run, and where
-- none traps, so is the memory. The statistics compare the guesses with the real rows. The trace has one log for each
-- block, and every merging of them that keeps the order of each log is a speculative run from these guesses.
pub record ComesTo (e : Entry) (guess : ℕ → Guess) (report : ConstructReport) (memory : List ℤ) : Type 0 where
  pub result : (plain_blocks e).result ≡ result_as report.settled
  pub plain_memory : (v : carried.Carried) → report.settled ≡ Carried v → memory ≡ (plain_blocks e).memory
  pub statistics : report.stats ≡ statistics_with guess (plain_blocks e).values
  pub logs : length report.trace ≡ e.header.blocks
  pub merging : (steps : List Step) → Merges e.header.blocks (logs_in report.trace) steps
      → IsSpeculativeRun e (λ n. (guess n).value) steps (plain_blocks e).values (result_as report.settled)

-- the blocks can be written back: their chain has ended, and the cells are its own
pub record CanBeWrittenBack (b : Blocks) : Type 0 where
  pub ended : HasEnded b.chain
  pub own : b.cells ≡ chain_cells b.chain

-- whatever these blocks give when they are written back to the entry's memory, the blocks come to it
abbrev pub ComeTo : Entry → (ℕ → Guess) → Blocks → Type 0
ComeTo e guess b =
    (settled : Settled) (trace : List (List LogEntry)) (memory after : List ℤ)
    → IsFinished b.chain settled trace memory after → memory ≡ e.memory → ComesTo e guess (record { settled = settled; stats = b.stats; trace = trace }) after
