-- What attempts of a block are read with.
use Rattle.std.specs.Prelude.{◌≡◌, ◌≢◌, ℕ, Some, length, slice_get}
use Rattle.spf_ast.specs.declared.syntax.Part.TheVariants.{Predictor}
use Rattle.spf_ast.specs.Construct.{constructs_in, part_of}
use Rattle.spf_ast.specs.ConstructView.{construct as seen_construct}
use Rattle.spf_ast.specs.Program.{cell_count_of}
use Rattle.spf_ast.specs.Silence.{FunctionsAreSilent, PartIsSilent}
use Rattle.spf_region.specs.Cells.{in_spans}
use Rattle.spf_exec_instance.specs.Frame.{frame_size, main_slots}
use Rattle.spf_exec_instance.specs.Instance.{program_of}
use Rattle.spf_exec.specs.declared.block_run.BlockRun.{BlockRun}
use Rattle.spf_speculation_entry.specs.Entry.{Entry, number_of, own}
use Rattle.spf_replay.specs.declared.context.BlockContext.{BlockContext}

-- the block can be run there: it is one of a top construct of the program, frame and cells are the program's, and neither its part nor a function emits
pub record CanRun (context : BlockContext) (block : BlockRun) : Type 0 where
  pub top : slice_get (constructs_in (program_of context.instance.now).main) block.index ≡ Some (seen_construct block.construct)
  pub cells : length context.entry.now ≡ cell_count_of (program_of context.instance.now) (length context.instance.now.input)
  pub frame : length context.frame.now ≡ frame_size (program_of context.instance.now)
  pub silent : PartIsSilent (seen_construct block.construct) block.part
  pub functions_silent : FunctionsAreSilent (program_of context.instance.now).functions
  pub run : block.part ≢ Predictor

-- the context and the block are those of block n of an entry
pub record IsContextOf (e : Entry) (n : ℕ) (context : BlockContext) (block : BlockRun) : Type 0 where
  pub program : program_of context.instance.now ≡ e.program
  pub input : context.instance.now.input ≡ e.input
  pub slots : main_slots (program_of context.instance.now) context.frame.now ≡ e.slots
  pub memory : context.entry.now ≡ e.memory
  pub cells : (cell : ℕ) → in_spans context.spans.now cell ≡ own e n cell
  pub same_construct : seen_construct block.construct ≡ e.construct
  pub part : block.part ≡ part_of e.construct n
  pub number : block.number ≡ number_of e n
