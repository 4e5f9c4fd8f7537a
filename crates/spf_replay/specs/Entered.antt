-- A construct that a run has reached.
use Rattle.std.specs.Prelude.{◌≡◌, ◌≤◌, ◌+◌, ℕ, suc, List, map, length, slice_get, Some, pos, ◌+ℤ◌, ◌≤ℤ◌}
use Rattle.spf_ast.specs.Carried.{Carried}
use Rattle.spf_ast.specs.Construct.{constructs_in, part_of}
use Rattle.spf_ast.specs.ConstructView.{construct as seen_construct}
use Rattle.spf_ast.specs.Meaning.{max_blocks}
use Rattle.spf_ast.specs.Program.{cell_count_of}
use Rattle.spf_ast.specs.Silence.{FunctionsAreSilent, PartIsSilent}
use Rattle.spf_region.specs.declared.span.Span.{Span}
use Rattle.spf_region.specs.Cells.{in_spans}
use Rattle.spf_exec_instance.specs.Frame.{frame_size, main_slots}
use Rattle.spf_exec_instance.specs.Instance.{program_of}
use Rattle.spf_exec.specs.Pieces.{seen_header}
use Rattle.spf_guess_statistics.specs.declared.guess.Guess.{Guess}
use Rattle.spf_speculation_entry.specs.Entry.{Entry, IsEntry, own, plain_blocks}
use Rattle.spf_replay.specs.declared.entered.EnteredConstruct.{EnteredConstruct}

-- its entry
abbrev pub entry_of : EnteredConstruct → Entry
entry_of c = record {
  program = program_of c.instance.now;
  construct = seen_construct c.construct;
  input = c.instance.now.input;
  slots = main_slots (program_of c.instance.now) c.frame.now;
  memory = c.cells.now;
  header = seen_header c.header;
}

-- it is one of the program's, rollback free, with blocks that don't emit; frame and cells are the program's, there are
-- spans for each block, and a guess for each but the first; and the real rows are those of the plain run
pub record IsEntered (c : EnteredConstruct) : Type 0 where
  pub is_entry : IsEntry (entry_of c)
  pub top : slice_get (constructs_in (program_of c.instance.now).main) c.index ≡ Some (seen_construct c.construct)
  pub cells : length c.cells.now ≡ cell_count_of (program_of c.instance.now) (length c.instance.now.input)
  pub frame : length c.frame.now ≡ frame_size (program_of c.instance.now)
  pub silent : (n : ℕ) → PartIsSilent (seen_construct c.construct) (part_of (seen_construct c.construct) n)
  pub functions_silent : FunctionsAreSilent (program_of c.instance.now).functions
  pub few : c.header.blocks ≤ max_blocks
  pub numbers : (c.header.low +ℤ pos c.header.blocks) ≤ℤ pos 9223372036854775807
  pub plan : length c.plan.now.blocks.items ≡ c.header.blocks
  pub spans : (n : ℕ) (spans : List Span) (cell : ℕ) → slice_get (map (λ v. v.items) c.plan.now.blocks.items) n ≡ Some spans → in_spans spans cell ≡ own (entry_of c) n cell
  pub guesses : length c.guesses.now + 1 ≡ c.header.blocks
  pub reals : c.reals.now ≡ (plain_blocks (entry_of c)).values

-- the guesses for its blocks are these
abbrev pub HasGuesses : EnteredConstruct → (ℕ → Carried) → Type 0
HasGuesses c guess = (n : ℕ) (g : Guess) → slice_get c.guesses.now n ≡ Some g → g.value ≡ guess (suc n)
