-- Where a walk stands at the blocks of a construct.
use Rattle.std.specs.Prelude.{◌≡◌, ◌≤◌, ℕ, List, length, map, Some, slice_get, ℤ, pos, ◌+ℤ◌, ◌≤ℤ◌}
use Rattle.std.specs.Global.{Vec}
use Rattle.spf_ast.specs.Meaning.{max_blocks}
use Rattle.spf_ast.specs.Construct.{constructs_in}
use Rattle.spf_ast.specs.ConstructView.{construct as seen_construct}
use Rattle.spf_ast.specs.Program.{cell_count_of}
use Rattle.spf_ast.specs.Syntax.{Program}
use Rattle.spf_region.specs.declared.span.Plan.{Plan}
use Rattle.spf_region.specs.declared.span.Span.{Span}
use Rattle.spf_check.specs.Plans.{AreBlocksOf}
use Rattle.spf_exec.specs.declared.pieces.Header.{Header}
use Rattle.spf_exec_instance.specs.Frame.{frame_size}
use Rattle.spf_exec_instance.specs.Instance.{InstanceValue, program_of}
use Rattle.spf_speculation_entry.specs.Entry.{Entry}
use Rattle.spf_replay.specs.Plainly.{entry_from}
use Rattle.spf_replay_walk.specs.declared.position.Position.{Position}
use Rattle.spf_replay_walk.specs.declared.position.Spare.{Spare}

-- the entry of a construct with this header, where the run has these cells
abbrev pub entry_at : Position → Header → List ℤ → Entry
entry_at position header cells = entry_from position.instance.now position.construct header position.frame.now cells

-- a run of this program stands at one of its top constructs, the one at its index, whose header is done: frame and cells are the program's, and so are the numbers of the blocks
pub record IsAtConstruct (p : Program) (position : Position) (header : Header) (memory : List ℤ) : Type 0 where
  pub program : program_of position.instance.now ≡ p
  pub construct : slice_get (constructs_in (program_of position.instance.now).main) position.index ≡ Some (seen_construct position.construct)
  pub blocks : AreBlocksOf (seen_construct position.construct) header.blocks
  pub some : 1 ≤ header.blocks
  pub few : header.blocks ≤ max_blocks
  pub fits : (header.low +ℤ pos header.blocks) ≤ℤ pos 9223372036854775807
  pub frame : length position.frame.now ≡ frame_size (program_of position.instance.now)
  pub cells : length memory ≡ cell_count_of (program_of position.instance.now) (length position.instance.now.input)

-- as many words as the program has cells on this input, and a frame of its size
pub record IsSpare (i : InstanceValue) (spare : Spare) : Type 0 where
  pub after : length spare.after.items ≡ cell_count_of (program_of i) (length i.input)
  pub cells : length spare.scratch.cells.items ≡ cell_count_of (program_of i) (length i.input)
  pub work : length spare.scratch.work ≡ frame_size (program_of i)

-- the spans of the blocks of a plan
abbrev pub spans_of : Plan → List (List Span)
spans_of plan = map (λ (v : Vec Span). v.items) plan.blocks.items
