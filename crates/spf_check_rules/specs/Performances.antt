-- Performances of the parts of top constructs, alone and whatever their loads answer.
use Rattle.std.specs.Prelude.{◌≡◌, ℕ, List, [], Option, ℤ}
use Rattle.std.specs.List.{Contains}
use Rattle.spf_ast.specs.Carried.{Carried}
use Rattle.spf_ast.specs.declared.syntax.Part.{Part}
use Rattle.spf_ast.specs.Event.{Event, Store}
use Rattle.spf_ast.specs.Interaction.{Performed, HasReadAll, Ending, perform, every_cell}
use Rattle.spf_ast.specs.Syntax.{Program}
use Rattle.spf_ast.specs.Construct.{Construct}
use Rattle.spf_ast.specs.BlockRun.{Setup, IsSetup, part_asks}

-- The events lead along what the part asks, and come to this: an answer, or a turn at which the part is stopped. The
-- loads among them answer anything, and the turns have any numbers.
pub record IsPerformance (p : Program) (construct : Construct) (part : Part) (s : Setup) (events : List Event) (result : Performed (Ending Carried)) : Type 0 where
  pub setup : IsSetup p s
  pub stop : Option ℕ
  pub performed : perform every_cell [] stop (part_asks p construct part s) events ≡ result
  pub whole : HasReadAll result

-- a store to the cell is among the events
pub record HasStore (events : List Event) (cell : ℕ) : Type 0 where
  pub word : ℤ
  pub stored : Contains events (Store cell word)
