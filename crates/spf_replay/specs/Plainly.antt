-- Blocks that are run plainly, one after another.
use Rattle.std.specs.Prelude.{◌≡◌, ℕ, List, Result, Ok, Err, ℤ}
use Rattle.spf_ast.specs.declared.outcome.Trap.{Trap}
use Rattle.std.specs.Global.{Vec}
use Rattle.spf_exec_memory.specs.declared.plain.Plain.{Plain}
use Rattle.spf_ast.specs.Carried.{Carried}
use Rattle.spf_ast.specs.ConstructView.{construct as seen_construct}
use Rattle.spf_ast.specs.Interaction.{Interaction, State, Ending, Value, Trapped}
use Rattle.spf_ast.specs.Plain.{plain_answer, plain_memory}
use Rattle.spf_exec_instance.specs.Frame.{main_slots}
use Rattle.spf_exec_instance.specs.Instance.{InstanceValue, program_of}
use Rattle.spf_ast.specs.declared.construct.TopConstruct.{TopConstruct}
use Rattle.spf_exec.specs.declared.pieces.Header.{Header}
use Rattle.spf_exec.specs.Pieces.{seen_header}
use Rattle.spf_speculation_entry.specs.Entry.{Entry, plain_blocks}

-- a block came to this, and left this memory
abbrev pub BlockGives : Interaction (Ending Carried) → List ℤ → Result Carried Trap → List ℤ → Type 0
BlockGives tree before (Ok value) now = ((state : State) × (plain_answer tree before ≡ Value value state)) × (now ≡ plain_memory tree before)
BlockGives tree before (Err trap) now = ((output : List ℕ) × (plain_answer tree before ≡ Trapped trap output)) × (now ≡ plain_memory tree before)

-- the entry of a construct whose header is done, with these slots and this memory
abbrev pub entry_from : InstanceValue → TopConstruct → Header → List ℤ → List ℤ → Entry
entry_from i construct header frame memory = record {
  program = program_of i;
  construct = seen_construct construct;
  input = i.input;
  slots = main_slots (program_of i) frame;
  memory = memory;
  header = seen_header header;
}

-- the blocks of an entry were run plainly: these are the rows at which they began, what they came to, and the memory after them
pub record AreRunPlainly (e : Entry) (reals : List Carried) (result : Result Carried Trap) (memory : List ℤ) : Type 0 where
  pub reals_are : reals ≡ (plain_blocks e).values
  pub result_is : result ≡ (plain_blocks e).result
  pub memory_is : memory ≡ (plain_blocks e).memory

-- the blocks of a construct were run plainly: what is given has the rows at which they began and what they came to, and the memory is as they left it
abbrev pub BlocksGive : InstanceValue → TopConstruct → Header → (frame : List ℤ) → (before : Plain) → Vec Carried × Result Carried Trap → (after : Plain) → Type 0
BlocksGive i construct header frame before given after = AreRunPlainly (entry_from i construct header frame before.cells.items) given.0.items given.1 after.cells.items
