-- Forms that hold no `emit`, and what that means.
use Rattle.std.specs.Prelude.{◌≡◌, ℕ, false, List, [], Option, Some, None, ℤ, slice_get}
use Rattle.spf_ast.specs.declared.syntax.Part.{Part}
use Rattle.spf_ast.specs.Interaction.{Answer, bind, Ending, Value, Trapped, Meaning}
use Rattle.spf_ast.specs.Syntax.{Block, Function}
use Rattle.spf_ast.specs.Slots.{emits}
use Rattle.spf_ast.specs.Construct.{Construct, statements_of}

-- a block holds no `emit`
abbrev pub BlockIsSilent : Block → Type 0
BlockIsSilent block = emits block ≡ false

-- a function holds none, where it is there
abbrev pub FunctionIsSilent : Option Function → Type 0
FunctionIsSilent None = Unit {0}
FunctionIsSilent (Some f) = BlockIsSilent f.body

-- no function holds one
abbrev pub FunctionsAreSilent : List Function → Type 0
FunctionsAreSilent functions = (index : ℕ) → FunctionIsSilent (slice_get functions index)

-- a part of a construct holds none; its last expression and a guess hold none anyway
abbrev pub PartIsSilent : Construct → Part → Type 0
PartIsSilent construct part = BlockIsSilent (statements_of construct part)

-- the same ending, with this output
abbrev pub with_output : {A : Type 0} → List ℕ → Ending A → Ending A
with_output output (Value a s) = Value a (record s { output = output })
with_output output (Trapped trap old) = Trapped trap output

-- A form leaves the output alone: whatever it is, the form asks the same, ends the same, and the output is as before.
-- So does each form that holds no `emit`, where no function does.
pub record LeavesOutput {A : Type 0} (form : Meaning A) : Type 0 where
  pub same : (slots : List ℤ) (output : List ℕ)
      → form (record { slots = slots; output = output }) ≡ bind (form (record { slots = slots; output = [] })) (λ e. Answer (with_output output e))
