-- What it means that code ran one block of a construct.
use Rattle.std.specs.Prelude.{ℕ, List, [], Option, Result, Ok, Err, ℤ}
use Rattle.spf_ast.specs.Carried.{Carried}
use Rattle.spf_ast.specs.Event.{Event}
use Rattle.spf_ast.specs.Interaction.{Interaction, Ending}
use Rattle.spf_exec.specs.declared.stop.Stop.{Stop}
use Rattle.spf_exec.specs.declared.stop.Stop.TheVariants as stop
use Rattle.spf_exec_memory.specs.declared.memory.Halt.{Halt}
use Rattle.spf_exec_memory.specs.declared.memory.Halt.TheVariants as halt
use Rattle.spf_exec_memory.specs.Performs.{Performs}

-- the stop of a block run, as the result of a performance
abbrev pub stop_result : Stop → Result Carried Halt
stop_result (stop.Ended value) = Ok value
stop_result (stop.Trapped trap) = Err (halt.Trapped trap)
stop_result (stop.Cancelled seen) = Err (halt.Cancelled seen)

-- code performed a form, with this output after it and whatever is in the slots
pub record PerformsOver {M A : Type 0} (leads : List Event → M → M → Type 0) (stop : M → Option ℕ) (may_lack : Type 0)
    (tree : Interaction (Ending A)) (from : M) (to : M) (result : Result A Halt) (output : List ℕ) : Type 0 where
  pub slots : List ℤ
  pub performs : Performs leads stop may_lack tree from to result (record { slots = slots; output = output })

-- a performance that never lacks memory, and after which the output is empty
abbrev pub IsQuietRun : {M A : Type 0} → (List Event → M → M → Type 0) → (M → Option ℕ) → Interaction (Ending A) → M → M → Result A Halt → Type 0
IsQuietRun leads stop tree from to result = PerformsOver leads stop ⊥ tree from to result []
