-- What a part that emits nothing does with the output.
use Rattle.std.proofs.Common.{◌≡◌, ℕ, List, [], ℤ, refl, sym, subst}
use Rattle.spf_ast.specs.declared.syntax.Part.{Part}
use Rattle.spf_ast.specs.Carried.{Carried}
use Rattle.spf_ast.specs.Interaction.{Answer, Ending, Value, Trapped, Meaning}
use Rattle.spf_ast.specs.Laws.{SilentPartsLeaveTheOutput}
use Rattle.spf_ast.specs.Syntax.{Program}
use Rattle.spf_ast.specs.Construct.{Construct, part_means}
use Rattle.spf_ast.specs.Program.{environment_of}
use Rattle.spf_ast.specs.Silence.{FunctionsAreSilent, PartIsSilent, LeavesOutput, with_output}
use Rattle.spf_effects_laws.specs.Ways.{Keeps}
use Rattle.spf_check_rules.proofs.Slots.{Anything, Ends, any-ways, ways-bind}

-- ---- the output at an end

-- at an end, with a value or with a trap, this is the output
abbrev pub HasOutput : {A : Type 0} → List ℕ → Ending A → List ℕ → Type 0
HasOutput output (Value a s) d = s.output ≡ output
HasOutput output (Trapped t out) d = out ≡ output

-- a form that leaves the output alone leaves it on every way
output-kept : {A : Type 0} (form : Meaning A) → LeavesOutput form → (slots : List ℤ) (output : List ℕ) (d : List ℕ) → Keeps Anything Anything (HasOutput output) d (form (record { slots = slots; output = output }))
output-kept form l slots output d =
    subst (Keeps Anything Anything (HasOutput output) d) (sym (l.same slots output))
    (ways-bind Ends (HasOutput output) (form (record { slots = slots; output = [] })) (λ e. Answer (with_output output e)) d (any-ways (form (record { slots = slots; output = [] })) d) (λ e d' h. put e d'))
  where
    put : {A : Type 0} (e : Ending A) (d : List ℕ) → HasOutput output (with_output output e) d
    put (Value a s) d = refl
    put (Trapped t o) d = refl

-- so does a part that emits nothing, where such parts leave the output alone
pub part-quiet : SilentPartsLeaveTheOutput → (p : Program) → FunctionsAreSilent p.functions → (input : List ℕ) (c : Construct) (part : Part) → PartIsSilent c part → (number : ℤ) (carried : Carried) (slots : List ℤ) (output d : List ℕ) → Keeps Anything Anything (HasOutput output) d (part_means (environment_of p input) c part number carried (record { slots = slots; output = output }))
part-quiet law p silent input c part e number carried slots output d =
    output-kept (part_means (environment_of p input) c part number carried) (law input _ p.functions _ silent c part e number carried) slots output d
