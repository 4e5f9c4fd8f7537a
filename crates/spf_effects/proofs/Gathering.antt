-- Effects that are made of what was found in a part.
use Rattle.std.proofs.Common.{◌≡◌, ℕ, Bool, List, [], length, sym, ap, subst, ◌∙◌}
use Rattle.std.proofs.Math.ListN.{length-map}
use Rattle.std.specs.Prelude.{Result, Ok, Err, IfOk, Some, map, not, ◌==◌}
use Rattle.spf_region.specs.declared.range.Range.{Range}
use Rattle.spf_region.specs.Ranges.{offsets_of, wholes_of}
use Rattle.spf_ast.specs.declared.syntax.Program as code_program
use Rattle.spf_ast.specs.declared.syntax.Function as code_function
use Rattle.spf_ast.specs.Syntax.{Block}
use Rattle.spf_ast.specs.View.{program, function, block}
use Rattle.spf_effects.specs.declared.effects.Effects as code
use Rattle.spf_effects_walk.specs.declared.slot_sets.Slots as code_slots
use Rattle.spf_effects.specs.Effects.{AreEffects, effects_of}
use Rattle.spf_effects_findings.specs.Extends.{Joins, Lists, Extends}
use Rattle.spf_effects_findings.specs.Found.{Finds, nowhere}
use Rattle.spf_effects.specs.Gathered.{IsGathered}
use Rattle.spf_effects_findings.specs.Parts.{call_before, main_setting}
use Rattle.spf_ast.specs.Slots.{assigns, assigns_outer}
use Rattle.spf_effects_walk.specs.SlotSets.{sets_of, has_slot, no_slot, with_block}
use Rattle.spf_effects_findings.proofs.Either.{or_none}
use Rattle.spf_effects_walk.proofs.SlotSets.{assigned_in, declared_in}

-- lists that were empty have what is found
joined_to_none : (ranges new : List Range) → Joins ranges [] new → (offsets_of new ≡ offsets_of ranges) × (wholes_of new ≡ wholes_of ranges)
joined_to_none ranges new h =
    (h.offsets ∙ (λ i array f o. or_none (offsets_of ranges array f o) i), h.wholes ∙ (λ i array. or_none (wholes_of ranges array) i))

are_effects : (finds : Finds) (statements : Block) (found : Lists) (e : code.Effects) → Extends finds (record { uncovered = []; may = []; written = [] }) found → IsGathered found statements e → AreEffects (effects_of finds statements) e
are_effects finds statements found e h g =
    let u = joined_to_none (finds nowhere).uncovered found.uncovered h.uncovered in
    let m = joined_to_none (finds nowhere).may found.may h.may in
    record {
      uncovered = ap offsets_of g.uncovered ∙ u.0;
      uncovered_wholes = ap wholes_of g.uncovered ∙ u.1;
      may = ap offsets_of g.may ∙ m.0;
      may_wholes = ap wholes_of g.may ∙ m.1;
      must = ap offsets_of g.must ∙ h.written;
      must_wholes = λ array i. (ap wholes_of g.must ∙ h.wholes) i array;
      assigns_outer = g.assigns_outer;
      emits = g.emits;
    }

pub effects_are : {E : Type 0} (result : Result code.Effects E) (finds : Finds) (statements : Block) (old found : Lists) → old ≡ record { uncovered = []; may = []; written = [] } → Extends finds old found → IfOk result (IsGathered found statements) → IfOk result (AreEffects (effects_of finds statements))
effects_are (Ok e) finds statements old found none h g = are_effects finds statements found e (subst (λ l. Extends finds l found) none h) g
effects_are (Err x) finds statements old found none h g = tt

-- the slots that are assigned but not declared
pub assigns_outer_is : (tables : code_slots.Slots) (b : Block) (result : Bool) → sets_of tables ≡ with_block b (record { assigned = no_slot; declared = no_slot }) → result ≡ assigns (λ slot. not (has_slot tables.declared slot)) b → result ≡ assigns_outer b
assigns_outer_is tables b result e h = h ∙ ap (λ (set : ℕ → Bool). assigns (λ slot. not (set slot)) b) (declared_in tables b e)

-- where the forms of `main` stand
pub main_setting_is : (p : code_program.Program) (tables : code_slots.Slots) (functions : List code_function.Function) (count : ℕ) → sets_of tables ≡ with_block (block p.main.items) (record { assigned = no_slot; declared = no_slot }) → functions ≡ p.functions.items → count ≡ length p.functions.items → record { is_assigned = has_slot tables.assigned; call = call_before (map function functions) count } ≡ main_setting (program p)
main_setting_is p tables functions count e f n =
    (λ i. record { is_assigned = assigned_in tables (block p.main.items) e i; call = call_before (map function (f i)) count })
    ∙ ap (λ m. record { is_assigned = λ slot. assigns (λ other. other == slot) (block p.main.items); call = call_before (map function p.functions.items) m }) (n ∙ sym (length-map p.functions.items function))

-- what is found is one thing
pub some_is : {A : Type 0} (x y : A) → Some x ≡ Some y → x ≡ y
some_is x y e = cc
