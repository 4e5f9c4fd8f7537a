-- Where the code's forms stand.
use Rattle.std.specs.Prelude.{map}
use Rattle.spf_region.specs.declared.bound.Bound.TheVariants.{Unknown}
use Rattle.spf_ast.specs.View.{function}
use Rattle.spf_effects_walk.specs.declared.context.Context as code
use Rattle.spf_effects_findings.specs.Found.{finds_nothing}
use Rattle.spf_effects_findings.specs.Forms.{Entered, Setting}
use Rattle.spf_effects_findings.specs.Parts.{call_before}
use Rattle.spf_effects_walk.specs.SlotSets.{has_slot}

-- the functions with an index below that of the context may be called
abbrev pub setting : code.Context → Setting
setting context = record {
  is_assigned = has_slot context.assigned.now;
  call = call_before (map function context.functions.now) context.below;
}

-- a call that enters no function
abbrev pub never_entered : Entered
never_entered = record { bound = Unknown; finds = finds_nothing }
