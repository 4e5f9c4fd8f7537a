use Rattle.std.proofs.Common.{◌∷◌, [], sym, refl, List, Option}
use Rattle.std.proofs.Common.{subst}
use Rattle.atomic_table.specs.Table.{opening}
use Rattle.spf_chain.specs.Chains.{ChainValue}
use Rattle.spf_crew.specs.declared.view.CrewSetting.{CrewSetting}
use Rattle.spf_crew.specs.Rule.{first, IsCrewTable}
use Rattle.spf_crew.specs.Values.{setting_of}
use Rattle.spf_crew.proofs.Steps.{opens}
use Rattle.spf_crew.proofs.crew.Crew.open.Goals as goal

pub new-requires : goal.new-requires
new-requires c =
    let k : CrewSetting = setting_of c.args.chain c.args.mates in
    let P : CrewSetting × List (Option ChainValue) → Type 0 = λ x. IsCrewTable x.0 (opening (0 ∷ 0 ∷ []) x.1 (first x.0)) in
    subst P (λ t. (sym c.key_of-key.ensures t, sym c.in_ok-slots.ensures.items t)) (opens k c.args.chain (record { site = refl; cells = refl }) c.requires.new)
