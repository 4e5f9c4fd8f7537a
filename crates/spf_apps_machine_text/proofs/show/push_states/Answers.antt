use Rattle.std.proofs.Common.{◌≡◌, suc, ◌+◌, ◌-◌, refl, ◌∙◌, arith}
use Rattle.spf_apps_machine_text.specs.MachineText.{state_line, states_of}
use Rattle.spf_apps_machine_text.proofs.Steps.{one_more}
use Rattle.spf_apps_machine_text.proofs.show.push_states.Goals as goal

pub loop-state-preserved : goal.loop-state-preserved
loop-state-preserved c =
    let file = c.args.file.now in
    let count : states_of file - c.loop-state.state ≡ suc (states_of file - (c.loop-state.state + 1)) = omega arith in
    one_more (state_line file) c.loop-state.text.items c.push_state.new.text.items _ _ c.loop-state.state (c.loop-state.state + 1) count refl c.in_ok-push_state.ensures
    ∙ c.loop-state.invariant
