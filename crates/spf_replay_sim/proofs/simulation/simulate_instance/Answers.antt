use Rattle.std.proofs.Common.{map}
use Rattle.spf_exec_instance.specs.Instance.{program_of}
use Rattle.spf_guess.specs.Answers.{handed_in}
use Rattle.spf_replay_sim.proofs.Whole.{drawn-whole-from}
use Rattle.spf_replay_sim.proofs.simulation.simulate_instance.Goals as goal

pub returns-clause-simulated : goal.returns-clause-simulated
returns-clause-simulated g c =
    let hosts = (handed_in (map (λ h. (goal.Predictor-dyn g (h.vtable, h.value)).answer h.value) c.args.hosts.now.items)) in
    c.report_of.ensures hosts (program_of c.args.instance.now) c.args.instance.now.input c.args.seed c.in_ok-walked.ensures.outcome c.in_ok-walked.ensures.statistics
    (drawn-whole-from c.schedules_see_visible_slots_alone.ensures c.verdicts_are_exact.ensures.alike c.runs_look_alike.ensures c.args.seed hosts (program_of c.args.instance.now) c.args.instance.now.input
    c.nothing_drawn-drawn.result c.walk.new.visitor c.nothing_drawn-drawn.ensures.state c.nothing_drawn-drawn.ensures.drawn c.in_ok-walked.ensures.visited)
