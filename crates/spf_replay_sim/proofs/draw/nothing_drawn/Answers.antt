use Rattle.std.proofs.Common.{map, refl, ap}
use Rattle.std.specs.Global.{Vec}
use Rattle.spf_replay_log.specs.declared.log.Step as logged
use Rattle.spf_replay_sim.proofs.Sections.{none-drawn}
use Rattle.spf_replay_sim.proofs.draw.nothing_drawn.Goals as goal

pub returns-clause-drawn : goal.returns-clause-drawn
returns-clause-drawn c = none-drawn c.args.seed _ (ap (map (λ (v : Vec logged.Step). v.items)) c.new.ensures.items) refl refl refl
