use Rattle.std.proofs.Common.{[], refl, arith}
use Rattle.spf_replay_walk.proofs.Sections.{none-past}
use Rattle.spf_replay_walk.proofs.judging.nothing_judged.Goals as goal

pub returns : goal.returns
returns c = λ log. record { verdict = λ k. none-past [] log k (omega arith); next = λ yes. refl }
