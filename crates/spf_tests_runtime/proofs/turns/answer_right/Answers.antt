use Rattle.std.proofs.Common.{sym, subst}
use Rattle.std.specs.List.{All}
use Rattle.spf_speculation_entry.specs.Sites.{entry_at}
use Rattle.spf_ticket.specs.Tickets.{IsJobOf}
use Rattle.spf_crew.specs.declared.view.CrewSetting.{CrewSetting}
use Rattle.spf_crew.specs.Mates.{IsMateOf}
use Rattle.spf_crew_threads.proofs.Endings.{all-of}
use Rattle.spf_tests_runtime.proofs.turns.answer_right.Goals as goal

pub answers-requires-clause-all : goal.answers-requires-clause-all
answers-requires-clause-all c = subst (All (IsMateOf c.in_ok-crew.crew)) (sym c.as_mut_slice.ensures.value) (all-of c.in_ok-crew.crew c.in_ok-crew.mates.items c.in_ok-crew.ensures.all)

pub answers-requires-clause-serves : goal.answers-requires-clause-serves
answers-requires-clause-serves c = record {
  runs = c.in_ok-chain.ensures.runs;
  entry = subst (λ (k : CrewSetting). IsJobOf (entry_at k.site) c.args.job) (sym c.in_ok-crew.ensures.setting) c.in_ok-chain.ensures.entry;
}
