use Rattle.spf_chain.proofs.Histories.{exact-of}
use Rattle.spf_chain.proofs.chain.Chain.answer.Goals as goal

pub returns-in-Carried-clause-exact : goal.returns-in-Carried-clause-exact
returns-in-Carried-clause-exact c = exact-of _ _ _ c.answers_are_exact.ensures c.answer_next.ensures

pub returns-in-Trapped-clause-exact : goal.returns-in-Trapped-clause-exact
returns-in-Trapped-clause-exact c = exact-of _ _ _ c.answers_are_exact.ensures c.answer_trapped.ensures
