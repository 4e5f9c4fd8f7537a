use Rattle.spf_batch.proofs.Saids.{done-as-said, stopped-as-said}
use Rattle.spf_batch.proofs.laws.batches_answer_as_said.Goals as goal

pub returns : goal.returns
returns c = record { done = done-as-said; stopped = stopped-as-said }
