use Rattle.spf_batch.proofs.Ones.{one-put}
use Rattle.spf_batch.proofs.one.put_answer.Goals as goal

pub returns-in-Ok-clause-whole : goal.returns-in-Ok-clause-whole
returns-in-Ok-clause-whole g c = one-put c.args.bytes.now _ _ c.in-Ok.ensures.put c.in-Ok.ensures.later
