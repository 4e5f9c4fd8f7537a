use Rattle.spf_effects_findings.proofs.Either.{copied_offsets, copied_wholes}
use Rattle.spf_effects_findings.proofs.findings.copy_of.Goals as goal

pub returns-clause-offsets : goal.returns-clause-offsets
returns-clause-offsets c = copied_offsets c.join.result c.args.list.now (rw c.new-none.ensures.empty at c.join.ensures.offsets)

pub returns-clause-wholes : goal.returns-clause-wholes
returns-clause-wholes c = copied_wholes c.join.result c.args.list.now (rw c.new-none.ensures.empty at c.join.ensures.wholes)
