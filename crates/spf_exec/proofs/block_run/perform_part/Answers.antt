use Rattle.spf_exec.proofs.block_run.perform_part.Goals as goal

pub returns-in-Pair-clause-performs : goal.returns-in-Pair-clause-performs
returns-in-Pair-clause-performs g c = rw c.in-Pair.is (c.perform_pair.ensures.performs c.args.block.now.number)
