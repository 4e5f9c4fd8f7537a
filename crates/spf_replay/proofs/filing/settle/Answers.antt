use Rattle.spf_replay.proofs.filing.settle.Goals as goal

pub returns-then-n-front-clause-runner : goal.returns-then-n-front-clause-runner
returns-then-n-front-clause-runner c e h = c.run_again.ensures.runner e c.args.n (record { inside = h.inside; taken = h.taken; seen = h.seen })
