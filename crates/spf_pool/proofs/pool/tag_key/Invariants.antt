use Rattle.spf_pool.proofs.pool.tag_key.Given as goal

abbrev pub ghost-ghost_key : goal.ghost-ghost_key
ghost-ghost_key g a = g.value
