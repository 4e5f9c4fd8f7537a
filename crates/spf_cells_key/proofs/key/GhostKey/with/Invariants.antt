use Rattle.spf_cells_key.proofs.key.GhostKey.with.Given as goal

abbrev pub ghost-ghost_key : goal.ghost-ghost_key
ghost-ghost_key g a = g.named
