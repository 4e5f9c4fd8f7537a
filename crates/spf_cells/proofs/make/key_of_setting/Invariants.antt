use Rattle.spf_cells.proofs.make.key_of_setting.Given as goal

abbrev pub ghost-ghost_key : goal.ghost-ghost_key
ghost-ghost_key g a = g.named
