use Rattle.spf_chain.proofs.start.key_of_site.Given as goal

abbrev pub ghost-ghost_key : goal.ghost-ghost_key
ghost-ghost_key g a = g.named
