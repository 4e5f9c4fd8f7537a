use Rattle.spf_chain.proofs.cells.make_of.Given as goal

abbrev pub ghost-make : goal.ghost-make
ghost-make g a = g.raisable
