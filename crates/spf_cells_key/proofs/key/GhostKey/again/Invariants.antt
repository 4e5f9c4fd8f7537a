use Rattle.spf_cells_key.proofs.key.GhostKey.again.Given as goal

abbrev pub ghost-with : goal.ghost-with
ghost-with g a = a.self.now.value
