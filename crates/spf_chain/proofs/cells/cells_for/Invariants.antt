use Rattle.spf_chain.specs.Mispredicted.{mispredicted_blocks}
use Rattle.spf_chain.proofs.cells.cells_for.Given as goal

abbrev pub ghost-make_of : goal.ghost-make_of
ghost-make_of a = mispredicted_blocks a.site.now.value
