use Rattle.std.proofs.Common.{[], ◌∷◌}
use Rattle.spf_tests_runtime.proofs.cells.interleaved_cells.Given as goal

abbrev pub ghost-make : goal.ghost-make
ghost-make a = 1 ∷ 3 ∷ []
