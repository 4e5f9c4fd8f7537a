use Rattle.std.proofs.Common.{[], ◌∷◌}
use Rattle.spf_tests_runtime.proofs.counting.lane_of_block_one.Given as goal

abbrev pub ghost-make : goal.ghost-make
ghost-make a = 1 ∷ []
