use Rattle.spf_tests_runtime.proofs.pool.hands.Given as goal

abbrev pub ghost-ghost_key : goal.ghost-ghost_key
ghost-ghost_key a = tt
