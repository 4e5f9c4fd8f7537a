-- Counts of faults.
use Rattle.std.specs.Prelude.{ℕ, ◌≤◌}
use Rattle.spf_ast_lemmas.specs.Counts.{one_more}

-- the count has risen, or is at its largest value
abbrev pub Rose : ℕ → ℕ → Type 0
Rose before now = one_more before ≤ now
