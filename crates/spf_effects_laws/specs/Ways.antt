-- What holds on every way along an interaction tree, whatever its loads answer.
use Rattle.std.specs.Prelude.{◌⊎◌, ℕ, List, ◌∷◌, ℤ}
use Rattle.std.specs.List.{Contains}
use Rattle.spf_ast.specs.Interaction.{Interaction, Answer, AskLoad, AskStore, AskTurn}

-- Where the cells in `stored` have been stored: on every way only cells that may be stored are, each load is of a
-- cell that may be loaded bare or of one that has been stored, and the way ends as wanted, given the cells that have
-- been stored by then.
abbrev pub Keeps : {A : Type 0} → (may bare : ℕ → Type 0) → (ends : A → List ℕ → Type 0) → List ℕ → Interaction A → Type 0
Keeps may bare ends stored (Answer a) = ends a stored
Keeps may bare ends stored (AskLoad cell given) = (bare cell ⊎ Contains stored cell) × ((word : ℤ) → Keeps may bare ends stored (given word))
Keeps may bare ends stored (AskStore cell word then_) = may cell × Keeps may bare ends (cell ∷ stored) then_
Keeps may bare ends stored (AskTurn then_) = Keeps may bare ends stored then_
