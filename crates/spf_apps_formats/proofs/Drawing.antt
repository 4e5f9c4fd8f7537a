-- One more draw.
use Rattle.std.proofs.Common.{◌≡◌, ℕ, suc, List, [], ◌∷◌, ◌++◌, map, ap, sym, ◌∙◌, append_assoc}
use Rattle.spf_apps_formats.specs.Draws.{next_state, given_by, draws, state_after}

-- what is drawn first stands before the rest
pub drawn_more : (f : ℕ → ℕ) (old new : List ℕ) (m n x y b : ℕ) → m ≡ suc n → y ≡ next_state x → b ≡ f (given_by (next_state x)) → new ≡ old ++ b ∷ [] → new ++ map f (draws n y) ≡ old ++ map f (draws m x)
drawn_more f old new m n x y b many next drawn pushed =
    (λ i. (pushed ∙ ap (λ d. old ++ d ∷ []) drawn) i ++ map f (draws n (next i)))
    ∙ append_assoc old (f (given_by (next_state x)) ∷ []) (map f (draws n (next_state x)))
    ∙ ap (λ k. old ++ map f (draws k x)) (sym many)

pub state_more : (m n x y : ℕ) → m ≡ suc n → y ≡ next_state x → state_after n y ≡ state_after m x
state_more m n x y many next = ap (state_after n) next ∙ ap (λ k. state_after k x) (sym many)
