-- The events of an attempt, with other numbers at its turns, up to the first that stops it.
use Rattle.std.proofs.Common.{◌≡◌, ◌⊎◌, ℕ, Bool, true, false, List, [], ◌∷◌, Some, None, ℤ, refl, sym, ap, ◌∙◌, subst}
use Rattle.std.specs.Prelude.{if◌then◌else◌, ◌==◌, ◌&&◌, nat_le, slice_set}
use Rattle.std.specs.Ordering.{int_eq}
use Rattle.spf_ast_lemmas.proofs.Members.{cases}
use Rattle.spf_ast.specs.Event.{Event, Load, Store, Turn, word_at, IsConsistent}
use Rattle.spf_ast.specs.Interaction.{Interaction, Answer, AskLoad, AskStore, AskTurn, Performed, HasReadAll, Ended, Stopped, Misfit, perform}
use Rattle.spf_speculation.proofs.Trees.{chosen, loaded}

-- the second list is the first with other numbers at its turns: below this stop up to the end, or up to a turn that reaches it, which is the last event
abbrev pub IsPolled : ℕ → List Event → List Event → Type 0
IsPolled stop [] [] = Unit {0}
IsPolled stop [] (e ∷ es) = ⊥
IsPolled stop (Load c w ∷ es) (Load d x ∷ fs) = (c ≡ d) × (w ≡ x) × IsPolled stop es fs
IsPolled stop (Store c w ∷ es) (Store d x ∷ fs) = (c ≡ d) × (w ≡ x) × IsPolled stop es fs
IsPolled stop (Turn n ∷ es) (Turn k ∷ fs) = ((nat_le stop k ≡ false) × IsPolled stop es fs) ⊎ ((nat_le stop k ≡ true) × (fs ≡ []))
IsPolled stop (Load c w ∷ es) _ = ⊥
IsPolled stop (Store c w ∷ es) _ = ⊥
IsPolled stop (Turn n ∷ es) _ = ⊥

keep-true : {A : Type 0} (b : Bool) (x y : Performed A) → b ≡ true → HasReadAll x → HasReadAll (if b then x else y)
keep-true true x y e h = h
keep-true false x y e h = cc

keep-false : {A : Type 0} (b : Bool) (x y : Performed A) → b ≡ false → HasReadAll y → HasReadAll (if b then x else y)
keep-false true x y e h = cc
keep-false false x y e h = h

none-ended : {A : Type 0} (a b : A) (es : List Event) → Ended a es ≡ Ended b [] → es ≡ []
none-ended a b es e = cc

-- a list that is performed to an answer where nothing stops is performed to its end with other numbers
pub polled : {A : Type 0} (shared : ℕ → Bool) (m : List ℤ) (stop : ℕ) (t : Interaction A) (es fs : List Event) (a : A)
    → perform shared m None t es ≡ Ended a [] → IsPolled stop es fs → HasReadAll (perform shared m (Some stop) t fs)
polled shared m stop (Answer b) [] [] a e h = refl
polled shared m stop (Answer b) [] (f ∷ fs) a e h = absurd h
polled shared m stop (Answer b) (x ∷ es) fs a e h = absurd (not-none x es (none-ended b a (x ∷ es) e))
  where
    not-none : (x : Event) (es : List Event) → x ∷ es ≡ [] → ⊥
    not-none x es e = cc
polled shared m stop (AskLoad c k) [] [] a e h = cases (loaded (shared c) _ _ _ e)
    (λ p. absurd (subst HasReadAll (sym p.1) refl))
    (λ p. keep-false (shared c) _ (perform shared m (Some stop) (k (word_at m c)) []) p.0 (polled shared m stop (k (word_at m c)) [] [] a p.1 h))
polled shared m stop (AskLoad c k) [] (f ∷ fs) a e h = absurd h
polled shared m stop (AskLoad c k) (Load d w ∷ es) (Load y x ∷ fs) a e h = cases (loaded (shared c) _ _ _ e)
    (λ p. let i = chosen (c == d) _ _ p.1 refl in
    keep-true (shared c) (if c == y then perform shared m (Some stop) (k x) fs else Misfit) (perform shared m (Some stop) (k (word_at m c)) (Load y x ∷ fs)) p.0
    (keep-true (c == y) (perform shared m (Some stop) (k x) fs) Misfit (subst (λ z. (c == z) ≡ true) h.0 i.0)
    (subst (λ z. HasReadAll (perform shared m (Some stop) (k z) fs)) h.1 (polled shared m stop (k w) es fs a i.1 h.2))))
    (λ p. keep-false (shared c) _ (perform shared m (Some stop) (k (word_at m c)) (Load y x ∷ fs)) p.0 (polled shared m stop (k (word_at m c)) (Load d w ∷ es) (Load y x ∷ fs) a p.1 h))
polled shared m stop (AskLoad c k) (Load d w ∷ es) [] a e h = absurd h
polled shared m stop (AskLoad c k) (Load d w ∷ es) (Store y x ∷ fs) a e h = absurd h
polled shared m stop (AskLoad c k) (Load d w ∷ es) (Turn y ∷ fs) a e h = absurd h
polled shared m stop (AskLoad c k) (Store d w ∷ es) fs a e h = cases (loaded (shared c) _ _ _ e)
    (λ p. absurd (subst HasReadAll (sym p.1) refl))
    (λ p. keep-false (shared c) _ (perform shared m (Some stop) (k (word_at m c)) fs) p.0 (polled shared m stop (k (word_at m c)) (Store d w ∷ es) fs a p.1 h))
polled shared m stop (AskLoad c k) (Turn n ∷ es) fs a e h = cases (loaded (shared c) _ _ _ e)
    (λ p. absurd (subst HasReadAll (sym p.1) refl))
    (λ p. keep-false (shared c) _ (perform shared m (Some stop) (k (word_at m c)) fs) p.0 (polled shared m stop (k (word_at m c)) (Turn n ∷ es) fs a p.1 h))
polled shared m stop (AskStore c v t) [] fs a e h = absurd (subst HasReadAll (sym e) refl)
polled shared m stop (AskStore c v t) (Load d w ∷ es) fs a e h = absurd (subst HasReadAll (sym e) refl)
polled shared m stop (AskStore c v t) (Store d w ∷ es) (Store y x ∷ fs) a e h =
    let i = chosen ((c == d) && int_eq v w) _ _ e refl in
    keep-true ((c == y) && int_eq v x) (perform shared m (Some stop) t fs) Misfit
    (subst (λ (z : ℕ × ℤ). ((c == z.0) && int_eq v z.1) ≡ true) (λ j. (h.0 j, h.1 j)) i.0) (polled shared m stop t es fs a i.1 h.2)
polled shared m stop (AskStore c v t) (Store d w ∷ es) [] a e h = absurd h
polled shared m stop (AskStore c v t) (Store d w ∷ es) (Load y x ∷ fs) a e h = absurd h
polled shared m stop (AskStore c v t) (Store d w ∷ es) (Turn y ∷ fs) a e h = absurd h
polled shared m stop (AskStore c v t) (Turn n ∷ es) fs a e h = absurd (subst HasReadAll (sym e) refl)
polled shared m stop (AskTurn t) [] fs a e h = absurd (subst HasReadAll (sym e) refl)
polled shared m stop (AskTurn t) (Load d w ∷ es) fs a e h = absurd (subst HasReadAll (sym e) refl)
polled shared m stop (AskTurn t) (Store d w ∷ es) fs a e h = absurd (subst HasReadAll (sym e) refl)
polled shared m stop (AskTurn t) (Turn n ∷ es) (Turn y ∷ fs) a e h = cases h
    (λ on. keep-false (nat_le stop y) (Stopped y fs) (perform shared m (Some stop) t fs) on.0 (polled shared m stop t es fs a e on.1))
    (λ end. keep-true (nat_le stop y) (Stopped y fs) (perform shared m (Some stop) t fs) end.0 end.1)
polled shared m stop (AskTurn t) (Turn n ∷ es) [] a e h = absurd h
polled shared m stop (AskTurn t) (Turn n ∷ es) (Load y x ∷ fs) a e h = absurd h
polled shared m stop (AskTurn t) (Turn n ∷ es) (Store y x ∷ fs) a e h = absurd h

-- and its loads are those of the memory where they were
pub polled-consistent : (stop : ℕ) (es fs : List Event) (m : List ℤ) → IsPolled stop es fs → IsConsistent es m → IsConsistent fs m
polled-consistent stop [] [] m h is = tt
polled-consistent stop [] (f ∷ fs) m h is = absurd h
polled-consistent stop (Load c w ∷ es) (Load d x ∷ fs) m h is = (sym h.1 ∙ is.0 ∙ ap (word_at m) h.0, polled-consistent stop es fs m h.2 is.1)
polled-consistent stop (Load c w ∷ es) [] m h is = absurd h
polled-consistent stop (Load c w ∷ es) (Store d x ∷ fs) m h is = absurd h
polled-consistent stop (Load c w ∷ es) (Turn d ∷ fs) m h is = absurd h
polled-consistent stop (Store c w ∷ es) (Store d x ∷ fs) m h is =
    subst (λ (z : ℕ × ℤ). IsConsistent fs (slice_set m z.0 z.1)) (λ j. (h.0 j, h.1 j)) (polled-consistent stop es fs (slice_set m c w) h.2 is)
polled-consistent stop (Store c w ∷ es) [] m h is = absurd h
polled-consistent stop (Store c w ∷ es) (Load d x ∷ fs) m h is = absurd h
polled-consistent stop (Store c w ∷ es) (Turn d ∷ fs) m h is = absurd h
polled-consistent stop (Turn n ∷ es) (Turn k ∷ fs) m h is = cases h
    (λ on. polled-consistent stop es fs m on.1 is)
    (λ end. subst (λ l. IsConsistent l m) (sym end.1) tt)
polled-consistent stop (Turn n ∷ es) [] m h is = absurd h
polled-consistent stop (Turn n ∷ es) (Load d x ∷ fs) m h is = absurd h
polled-consistent stop (Turn n ∷ es) (Store d x ∷ fs) m h is = absurd h
