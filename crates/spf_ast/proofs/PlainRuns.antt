-- From each memory a form has exactly one list that polls nothing.
use Rattle.std.proofs.Common.{◌≡◌, Bool, true, false, List, [], ◌∷◌, ◌++◌, None, ℤ, refl, sym, ap, ◌∙◌, subst, eq-eqb}
use Rattle.std.specs.Prelude.{if◌then◌else◌, slice_set, ◌==◌, ◌&&◌}
use Rattle.std.specs.Ordering.{int_eq}
use Rattle.std.proofs.lemmas.Bool.Decides.{Decides-int_eq, Decides-eqb}
use Rattle.spf_ast.specs.Event.{Event, Load, Store, Turn, word_at, after, IsConsistent, IsUnpolled}
use Rattle.spf_ast.specs.Interaction.{every_cell, Interaction, Answer, AskLoad, AskStore, AskTurn, Performed, Ended, Stopped, Misfit, perform}
use Rattle.spf_ast.specs.Laws.{HasOnePlainRun}
use Rattle.spf_ast.specs.Plain.{plain_events, plain_answer, IsPlainRun}

pub plain_run : {A : Type 0} (t : Interaction A) (m : List ℤ) → IsPlainRun t m (plain_events t m) (plain_answer t m)
plain_run (Answer a) m = record { ends = refl; consistent = tt; unpolled = tt }
plain_run (AskLoad c k) m =
    let r = plain_run (k (word_at m c)) m in
    record { ends = rw (eq-eqb c c refl) r.ends; consistent = (refl, r.consistent); unpolled = r.unpolled }
plain_run (AskStore c v t) m =
    let r = plain_run t (slice_set m c v) in
    record { ends = rw (eq-eqb c c refl, (Decides-int_eq v v).1 refl) r.ends; consistent = r.consistent; unpolled = r.unpolled }
plain_run (AskTurn t) m = let r = plain_run t m in record { ends = r.ends; consistent = r.consistent; unpolled = (refl, r.unpolled) }

-- a choice that isn't Misfit
pub chosen : {A : Type 0} (b : Bool) (r : Performed A) (a : A) (es : List Event) → (if b then r else Misfit) ≡ Ended a es → (b ≡ true) × (r ≡ Ended a es)
chosen true r a es e = (refl, e)
chosen false r a es e = cc

both_true : (x y : Bool) → (x && y) ≡ true → (x ≡ true) × (y ≡ true)
both_true true y e = (refl, e)
both_true false y e = cc

pub only_run : {A : Type 0} (t : Interaction A) (m : List ℤ) (es : List Event) (a : A) → IsPlainRun t m es a → es ≡ plain_events t m
only_run (Answer b) m [] a r = refl
only_run (Answer b) m (e ∷ es) a r = let h = r.ends in cc
only_run (AskLoad c k) m [] a r = let h = r.ends in cc
only_run (AskLoad c k) m (Load d w ∷ es) a r =
    let h = chosen (c == d) _ a [] r.ends in
    let same = (Decides-eqb c d).0 h.0 in
    let w_is : w ≡ word_at m c = r.consistent.0 ∙ ap (word_at m) (sym same) in
    let rest = only_run (k w) m es a (record { ends = h.1; consistent = r.consistent.1; unpolled = r.unpolled }) in
    (λ i. Load (sym same i) (w_is i) ∷ es) ∙ ap (λ l. Load c (word_at m c) ∷ l) (rest ∙ ap (λ x. plain_events (k x) m) w_is)
only_run (AskLoad c k) m (Store d w ∷ es) a r = let h = r.ends in cc
only_run (AskLoad c k) m (Turn n ∷ es) a r = let h = r.ends in cc
only_run (AskStore c v t) m [] a r = let h = r.ends in cc
only_run (AskStore c v t) m (Load d w ∷ es) a r = let h = r.ends in cc
only_run (AskStore c v t) m (Store d w ∷ es) a r =
    let h = chosen ((c == d) && int_eq v w) _ a [] r.ends in
    let both = both_true (c == d) (int_eq v w) h.0 in
    let same = (Decides-eqb c d).0 both.0 in
    let word = (Decides-int_eq v w).0 both.1 in
    let again : IsConsistent es (slice_set m c v) = subst (λ x. IsConsistent es (slice_set m x v)) (sym same) (subst (λ x. IsConsistent es (slice_set m d x)) (sym word) r.consistent) in
    (λ i. Store (sym same i) (sym word i) ∷ es) ∙ ap (λ l. Store c v ∷ l) (only_run t (slice_set m c v) es a (record { ends = h.1; consistent = again; unpolled = r.unpolled }))
only_run (AskStore c v t) m (Turn n ∷ es) a r = let h = r.ends in cc
only_run (AskTurn t) m [] a r = let h = r.ends in cc
only_run (AskTurn t) m (Load d w ∷ es) a r = let h = r.ends in cc
only_run (AskTurn t) m (Store d w ∷ es) a r = let h = r.ends in cc
only_run (AskTurn t) m (Turn n ∷ es) a r =
    ap (λ x. Turn x ∷ es) r.unpolled.0 ∙ ap (λ l. Turn 0 ∷ l) (only_run t m es a (record { ends = r.ends; consistent = r.consistent; unpolled = r.unpolled.1 }))

-- two lists, one after the other
pub consistent_on : (es fs : List Event) (m : List ℤ) → IsConsistent es m → IsConsistent fs (after es m) → IsConsistent (es ++ fs) m
consistent_on [] fs m p q = q
consistent_on (Load c w ∷ es) fs m p q = (p.0, consistent_on es fs m p.1 q)
consistent_on (Store c w ∷ es) fs m p q = consistent_on es fs (slice_set m c w) p q
consistent_on (Turn n ∷ es) fs m p q = consistent_on es fs m p q

pub after_on : (es fs : List Event) (m : List ℤ) → after (es ++ fs) m ≡ after fs (after es m)
after_on [] fs m = refl
after_on (Load c w ∷ es) fs m = after_on es fs m
after_on (Store c w ∷ es) fs m = after_on es fs (slice_set m c w)
after_on (Turn n ∷ es) fs m = after_on es fs m

pub unpolled_on : (es fs : List Event) → IsUnpolled es → IsUnpolled fs → IsUnpolled (es ++ fs)
unpolled_on [] fs p q = q
unpolled_on (Load c w ∷ es) fs p q = unpolled_on es fs p q
unpolled_on (Store c w ∷ es) fs p q = unpolled_on es fs p q
unpolled_on (Turn n ∷ es) fs p q = (p.0, unpolled_on es fs p.1 q)

-- an answer and the rest of a list, given back
abbrev answer_of : {A : Type 0} → A → Performed A → A
answer_of other (Ended a rest) = a
answer_of other (Stopped n rest) = other
answer_of other Misfit = other

-- a tree has exactly one plain run on a memory
pub one_plain_run : {A : Type 0} (t : Interaction A) (m : List ℤ) → HasOnePlainRun t m
one_plain_run t m = record {
  is = plain_run t m;
  only = λ es a r.
      let same = only_run t m es a r in
      let both : Ended a [] ≡ Ended (plain_answer t m) [] = sym r.ends ∙ ap (perform every_cell [] None t) same ∙ (plain_run t m).ends in
      (same, ap (answer_of a) both);
}
