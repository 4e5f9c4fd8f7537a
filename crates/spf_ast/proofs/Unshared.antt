-- Answers with no shared cell.
use Rattle.std.proofs.Common.{◌≡◌, List, [], ◌∷◌, None, ℤ, refl, sym, ap, eq-eqb}
use Rattle.std.specs.Prelude.{◌==◌, ◌&&◌}
use Rattle.std.specs.Ordering.{int_eq}
use Rattle.std.proofs.lemmas.Bool.Decides.{Decides-int_eq}
use Rattle.spf_ast.specs.Event.{Event, Load, Store, Turn, word_at}
use Rattle.spf_ast.specs.Interaction.{no_cell, Interaction, Answer, AskLoad, AskStore, AskTurn, Performed, Ended, Stopped, Misfit, perform}
use Rattle.spf_ast.specs.Laws.{HasOneUnsharedAnswer}
use Rattle.spf_ast.specs.Plain.{unshared_answer}
use Rattle.spf_ast.proofs.PlainRuns.{chosen}

-- the stores and turns of a tree, in order
events : {A : Type 0} → Interaction A → List ℤ → List Event
events (Answer a) m = []
events (AskLoad c k) m = events (k (word_at m c)) m
events (AskStore c w t) m = Store c w ∷ events t m
events (AskTurn t) m = Turn 0 ∷ events t m

ends : {A : Type 0} (t : Interaction A) (m : List ℤ) → perform no_cell m None t (events t m) ≡ Ended (unshared_answer t m) []
unfolding events
ends (Answer a) m = refl
ends (AskLoad c k) m = ends (k (word_at m c)) m
ends (AskStore c w t) m = rw (eq-eqb c c refl, (Decides-int_eq w w).1 refl) (ends t m)
ends (AskTurn t) m = ends t m

answer_of : {A : Type 0} → A → Performed A → A
answer_of other (Ended a rest) = a
answer_of other (Stopped n rest) = other
answer_of other Misfit = other

only : {A : Type 0} (t : Interaction A) (m : List ℤ) (es : List Event) (a : A) → perform no_cell m None t es ≡ Ended a [] → a ≡ unshared_answer t m
unfolding answer_of
only (Answer b) m es a e = sym (ap (answer_of b) e)
only (AskLoad c k) m es a e = only (k (word_at m c)) m es a e
only (AskStore c w t) m [] a e = cc
only (AskStore c w t) m (Load d v ∷ es) a e = cc
only (AskStore c w t) m (Store d v ∷ es) a e = only t m es a (chosen ((c == d) && int_eq w v) _ a [] e).1
only (AskStore c w t) m (Turn n ∷ es) a e = cc
only (AskTurn t) m [] a e = cc
only (AskTurn t) m (Load d v ∷ es) a e = cc
only (AskTurn t) m (Store d v ∷ es) a e = cc
only (AskTurn t) m (Turn n ∷ es) a e = only t m es a e

pub one_unshared_answer : {A : Type 0} (t : Interaction A) (m : List ℤ) → HasOneUnsharedAnswer t m
one_unshared_answer t m = record { events = events t m; ends = ends t m; only = only t m }
