-- Events of an attempt that nothing has stopped so far.
use Rattle.std.proofs.Common.{◌≡◌, inl, inr, ℕ, ◌<◌, Bool, true, false, List, [], ◌∷◌, ◌++◌, Some, None, ℤ, refl, sym, ap, subst, arith, Contains}
use Rattle.std.specs.Prelude.{nat_le}
use Rattle.spf_ast_lemmas.proofs.Members.{cases, first-in, later-in}
use Rattle.spf_ast.specs.Carried.{Carried}
use Rattle.spf_ast.specs.Event.{Event, Load, Store, Turn, word_at, after, IsConsistent}
use Rattle.spf_ast.specs.Construct.{part_of}
use Rattle.spf_ast.specs.Interaction.{Interaction, Answer, AskLoad, AskStore, AskTurn, Ended, Ending}
use Rattle.spf_ast.specs.Plain.{plain_events, plain_answer}
use Rattle.std.specs.Prelude.{slice_set}
use Rattle.spf_speculation_entry.specs.Entry.{Entry, IsEntry, own, asks_at}
use Rattle.spf_speculation_entry.specs.Attempts.{IsAttempt, IsWhole, OthersAreOf, TurnsAreBelow, on_cells}
use Rattle.spf_speculation.proofs.Within.{true-or-false}
use Rattle.spf_speculation.proofs.Trees.{IsOutside, outside-set}
use Rattle.spf_speculation.proofs.Kept.{kept, on-load, off-load, unstopped}
use Rattle.spf_speculation.proofs.Blocks.{BlockLaws, setup_at, stores-own}
use Rattle.spf_speculation_entry.specs.Attempts.{attempted}
use Rattle.spf_replay.specs.Schedule.{attempt_events, piece, after_piece}
use Rattle.spf_replay.proofs.Polled.{IsPolled, polled, polled-consistent}

-- the second list is the first with other numbers at its turns, all below the stop
abbrev pub Follows : ℕ → List Event → List Event → Type 0
Follows stop [] [] = Unit {0}
Follows stop [] (f ∷ fs) = ⊥
Follows stop (Load c w ∷ es) (Load d x ∷ fs) = (c ≡ d) × (w ≡ x) × Follows stop es fs
Follows stop (Store c w ∷ es) (Store d x ∷ fs) = (c ≡ d) × (w ≡ x) × Follows stop es fs
Follows stop (Turn n ∷ es) (Turn k ∷ fs) = (nat_le stop k ≡ false) × Follows stop es fs
Follows stop (Load c w ∷ es) _ = ⊥
Follows stop (Store c w ∷ es) _ = ⊥
Follows stop (Turn n ∷ es) _ = ⊥

pub follows-on : (stop : ℕ) (es fs gs hs : List Event) → Follows stop es fs → Follows stop gs hs → Follows stop (es ++ gs) (fs ++ hs)
follows-on stop [] [] gs hs h k = k
follows-on stop [] (f ∷ fs) gs hs h k = absurd h
follows-on stop (Load c w ∷ es) (Load d x ∷ fs) gs hs h k = (h.0, h.1, follows-on stop es fs gs hs h.2 k)
follows-on stop (Load c w ∷ es) [] gs hs h k = absurd h
follows-on stop (Load c w ∷ es) (Store d x ∷ fs) gs hs h k = absurd h
follows-on stop (Load c w ∷ es) (Turn d ∷ fs) gs hs h k = absurd h
follows-on stop (Store c w ∷ es) (Store d x ∷ fs) gs hs h k = (h.0, h.1, follows-on stop es fs gs hs h.2 k)
follows-on stop (Store c w ∷ es) [] gs hs h k = absurd h
follows-on stop (Store c w ∷ es) (Load d x ∷ fs) gs hs h k = absurd h
follows-on stop (Store c w ∷ es) (Turn d ∷ fs) gs hs h k = absurd h
follows-on stop (Turn n ∷ es) (Turn d ∷ fs) gs hs h k = (h.0, follows-on stop es fs gs hs h.1 k)
follows-on stop (Turn n ∷ es) [] gs hs h k = absurd h
follows-on stop (Turn n ∷ es) (Load d x ∷ fs) gs hs h k = absurd h
follows-on stop (Turn n ∷ es) (Store d x ∷ fs) gs hs h k = absurd h

-- and then a list that may be stopped
pub follows-polled : (stop : ℕ) (es fs gs hs : List Event) → Follows stop es fs → IsPolled stop gs hs → IsPolled stop (es ++ gs) (fs ++ hs)
follows-polled stop [] [] gs hs h k = k
follows-polled stop [] (f ∷ fs) gs hs h k = absurd h
follows-polled stop (Load c w ∷ es) (Load d x ∷ fs) gs hs h k = (h.0, h.1, follows-polled stop es fs gs hs h.2 k)
follows-polled stop (Load c w ∷ es) [] gs hs h k = absurd h
follows-polled stop (Load c w ∷ es) (Store d x ∷ fs) gs hs h k = absurd h
follows-polled stop (Load c w ∷ es) (Turn d ∷ fs) gs hs h k = absurd h
follows-polled stop (Store c w ∷ es) (Store d x ∷ fs) gs hs h k = (h.0, h.1, follows-polled stop es fs gs hs h.2 k)
follows-polled stop (Store c w ∷ es) [] gs hs h k = absurd h
follows-polled stop (Store c w ∷ es) (Load d x ∷ fs) gs hs h k = absurd h
follows-polled stop (Store c w ∷ es) (Turn d ∷ fs) gs hs h k = absurd h
follows-polled stop (Turn n ∷ es) (Turn d ∷ fs) gs hs h k = inl (h.0, follows-polled stop es fs gs hs h.1 k)
follows-polled stop (Turn n ∷ es) [] gs hs h k = absurd h
follows-polled stop (Turn n ∷ es) (Load d x ∷ fs) gs hs h k = absurd h
follows-polled stop (Turn n ∷ es) (Store d x ∷ fs) gs hs h k = absurd h

reaches-not : (stop k : ℕ) → nat_le stop k ≡ false → k < stop
reaches-not stop k h = grind (arith, h)

pub follows-below : (stop : ℕ) (es fs : List Event) → Follows stop es fs → TurnsAreBelow stop fs
follows-below stop [] [] h = tt
follows-below stop [] (f ∷ fs) h = absurd h
follows-below stop (Load c w ∷ es) (Load d x ∷ fs) h = follows-below stop es fs h.2
follows-below stop (Load c w ∷ es) [] h = absurd h
follows-below stop (Load c w ∷ es) (Store d x ∷ fs) h = absurd h
follows-below stop (Load c w ∷ es) (Turn d ∷ fs) h = absurd h
follows-below stop (Store c w ∷ es) (Store d x ∷ fs) h = follows-below stop es fs h.2
follows-below stop (Store c w ∷ es) [] h = absurd h
follows-below stop (Store c w ∷ es) (Load d x ∷ fs) h = absurd h
follows-below stop (Store c w ∷ es) (Turn d ∷ fs) h = absurd h
follows-below stop (Turn n ∷ es) (Turn d ∷ fs) h = (reaches-not stop d h.0, follows-below stop es fs h.1)
follows-below stop (Turn n ∷ es) [] h = absurd h
follows-below stop (Turn n ∷ es) (Load d x ∷ fs) h = absurd h
follows-below stop (Turn n ∷ es) (Store d x ∷ fs) h = absurd h

-- ---- pieces

-- a piece that has no turn is all there is
pub last-piece : (stop k : ℕ) (left : List Event) → after_piece left ≡ None → Follows stop left (piece k left)
last-piece stop k [] h = tt
last-piece stop k (Load c w ∷ left) h = (refl, refl, last-piece stop k left h)
last-piece stop k (Store c w ∷ left) h = (refl, refl, last-piece stop k left h)
last-piece stop k (Turn n ∷ left) h = cc

-- what a piece up to a turn takes of a list
pub record Taken (stop k : ℕ) (left rest : List Event) : Type 0 where
  pub taken : List Event
  pub split : left ≡ taken ++ rest
  pub on : nat_le stop k ≡ false → Follows stop taken (piece k left)
  pub end : nat_le stop k ≡ true → IsPolled stop left (piece k left)

some-list : (a b : List Event) → Some a ≡ Some b → a ≡ b
some-list a b e = cc

pub turn-piece : (stop k : ℕ) (left rest : List Event) → after_piece left ≡ Some rest → Taken stop k left rest
turn-piece stop k [] rest h = cc
turn-piece stop k (Load c w ∷ left) rest h =
    let t = turn-piece stop k left rest h in
    record { taken = Load c w ∷ t.taken; split = ap (λ l. Load c w ∷ l) t.split; on = λ b. (refl, refl, t.on b); end = λ b. (refl, refl, t.end b) }
turn-piece stop k (Store c w ∷ left) rest h =
    let t = turn-piece stop k left rest h in
    record { taken = Store c w ∷ t.taken; split = ap (λ l. Store c w ∷ l) t.split; on = λ b. (refl, refl, t.on b); end = λ b. (refl, refl, t.end b) }
turn-piece stop k (Turn n ∷ left) rest h =
    record { taken = Turn n ∷ []; split = ap (λ l. Turn n ∷ l) (some-list left rest h); on = λ b. (b, tt); end = λ b. inr (b, refl) }

-- ---- attempts

others-plain : {A : Type 0} (cells : ℕ → Bool) (t : Interaction A) (m n : List ℤ) → IsOutside cells n m → ((d : ℕ) (w : ℤ) → Contains (plain_events t n) (Store d w) → cells d ≡ true) → OthersAreOf m cells (plain_events t n)
others-plain cells (Answer x) m n out h = tt
others-plain cells (AskLoad c k) m n out h =
    (λ other. out c other, others-plain cells (k (word_at n c)) m n out (λ d w i. h d w (later-in (Load c (word_at n c)) (Store d w) (plain_events (k (word_at n c)) n) i)))
others-plain cells (AskStore c v t) m n out h =
    others-plain cells t m (slice_set n c v) (outside-set cells n m c v (h c v (first-in (Store c v) (plain_events t (slice_set n c v)))) out)
    (λ d w i. h d w (later-in (Store c v) (Store d w) (plain_events t (slice_set n c v)) i))
others-plain cells (AskTurn t) m n out h = others-plain cells t m n out (λ d w i. h d w (later-in (Turn 0) (Store d w) (plain_events t n) i))

kept-consistent : (cells : ℕ → Bool) (es : List Event) (m : List ℤ) → IsConsistent es m → IsConsistent (on_cells cells es) m
kept-consistent cells [] m h = tt
kept-consistent cells (Load c w ∷ es) m h = cases (true-or-false (cells c))
    (λ own. subst (λ l. IsConsistent l m) (sym (on-load cells c w es own)) (h.0, kept-consistent cells es m h.1))
    (λ out. subst (λ l. IsConsistent l m) (sym (off-load cells c w es out)) (kept-consistent cells es m h.1))
kept-consistent cells (Store c w ∷ es) m h = kept-consistent cells es (slice_set m c w) h
kept-consistent cells (Turn n ∷ es) m h = kept-consistent cells es m h

-- the events of an attempt, with other numbers up to the first that stops it, are the log of one
pub record MakesAttempt (e : Entry) (n : ℕ) (v : Carried) (stop : ℕ) (before log : List Event) : Type 0 where
  pub attempt : IsAttempt e n v stop log
  pub is : IsConsistent log (after before e.memory)

pub polled-attempt : BlockLaws → (e : Entry) → IsEntry e → (n : ℕ) (v : Carried) (stop : ℕ) (before log : List Event) → IsOutside (own e n) (after before e.memory) e.memory
    → IsPolled stop (attempt_events e n v before) log → MakesAttempt e n v stop before log
polled-attempt laws e h n v stop before log out p =
    let m : List ℤ = after before e.memory in
    let run = (laws.runs e.program e.construct (part_of e.construct n) (setup_at e n v) m).is in
    record {
      attempt = polled (own e n) e.memory stop (asks_at e n v) (attempt_events e n v before) log (plain_answer (asks_at e n v) m)
          (kept (own e n) e.memory None (asks_at e n v) (plain_events (asks_at e n v) m) (Ended (plain_answer (asks_at e n v) m) []) run.ends refl
          (others-plain (own e n) (asks_at e n v) e.memory m out (stores-own laws e h n v m))) p;
      is = polled-consistent stop (attempt_events e n v before) log m p (kept-consistent (own e n) (plain_events (asks_at e n v) m) m run.consistent);
    }

-- one that nothing stopped is whole
pub unstopped-whole : (e : Entry) (n : ℕ) (v : Carried) (stop : ℕ) (log : List Event) → IsAttempt e n v stop log → TurnsAreBelow stop log → (answer : Ending Carried) × IsWhole e n v stop log answer
unstopped-whole e n v stop log is low = unstopped (own e n) e.memory stop (asks_at e n v) log (attempted e n v stop log) refl is low
