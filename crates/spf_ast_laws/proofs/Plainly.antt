-- Plain runs of forms that are made of others.
use Rattle.std.proofs.Common.{◌≡◌, ℕ, List, ℤ, refl, sym, ap, ◌∙◌}
use Rattle.std.specs.Prelude.{slice_set}
use Rattle.spf_ast.specs.declared.outcome.Trap.{Trap}
use Rattle.spf_ast.specs.Event.{word_at}
use Rattle.spf_ast.specs.Interaction.{Interaction, Answer, AskLoad, AskStore, AskTurn, bind, State, Ending, Value, Trapped, Meaning, after_ending, ◌>>=◌}
use Rattle.spf_ast.specs.Plain.{plain_answer, plain_memory}
use Rattle.spf_ast_laws.specs.Agreement.{Relation, EndAlike}
use Rattle.spf_ast_laws.proofs.Alike.{AskAlike}

-- one tree after another
pub answer-bind : {A B : Type 0} (t : Interaction A) (f : A → Interaction B) (m : List ℤ) → plain_answer (bind t f) m ≡ plain_answer (f (plain_answer t m)) (plain_memory t m)
answer-bind (Answer a) f m = refl
answer-bind (AskLoad c k) f m = answer-bind (k (word_at m c)) f m
answer-bind (AskStore c w t) f m = answer-bind t f (slice_set m c w)
answer-bind (AskTurn t) f m = answer-bind t f m

pub memory-bind : {A B : Type 0} (t : Interaction A) (f : A → Interaction B) (m : List ℤ) → plain_memory (bind t f) m ≡ plain_memory (f (plain_answer t m)) (plain_memory t m)
memory-bind (Answer a) f m = refl
memory-bind (AskLoad c k) f m = memory-bind (k (word_at m c)) f m
memory-bind (AskStore c w t) f m = memory-bind t f (slice_set m c w)
memory-bind (AskTurn t) f m = memory-bind t f m

-- trees that ask alike end alike on one memory, and leave it alike
pub answers-alike : {A : Type 0} (After : Relation) (t u : Interaction (Ending A)) → AskAlike (EndAlike After) t u → (m : List ℤ) → EndAlike After (plain_answer t m) (plain_answer u m)
answers-alike After (Answer a) (Answer b) h m = h
answers-alike After (AskLoad c k) (AskLoad d l) h m = rw h.0 (answers-alike After (k (word_at m d)) (l (word_at m d)) (h.1 (word_at m d)) m)
answers-alike After (AskStore c v t) (AskStore d w u) h m = rw (h.0, h.1) (answers-alike After t u h.2 (slice_set m d w))
answers-alike After (AskTurn t) (AskTurn u) h m = answers-alike After t u h m
answers-alike After _ _ h m = elim h [ ]

pub memories-alike : {A : Type 0} (After : Relation) (t u : Interaction (Ending A)) → AskAlike (EndAlike After) t u → (m : List ℤ) → plain_memory t m ≡ plain_memory u m
memories-alike After (Answer a) (Answer b) h m = refl
memories-alike After (AskLoad c k) (AskLoad d l) h m = rw h.0 (memories-alike After (k (word_at m d)) (l (word_at m d)) (h.1 (word_at m d)) m)
memories-alike After (AskStore c v t) (AskStore d w u) h m = rw (h.0, h.1) (memories-alike After t u h.2 (slice_set m d w))
memories-alike After (AskTurn t) (AskTurn u) h m = memories-alike After t u h m
memories-alike After _ _ h m = elim h [ ]

-- ---- forms

-- a form comes to this ending and this memory, from a state and a memory
pub record Comes {A : Type 0} (form : Meaning A) (s : State) (m : List ℤ) (e : Ending A) (after : List ℤ) : Type 0 where
  pub answer : plain_answer (form s) m ≡ e
  pub memory : plain_memory (form s) m ≡ after

-- what a form comes to
pub comes : {A : Type 0} (form : Meaning A) (s : State) (m : List ℤ) → Comes form s m (plain_answer (form s) m) (plain_memory (form s) m)
comes form s m = record { answer = refl; memory = refl }

-- a form comes to one ending and one memory
pub one-end : {A : Type 0} {form : Meaning A} {s : State} {m : List ℤ} {e d : Ending A} {x y : List ℤ} → Comes form s m e x → Comes form s m d y → e ≡ d
one-end p q = sym p.answer ∙ q.answer

-- one form after another
pub comes-then : {A B : Type 0} {first : Meaning A} (next : A → Meaning B) {s between : State} {m x y : List ℤ} {a : A} {e : Ending B} → Comes first s m (Value a between) x → Comes (next a) between x e y → Comes (first >>= next) s m e y
comes-then {first = first} next {s} {between} {m} {x} {y} {a} {e} p q = record {
  answer = answer-bind (first s) (after_ending next) m ∙ ap (λ d. plain_answer (after_ending next d) (plain_memory (first s) m)) p.answer ∙ ap (plain_answer (next a between)) p.memory ∙ q.answer;
  memory = memory-bind (first s) (after_ending next) m ∙ ap (λ d. plain_memory (after_ending next d) (plain_memory (first s) m)) p.answer ∙ ap (plain_memory (next a between)) p.memory ∙ q.memory;
}

-- a trap ends both
pub comes-trap : {A B : Type 0} {first : Meaning A} (next : A → Meaning B) {s : State} {m x : List ℤ} {trap : Trap} {output : List ℕ} → Comes first s m (Trapped trap output) x → Comes (first >>= next) s m (Trapped trap output) x
comes-trap {first = first} next {s} {m} {x} {trap} {output} p = record {
  answer = answer-bind (first s) (after_ending next) m ∙ ap (λ d. plain_answer (after_ending next d) (plain_memory (first s) m)) p.answer;
  memory = memory-bind (first s) (after_ending next) m ∙ ap (λ d. plain_memory (after_ending next d) (plain_memory (first s) m)) p.answer ∙ p.memory;
}

-- Two forms reached an ending: the first gave a value and the second reached the ending, or the first trapped.
pub data Parted {A B : Type 0} (first : Meaning A) (next : A → Meaning B) (s : State) (m : List ℤ) (e : Ending B) (y : List ℤ) : Type 0 where
  gave : (a : A) (between : State) (x : List ℤ) → Comes first s m (Value a between) x → Comes (next a) between x e y → Parted first next s m e y
  trapped : (trap : Trap) (output : List ℕ) → Comes first s m (Trapped trap output) y → Trapped trap output ≡ e → Parted first next s m e y

pub part : {A B : Type 0} (first : Meaning A) (next : A → Meaning B) (s : State) (m : List ℤ) (e : Ending B) (y : List ℤ) → Comes (first >>= next) s m e y → Parted first next s m e y
part {A} {B} first next s m e y p = go (plain_answer (first s) m) refl
  where
    answer : (d : Ending A) → plain_answer (first s) m ≡ d → plain_answer (after_ending next d) (plain_memory (first s) m) ≡ e
    answer d h = ap (λ c. plain_answer (after_ending next c) (plain_memory (first s) m)) (sym h) ∙ sym (answer-bind (first s) (after_ending next) m) ∙ p.answer

    memory : (d : Ending A) → plain_answer (first s) m ≡ d → plain_memory (after_ending next d) (plain_memory (first s) m) ≡ y
    memory d h = ap (λ c. plain_memory (after_ending next c) (plain_memory (first s) m)) (sym h) ∙ sym (memory-bind (first s) (after_ending next) m) ∙ p.memory

    go : (d : Ending A) → plain_answer (first s) m ≡ d → Parted first next s m e y
    go (Value a between) h = gave a between (plain_memory (first s) m) (record { answer = h; memory = refl }) (record { answer = answer (Value a between) h; memory = memory (Value a between) h })
    go (Trapped trap output) h = trapped trap output (record { answer = h; memory = memory (Trapped trap output) h }) (answer (Trapped trap output) h)
