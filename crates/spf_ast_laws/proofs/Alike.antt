-- Trees that ask alike, and that they are performed alike.
use Rattle.std.proofs.Common.{◌≡◌, ℕ, Bool, true, false, List, [], ◌∷◌, Option, ℤ, refl}
use Rattle.std.specs.Prelude.{if◌then◌else◌, ◌==◌, ◌&&◌}
use Rattle.std.specs.Ordering.{int_eq}
use Rattle.spf_ast.specs.Event.{Event, Load, Store, Turn, word_at}
use Rattle.spf_ast.specs.Interaction.{Interaction, Answer, AskLoad, AskStore, AskTurn, bind, Performed, take_load, take_store, take_turn, reaches, perform, Ending}
use Rattle.spf_ast_laws.specs.Agreement.{PerformedAlike}

-- two trees ask the same of the memory, whatever words it gives, and have related answers
abbrev pub AskAlike : {A B : Type 0} → (A → B → Type 0) → Interaction A → Interaction B → Type 0
AskAlike R (Answer a) (Answer b) = R a b
AskAlike R (AskLoad cell given) (AskLoad other_cell other_given) = (cell ≡ other_cell) × ((word : ℤ) → AskAlike R (given word) (other_given word))
AskAlike R (AskStore cell word next) (AskStore other_cell other_word other) = (cell ≡ other_cell) × (word ≡ other_word) × AskAlike R next other
AskAlike R (AskTurn next) (AskTurn other) = AskAlike R next other
AskAlike R _ _ = ⊥

-- one tree with two related answers at each of its ends
pub ends-alike : {A B C : Type 0} (R : B → C → Type 0) (f : A → B) (g : A → C) → ((a : A) → R (f a) (g a)) → (t : Interaction A) → AskAlike R (bind t (λ a. Answer (f a))) (bind t (λ a. Answer (g a)))
ends-alike R f g related (Answer a) = related a
ends-alike R f g related (AskLoad cell given) = (refl, λ word. ends-alike R f g related (given word))
ends-alike R f g related (AskStore cell word next) = (refl, refl, ends-alike R f g related next)
ends-alike R f g related (AskTurn next) = ends-alike R f g related next

-- what relates the answers of trees may be weakened
pub weaken-alike : {A B : Type 0} (R S : A → B → Type 0) → ((a : A) (b : B) → R a b → S a b) → (t : Interaction A) (u : Interaction B) → AskAlike R t u → AskAlike S t u
weaken-alike R S weaker (Answer a) (Answer b) h = weaker a b h
weaken-alike R S weaker (AskLoad c k) (AskLoad d l) h = (h.0, λ word. weaken-alike R S weaker (k word) (l word) (h.1 word))
weaken-alike R S weaker (AskStore c v t) (AskStore d w u) h = (h.0, h.1, weaken-alike R S weaker t u h.2)
weaken-alike R S weaker (AskTurn t) (AskTurn u) h = weaken-alike R S weaker t u h
weaken-alike R S weaker _ _ h = elim h [ ]

-- trees that ask alike still do where they go on alike
pub bind-alike : {A B C D : Type 0} (R : A → B → Type 0) (S : C → D → Type 0) (f : A → Interaction C) (g : B → Interaction D) → ((a : A) (b : B) → R a b → AskAlike S (f a) (g b)) → (t : Interaction A) (u : Interaction B) → AskAlike R t u → AskAlike S (bind t f) (bind u g)
bind-alike R S f g step (Answer a) (Answer b) h = step a b h
bind-alike R S f g step (AskLoad c k) (AskLoad d l) h = (h.0, λ word. bind-alike R S f g step (k word) (l word) (h.1 word))
bind-alike R S f g step (AskStore c v t) (AskStore d w u) h = (h.0, h.1, bind-alike R S f g step t u h.2)
bind-alike R S f g step (AskTurn t) (AskTurn u) h = bind-alike R S f g step t u h
bind-alike R S f g step _ _ h = elim h [ ]

-- ---- performing

-- the same choice between alike performances
if-alike : {A : Type 0} (R : Ending A → Ending A → Type 0) (b : Bool) (p q x y : Performed (Ending A)) → PerformedAlike R p q → PerformedAlike R x y → PerformedAlike R (if b then p else x) (if b then q else y)
if-alike R true p q x y h k = h
if-alike R false p q x y h k = k

-- what goes on alike after each word goes on alike after a load
load-alike : {A : Type 0} (R : Ending A → Ending A → Type 0) (c : ℕ) (f g : ℤ → List Event → Performed (Ending A)) → ((w : ℤ) (rest : List Event) → PerformedAlike R (f w rest) (g w rest)) → (es : List Event) → PerformedAlike R (take_load c f es) (take_load c g es)
load-alike R c f g step [] = tt
load-alike R c f g step (Load d w ∷ rest) = if-alike R (c == d) _ _ _ _ (step w rest) tt
load-alike R c f g step (Store d w ∷ rest) = tt
load-alike R c f g step (Turn n ∷ rest) = tt

-- what goes on alike does after a store
store-alike : {A : Type 0} (R : Ending A → Ending A → Type 0) (c : ℕ) (v : ℤ) (f g : List Event → Performed (Ending A)) → ((rest : List Event) → PerformedAlike R (f rest) (g rest)) → (es : List Event) → PerformedAlike R (take_store c v f es) (take_store c v g es)
store-alike R c v f g step [] = tt
store-alike R c v f g step (Load d w ∷ rest) = tt
store-alike R c v f g step (Store d w ∷ rest) = if-alike R ((c == d) && int_eq v w) _ _ _ _ (step rest) tt
store-alike R c v f g step (Turn n ∷ rest) = tt

-- what goes on alike does after a turn
turn-alike : {A : Type 0} (R : Ending A → Ending A → Type 0) (stop : Option ℕ) (f g : List Event → Performed (Ending A)) → ((rest : List Event) → PerformedAlike R (f rest) (g rest)) → (es : List Event) → PerformedAlike R (take_turn stop f es) (take_turn stop g es)
turn-alike R stop f g step [] = tt
turn-alike R stop f g step (Load d w ∷ rest) = tt
turn-alike R stop f g step (Store d w ∷ rest) = tt
turn-alike R stop f g step (Turn n ∷ rest) = if-alike R (reaches stop n) _ _ _ _ (refl, refl) (step rest)

-- trees that ask alike are performed alike
pub perform-alike : {A : Type 0} (R : Ending A → Ending A → Type 0) (shared : ℕ → Bool) (m : List ℤ) (stop : Option ℕ) (t u : Interaction (Ending A)) → AskAlike R t u → (es : List Event) → PerformedAlike R (perform shared m stop t es) (perform shared m stop u es)
perform-alike R shared m stop (Answer a) (Answer b) h es = (h, refl)
perform-alike R shared m stop (AskLoad c k) (AskLoad d l) h es =
    rw h.0 (if-alike R (shared d) _ _ _ _
    (load-alike R d _ _ (λ w rest. perform-alike R shared m stop (k w) (l w) (h.1 w) rest) es)
    (perform-alike R shared m stop (k (word_at m d)) (l (word_at m d)) (h.1 (word_at m d)) es))
perform-alike R shared m stop (AskStore c v t) (AskStore d w u) h es =
    rw (h.0, h.1) (store-alike R d w _ _ (λ rest. perform-alike R shared m stop t u h.2 rest) es)
perform-alike R shared m stop (AskTurn t) (AskTurn u) h es = turn-alike R stop _ _ (λ rest. perform-alike R shared m stop t u h rest) es
perform-alike R shared m stop _ _ h es = elim h [ ]
