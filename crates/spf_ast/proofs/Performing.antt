-- Lists of events along trees.
use Rattle.std.proofs.Common.{◌≡◌, ℕ, Bool, true, false, List, [], ◌∷◌, Option, ℤ, pos, refl, sym, ◌∙◌}
use Rattle.std.specs.Prelude.{if◌then◌else◌, slice_index_or, ◌==◌, ◌&&◌}
use Rattle.std.specs.Ordering.{int_eq}
use Rattle.spf_ast.specs.Event.{Event, Load, Store, Turn}
use Rattle.spf_ast.specs.Interaction.{Interaction, Answer, AskLoad, AskStore, AskTurn, bind, Performed, Ended, Stopped, Misfit, take_load, take_store, take_turn, reaches, perform}

-- goes on from where a list led
abbrev pub carry : {A B : Type 0} → Performed A → (A → List Event → Performed B) → Performed B
carry (Ended a rest) go = go a rest
carry (Stopped n rest) go = Stopped n rest
carry Misfit go = Misfit

carry-if : {A B : Type 0} (b : Bool) (x y : Performed A) (go : A → List Event → Performed B) → carry (if b then x else y) go ≡ (if b then carry x go else carry y go)
carry-if true x y go = refl
carry-if false x y go = refl

carry-load : {A B : Type 0} (c : ℕ) (f : ℤ → List Event → Performed A) (es : List Event) (go : A → List Event → Performed B) → carry (take_load c f es) go ≡ take_load c (λ w rest. carry (f w rest) go) es
carry-load c f [] go = refl
carry-load c f (Load d w ∷ rest) go = carry-if (c == d) _ _ go
carry-load c f (Store d w ∷ rest) go = refl
carry-load c f (Turn n ∷ rest) go = refl

carry-store : {A B : Type 0} (c : ℕ) (v : ℤ) (f : List Event → Performed A) (es : List Event) (go : A → List Event → Performed B) → carry (take_store c v f es) go ≡ take_store c v (λ rest. carry (f rest) go) es
carry-store c v f [] go = refl
carry-store c v f (Load d w ∷ rest) go = refl
carry-store c v f (Store d w ∷ rest) go = carry-if ((c == d) && int_eq v w) _ _ go
carry-store c v f (Turn n ∷ rest) go = refl

carry-turn : {A B : Type 0} (stop : Option ℕ) (f : List Event → Performed A) (es : List Event) (go : A → List Event → Performed B) → carry (take_turn stop f es) go ≡ take_turn stop (λ rest. carry (f rest) go) es
carry-turn stop f [] go = refl
carry-turn stop f (Load d w ∷ rest) go = refl
carry-turn stop f (Store d w ∷ rest) go = refl
carry-turn stop f (Turn n ∷ rest) go = carry-if (reaches stop n) _ _ go

-- a grafted tree is followed along the first, and then along the next
pub perform-bind : {A B : Type 0} (shared : ℕ → Bool) (m : List ℤ) (stop : Option ℕ) (t : Interaction A) (next : A → Interaction B) (es : List Event) → perform shared m stop (bind t next) es ≡ carry (perform shared m stop t es) (λ a rest. perform shared m stop (next a) rest)
perform-bind shared m stop (Answer a) next es = refl
perform-bind shared m stop (AskLoad c k) next es =
    let go = λ (a : _) (rest : List Event). perform shared m stop (next a) rest in
    (λ i. if shared c then take_load c (λ w rest. perform-bind shared m stop (k w) next rest i) es
    else perform-bind shared m stop (k (slice_index_or m c (pos 0))) next es i)
    ∙ sym (carry-if (shared c) _ _ go ∙ (λ i. if shared c then carry-load c (λ w rest. perform shared m stop (k w) rest) es go i else carry (perform shared m stop (k (slice_index_or m c (pos 0))) es) go))
perform-bind shared m stop (AskStore c v t) next es =
    (λ i. take_store c v (λ rest. perform-bind shared m stop t next rest i) es) ∙ sym (carry-store c v _ es _)
perform-bind shared m stop (AskTurn t) next es =
    (λ i. take_turn stop (λ rest. perform-bind shared m stop t next rest i) es) ∙ sym (carry-turn stop _ es _)
