-- Lists of events along a tree that keeps to what it may do.
use Rattle.std.proofs.Common.{◌≡◌, ◌⊎◌, inl, inr, ℕ, Bool, true, false, List, [], ◌∷◌, ◌++◌, Option, ℤ, refl, sym, subst, Contains}
use Rattle.std.specs.Prelude.{if◌then◌else◌, ◌==◌, ◌&&◌}
use Rattle.std.specs.Ordering.{int_eq}
use Rattle.std.proofs.lemmas.Bool.Decides.{Decides-eqb}
use Rattle.spf_ast.specs.Event.{Event, Load, Store, Turn}
use Rattle.spf_ast.specs.Interaction.{HasReadAll, Interaction, Answer, AskLoad, AskStore, AskTurn, Performed, Ended, Stopped, Misfit, perform, every_cell, reaches}
use Rattle.spf_effects_laws.specs.Ways.{Keeps}
use Rattle.spf_check_rules.specs.Performances.{HasStore}
use Rattle.spf_ast_lemmas.proofs.Members.{cases, first-in, later-in, first-or-later, none-in}

-- the cells that the events store, with those that were stored before
abbrev pub stored_by : List Event → List ℕ → List ℕ
stored_by [] stored = stored
stored_by (Load cell word ∷ events) stored = stored_by events stored
stored_by (Store cell word ∷ events) stored = stored_by events (cell ∷ stored)
stored_by (Turn number ∷ events) stored = stored_by events stored

-- each store is of a cell that may be stored, and each load of one that may be loaded bare or that has been stored
abbrev pub Along : (may bare : ℕ → Type 0) → List ℕ → List Event → Type 0
Along may bare stored [] = Unit {0}
Along may bare stored (Load cell word ∷ events) = (bare cell ⊎ Contains stored cell) × Along may bare stored events
Along may bare stored (Store cell word ∷ events) = may cell × Along may bare (cell ∷ stored) events
Along may bare stored (Turn number ∷ events) = Along may bare stored events

-- an answer is as wanted
abbrev pub Comes : {A : Type 0} → (A → List ℕ → Type 0) → Performed A → List ℕ → Type 0
Comes ends (Ended answer rest) stored = ends answer stored
Comes ends (Stopped number rest) stored = Unit {0}
Comes ends Misfit stored = Unit {0}

-- a choice that isn't Misfit
chosen : {A : Type 0} (b : Bool) (x r : Performed A) → (if b then x else Misfit) ≡ r → HasReadAll r → (b ≡ true) × (x ≡ r)
chosen true x r e whole = (refl, e)
chosen false x r e whole = absurd (subst HasReadAll (sym e) whole)

-- a turn that stops, or doesn't
turned : {A : Type 0} (b : Bool) (n : ℕ) (es : List Event) (x r : Performed A) → (if b then Stopped n es else x) ≡ r → HasReadAll r → ((Stopped n es ≡ r) × (es ≡ [])) ⊎ (x ≡ r)
turned true n es x r e whole = inl (e, subst HasReadAll (sym e) whole)
turned false n es x r e whole = inr e

both-left : (x y : Bool) → (x && y) ≡ true → x ≡ true
both-left true y e = refl
both-left false y e = cc

nothing-left : {A : Type 0} (ends : A → List ℕ → Type 0) (may bare : ℕ → Type 0) (stored : List ℕ) (es : List Event) (r : Performed A) → es ≡ [] → Comes ends r stored → Along may bare stored es × Comes ends r (stored_by es stored)
nothing-left ends may bare stored es r e h = rw e (tt, h)

pub along : {A : Type 0} (may bare : ℕ → Type 0) (ends : A → List ℕ → Type 0) (stop : Option ℕ) (t : Interaction A) (stored : List ℕ) (es : List Event) (r : Performed A) → Keeps may bare ends stored t → perform every_cell [] stop t es ≡ r → HasReadAll r → Along may bare stored es × Comes ends r (stored_by es stored)
along may bare ends stop (Answer a) stored es r h e whole =
    nothing-left ends may bare stored es r (subst HasReadAll (sym e) whole) (subst (λ x. Comes ends x stored) e h)
along may bare ends stop (AskLoad c k) stored [] r h e whole = absurd (subst HasReadAll (sym e) whole)
along may bare ends stop (AskLoad c k) stored (Load d w ∷ es) r h e whole =
    let i = chosen (c == d) _ r e whole in
    let same = (Decides-eqb c d).0 i.0 in
    let rest = along may bare ends stop (k w) stored es r (h.1 w) i.1 whole in
    ((subst (λ x. bare x ⊎ Contains stored x) same h.0, rest.0), rest.1)
along may bare ends stop (AskLoad c k) stored (Store d w ∷ es) r h e whole = absurd (subst HasReadAll (sym e) whole)
along may bare ends stop (AskLoad c k) stored (Turn n ∷ es) r h e whole = absurd (subst HasReadAll (sym e) whole)
along may bare ends stop (AskStore c v t) stored [] r h e whole = absurd (subst HasReadAll (sym e) whole)
along may bare ends stop (AskStore c v t) stored (Load d w ∷ es) r h e whole = absurd (subst HasReadAll (sym e) whole)
along may bare ends stop (AskStore c v t) stored (Store d w ∷ es) r h e whole =
    let i = chosen ((c == d) && int_eq v w) _ r e whole in
    let same = (Decides-eqb c d).0 (both-left _ _ i.0) in
    let rest = along may bare ends stop t (c ∷ stored) es r h.1 i.1 whole in
    ((subst may same h.0, subst (λ x. Along may bare (x ∷ stored) es) same rest.0), subst (λ x. Comes ends r (stored_by es (x ∷ stored))) same rest.1)
along may bare ends stop (AskStore c v t) stored (Turn n ∷ es) r h e whole = absurd (subst HasReadAll (sym e) whole)
along may bare ends stop (AskTurn t) stored [] r h e whole = absurd (subst HasReadAll (sym e) whole)
along may bare ends stop (AskTurn t) stored (Load d w ∷ es) r h e whole = absurd (subst HasReadAll (sym e) whole)
along may bare ends stop (AskTurn t) stored (Store d w ∷ es) r h e whole = absurd (subst HasReadAll (sym e) whole)
along may bare ends stop (AskTurn t) stored (Turn n ∷ es) r h e whole =
    cases (turned (reaches stop n) n es _ r e whole)
    (λ stops. nothing-left ends may bare stored es r stops.1 (subst (λ x. Comes ends x stored) stops.0 tt))
    (λ is. along may bare ends stop t stored es r h is whole)

-- ---- single events

store-is : (c d : ℕ) (v w : ℤ) → Store d v ≡ Store c w → d ≡ c
store-is c d v w e = cc

load-is : (c d : ℕ) (v w : ℤ) → Load d v ≡ Load c w → d ≡ c
load-is c d v w e = cc

load-no-store : (c d : ℕ) (v w : ℤ) → Load d v ≡ Store c w → ⊥
load-no-store c d v w e = cc

turn-no-store : (c n : ℕ) (w : ℤ) → Turn n ≡ Store c w → ⊥
turn-no-store c n w e = cc

turn-no-load : (c n : ℕ) (w : ℤ) → Turn n ≡ Load c w → ⊥
turn-no-load c n w e = cc

-- each store is of a cell that may be stored
pub stores-along : (may bare : ℕ → Type 0) (stored : List ℕ) (es : List Event) (c : ℕ) (w : ℤ) → Along may bare stored es → Contains es (Store c w) → may c
stores-along may bare stored [] c w h i = absurd (none-in _ i)
stores-along may bare stored (Load d v ∷ es) c w h i =
    cases (first-or-later _ _ _ i) (λ e. absurd (load-no-store c d v w e)) (λ j. stores-along may bare stored es c w h.1 j)
stores-along may bare stored (Store d v ∷ es) c w h i =
    cases (first-or-later _ _ _ i) (λ e. subst may (store-is c d v w e) h.0) (λ j. stores-along may bare (d ∷ stored) es c w h.1 j)
stores-along may bare stored (Turn n ∷ es) c w h i =
    cases (first-or-later _ _ _ i) (λ e. absurd (turn-no-store c n w e)) (λ j. stores-along may bare stored es c w h j)

-- each load is of a cell that may be loaded bare or stored, or of one stored before
pub loads-along : (may bare : ℕ → Type 0) (stored : List ℕ) (es : List Event) (c : ℕ) (w : ℤ) → Along may bare stored es → Contains es (Load c w) → bare c ⊎ may c ⊎ Contains stored c
loads-along may bare stored [] c w h i = absurd (none-in _ i)
loads-along may bare stored (Load d v ∷ es) c w h i =
    cases (first-or-later _ _ _ i) (λ e. here (subst (λ x. bare x ⊎ Contains stored x) (load-is c d v w e) h.0)) (λ j. loads-along may bare stored es c w h.1 j)
  where
    here : bare c ⊎ Contains stored c → bare c ⊎ may c ⊎ Contains stored c
    here (inl b) = inl b
    here (inr s) = inr (inr s)
loads-along may bare stored (Store d v ∷ es) c w h i =
    cases (first-or-later _ _ _ i) (λ e. absurd (load-no-store d c w v (sym e))) (λ j. before (loads-along may bare (d ∷ stored) es c w h.1 j))
  where
    before : bare c ⊎ may c ⊎ Contains (d ∷ stored) c → bare c ⊎ may c ⊎ Contains stored c
    before (inl b) = inl b
    before (inr (inl m)) = inr (inl m)
    before (inr (inr s)) = cases (first-or-later _ _ _ s) (λ e. inr (inl (subst may e h.0))) (λ j. inr (inr j))
loads-along may bare stored (Turn n ∷ es) c w h i =
    cases (first-or-later _ _ _ i) (λ e. absurd (turn-no-load c n w e)) (λ j. loads-along may bare stored es c w h j)

-- a load, and what was stored before it
pub load-after : (may bare : ℕ → Type 0) (stored : List ℕ) (before later : List Event) (c : ℕ) (w : ℤ) → Along may bare stored (before ++ Load c w ∷ later) → bare c ⊎ Contains (stored_by before stored) c
load-after may bare stored [] later c w h = h.0
load-after may bare stored (Load d v ∷ before) later c w h = load-after may bare stored before later c w h.1
load-after may bare stored (Store d v ∷ before) later c w h = load-after may bare (d ∷ stored) before later c w h.1
load-after may bare stored (Turn n ∷ before) later c w h = load-after may bare stored before later c w h

has-later : (e : Event) (es : List Event) (c : ℕ) → HasStore es c → HasStore (e ∷ es) c
has-later e es c h = record { word = h.word; stored = later-in e _ es h.stored }

-- what is stored in the end was stored by an event, or before
pub stored-has : (es : List Event) (stored : List ℕ) (c : ℕ) → Contains (stored_by es stored) c → HasStore es c ⊎ Contains stored c
stored-has [] stored c i = inr i
stored-has (Load d v ∷ es) stored c i = cases (stored-has es stored c i) (λ h. inl (has-later _ es c h)) inr
stored-has (Store d v ∷ es) stored c i = cases (stored-has es (d ∷ stored) c i) (λ h. inl (has-later _ es c h)) (λ j. cases (first-or-later _ _ _ j) here inr)
  where
    here : d ≡ c → HasStore (Store d v ∷ es) c ⊎ Contains stored c
    here e = inl (record { word = v; stored = subst (λ x. Contains (Store d v ∷ es) (Store x v)) e (first-in (Store d v) es) })
stored-has (Turn n ∷ es) stored c i = cases (stored-has es stored c i) (λ h. inl (has-later _ es c h)) inr

stored-grows : (es : List Event) (stored : List ℕ) (c : ℕ) → Contains stored c → Contains (stored_by es stored) c
stored-grows [] stored c i = i
stored-grows (Load d v ∷ es) stored c i = stored-grows es stored c i
stored-grows (Store d v ∷ es) stored c i = stored-grows es (d ∷ stored) c (later-in d c stored i)
stored-grows (Turn n ∷ es) stored c i = stored-grows es stored c i

-- and what an event stored is stored in the end
pub store-stored : (es : List Event) (stored : List ℕ) (c : ℕ) (w : ℤ) → Contains es (Store c w) → Contains (stored_by es stored) c
store-stored [] stored c w i = absurd (none-in _ i)
store-stored (Load d v ∷ es) stored c w i =
    cases (first-or-later _ _ _ i) (λ e. absurd (load-no-store c d v w e)) (λ j. store-stored es stored c w j)
store-stored (Store d v ∷ es) stored c w i =
    cases (first-or-later _ _ _ i) (λ e. stored-grows es (d ∷ stored) c (subst (λ x. Contains (d ∷ stored) x) (store-is c d v w e) (first-in d stored))) (λ j. store-stored es (d ∷ stored) c w j)
store-stored (Turn n ∷ es) stored c w i =
    cases (first-or-later _ _ _ i) (λ e. absurd (turn-no-store c n w e)) (λ j. store-stored es stored c w j)
