-- Memories after a log that is one entry longer, and functions with one value changed.
use Rattle.std.proofs.Common.{◌≡◌, ◌≢◌, ℕ, List, [], ◌∷◌, ◌++◌, length, set, sym, refl, ap, ◌∙◌, ℤ, length-set}
use native.Mathlib.Decide.{ℕ_discrete}
use Rattle.spf_cells.specs.declared.view.LogEntry.{LogEntry}
use Rattle.spf_cells.specs.declared.view.LogEntry.TheVariants.{Load, Store, Turn}
use Rattle.spf_ast.specs.Event.{Event, after, IsConsistent, word_at}
use Rattle.spf_cells.specs.Log.{event_of, events}

abbrev pick : {A : Type 0} {P : Type 0} → Dec P → A → A → A
pick (yes _) a b = a
pick (no _) a b = b

pub put : {A : Type 0} → (ℕ → A) → ℕ → A → ℕ → A
put f i c j = pick (ℕ_discrete j i) c (f j)

pub put_here : {A : Type 0} (f : ℕ → A) (i : ℕ) (c : A) → put f i c i ≡ c
unfolding put
put_here {A} f i c = go (ℕ_discrete i i)
  where
    go : (d : Dec (i ≡ i)) → pick d c (f i) ≡ c
    go (yes _) = refl
    go (no n) = absurd (n refl)

pub put_else : {A : Type 0} (f : ℕ → A) (i : ℕ) (c : A) (j : ℕ) → j ≢ i → put f i c j ≡ f j
unfolding put
put_else {A} f i c j ne = go (ℕ_discrete j i)
  where
    go : (d : Dec (j ≡ i)) → pick d c (f j) ≡ f j
    go (yes e) = absurd (ne e)
    go (no n) = refl

-- the memory after one entry of a log
abbrev pub after_one : LogEntry → List ℤ → List ℤ
after_one (Load c w) m = m
after_one (Store c w) m = set m c w
after_one (Turn n) m = m

-- a load gives the memory's word
abbrev pub FitsOne : LogEntry → List ℤ → Type 0
FitsOne (Load c w) m = w ≡ word_at m c
FitsOne (Store c w) m = Unit {0}
FitsOne (Turn n) m = Unit {0}

after-cons : (e : LogEntry) (es : List Event) (m : List ℤ) → after (event_of e ∷ es) m ≡ after es (after_one e m)
after-cons (Load c w) es m = refl
after-cons (Store c w) es m = refl
after-cons (Turn n) es m = refl

pub after-append : (es : List LogEntry) (e : LogEntry) (m : List ℤ) → after (events (es ++ e ∷ [])) m ≡ after_one e (after (events es) m)
after-append [] e m = after-cons e [] m
after-append (x ∷ xs) e m = after-cons x (events (xs ++ e ∷ [])) m ∙ (after-append xs e (after_one x m) ∙ ap (after_one e) (sym (after-cons x (events xs) m)))

length-after_one : (e : LogEntry) (m : List ℤ) → length (after_one e m) ≡ length m
length-after_one (Load c w) m = refl
length-after_one (Store c w) m = length-set m c w
length-after_one (Turn n) m = refl

pub length-after : (es : List LogEntry) (m : List ℤ) → length (after (events es) m) ≡ length m
length-after [] m = refl
length-after (x ∷ xs) m = ap length (after-cons x (events xs) m) ∙ (length-after xs (after_one x m) ∙ length-after_one x m)

pub consistent-append : (es : List LogEntry) (e : LogEntry) (m : List ℤ) → IsConsistent (events es) m → FitsOne e (after (events es) m) → IsConsistent (events (es ++ e ∷ [])) m
consistent-append [] (Load c w) m h f = (f, tt)
consistent-append [] (Store c w) m h f = tt
consistent-append [] (Turn n) m h f = tt
consistent-append (Load c w ∷ xs) e m h f = (h.0, consistent-append xs e m h.1 f)
consistent-append (Store c w ∷ xs) e m h f = consistent-append xs e (set m c w) h f
consistent-append (Turn n ∷ xs) e m h f = consistent-append xs e m h f
