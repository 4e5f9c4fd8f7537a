-- A merging of logs on disjoint cells: each log sees its own stores alone.
use Rattle.std.proofs.Common.{◌≡◌, ◌≢◌, ℕ, ◌<◌, Bool, true, false, List, [], ◌∷◌, ℤ, pos, refl, sym, ap, ◌∙◌, subst}
use Rattle.std.specs.Prelude.{slice_set, if◌then◌else◌, ◌==◌}
use Rattle.std.proofs.lemmas.Bool.Decides.{Decides-eqb}
use Rattle.std.proofs.lemmas.List.{get_or-set_other}
use Rattle.spf_ast_lemmas.proofs.Members.{cases}
use Rattle.spf_ast.specs.Event.{Event, Load, Store, Turn, word_at, after, IsConsistent}
use Rattle.spf_speculation.specs.Steps.{Step, events_of, log_of, AreBelow}
use Rattle.spf_speculation.proofs.Within.{AreWithin, AgreeOn, alike, true-or-false, not-both, agree-set, agree-other, agree-same, agree-back, within-consistent}

-- a step of the block itself, and one of another block
choose-true : {A : Type 0} (b : Bool) (x y : A) → b ≡ true → (if b then x else y) ≡ x
choose-true true x y h = refl
choose-true false x y h = cc

choose-false : {A : Type 0} (b : Bool) (x y : A) → b ≡ false → (if b then x else y) ≡ y
choose-false true x y h = cc
choose-false false x y h = refl

pub log-own : (n : ℕ) (step : Step) (rest : List Step) → step.block ≡ n → log_of n (step ∷ rest) ≡ step.event ∷ log_of n rest
log-own n step rest e = choose-true (step.block == n) (step.event ∷ log_of n rest) (log_of n rest) ((Decides-eqb step.block n).1 e)

pub log-other : (n : ℕ) (step : Step) (rest : List Step) → step.block ≢ n → log_of n (step ∷ rest) ≡ log_of n rest
log-other n step rest ne = cases (true-or-false (step.block == n))
    (λ t. absurd (ne ((Decides-eqb step.block n).0 t)))
    (λ f. choose-false (step.block == n) (step.event ∷ log_of n rest) (log_of n rest) f)

-- the cells of each of the first `count` blocks, of which no two share one
pub record AreApart (count : ℕ) (own : ℕ → ℕ → Bool) : Type 0 where
  pub apart : (n k c : ℕ) → n < count → k < count → n ≢ k → own n c ≡ true → own k c ≡ false

-- each block's log is within its cells
abbrev pub AreOwn : ℕ → (ℕ → ℕ → Bool) → List Step → Type 0
AreOwn count own steps = (n : ℕ) → n < count → AreWithin (own n) (log_of n steps)

-- an event's cell is one of these
abbrev pub IsWithin : (ℕ → Bool) → Event → Type 0
IsWithin cells (Load c w) = cells c ≡ true
IsWithin cells (Store c w) = cells c ≡ true
IsWithin cells (Turn n) = Unit {0}

first-within : (cells : ℕ → Bool) (e : Event) (es : List Event) → AreWithin cells (e ∷ es) → IsWithin cells e
first-within cells (Load c w) es h = h.0
first-within cells (Store c w) es h = h.0
first-within cells (Turn n) es h = tt

rest-within : (cells : ℕ → Bool) (e : Event) (es : List Event) → AreWithin cells (e ∷ es) → AreWithin cells es
rest-within cells (Load c w) es h = h.1
rest-within cells (Store c w) es h = h.1
rest-within cells (Turn n) es h = h

-- the step is of its block's cells, and the steps after it are
step-within : (count : ℕ) (own : ℕ → ℕ → Bool) (step : Step) (steps : List Step) → step.block < count → AreOwn count own (step ∷ steps) → IsWithin (own step.block) step.event
step-within count own step steps lt h =
    first-within (own step.block) step.event (log_of step.block steps) (subst (AreWithin (own step.block)) (log-own step.block step steps refl) (h step.block lt))

own-later : (count : ℕ) (own : ℕ → ℕ → Bool) (step : Step) (steps : List Step) → AreOwn count own (step ∷ steps) → AreOwn count own steps
own-later count own step steps h n lt = cases (alike step.block n)
    (λ same. rest-within (own n) step.event (log_of n steps) (subst (AreWithin (own n)) (log-own n step steps same) (h n lt)))
    (λ ne. subst (AreWithin (own n)) (log-other n step steps ne) (h n lt))

-- ---- one event

-- the memory after one event
abbrev pub after_one : Event → List ℤ → List ℤ
after_one (Load c w) m = m
after_one (Store c w) m = slice_set m c w
after_one (Turn n) m = m

-- a load gives the memory's word
abbrev pub FitsOne : Event → List ℤ → Type 0
FitsOne (Load c w) m = w ≡ word_at m c
FitsOne (Store c w) m = Unit {0}
FitsOne (Turn n) m = Unit {0}

after-first : (e : Event) (es : List Event) (m : List ℤ) → after (e ∷ es) m ≡ after es (after_one e m)
after-first (Load c w) es m = refl
after-first (Store c w) es m = refl
after-first (Turn n) es m = refl

consistent-parts : (e : Event) (es : List Event) (m : List ℤ) → IsConsistent (e ∷ es) m → FitsOne e m × IsConsistent es (after_one e m)
consistent-parts (Load c w) es m h = (h.0, h.1)
consistent-parts (Store c w) es m h = (tt, h)
consistent-parts (Turn n) es m h = (tt, h)

consistent-of : (e : Event) (es : List Event) (m : List ℤ) → FitsOne e m → IsConsistent es (after_one e m) → IsConsistent (e ∷ es) m
consistent-of (Load c w) es m f h = (f, h)
consistent-of (Store c w) es m f h = h
consistent-of (Turn n) es m f h = h

-- an event on other cells
agree-one : (cells others : ℕ → Bool) (e : Event) (m n : List ℤ) → ((c : ℕ) → others c ≡ true → cells c ≡ false) → IsWithin others e → AgreeOn cells m n → AgreeOn cells (after_one e m) n
agree-one cells others (Load c w) m n out h k = k
agree-one cells others (Store c w) m n out h k = agree-other cells m n c w (out c h) k
agree-one cells others (Turn i) m n out h k = k

-- ---- a merging of logs

-- each log is consistent where all of them are, one memory shared
pub log-consistent : (count : ℕ) (own : ℕ → ℕ → Bool) → AreApart count own → (steps : List Step) (m : List ℤ) → AreBelow count steps → AreOwn count own steps → IsConsistent (events_of steps) m → (n : ℕ) → n < count → IsConsistent (log_of n steps) m
log-consistent count own d [] m b h is n lt = tt
log-consistent count own d (step ∷ steps) m b h is n lt =
    let parts = consistent-parts step.event (events_of steps) m is in
    let later = log-consistent count own d steps (after_one step.event m) b.1 (own-later count own step steps h) parts.1 n lt in
    cases (alike step.block n)
    (λ same. subst (λ l. IsConsistent l m) (sym (log-own n step steps same)) (consistent-of step.event (log_of n steps) m parts.0 later))
    (λ ne. subst (λ l. IsConsistent l m) (sym (log-other n step steps ne))
    (within-consistent (own n) (log_of n steps) (after_one step.event m) m (own-later count own step steps h n lt)
    (agree-one (own n) (own step.block) step.event m m (λ c o. d.apart step.block n c b.0 lt ne o) (step-within count own step steps b.0 h) (agree-same (own n) m)) later))

-- and all of them are, one memory shared, where each log is
pub merge-consistent : (count : ℕ) (own : ℕ → ℕ → Bool) → AreApart count own → (steps : List Step) (m : List ℤ) → AreBelow count steps → AreOwn count own steps → ((n : ℕ) → n < count → IsConsistent (log_of n steps) m) → IsConsistent (events_of steps) m
merge-consistent count own d [] m b h is = tt
merge-consistent count own d (step ∷ steps) m b h is =
    let mine = consistent-parts step.event (log_of step.block steps) m (subst (λ l. IsConsistent l m) (log-own step.block step steps refl) (is step.block b.0)) in
    consistent-of step.event (events_of steps) m mine.0
    (merge-consistent count own d steps (after_one step.event m) b.1 (own-later count own step steps h) (λ n lt. cases (alike step.block n)
    (λ same. subst (λ k. IsConsistent (log_of k steps) (after_one step.event m)) same mine.1)
    (λ ne. within-consistent (own n) (log_of n steps) m (after_one step.event m) (own-later count own step steps h n lt)
    (agree-back (own n) (after_one step.event m) m (agree-one (own n) (own step.block) step.event m m (λ c o. d.apart step.block n c b.0 lt ne o) (step-within count own step steps b.0 h) (agree-same (own n) m)))
    (subst (λ l. IsConsistent l m) (log-other n step steps ne) (is n lt)))))

-- the memory after all steps has in a block's cells what its own log leaves there
pub merge-after : (count : ℕ) (own : ℕ → ℕ → Bool) → AreApart count own → (steps : List Step) (m l : List ℤ) → AreBelow count steps → AreOwn count own steps → (n : ℕ) → n < count → AgreeOn (own n) m l → AgreeOn (own n) (after (events_of steps) m) (after (log_of n steps) l)
merge-after count own d [] m l b h n lt agree = agree
merge-after count own d (step ∷ steps) m l b h n lt agree =
    subst (λ x. AgreeOn (own n) x (after (log_of n (step ∷ steps)) l)) (sym (after-first step.event (events_of steps) m))
    (cases (alike step.block n)
    (λ same. subst (λ x. AgreeOn (own n) (after (events_of steps) (after_one step.event m)) x) (sym (ap (λ es. after es l) (log-own n step steps same) ∙ after-first step.event (log_of n steps) l))
    (merge-after count own d steps (after_one step.event m) (after_one step.event l) b.1 (own-later count own step steps h) n lt (agree-both step.event)))
    (λ ne. subst (λ es. AgreeOn (own n) (after (events_of steps) (after_one step.event m)) (after es l)) (sym (log-other n step steps ne))
    (merge-after count own d steps (after_one step.event m) l b.1 (own-later count own step steps h) n lt
    (agree-one (own n) (own step.block) step.event m l (λ c o. d.apart step.block n c b.0 lt ne o) (step-within count own step steps b.0 h) agree))))
  where
    agree-both : (e : Event) → AgreeOn (own n) (after_one e m) (after_one e l)
    agree-both (Load c w) = agree
    agree-both (Store c w) = agree-set (own n) m l c w agree
    agree-both (Turn i) = agree

-- and in all other cells what was there
pub merge-outside : (count : ℕ) (own : ℕ → ℕ → Bool) (steps : List Step) (m : List ℤ) → AreBelow count steps → AreOwn count own steps → (c : ℕ) → ((n : ℕ) → n < count → own n c ≡ false) → word_at (after (events_of steps) m) c ≡ word_at m c
merge-outside count own [] m b h c out = refl
merge-outside count own (step ∷ steps) m b h c out =
    ap (λ x. word_at x c) (after-first step.event (events_of steps) m)
    ∙ merge-outside count own steps (after_one step.event m) b.1 (own-later count own step steps h) c out
    ∙ one step.event (step-within count own step steps b.0 h)
  where
    one : (e : Event) → IsWithin (own step.block) e → word_at (after_one e m) c ≡ word_at m c
    one (Load d w) k = refl
    one (Store d w) k = get_or-set_other m d c w (pos 0) (λ e. not-both (own step.block c) (subst (λ x. own step.block x ≡ true) (sym e) k) (out step.block b.0))
    one (Turn i) k = refl
