-- Performances of a tree over shared cells, where all other cells have the words of a memory.
use Rattle.std.proofs.Common.{◌≡◌, ◌⊎◌, inl, inr, ℕ, Bool, true, false, List, [], ◌∷◌, Option, ℤ, pos, refl, sym, ap, ◌∙◌, subst, eq-eqb, Contains}
use Rattle.std.specs.Prelude.{slice_set, if◌then◌else◌, ◌==◌, ◌&&◌}
use Rattle.std.specs.Ordering.{int_eq}
use Rattle.std.proofs.lemmas.List.{get_or-set_other}
use Rattle.std.proofs.lemmas.Bool.Decides.{Decides-eqb, Decides-int_eq}
use Rattle.spf_ast_lemmas.proofs.Members.{cases, first-in, later-in}
use Rattle.spf_ast.specs.Event.{Event, Load, Store, Turn, word_at, after, IsConsistent}
use Rattle.spf_ast.specs.Interaction.{Interaction, Answer, AskLoad, AskStore, AskTurn, Performed, HasReadAll, Ended, Stopped, Misfit, perform, every_cell, reaches}
use Rattle.spf_ast.specs.Plain.{plain_answer, plain_memory}
use Rattle.spf_speculation.proofs.Within.{AreWithin, not-both}

-- ---- choices

-- a choice that isn't Misfit
pub chosen : {A : Type 0} (b : Bool) (x r : Performed A) → (if b then x else Misfit) ≡ r → HasReadAll r → (b ≡ true) × (x ≡ r)
chosen true x r e whole = (refl, e)
chosen false x r e whole = absurd (subst HasReadAll (sym e) whole)

-- a turn that stops, or doesn't
pub turned : {A : Type 0} (b : Bool) (n : ℕ) (es : List Event) (x r : Performed A) → (if b then Stopped n es else x) ≡ r → HasReadAll r → ((b ≡ true) × (Stopped n es ≡ r) × (es ≡ [])) ⊎ ((b ≡ false) × (x ≡ r))
turned true n es x r e whole = inl (refl, e, subst HasReadAll (sym e) whole)
turned false n es x r e whole = inr (refl, e)

pub both-parts : (x y : Bool) → (x && y) ≡ true → (x ≡ true) × (y ≡ true)
both-parts true y e = (refl, e)
both-parts false y e = cc

pub chose-true : {A : Type 0} (b : Bool) (x y : A) → b ≡ true → (if b then x else y) ≡ x
chose-true true x y h = refl
chose-true false x y h = cc

pub chose-false : {A : Type 0} (b : Bool) (x y : A) → b ≡ false → (if b then x else y) ≡ y
chose-false true x y h = cc
chose-false false x y h = refl

-- a load is of a shared cell, or not
pub loaded : {A : Type 0} (b : Bool) (x y r : Performed A) → (if b then x else y) ≡ r → ((b ≡ true) × (x ≡ r)) ⊎ ((b ≡ false) × (y ≡ r))
loaded true x y r e = inl (refl, e)
loaded false x y r e = inr (refl, e)

-- ---- the same performance, with the loads of the other cells

-- a list that leads along the tree to the same, with the loads of all cells; where it stores only some cells, the shorter list loads and stores only these
pub record Filled {A : Type 0} (cells : ℕ → Bool) (stop : Option ℕ) (t : Interaction A) (es : List Event) (r : Performed A) : Type 0 where
  pub full : List Event
  pub performed : perform every_cell [] stop t full ≡ r
  pub within : ((c : ℕ) (w : ℤ) → Contains full (Store c w) → cells c ≡ true) → AreWithin cells es

fill-outside : {A : Type 0} (cells : ℕ → Bool) (stop : Option ℕ) (c : ℕ) (v : ℤ) (k : ℤ → Interaction A) (es : List Event) (r : Performed A) → Filled cells stop (k v) es r → Filled cells stop (AskLoad c k) es r
fill-outside cells stop c v k es r f = record {
  full = Load c v ∷ f.full;
  performed = rw (eq-eqb c c refl) f.performed;
  within = λ stores. f.within (λ d w i. stores d w (later-in (Load c v) (Store d w) f.full i));
}

fill-load : {A : Type 0} (cells : ℕ → Bool) (stop : Option ℕ) (c d : ℕ) (w : ℤ) (k : ℤ → Interaction A) (es : List Event) (r : Performed A) → c ≡ d → cells c ≡ true → Filled cells stop (k w) es r → Filled cells stop (AskLoad c k) (Load d w ∷ es) r
fill-load cells stop c d w k es r same own f = record {
  full = Load c w ∷ f.full;
  performed = rw (eq-eqb c c refl) f.performed;
  within = λ stores. (subst (λ x. cells x ≡ true) same own, f.within (λ e v i. stores e v (later-in (Load c w) (Store e v) f.full i)));
}

fill-store : {A : Type 0} (cells : ℕ → Bool) (stop : Option ℕ) (c d : ℕ) (v w : ℤ) (t : Interaction A) (es : List Event) (r : Performed A) → c ≡ d → Filled cells stop t es r → Filled cells stop (AskStore c v t) (Store d w ∷ es) r
fill-store cells stop c d v w t es r same f = record {
  full = Store c v ∷ f.full;
  performed = rw (eq-eqb c c refl, (Decides-int_eq v v).1 refl) f.performed;
  within = λ stores. (subst (λ x. cells x ≡ true) same (stores c v (first-in (Store c v) f.full)), f.within (λ e u i. stores e u (later-in (Store c v) (Store e u) f.full i)));
}

fill-turn : {A : Type 0} (cells : ℕ → Bool) (stop : Option ℕ) (n : ℕ) (t : Interaction A) (es : List Event) (r : Performed A) → reaches stop n ≡ false → Filled cells stop t es r → Filled cells stop (AskTurn t) (Turn n ∷ es) r
fill-turn cells stop n t es r on f = record {
  full = Turn n ∷ f.full;
  performed = chose-false (reaches stop n) (Stopped n f.full) (perform every_cell [] stop t f.full) on ∙ f.performed;
  within = λ stores. f.within (λ e u i. stores e u (later-in (Turn n) (Store e u) f.full i));
}

fill-stop : {A : Type 0} (cells : ℕ → Bool) (stop : Option ℕ) (n : ℕ) (t : Interaction A) (es : List Event) (r : Performed A) → reaches stop n ≡ true → Stopped n es ≡ r → es ≡ [] → Filled cells stop (AskTurn t) (Turn n ∷ es) r
fill-stop cells stop n t es r stops e none = record {
  full = Turn n ∷ es;
  performed = chose-true (reaches stop n) (Stopped n es) (perform every_cell [] stop t es) stops ∙ e;
  within = λ stores. subst (AreWithin cells) (sym none) tt;
}

pub fill : {A : Type 0} (cells : ℕ → Bool) (m : List ℤ) (stop : Option ℕ) (t : Interaction A) (es : List Event) (r : Performed A) → perform cells m stop t es ≡ r → HasReadAll r → Filled cells stop t es r
fill cells m stop (Answer a) es r e whole =
    record { full = es; performed = e; within = λ stores. subst (AreWithin cells) (sym (subst HasReadAll (sym e) whole)) tt }
fill cells m stop (AskLoad c k) [] r e whole = cases (loaded (cells c) _ _ r e)
    (λ h. absurd (subst HasReadAll (sym h.1) whole))
    (λ h. fill-outside cells stop c (word_at m c) k [] r (fill cells m stop (k (word_at m c)) [] r h.1 whole))
fill cells m stop (AskLoad c k) (Load d w ∷ es) r e whole = cases (loaded (cells c) _ _ r e)
    (λ h. let i = chosen (c == d) _ r h.1 whole in
    fill-load cells stop c d w k es r ((Decides-eqb c d).0 i.0) h.0 (fill cells m stop (k w) es r i.1 whole))
    (λ h. fill-outside cells stop c (word_at m c) k (Load d w ∷ es) r (fill cells m stop (k (word_at m c)) (Load d w ∷ es) r h.1 whole))
fill cells m stop (AskLoad c k) (Store d w ∷ es) r e whole = cases (loaded (cells c) _ _ r e)
    (λ h. absurd (subst HasReadAll (sym h.1) whole))
    (λ h. fill-outside cells stop c (word_at m c) k (Store d w ∷ es) r (fill cells m stop (k (word_at m c)) (Store d w ∷ es) r h.1 whole))
fill cells m stop (AskLoad c k) (Turn n ∷ es) r e whole = cases (loaded (cells c) _ _ r e)
    (λ h. absurd (subst HasReadAll (sym h.1) whole))
    (λ h. fill-outside cells stop c (word_at m c) k (Turn n ∷ es) r (fill cells m stop (k (word_at m c)) (Turn n ∷ es) r h.1 whole))
fill cells m stop (AskStore c v t) [] r e whole = absurd (subst HasReadAll (sym e) whole)
fill cells m stop (AskStore c v t) (Load d w ∷ es) r e whole = absurd (subst HasReadAll (sym e) whole)
fill cells m stop (AskStore c v t) (Store d w ∷ es) r e whole =
    let i = chosen ((c == d) && int_eq v w) _ r e whole in
    fill-store cells stop c d v w t es r ((Decides-eqb c d).0 (both-parts (c == d) (int_eq v w) i.0).0) (fill cells m stop t es r i.1 whole)
fill cells m stop (AskStore c v t) (Turn n ∷ es) r e whole = absurd (subst HasReadAll (sym e) whole)
fill cells m stop (AskTurn t) [] r e whole = absurd (subst HasReadAll (sym e) whole)
fill cells m stop (AskTurn t) (Load d w ∷ es) r e whole = absurd (subst HasReadAll (sym e) whole)
fill cells m stop (AskTurn t) (Store d w ∷ es) r e whole = absurd (subst HasReadAll (sym e) whole)
fill cells m stop (AskTurn t) (Turn n ∷ es) r e whole = cases (turned (reaches stop n) n es _ r e whole)
    (λ h. fill-stop cells stop n t es r h.0 h.1 h.2)
    (λ h. fill-turn cells stop n t es r h.0 (fill cells m stop t es r h.1 whole))

-- ---- whole performances are plain runs

-- a memory has the words of the other in all cells but these
abbrev pub IsOutside : (ℕ → Bool) → List ℤ → List ℤ → Type 0
IsOutside cells one other = (c : ℕ) → cells c ≡ false → word_at one c ≡ word_at other c

pub outside-set : (cells : ℕ → Bool) (m n : List ℤ) (c : ℕ) (w : ℤ) → cells c ≡ true → IsOutside cells m n → IsOutside cells (slice_set m c w) n
outside-set cells m n c w own h d out =
    get_or-set_other m c d w (pos 0) (λ e. not-both (cells d) (subst (λ x. cells x ≡ true) (sym e) own) out) ∙ h d out

ended-same : {A : Type 0} (a b : A) (es fs : List Event) → Ended a es ≡ Ended b fs → a ≡ b
ended-same a b es fs e = cc

misfit-ends : {A B : Type 0} (a : A) (es : List Event) → Misfit ≡ Ended a es → B
misfit-ends a es e = cc

stop-ends : {A B : Type 0} (a : A) (n : ℕ) (es fs : List Event) → Stopped n es ≡ Ended a fs → B
stop-ends a n es fs e = cc

-- a performance over the cells, whose loads a memory answers that is outside of them as the given one, is the plain run on this memory
abbrev pub RunsPlainly : {A : Type 0} → Interaction A → List Event → A → List ℤ → Type 0
RunsPlainly t es a m = (plain_answer t m ≡ a) × (plain_memory t m ≡ after es m)

pub whole-is-plain : {A : Type 0} (cells : ℕ → Bool) (m : List ℤ) (stop : Option ℕ) (t : Interaction A) (es : List Event) (a : A) (n : List ℤ) → perform cells m stop t es ≡ Ended a [] → AreWithin cells es → IsOutside cells n m → IsConsistent es n → RunsPlainly t es a n
whole-is-plain cells m stop (Answer b) es a n e h out is =
    (ended-same b a es [] e, ap (λ l. after l n) (sym (subst HasReadAll (sym e) refl)))
whole-is-plain cells m stop (AskLoad c k) [] a n e h out is = cases (loaded (cells c) _ _ _ e)
    (λ p. misfit-ends a [] p.1)
    (λ p. subst (λ w. RunsPlainly (k w) [] a n) (sym (out c p.0)) (whole-is-plain cells m stop (k (word_at m c)) [] a n p.1 h out is))
whole-is-plain cells m stop (AskLoad c k) (Load d w ∷ es) a n e h out is = cases (loaded (cells c) _ _ _ e)
    (λ p. let i = chosen (c == d) _ _ p.1 refl in
    subst (λ x. RunsPlainly (k x) es a n) (is.0 ∙ ap (word_at n) (sym ((Decides-eqb c d).0 i.0))) (whole-is-plain cells m stop (k w) es a n i.1 h.1 out is.1))
    (λ p. subst (λ x. RunsPlainly (k x) (Load d w ∷ es) a n) (sym (out c p.0)) (whole-is-plain cells m stop (k (word_at m c)) (Load d w ∷ es) a n p.1 h out is))
whole-is-plain cells m stop (AskLoad c k) (Store d w ∷ es) a n e h out is = cases (loaded (cells c) _ _ _ e)
    (λ p. misfit-ends a [] p.1)
    (λ p. subst (λ x. RunsPlainly (k x) (Store d w ∷ es) a n) (sym (out c p.0)) (whole-is-plain cells m stop (k (word_at m c)) (Store d w ∷ es) a n p.1 h out is))
whole-is-plain cells m stop (AskLoad c k) (Turn i ∷ es) a n e h out is = cases (loaded (cells c) _ _ _ e)
    (λ p. misfit-ends a [] p.1)
    (λ p. subst (λ x. RunsPlainly (k x) (Turn i ∷ es) a n) (sym (out c p.0)) (whole-is-plain cells m stop (k (word_at m c)) (Turn i ∷ es) a n p.1 h out is))
whole-is-plain cells m stop (AskStore c v t) [] a n e h out is = misfit-ends a [] e
whole-is-plain cells m stop (AskStore c v t) (Load d w ∷ es) a n e h out is = misfit-ends a [] e
whole-is-plain cells m stop (AskStore c v t) (Store d w ∷ es) a n e h out is =
    let i = chosen ((c == d) && int_eq v w) _ _ e refl in
    let both = both-parts (c == d) (int_eq v w) i.0 in
    let cell : d ≡ c = sym ((Decides-eqb c d).0 both.0) in
    let word : w ≡ v = sym ((Decides-int_eq v w).0 both.1) in
    let rest = whole-is-plain cells m stop t es a (slice_set n d w) i.1 h.1 (outside-set cells n m d w h.0 out) is in (
      subst (λ x. plain_answer t (slice_set n x v) ≡ a) cell (subst (λ x. plain_answer t (slice_set n d x) ≡ a) word rest.0),
      subst (λ x. plain_memory t (slice_set n x v) ≡ after es (slice_set n d w)) cell (subst (λ x. plain_memory t (slice_set n d x) ≡ after es (slice_set n d w)) word rest.1),
    )
whole-is-plain cells m stop (AskStore c v t) (Turn i ∷ es) a n e h out is = misfit-ends a [] e
whole-is-plain cells m stop (AskTurn t) [] a n e h out is = misfit-ends a [] e
whole-is-plain cells m stop (AskTurn t) (Load d w ∷ es) a n e h out is = misfit-ends a [] e
whole-is-plain cells m stop (AskTurn t) (Store d w ∷ es) a n e h out is = misfit-ends a [] e
whole-is-plain cells m stop (AskTurn t) (Turn i ∷ es) a n e h out is = cases (turned (reaches stop i) i es _ _ e refl)
    (λ p. stop-ends a i es [] p.1)
    (λ p. whole-is-plain cells m stop t es a n p.1 h out is)

-- ---- what only stores some cells

pub stores-outside : (cells : ℕ → Bool) (es : List Event) (m : List ℤ) (c : ℕ) → ((d : ℕ) (w : ℤ) → Contains es (Store d w) → cells d ≡ true) → cells c ≡ false → word_at (after es m) c ≡ word_at m c
stores-outside cells [] m c h out = refl
stores-outside cells (Load d w ∷ es) m c h out = stores-outside cells es m c (λ e v i. h e v (later-in (Load d w) (Store e v) es i)) out
stores-outside cells (Store d w ∷ es) m c h out =
    stores-outside cells es (slice_set m d w) c (λ e v i. h e v (later-in (Store d w) (Store e v) es i)) out
    ∙ get_or-set_other m d c w (pos 0) (λ e. not-both (cells c) (subst (λ x. cells x ≡ true) (sym e) (h d w (first-in (Store d w) es))) out)
stores-outside cells (Turn n ∷ es) m c h out = stores-outside cells es m c (λ e v i. h e v (later-in (Turn n) (Store e v) es i)) out
