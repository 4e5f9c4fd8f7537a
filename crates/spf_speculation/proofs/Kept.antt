-- The loads of other cells may be left out of a performance where a memory gives their words.
use Rattle.std.proofs.Common.{◌≡◌, ℕ, ◌<◌, Bool, true, false, List, [], ◌∷◌, Some, Option, ℤ, sym, ap, ◌∙◌, subst, arith}
use Rattle.std.specs.Prelude.{if◌then◌else◌, ◌==◌, ◌&&◌, nat_le}
use Rattle.std.specs.Ordering.{int_eq}
use Rattle.std.proofs.lemmas.Bool.Decides.{Decides-eqb}
use Rattle.spf_ast_lemmas.proofs.Members.{cases}
use Rattle.spf_ast.specs.Event.{Event, Load, Store, Turn, word_at}
use Rattle.spf_ast.specs.Interaction.{Interaction, Answer, AskLoad, AskStore, AskTurn, Performed, HasReadAll, Ended, Stopped, Misfit, perform, every_cell, reaches}
use Rattle.spf_speculation_entry.specs.Attempts.{on_cells, OthersAreOf, TurnsAreBelow}
use Rattle.spf_speculation.proofs.Within.{true-or-false}
use Rattle.spf_speculation.proofs.Trees.{chosen, turned, chose-true, chose-false, loaded}

pub on-load : (cells : ℕ → Bool) (c : ℕ) (w : ℤ) (es : List Event) → cells c ≡ true → on_cells cells (Load c w ∷ es) ≡ Load c w ∷ on_cells cells es
on-load cells c w es own = chose-true (cells c) (Load c w ∷ on_cells cells es) (on_cells cells es) own

pub off-load : (cells : ℕ → Bool) (c : ℕ) (w : ℤ) (es : List Event) → cells c ≡ false → on_cells cells (Load c w ∷ es) ≡ on_cells cells es
off-load cells c w es out = chose-false (cells c) (Load c w ∷ on_cells cells es) (on_cells cells es) out

-- one event of a performance over the cells
load-kept : {A : Type 0} (cells : ℕ → Bool) (m : List ℤ) (stop : Option ℕ) (c d : ℕ) (w : ℤ) (k : ℤ → Interaction A) (es : List Event) (r : Performed A) → c ≡ d → cells c ≡ true → perform cells m stop (k w) es ≡ r → perform cells m stop (AskLoad c k) (Load d w ∷ es) ≡ r
load-kept cells m stop c d w k es r same own h =
    chose-true (cells c) (if c == d then perform cells m stop (k w) es else Misfit) (perform cells m stop (k (word_at m c)) (Load d w ∷ es)) own
    ∙ chose-true (c == d) (perform cells m stop (k w) es) Misfit ((Decides-eqb c d).1 same) ∙ h

load-other : {A : Type 0} (cells : ℕ → Bool) (m : List ℤ) (stop : Option ℕ) (c : ℕ) (k : ℤ → Interaction A) (es : List Event) (r : Performed A) → cells c ≡ false → perform cells m stop (k (word_at m c)) es ≡ r → perform cells m stop (AskLoad c k) es ≡ r
load-other cells m stop c k es r out h = chose-false (cells c) _ (perform cells m stop (k (word_at m c)) es) out ∙ h

none-left : {A : Type 0} (es : List Event) (r : Performed A) (f : List Event → Performed A) → f es ≡ r → HasReadAll r → ((l : List Event) → HasReadAll (f l) → l ≡ []) → es ≡ []
none-left es r f e whole h = h es (subst HasReadAll (sym e) whole)

pub kept : {A : Type 0} (cells : ℕ → Bool) (m : List ℤ) (stop : Option ℕ) (t : Interaction A) (es : List Event) (r : Performed A) → perform every_cell [] stop t es ≡ r → HasReadAll r → OthersAreOf m cells es → perform cells m stop t (on_cells cells es) ≡ r
kept cells m stop (Answer a) es r e whole others =
    let none : es ≡ [] = none-left es r (λ l. Ended a l) e whole (λ l h. h) in
    ap (λ l. Ended a (on_cells cells l)) none ∙ ap (λ l. Ended a l) (sym none) ∙ e
kept cells m stop (AskLoad c k) [] r e whole others = absurd (subst HasReadAll (sym e) whole)
kept cells m stop (AskLoad c k) (Load d w ∷ es) r e whole others =
    let i = chosen (c == d) _ r e whole in
    let same = (Decides-eqb c d).0 i.0 in
    let rest = kept cells m stop (k w) es r i.1 whole others.1 in
    cases (true-or-false (cells c))
    (λ own. subst (λ l. perform cells m stop (AskLoad c k) l ≡ r) (sym (on-load cells d w es (subst (λ x. cells x ≡ true) same own)))
    (load-kept cells m stop c d w k (on_cells cells es) r same own rest))
    (λ out. subst (λ l. perform cells m stop (AskLoad c k) l ≡ r) (sym (off-load cells d w es (subst (λ x. cells x ≡ false) same out)))
    (load-other cells m stop c k (on_cells cells es) r out
    (subst (λ x. perform cells m stop (k x) (on_cells cells es) ≡ r) (others.0 (subst (λ x. cells x ≡ false) same out) ∙ ap (word_at m) (sym same)) rest)))
kept cells m stop (AskLoad c k) (Store d w ∷ es) r e whole others = absurd (subst HasReadAll (sym e) whole)
kept cells m stop (AskLoad c k) (Turn n ∷ es) r e whole others = absurd (subst HasReadAll (sym e) whole)
kept cells m stop (AskStore c v t) [] r e whole others = absurd (subst HasReadAll (sym e) whole)
kept cells m stop (AskStore c v t) (Load d w ∷ es) r e whole others = absurd (subst HasReadAll (sym e) whole)
kept cells m stop (AskStore c v t) (Store d w ∷ es) r e whole others =
    let i = chosen ((c == d) && int_eq v w) _ r e whole in
    chose-true ((c == d) && int_eq v w) (perform cells m stop t (on_cells cells es)) Misfit i.0 ∙ kept cells m stop t es r i.1 whole others
kept cells m stop (AskStore c v t) (Turn n ∷ es) r e whole others = absurd (subst HasReadAll (sym e) whole)
kept cells m stop (AskTurn t) [] r e whole others = absurd (subst HasReadAll (sym e) whole)
kept cells m stop (AskTurn t) (Load d w ∷ es) r e whole others = absurd (subst HasReadAll (sym e) whole)
kept cells m stop (AskTurn t) (Store d w ∷ es) r e whole others = absurd (subst HasReadAll (sym e) whole)
kept cells m stop (AskTurn t) (Turn n ∷ es) r e whole others = cases (turned (reaches stop n) n es _ r e whole)
    (λ h. chose-true (reaches stop n) (Stopped n (on_cells cells es)) (perform cells m stop t (on_cells cells es)) h.0
    ∙ ap (λ l. Stopped n (on_cells cells l)) h.2 ∙ ap (λ l. Stopped n l) (sym h.2) ∙ h.1)
    (λ h. chose-false (reaches stop n) (Stopped n (on_cells cells es)) (perform cells m stop t (on_cells cells es)) h.0 ∙ kept cells m stop t es r h.1 whole others)

-- ---- what no turn stops

not-reached : (stop n : ℕ) → n < stop → nat_le stop n ≡ true → ⊥
not-reached stop n low h = grind (arith, low, h)

pub unstopped : {A : Type 0} (cells : ℕ → Bool) (m : List ℤ) (stop : ℕ) (t : Interaction A) (es : List Event) (r : Performed A) → perform cells m (Some stop) t es ≡ r → HasReadAll r → TurnsAreBelow stop es → (a : A) × (r ≡ Ended a [])
unstopped cells m stop (Answer a) es r e whole low = (a, sym e ∙ ap (λ l. Ended a l) (none-left es r (λ l. Ended a l) e whole (λ l h. h)))
unstopped cells m stop (AskLoad c k) [] r e whole low = cases (loaded (cells c) _ _ r e)
    (λ h. absurd (subst HasReadAll (sym h.1) whole))
    (λ h. unstopped cells m stop (k (word_at m c)) [] r h.1 whole low)
unstopped cells m stop (AskLoad c k) (Load d w ∷ es) r e whole low = cases (loaded (cells c) _ _ r e)
    (λ h. unstopped cells m stop (k w) es r (chosen (c == d) _ r h.1 whole).1 whole low)
    (λ h. unstopped cells m stop (k (word_at m c)) (Load d w ∷ es) r h.1 whole low)
unstopped cells m stop (AskLoad c k) (Store d w ∷ es) r e whole low = cases (loaded (cells c) _ _ r e)
    (λ h. absurd (subst HasReadAll (sym h.1) whole))
    (λ h. unstopped cells m stop (k (word_at m c)) (Store d w ∷ es) r h.1 whole low)
unstopped cells m stop (AskLoad c k) (Turn n ∷ es) r e whole low = cases (loaded (cells c) _ _ r e)
    (λ h. absurd (subst HasReadAll (sym h.1) whole))
    (λ h. unstopped cells m stop (k (word_at m c)) (Turn n ∷ es) r h.1 whole low)
unstopped cells m stop (AskStore c v t) [] r e whole low = absurd (subst HasReadAll (sym e) whole)
unstopped cells m stop (AskStore c v t) (Load d w ∷ es) r e whole low = absurd (subst HasReadAll (sym e) whole)
unstopped cells m stop (AskStore c v t) (Store d w ∷ es) r e whole low =
    unstopped cells m stop t es r (chosen ((c == d) && int_eq v w) _ r e whole).1 whole low
unstopped cells m stop (AskStore c v t) (Turn n ∷ es) r e whole low = absurd (subst HasReadAll (sym e) whole)
unstopped cells m stop (AskTurn t) [] r e whole low = absurd (subst HasReadAll (sym e) whole)
unstopped cells m stop (AskTurn t) (Load d w ∷ es) r e whole low = absurd (subst HasReadAll (sym e) whole)
unstopped cells m stop (AskTurn t) (Store d w ∷ es) r e whole low = absurd (subst HasReadAll (sym e) whole)
unstopped cells m stop (AskTurn t) (Turn n ∷ es) r e whole low = cases (turned (reaches (Some stop) n) n es _ r e whole)
    (λ h. absurd (not-reached stop n low.0 h.0))
    (λ h. unstopped cells m stop t es r h.1 whole low.1)
