-- Lists of events that load and store only some cells.
use Rattle.std.proofs.Common.{◌≡◌, ◌≢◌, ◌⊎◌, inl, inr, ℕ, ◌<◌, ◌≤◌, Bool, true, false, List, [], ◌∷◌, ◌++◌, length, ℤ, pos, refl, sym, ◌∙◌, subst, arith}
use Rattle.std.specs.Prelude.{slice_set}
use Rattle.std.proofs.lemmas.List.{get_or-set_same, get_or-set_other, length-set, get_or_past}
use Rattle.spf_ast_lemmas.proofs.Members.{cases}
use Rattle.spf_ast.specs.Event.{Event, Load, Store, Turn, word_at, after, IsConsistent}

-- each load and store is of one of these cells
abbrev pub AreWithin : (ℕ → Bool) → List Event → Type 0
AreWithin cells [] = Unit {0}
AreWithin cells (Load cell word ∷ events) = (cells cell ≡ true) × AreWithin cells events
AreWithin cells (Store cell word ∷ events) = (cells cell ≡ true) × AreWithin cells events
AreWithin cells (Turn number ∷ events) = AreWithin cells events

-- two memories with equally many cells, and the same words in these
pub record AgreeOn (cells : ℕ → Bool) (one other : List ℤ) : Type 0 where
  pub size : length one ≡ length other
  pub words : (c : ℕ) → cells c ≡ true → word_at one c ≡ word_at other c

pub alike : (a b : ℕ) → (a ≡ b) ⊎ (a ≢ b)
alike a b = grind arith

inside-or-past : (c n : ℕ) → (c < n) ⊎ (n ≤ c)
inside-or-past c n = grind arith

pub true-or-false : (b : Bool) → (b ≡ true) ⊎ (b ≡ false)
true-or-false true = inl refl
true-or-false false = inr refl

pub not-both : (b : Bool) → b ≡ true → b ≡ false → ⊥
not-both true h k = cc
not-both false h k = cc

pub within-append : (cells : ℕ → Bool) (es fs : List Event) → AreWithin cells es → AreWithin cells fs → AreWithin cells (es ++ fs)
within-append cells [] fs h k = k
within-append cells (Load c w ∷ es) fs h k = (h.0, within-append cells es fs h.1 k)
within-append cells (Store c w ∷ es) fs h k = (h.0, within-append cells es fs h.1 k)
within-append cells (Turn n ∷ es) fs h k = within-append cells es fs h k

-- ---- one store

set-here : (m n : List ℤ) (c : ℕ) (w : ℤ) → length m ≡ length n → word_at (slice_set m c w) c ≡ word_at (slice_set n c w) c
set-here m n c w long = cases (inside-or-past c (length m))
    (λ inside. rw (get_or-set_same m c w (pos 0) inside, get_or-set_same n c w (pos 0) (omega (arith, inside, long))) refl)
    (λ past. rw (get_or_past (slice_set m c w) c (pos 0) (rw (length-set m c w) past), get_or_past (slice_set n c w) c (pos 0) (rw (length-set n c w) (omega (arith, past, long)))) refl)

-- made in both memories
pub agree-set : (cells : ℕ → Bool) (m n : List ℤ) (c : ℕ) (w : ℤ) → AgreeOn cells m n → AgreeOn cells (slice_set m c w) (slice_set n c w)
agree-set cells m n c w h = record {
  size = length-set m c w ∙ h.size ∙ sym (length-set n c w);
  words = λ d own. cases (alike d c)
      (λ e. rw e (set-here m n c w h.size))
      (λ ne. get_or-set_other m c d w (pos 0) ne ∙ h.words d own ∙ sym (get_or-set_other n c d w (pos 0) ne));
}

-- made in one memory, to another cell
pub agree-other : (cells : ℕ → Bool) (m n : List ℤ) (c : ℕ) (w : ℤ) → cells c ≡ false → AgreeOn cells m n → AgreeOn cells (slice_set m c w) n
agree-other cells m n c w out h = record {
  size = length-set m c w ∙ h.size;
  words = λ d own. get_or-set_other m c d w (pos 0) (λ e. not-both (cells d) own (subst (λ x. cells x ≡ false) (sym e) out)) ∙ h.words d own;
}

pub agree-same : (cells : ℕ → Bool) (m : List ℤ) → AgreeOn cells m m
agree-same cells m = record { size = refl; words = λ c own. refl }

pub agree-back : (cells : ℕ → Bool) (m n : List ℤ) → AgreeOn cells m n → AgreeOn cells n m
agree-back cells m n h = record { size = sym h.size; words = λ c own. sym (h.words c own) }

-- ---- lists

-- what is consistent with one memory is with the other
pub within-consistent : (cells : ℕ → Bool) (es : List Event) (m n : List ℤ) → AreWithin cells es → AgreeOn cells m n → IsConsistent es m → IsConsistent es n
within-consistent cells [] m n h k is = tt
within-consistent cells (Load c w ∷ es) m n h k is = (is.0 ∙ k.words c h.0, within-consistent cells es m n h.1 k is.1)
within-consistent cells (Store c w ∷ es) m n h k is =
    within-consistent cells es (slice_set m c w) (slice_set n c w) h.1 (agree-set cells m n c w k) is
within-consistent cells (Turn i ∷ es) m n h k is = within-consistent cells es m n h k is

pub length-after : (es : List Event) (m : List ℤ) → length (after es m) ≡ length m
length-after [] m = refl
length-after (Load c w ∷ es) m = length-after es m
length-after (Store c w ∷ es) m = length-after es (slice_set m c w) ∙ length-set m c w
length-after (Turn n ∷ es) m = length-after es m

-- all other cells stay
pub outside-after : (cells : ℕ → Bool) (es : List Event) (m : List ℤ) (c : ℕ) → AreWithin cells es → cells c ≡ false → word_at (after es m) c ≡ word_at m c
outside-after cells [] m c h out = refl
outside-after cells (Load d w ∷ es) m c h out = outside-after cells es m c h.1 out
outside-after cells (Store d w ∷ es) m c h out =
    outside-after cells es (slice_set m d w) c h.1 out
    ∙ get_or-set_other m d c w (pos 0) (λ e. not-both (cells c) (subst (λ x. cells x ≡ true) (sym e) h.0) out)
outside-after cells (Turn n ∷ es) m c h out = outside-after cells es m c h out

-- a list, and then another
pub consistent-second : (es fs : List Event) (m : List ℤ) → IsConsistent (es ++ fs) m → IsConsistent fs (after es m)
consistent-second [] fs m h = h
consistent-second (Load c w ∷ es) fs m h = consistent-second es fs m h.1
consistent-second (Store c w ∷ es) fs m h = consistent-second es fs (slice_set m c w) h
consistent-second (Turn n ∷ es) fs m h = consistent-second es fs m h

pub consistent-both : (es fs : List Event) (m : List ℤ) → IsConsistent es m → IsConsistent fs (after es m) → IsConsistent (es ++ fs) m
consistent-both [] fs m h k = k
consistent-both (Load c w ∷ es) fs m h k = (h.0, consistent-both es fs m h.1 k)
consistent-both (Store c w ∷ es) fs m h k = consistent-both es fs (slice_set m c w) h k
consistent-both (Turn n ∷ es) fs m h k = consistent-both es fs m h k

pub after-both : (es fs : List Event) (m : List ℤ) → after (es ++ fs) m ≡ after fs (after es m)
after-both [] fs m = refl
after-both (Load c w ∷ es) fs m = after-both es fs m
after-both (Store c w ∷ es) fs m = after-both es fs (slice_set m c w)
after-both (Turn n ∷ es) fs m = after-both es fs m
