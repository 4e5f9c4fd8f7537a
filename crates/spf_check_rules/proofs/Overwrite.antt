-- Two memories that agree on what a list of events loads before it has stored it take the list alike.
use Rattle.std.proofs.Common.{◌≡◌, ◌⊎◌, ◌≢◌, inl, inr, ℕ, ◌<◌, ◌≤◌, List, [], ◌∷◌, ◌++◌, length, None, ℤ, pos, refl, sym, ap, ◌∙◌, arith, Contains}
use Rattle.std.specs.Prelude.{slice_set}
use Rattle.std.proofs.lemmas.List.{get_or-set_same, get_or-set_other, length-set, get_or_past}
use Rattle.spf_ast.specs.Carried.{Carried}
use Rattle.spf_ast.specs.Event.{Event, Load, Store, Turn, word_at, after, IsConsistent}
use Rattle.spf_ast.specs.Interaction.{Interaction, Ended, Ending}
use Rattle.spf_ast.specs.Syntax.{Program}
use Rattle.spf_ast.specs.Construct.{Construct}
use Rattle.spf_ast.specs.Plain.{plain_events, plain_answer, IsPlainRun}
use Rattle.spf_ast.specs.Laws.{PartsHaveOneBlockRun}
use Rattle.spf_ast.specs.BlockRun.{Setup, IsSetup, part_asks}
use Rattle.spf_check_rules.specs.Rules.{guessed_part}
use Rattle.spf_check_rules.specs.Freedom.{IsWrittenCell, IsRollbackFree}
use Rattle.spf_check_rules.specs.Overwriting.{AgreeOnUnwritten, IsTheSameOn}
use Rattle.spf_ast_lemmas.proofs.Members.{cases, in-or-not, first-or-later, none-in}
use Rattle.spf_check_rules.proofs.Along.{stored_by, store-stored}

-- each load of one of these cells comes after a store to it
abbrev Covered : (ℕ → Type 0) → List ℕ → List Event → Type 0
Covered written stored [] = Unit {0}
Covered written stored (Load cell word ∷ events) = (written cell → Contains stored cell) × Covered written stored events
Covered written stored (Store cell word ∷ events) = Covered written (cell ∷ stored) events
Covered written stored (Turn number ∷ events) = Covered written stored events

covered : (written : ℕ → Type 0) (stored : List ℕ) (es : List Event) → ((before later : List Event) (c : ℕ) (w : ℤ) → es ≡ before ++ Load c w ∷ later → written c → Contains (stored_by before stored) c) → Covered written stored es
covered written stored [] h = tt
covered written stored (Load d v ∷ es) h =
    (h [] es d v refl, covered written stored es (λ before later c w e. h (Load d v ∷ before) later c w (ap (λ l. Load d v ∷ l) e)))
covered written stored (Store d v ∷ es) h =
    covered written (d ∷ stored) es (λ before later c w e. h (Store d v ∷ before) later c w (ap (λ l. Store d v ∷ l) e))
covered written stored (Turn n ∷ es) h =
    covered written stored es (λ before later c w e. h (Turn n ∷ before) later c w (ap (λ l. Turn n ∷ l) e))

-- two memories agree on the cells that have been stored, and on those that aren't written
abbrev Agree : (ℕ → Type 0) → List ℕ → List ℤ → List ℤ → Type 0
Agree written stored m n = (c : ℕ) → Contains stored c ⊎ (written c → ⊥) → word_at m c ≡ word_at n c

alike : (a b : ℕ) → (a ≡ b) ⊎ (a ≢ b)
alike a b = grind arith

inside-or-past : (c n : ℕ) → (c < n) ⊎ (n ≤ c)
inside-or-past c n = grind arith

agree-stored : (written : ℕ → Type 0) (stored : List ℕ) (m n : List ℤ) (c : ℕ) (w : ℤ) → length m ≡ length n → Agree written stored m n → Agree written (c ∷ stored) (slice_set m c w) (slice_set n c w)
agree-stored written stored m n c w long agree d h = cases (alike d c) (λ e. same e (inside-or-past c (length m))) other
  where
    same : d ≡ c → (c < length m) ⊎ (length m ≤ c) → word_at (slice_set m c w) d ≡ word_at (slice_set n c w) d
    same e (inl inside) =
        rw (e, get_or-set_same m c w (pos 0) inside, get_or-set_same n c w (pos 0) (omega (arith, inside, long))) refl
    same e (inr past) =
        rw (e, get_or_past (slice_set m c w) c (pos 0) (rw (length-set m c w) past), get_or_past (slice_set n c w) c (pos 0) (rw (length-set n c w) (omega (arith, past, long)))) refl

    before : d ≢ c → Contains (c ∷ stored) d ⊎ (written d → ⊥) → Contains stored d ⊎ (written d → ⊥)
    before ne (inl i) = cases (first-or-later c d stored i) (λ e. absurd (ne (sym e))) inl
    before ne (inr out) = inr out

    other : d ≢ c → word_at (slice_set m c w) d ≡ word_at (slice_set n c w) d
    other ne = get_or-set_other m c d w (pos 0) ne ∙ agree d (before ne h) ∙ sym (get_or-set_other n c d w (pos 0) ne)

-- the list is consistent with either
both-consistent : (written : ℕ → Type 0) (stored : List ℕ) (es : List Event) (m n : List ℤ) → length m ≡ length n → Agree written stored m n → Covered written stored es → IsConsistent es m → IsConsistent es n × Agree written (stored_by es stored) (after es m) (after es n)
both-consistent written stored [] m n long agree h is = (tt, agree)
both-consistent written stored (Load c w ∷ es) m n long agree h is =
    let rest = both-consistent written stored es m n long agree h.1 is.1 in
    ((is.0 ∙ agree c (loaded (in-or-not stored c)), rest.0), rest.1)
  where
    loaded : Contains stored c ⊎ (Contains stored c → ⊥) → Contains stored c ⊎ (written c → ⊥)
    loaded (inl i) = inl i
    loaded (inr out) = inr (λ writes. out (h.0 writes))
both-consistent written stored (Store c w ∷ es) m n long agree h is =
    both-consistent written (c ∷ stored) es (slice_set m c w) (slice_set n c w) (length-set m c w ∙ long ∙ sym (length-set n c w)) (agree-stored written stored m n c w long agree) h is
both-consistent written stored (Turn k ∷ es) m n long agree h is = both-consistent written stored es m n long agree h is

-- the plain run on one memory is that on the other
pub overwrites : PartsHaveOneBlockRun → (p : Program) (construct : Construct) (s : Setup) (one other : List ℤ) → IsRollbackFree p construct → IsSetup p s → AgreeOnUnwritten p construct (length s.input) one other → IsTheSameOn p construct s one other
overwrites law p construct s one other free setup agree = record {
  events = same;
  answer = answer;
  contents = λ value state cell is own.
      let store = free.stores_all s es value state (record { setup = setup; stop = None; performed = run.ends ∙ ap (λ a. Ended a []) is; whole = refl }) cell own in
      both.1 cell (inl (store-stored es [] cell store.word store.stored)) ∙ ap (λ l. word_at (after l other) cell) same;
}
  where
    tree : Interaction (Ending Carried)
    tree = part_asks p construct (guessed_part construct) s

    es : List Event
    es = plain_events tree one

    run : IsPlainRun tree one es (plain_answer tree one)
    run = (law p construct (guessed_part construct) s one).is

    written : ℕ → Type 0
    written c = IsWrittenCell p construct (length s.input) c

    held : Covered written [] es
    held = covered written [] es (λ before later c w e writes.
        let store = free.loads_what_it_stored s es (Ended (plain_answer tree one) []) (record { setup = setup; stop = None; performed = run.ends; whole = refl }) before later c w e writes in
        store-stored before [] c store.word store.stored)

    at-first : Agree written [] one other
    at-first c (inl i) = absurd (none-in c i)
    at-first c (inr out) = agree.words c out

    both : IsConsistent es other × Agree written (stored_by es []) (after es one) (after es other)
    both = both-consistent written [] es one other agree.cells at-first held run.consistent

    only : (es ≡ plain_events tree other) × (plain_answer tree one ≡ plain_answer tree other)
    only = (law p construct (guessed_part construct) s other).only es (plain_answer tree one) (record { ends = run.ends; consistent = both.0; unpolled = run.unpolled })

    same : es ≡ plain_events tree other
    same = only.0

    answer : plain_answer tree one ≡ plain_answer tree other
    answer = only.1
