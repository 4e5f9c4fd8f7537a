-- One block: its attempts keep to its cells, and a whole one at the real row is its plain run.
use Rattle.std.proofs.Common.{◌≡◌, ◌≢◌, ℕ, zero, suc, ◌<◌, true, false, List, [], ◌++◌, length, Some, None, ℤ, pos, ◌+ℤ◌, refl, sym, ap, ◌∙◌, subst, arith, inl, inr, Contains}
use Rattle.std.proofs.lemmas.Int.{ints}
use Rattle.spf_ast_lemmas.proofs.Members.{cases}
use Rattle.spf_ast.specs.declared.syntax.Part.{Part}
use Rattle.spf_ast.specs.Carried.{Carried}
use Rattle.spf_ast.specs.Event.{Event, Store, word_at, after, IsConsistent}
use Rattle.spf_ast.specs.Interaction.{HasReadAll, State, Performed, Ended, Ending, Value}
use Rattle.spf_ast.specs.Syntax.{Program}
use Rattle.spf_ast.specs.Construct.{Construct, fold, pair, Header, part_of}
use Rattle.spf_ast.specs.Plain.{plain_events, plain_answer, plain_memory}
use Rattle.spf_ast.specs.Program.{extents_of}
use Rattle.spf_ast.specs.BlockRun.{Setup, IsSetup, block_setup, part_asks}
use Rattle.spf_ast.specs.Laws.{PartsHaveOneBlockRun}
use Rattle.spf_check_rules.specs.Rules.{IsBlockPart, guessed_part, may_write}
use Rattle.spf_check_rules.specs.Freedom.{IsOwn, IsWrittenCell, HaveDisjointSpans}
use Rattle.spf_check_rules.specs.Overwriting.{AgreeOnUnwritten, IsTheSameOn, BlocksOverwrite}
use Rattle.spf_check_rules.proofs.Cells.{has-array-of}
use Rattle.spf_speculation_entry.specs.Entry.{Entry, IsEntry, HasItsBlocks, number_of, own, asks_at, begins_at}
use Rattle.spf_speculation_entry.specs.Attempts.{attempted, IsAttempt, IsWhole}
use Rattle.spf_speculation.specs.Runs.{IsRealLog, at_once, again}
use Rattle.spf_speculation.specs.Laws.{IsItsPlainRun, MayBegin, IsBefore, entry_answer}
use Rattle.spf_speculation.proofs.Within.{AreWithin, true-or-false, within-append, outside-after, consistent-second, length-after, after-both}
use Rattle.spf_speculation.proofs.Merging.{AreApart}
use Rattle.spf_speculation.proofs.Trees.{Filled, fill, RunsPlainly, whole-is-plain, stores-outside}

-- the laws of single block runs, which other crates prove
pub record BlockLaws : Type 0 where
  pub runs : PartsHaveOneBlockRun
  pub overwrite : BlocksOverwrite

-- ---- setups

-- the setup of a block at a row
abbrev pub setup_at : Entry → ℕ → Carried → Setup
setup_at e n v = block_setup e.input e.slots (number_of e n) v

pub is-setup : (e : Entry) → IsEntry e → (n : ℕ) (v : Carried) → IsSetup e.program (setup_at e n v)
is-setup e h n v = record { bytes = h.bytes; slots = h.slots }

pub whole-attempt : (e : Entry) (n : ℕ) (v : Carried) (a : ℕ) (log : List Event) (answer : Ending Carried) → IsWhole e n v a log answer → IsAttempt e n v a log
whole-attempt e n v a log answer h = subst HasReadAll (sym h) refl

-- ---- cells

-- an attempt loads and stores only cells of its block
pub attempt-within : (e : Entry) → IsEntry e → (n : ℕ) (v : Carried) (a : ℕ) (log : List Event) → IsAttempt e n v a log → AreWithin (own e n) log
attempt-within e h n v a log is =
    let r : Performed (Ending Carried) = attempted e n v a log in
    let f : Filled (own e n) (Some a) (asks_at e n v) log r = fill (own e n) e.memory (Some a) (asks_at e n v) log r refl is in
    f.within (λ c w i. h.free.stores_its_own (part_of e.construct n) (setup_at e n v) f.full r
    (record { setup = is-setup e h n v; stop = Some a; performed = f.performed; whole = is }) c w i)

pub real-within : (e : Entry) → IsEntry e → (guess : ℕ → Carried) (n : ℕ) (v : Carried) (log : List Event) (answer : Ending Carried) → IsRealLog e guess n v log answer → AreWithin (own e n) log
real-within e h guess n v log answer (at_once same w) = attempt-within e h n v 1 log (whole-attempt e n v 1 log answer w)
real-within e h guess n v log answer (again first second is ne one two) =
    subst (AreWithin (own e n)) (sym is)
    (within-append (own e n) first second (attempt-within e h n (begins_at e guess n) 1 first one) (attempt-within e h n v 2 second (whole-attempt e n v 2 second answer two)))

-- the spans of two blocks share no cell
apart-at : (p : Program) (c : Construct) (len : ℕ) (header : Header) → HasItsBlocks c header → HaveDisjointSpans p c → (n k cell : ℕ) → n < header.blocks → k < header.blocks → n ≢ k
    → IsOwn p c (part_of c n) len (header.low +ℤ pos n) cell → IsOwn p c (part_of c k) len (header.low +ℤ pos k) cell → ⊥
apart-at p (fold line head body) len header b d n k cell n-low k-low ne x y =
    d len (header.low +ℤ pos n) (header.low +ℤ pos k) cell (λ same. ne (omega (arith, ints, same))) x y
apart-at p (pair line head producer consumer) len header b d zero zero cell n-low k-low ne x y = ne refl
apart-at p (pair line head producer consumer) len header b d zero (suc k) cell n-low k-low ne x y =
    d len (header.low +ℤ pos zero) (header.low +ℤ pos (suc k)) cell x y
apart-at p (pair line head producer consumer) len header b d (suc n) zero cell n-low k-low ne x y =
    d len (header.low +ℤ pos zero) (header.low +ℤ pos (suc n)) cell y x
apart-at p (pair line head producer consumer) len header b d (suc n) (suc k) cell n-low k-low ne x y = ne (omega (arith, n-low, k-low, b))

pub blocks-apart : (e : Entry) → IsEntry e → AreApart e.header.blocks (own e)
blocks-apart e h = record {
  apart = λ n k c n-low k-low ne mine. cases (true-or-false (own e k c))
      (λ other. absurd (apart-at e.program e.construct (length e.input) e.header h.blocks h.free.spans_are_disjoint n k c n-low k-low ne mine other))
      (λ out. out);
}

-- a block's cells are written ones
block-part : (c : Construct) (n : ℕ) → IsBlockPart (part_of c n)
block-part (fold line head body) n = tt
block-part (pair line head producer consumer) zero = tt
block-part (pair line head producer consumer) (suc n) = tt

pub own-written : (e : Entry) (n c : ℕ) → own e n c ≡ true → IsWrittenCell e.program e.construct (length e.input) c
own-written e n c mine =
    let h = has-array-of (extents_of e.program (length e.input)) (number_of e n) (may_write e.program e.construct (part_of e.construct n)) c mine in
    record { array = h.0; written = record { part = part_of e.construct n; is_block_part = block-part e.construct n; entry = h.1 }; inside = h.2 }

-- a cell that no array has which is written is no block's own
pub not-own : (e : Entry) (n c : ℕ) → (IsWrittenCell e.program e.construct (length e.input) c → ⊥) → own e n c ≡ false
not-own e n c out = cases (true-or-false (own e n c)) (λ mine. absurd (out (own-written e n c mine))) (λ f. f)

-- the plain run of a block stores only its own cells
pub stores-own : BlockLaws → (e : Entry) → IsEntry e → (n : ℕ) (v : Carried) (m : List ℤ) (d : ℕ) (w : ℤ) → Contains (plain_events (asks_at e n v) m) (Store d w) → own e n d ≡ true
stores-own laws e h n v m d w i =
    h.free.stores_its_own (part_of e.construct n) (setup_at e n v) (plain_events (asks_at e n v) m) (Ended (plain_answer (asks_at e n v) m) [])
    (record { setup = is-setup e h n v; stop = None; performed = (laws.runs e.program e.construct (part_of e.construct n) (setup_at e n v) m).is.ends; whole = refl })
    d w i

-- and leaves all others
pub plain-outside : BlockLaws → (e : Entry) → IsEntry e → (n : ℕ) (v : Carried) (m : List ℤ) (c : ℕ) → own e n c ≡ false → word_at (plain_memory (asks_at e n v) m) c ≡ word_at m c
plain-outside laws e h n v m c out = stores-outside (own e n) (plain_events (asks_at e n v) m) m c (stores-own laws e h n v m) out

-- ---- the plain run

-- a whole attempt is the plain run on what the block's log before it left
attempt-plain : (e : Entry) → IsEntry e → (n : ℕ) (v : Carried) (a : ℕ) (before log : List Event) (answer : Ending Carried) → AreWithin (own e n) before → IsConsistent (before ++ log) e.memory → IsWhole e n v a log answer → RunsPlainly (asks_at e n v) log answer (after before e.memory)
attempt-plain e h n v a before log answer within is w =
    whole-is-plain (own e n) e.memory (Some a) (asks_at e n v) log answer (after before e.memory) w
    (attempt-within e h n v a log (whole-attempt e n v a log answer w))
    (λ c out. outside-after (own e n) before e.memory c within out)
    (consistent-second before log e.memory is)

-- the overwrite law, of a part that is the guessed one
record AreTheSame (p : Program) (construct : Construct) (part : Part) (s : Setup) (one other : List ℤ) : Type 0 where
  answer : plain_answer (part_asks p construct part s) one ≡ plain_answer (part_asks p construct part s) other
  contents : (value : Carried) (state : State) (cell : ℕ) → plain_answer (part_asks p construct part s) one ≡ Value value state
      → IsOwn p construct part (length s.input) s.number cell
      → word_at (plain_memory (part_asks p construct part s) one) cell ≡ word_at (plain_memory (part_asks p construct part s) other) cell

are-the-same : (p : Program) (construct : Construct) (part : Part) (s : Setup) (one other : List ℤ) → part ≡ guessed_part construct → IsTheSameOn p construct s one other → AreTheSame p construct part s one other
are-the-same p construct part s one other e h =
    subst (λ (x : Part). AreTheSame p construct x s one other) (sym e) (record { answer = h.answer; contents = h.contents })

-- each block but block 0 runs the part that is guessed
guessed-later : (c : Construct) (n : ℕ) → part_of c (suc n) ≡ guessed_part c
guessed-later (fold line head body) n = refl
guessed-later (pair line head producer consumer) n = refl

-- on two memories that agree on what isn't written a block that begins from a guess does the same
later-alike : BlockLaws → (e : Entry) → IsEntry e → (n : ℕ) (v : Carried) (one other : List ℤ) → AgreeOnUnwritten e.program e.construct (length e.input) one other → AreTheSame e.program e.construct (part_of e.construct (suc n)) (setup_at e (suc n) v) one other
later-alike laws e h n v one other agree =
    are-the-same e.program e.construct (part_of e.construct (suc n)) (setup_at e (suc n) v) one other (guessed-later e.construct n)
    (laws.overwrite e.program e.construct (setup_at e (suc n) v) one other h.free (is-setup e h (suc n) v) agree)

later-same : BlockLaws → (e : Entry) → IsEntry e → (n : ℕ) (v : Carried) (log : List Event) (answer : Ending Carried) (one other : List ℤ)
    → AgreeOnUnwritten e.program e.construct (length e.input) one other
    → plain_answer (asks_at e (suc n) v) one ≡ answer → plain_memory (asks_at e (suc n) v) one ≡ after log e.memory
    → IsItsPlainRun e (suc n) v log answer other
later-same laws e h n v log answer one other agree ends leaves =
    let same = later-alike laws e h n v one other agree in
    record {
      same = sym same.answer ∙ ends;
      contents = λ value state cell is mine. sym (same.contents value state cell (ends ∙ is) mine) ∙ ap (λ x. word_at x cell) leaves;
    }

-- the memory before a second attempt agrees with the entry on what isn't written
agree-left : (e : Entry) (n : ℕ) (before : List Event) (memory : List ℤ) → AreWithin (own e n) before → AgreeOnUnwritten e.program e.construct (length e.input) e.memory memory → AgreeOnUnwritten e.program e.construct (length e.input) (after before e.memory) memory
agree-left e n before memory within agree = record {
  cells = length-after before e.memory ∙ agree.cells;
  words = λ c out. outside-after (own e n) before e.memory c within (not-own e n c out) ∙ agree.words c out;
}

block-first : (e : Entry) → IsEntry e → (v : Carried) (log : List Event) (answer : Ending Carried) (memory : List ℤ) → IsWhole e zero v 1 log answer → IsConsistent log e.memory → memory ≡ e.memory → IsItsPlainRun e zero v log answer memory
block-first e h v log answer memory w is same =
    let run = attempt-plain e h zero v 1 [] log answer tt is w in
    subst (IsItsPlainRun e zero v log answer) (sym same)
    (record { same = run.0; contents = λ value state cell ends mine. ap (λ x. word_at x cell) run.1 })

block-later : BlockLaws → (e : Entry) → IsEntry e → (n : ℕ) (v : Carried) (a : ℕ) (before log : List Event) (answer : Ending Carried) (memory : List ℤ) → AreWithin (own e (suc n)) before → IsWhole e (suc n) v a log answer → IsConsistent (before ++ log) e.memory → AgreeOnUnwritten e.program e.construct (length e.input) e.memory memory → IsItsPlainRun e (suc n) v (before ++ log) answer memory
block-later laws e h n v a before log answer memory within w is agree =
    let run = attempt-plain e h (suc n) v a before log answer within is w in
    later-same laws e h n v (before ++ log) answer (after before e.memory) memory (agree-left e (suc n) before memory within agree) run.0 (run.1 ∙ sym (after-both before log e.memory))

pub real-plain : BlockLaws → (e : Entry) (guess : ℕ → Carried) (n : ℕ) (v : Carried) (log : List Event) (answer : Ending Carried) (memory : List ℤ) → IsEntry e → IsRealLog e guess n v log answer → IsConsistent log e.memory → MayBegin e n v memory → IsItsPlainRun e n v log answer memory
real-plain laws e guess zero v log answer memory h (at_once same w) is begin = block-first e h v log answer memory w is begin.1
real-plain laws e guess (suc n) v log answer memory h (at_once same w) is begin = block-later laws e h n v 1 [] log answer memory tt w is begin
real-plain laws e guess zero v log answer memory h (again first second split ne one two) is begin = absurd (ne (sym begin.0))
real-plain laws e guess (suc n) v log answer memory h (again first second split ne one two) is begin =
    subst (λ l. IsItsPlainRun e (suc n) v l answer memory) (sym split)
    (block-later laws e h n v 2 first second answer memory (attempt-within e h (suc n) (begins_at e guess (suc n)) 1 first one) two (subst (λ l. IsConsistent l e.memory) split is) begin)

-- ---- answers on the entry's memory

pub agree-itself : (e : Entry) → AgreeOnUnwritten e.program e.construct (length e.input) e.memory e.memory
agree-itself e = record { cells = refl; words = λ c out. refl }

before-within : (e : Entry) → IsEntry e → (n : ℕ) (before : List Event) → IsBefore e n before → AreWithin (own e n) before
before-within e h zero before is = subst (AreWithin (own e zero)) (sym is) tt
before-within e h (suc n) before (inl none) = subst (AreWithin (own e (suc n))) (sym none) tt
before-within e h (suc n) before (inr (w, other, is)) = attempt-within e h (suc n) w other before is

pub attempt-answers : BlockLaws → (e : Entry) (n : ℕ) (v : Carried) (a : ℕ) (before log : List Event) (answer : Ending Carried) → IsEntry e → IsBefore e n before → IsWhole e n v a log answer → IsConsistent (before ++ log) e.memory → answer ≡ entry_answer e n v
attempt-answers laws e zero v a before log answer h first w is =
    let run = attempt-plain e h zero v a before log answer (before-within e h zero before first) is w in
    sym run.0 ∙ ap (λ l. plain_answer (asks_at e zero v) (after l e.memory)) first
attempt-answers laws e (suc n) v a before log answer h first w is =
    let within = before-within e h (suc n) before first in
    let run = attempt-plain e h (suc n) v a before log answer within is w in
    sym run.0 ∙ (later-alike laws e h n v (after before e.memory) e.memory (agree-left e (suc n) before e.memory within (agree-itself e))).answer

pub plain-answers : BlockLaws → (e : Entry) (n : ℕ) (v : Carried) (memory : List ℤ) → IsEntry e → MayBegin e n v memory → plain_answer (asks_at e n v) memory ≡ entry_answer e n v
plain-answers laws e zero v memory h begin = ap (plain_answer (asks_at e zero v)) begin.1
plain-answers laws e (suc n) v memory h begin = sym (later-alike laws e h n v e.memory memory begin).answer
