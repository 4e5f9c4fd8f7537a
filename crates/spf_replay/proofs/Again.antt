-- A second attempt has the events that it would have on the entry.
use Rattle.std.proofs.Common.{◌≡◌, ◌≢◌, inl, inr, ℕ, zero, suc, Bool, true, false, List, [], Option, Some, None, ℤ, pos, refl, sym, ap, ◌∙◌, subst}
use Rattle.std.specs.Prelude.{◌+ℤ◌, if◌then◌else◌, slice_get}
use Rattle.spf_ast_lemmas.proofs.Members.{cases, some_is}
use Rattle.spf_ast.specs.Carried.{Carried, same_carried}
use Rattle.spf_ast.specs.Interaction.{Ending, Value, Trapped}
use Rattle.spf_ast.specs.Meaning.{Environment}
use Rattle.spf_ast.specs.Program.{environment_of}
use Rattle.spf_ast.specs.declared.syntax.Part.{Part}
use Rattle.spf_ast.specs.BlockRun.{part_asks}
use Rattle.spf_ast.specs.Event.{Event, after}
use Rattle.spf_ast.specs.Construct.{Construct, fold, pair, part_of}
use Rattle.spf_ast_laws.specs.Chained.{Chained, chained_on, block_asks, chained}
use Rattle.spf_check_rules.specs.Rules.{guessed_part}
use Rattle.spf_ast.specs.Plain.{plain_events, plain_answer, plain_memory}
use Rattle.spf_speculation_entry.specs.Entry.{Entry, IsEntry, own, plain_blocks, begins_at}
use Rattle.spf_speculation_entry.specs.Attempts.{on_cells}
use Rattle.spf_speculation_entry.proofs.Rows.{Decides-same_carried}
use Rattle.spf_speculation.specs.Steps.{Step, log_of}
use Rattle.spf_speculation.proofs.Within.{AreWithin, true-or-false, outside-after, length-after}
use Rattle.spf_speculation.proofs.Trees.{chose-true}
use Rattle.spf_speculation.proofs.Blocks.{BlockLaws, setup_at, is-setup, not-own, attempt-within, whole-attempt}
use Rattle.spf_replay.specs.Schedule.{attempt_events, Status, Running, Filed, Situation, front, rerun}
use Rattle.spf_replay.specs.Runners.{RunsAgainOnEntry}
use Rattle.spf_replay.proofs.Scheduled.{real, Stands, Loose, clash}

guessed-later : (c : Construct) (n : ℕ) → part_of c (suc n) ≡ guessed_part c
guessed-later (fold line head body) n = refl
guessed-later (pair line head producer consumer) n = refl

pub again-same : BlockLaws → (e : Entry) → IsEntry e → (n : ℕ) (v : Carried) (before : List Event) → AreWithin (own e (suc n)) before
    → attempt_events e (suc n) v before ≡ attempt_events e (suc n) v []
again-same laws e h n v before within =
    ap (on_cells (own e (suc n)))
    (subst (λ (part : Part). plain_events (part_asks e.program e.construct part (setup_at e (suc n) v)) (after before e.memory) ≡ plain_events (part_asks e.program e.construct part (setup_at e (suc n) v)) e.memory)
    (sym (guessed-later e.construct n))
    (laws.overwrite e.program e.construct (setup_at e (suc n) v) (after before e.memory) e.memory h.free (is-setup e h (suc n) v)
    (record { cells = length-after before e.memory; words = λ c out. outside-after (own e (suc n)) before e.memory c within (not-own e (suc n) c out) })).events)

-- ---- what the front block's steps were makes no difference to how it runs again

first-row : (g : Environment) (k : Construct) (slots : List ℤ) (count : ℕ) (low : ℤ) (start v : Carried) (m : List ℤ)
    → slice_get (chained g k slots 0 count low start m).values 0 ≡ Some v → start ≡ v
first-row g k slots zero low start v m h = cc
first-row g k slots (suc count) low start v m h =
    some_is start v (sym (begins start (plain_answer (block_asks g k slots 0 low start) m) (plain_memory (block_asks g k slots 0 low start) m)
    (λ next. chained g k slots 1 count (low +ℤ pos 1) next (plain_memory (block_asks g k slots 0 low start) m))) ∙ h)
  where
    begins : (v : Carried) (x : Ending Carried) (m : List ℤ) (others : Carried → Chained) → slice_get (chained_on v x m others).values 0 ≡ Some v
    begins v (Value next state) m others = refl
    begins v (Trapped trap output) m others = refl

-- an attempt that is filed at another row than the real one is the first, of a block past block 0
filed-first : (e : Entry) → IsEntry e → (guess : ℕ → Carried) (n : ℕ) (v w : Carried) (ended : Bool) (log : List Event) → real e n ≡ Some v → w ≢ v
    → Stands e guess n (Filed w ended) log → (w ≡ begins_at e guess n) × AreWithin (own e n) log
filed-first e h guess n v w true log is ne (inl f) = (f.value, attempt-within e h n w 1 log (whole-attempt e n w 1 log f.answer f.whole))
filed-first e h guess n v w true log is ne (inr s) = absurd (ne (some_is w v (sym s.real_value ∙ is)))
filed-first e h guess n v w false log is ne f = (f.value, attempt-within e h n w 1 log f.attempt)

same-events : BlockLaws → (e : Entry) → IsEntry e → (guess : ℕ → Carried) (n : ℕ) (v w : Carried) (log : List Event) → real e n ≡ Some v → w ≢ v
    → w ≡ begins_at e guess n → AreWithin (own e n) log → attempt_events e n v log ≡ attempt_events e n v []
same-events laws e h guess zero v w log is ne first within =
    absurd (ne (first ∙ first-row (environment_of e.program e.input) e.construct e.slots e.header.blocks e.header.low e.header.start v e.memory is))
same-events laws e h guess (suc n) v w log is ne first within = again-same laws e h n v log within

reruns : BlockLaws → (e : Entry) → IsEntry e → (guess : ℕ → Carried) (n : ℕ) (steps : List Step) (r : Option Carried) (status : Status) → real e n ≡ r
    → Stands e guess n status (log_of n steps) → rerun e steps n r status ≡ rerun e [] n r status
reruns laws e h guess n steps None status is stands = refl
reruns laws e h guess n steps (Some v) (Running attempt w left) is stands = refl
reruns laws e h guess n steps (Some v) (Filed w ended) is stands = cases (true-or-false (same_carried w v))
    (λ t. chose-true (same_carried w v) (Filed w ended) (Running 2 v (attempt_events e n v (log_of n steps))) t
    ∙ sym (chose-true (same_carried w v) (Filed w ended) (Running 2 v (attempt_events e n v [])) t))
    (λ f.
    let ne : w ≢ v = λ same. clash (same_carried w v) ((Decides-same_carried w v).1 same) f in
    let first = filed-first e h guess n v w ended (log_of n steps) is ne stands in
    ap (λ l. if same_carried w v then Filed w ended else Running 2 v l) (same-events laws e h guess n v w (log_of n steps) is ne first.0 first.1))

pub runs-again : BlockLaws → (e : Entry) → IsEntry e → (guess : ℕ → Carried) (s : Situation) → Loose e guess s → RunsAgainOnEntry e s
runs-again laws e h guess s k low =
    reruns laws e h guess (front e s.status) s.steps (slice_get (plain_blocks e).values (front e s.status)) (s.status (front e s.status)) refl (k.at (front e s.status) low)
