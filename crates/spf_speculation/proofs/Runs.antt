-- Speculative runs mean the plain run, and every merging of logs is one.
use Rattle.std.proofs.Common.{◌≡◌, ◌⊎◌, inl, inr, ℕ, zero, suc, ◌<◌, Bool, true, false, List, ℤ, sym, ◌∙◌, subst, arith}
use Rattle.std.specs.Prelude.{Result}
use Rattle.spf_ast_lemmas.proofs.Members.{cases}
use Rattle.spf_ast.specs.declared.outcome.Trap.{Trap}
use Rattle.spf_ast.specs.Carried.{Carried}
use Rattle.spf_ast.specs.Event.{Event, after, IsConsistent}
use Rattle.spf_speculation.specs.Steps.{Step, events_of, log_of, AreBelow, Merges}
use Rattle.spf_speculation_entry.specs.Entry.{Entry, IsEntry, own, plain_blocks}
use Rattle.spf_speculation.specs.Runs.{LogsComeTo, IsSpeculativeRun}
use Rattle.spf_speculation.specs.Laws.{IsLeftBy, AreThePlainRun, IsThePlainRun}
use Rattle.spf_speculation.proofs.Within.{AreWithin, alike, true-or-false, agree-same, length-after}
use Rattle.spf_speculation.proofs.Merging.{AreOwn, log-consistent, merge-consistent, merge-after, merge-outside}
use Rattle.spf_speculation.proofs.Blocks.{BlockLaws, blocks-apart}
use Rattle.spf_speculation.proofs.Chain.{same-memory, logs-plain, come-within, come-same}

-- a cell is one of some block, or of none
abbrev pub IsOfBlock : ℕ → (ℕ → ℕ → Bool) → ℕ → Type 0
IsOfBlock count cells c = (n : ℕ) × (n < count) × (cells n c ≡ true)

abbrev pub IsOfNone : ℕ → (ℕ → ℕ → Bool) → ℕ → Type 0
IsOfNone count cells c = (n : ℕ) → n < count → cells n c ≡ false

pub of-some-block : (count : ℕ) (cells : ℕ → ℕ → Bool) (c : ℕ) → IsOfBlock count cells c ⊎ IsOfNone count cells c
of-some-block zero cells c = inr (λ n low. absurd (omega (arith, low)))
of-some-block (suc count) cells c = cases (true-or-false (cells count c))
    (λ mine. inl (count, omega arith, mine))
    (λ out. cases (of-some-block count cells c)
    (λ h. let low = h.1 in inl (h.0, omega (arith, low), h.2))
    (λ none. inr (λ n low. cases (alike n count)
    (λ same. subst (λ x. cells x c ≡ false) (sym same) out)
    (λ ne. none n (omega (arith, low, ne))))))

-- the memory after all steps is the one that is left by the logs
memory-left : (e : Entry) → IsEntry e → (steps : List Step) (memory : List ℤ) → AreBelow e.header.blocks steps → AreOwn e.header.blocks (own e) steps → IsLeftBy e (λ n. log_of n steps) e.header.blocks memory → after (events_of steps) e.memory ≡ memory
memory-left e h steps memory below within left =
    same-memory (after (events_of steps) e.memory) memory (length-after (events_of steps) e.memory ∙ sym left.size) (λ c. cases (of-some-block e.header.blocks (own e) c)
    (λ mine. (merge-after e.header.blocks (own e) (blocks-apart e h) steps e.memory e.memory below within mine.0 mine.1 (agree-same (own e mine.0) e.memory)).words c mine.2
    ∙ sym (left.inside mine.0 c mine.1 mine.2))
    (λ none. merge-outside e.header.blocks (own e) steps e.memory below within c none ∙ sym (left.outside c none)))

pub run-plain : BlockLaws → (e : Entry) (guess : ℕ → Carried) (steps : List Step) (values : List Carried) (result : Result Carried Trap) → IsEntry e → IsSpeculativeRun e guess steps values result → IsThePlainRun e values result (after (events_of steps) e.memory)
run-plain laws e guess steps values result h run =
    let logs : ℕ → List Event = λ n. log_of n steps in
    let within : AreOwn e.header.blocks (own e) steps = λ n low. come-within e h guess logs run.logs n (omega arith) low in
    let is = log-consistent e.header.blocks (own e) (blocks-apart e h) steps e.memory run.below within run.consistent in
    let p : AreThePlainRun e logs values result = logs-plain laws e guess logs values result h run.logs is in
    record {
      same_values = p.same_values;
      same_result = p.same_result;
      same_memory = λ value ends. memory-left e h steps (plain_blocks e).memory run.below within (p.left value ends);
    }

pub merging-runs : (e : Entry) (guess : ℕ → Carried) (logs : ℕ → List Event) (values : List Carried) (result : Result Carried Trap) → IsEntry e → LogsComeTo e guess logs 0 e.header.start values result → ((n : ℕ) → n < e.header.blocks → IsConsistent (logs n) e.memory) → (steps : List Step) → Merges e.header.blocks logs steps → IsSpeculativeRun e guess steps values result
merging-runs e guess logs values result h come is steps merge =
    let same : (n : ℕ) → n < e.header.blocks → logs n ≡ log_of n steps = λ n low. sym (merge.logs_are n low) in
    let within : AreOwn e.header.blocks (own e) steps = λ n low. subst (AreWithin (own e n)) (same n low) (come-within e h guess logs come n (omega arith) low) in
    record {
      below = merge.below;
      consistent = merge-consistent e.header.blocks (own e) (blocks-apart e h) steps e.memory merge.below within (λ n low. subst (λ l. IsConsistent l e.memory) (same n low) (is n low));
      logs = come-same e guess logs (λ n. log_of n steps) same come;
    }
