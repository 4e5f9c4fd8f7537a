use Rattle.std.proofs.Common.{◌<◌, ℕ, List, length, sym, ap, ◌∙◌, subst, arith}
use Rattle.std.specs.Prelude.{slice_get}
use Rattle.spf_ast.specs.Carried.{Carried}
use Rattle.spf_ast.specs.Event.{Event}
use Rattle.spf_speculation.specs.Steps.{log_of}
use Rattle.spf_replay.specs.Deciding.{IsLogAt}
use Rattle.spf_replay.specs.SeenSteps.{seen_steps, log_at}
use Rattle.spf_replay.specs.Entered.{entry_of}
use Rattle.spf_replay.specs.Runners.{AreOwnWords}
use Rattle.spf_replay.proofs.Consistent.{consistent-there}
use Rattle.spf_replay.proofs.Refused.{refused}
use Rattle.spf_replay.proofs.section.is_speculative_run.Goals as goal

pub returns-then-not-is_log-clause-run : goal.returns-then-not-is_log-clause-run
returns-then-not-is_log-clause-run c guess g =
    let e = entry_of c.args.entered.now in
    let n = c.loop-n.n in
    let steps = seen_steps c.args.steps.now in
    refused c.is_log.result c.if-not-is_log.true (c.is_log.ensures.log guess g)
    (λ run. subst (λ (x : List Carried × List Event). IsLogAt e guess (slice_get x.0 n) n x.1)
    (λ i. (sym c.requires.is.reals i, sym (c.log_in.ensures ∙ ap (λ l. log_at l n) c.deref.ensures.value ∙ c.in_ok-logs.ensures.logs n) i))
    (((c.runs_have_their_logs.ensures e guess steps c.requires.is.is_entry).0 run).logs n c.loop-n-test.true))

pub returns-clause-run : goal.returns-clause-run
returns-clause-run c guess g =
    let e = entry_of c.args.entered.now in
    let steps = seen_steps c.args.steps.now in
    let runs = c.runs_have_their_logs.ensures e guess steps c.requires.is.is_entry in
    let below = c.are_below.ensures.0 c.if-not-are_below.false in
    let size = c.loop-n-test.false in
    let logs : (k : ℕ) → k < c.args.entered.now.header.blocks → IsLogAt e guess (slice_get c.args.entered.now.reals.now k) k (log_of k steps) = λ k low. c.loop-n.invariant.logs guess g k (omega (arith, low, size)) in
    let there = consistent-there c.args.entered.now c.requires.is guess steps c.deref_mut.result.now (ap length c.deref_mut.ensures.value ∙ c.loop-n.invariant.room.cells)
    (subst (AreOwnWords c.args.entered.now) (sym c.deref_mut.ensures.value) c.loop-n.invariant.words) below logs in (
      λ is. runs.1 (record { below = below; consistent = there.0 (c.are_consistent.ensures.consistent.0 is); logs = λ k low. subst (λ (l : List Carried). IsLogAt e guess (slice_get l k) k (log_of k steps)) c.requires.is.reals (logs k low) }),
      λ run. c.are_consistent.ensures.consistent.1 (there.1 (runs.0 run).consistent),
    )
