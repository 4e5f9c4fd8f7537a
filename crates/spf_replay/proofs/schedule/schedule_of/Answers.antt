use Rattle.std.proofs.Common.{◌≡◌, ◌<◌, ◌+◌, ◌-◌, List, [], length, drop, sym, ap, ◌∙◌, subst, arith}
use Rattle.std.specs.Prelude.{slice_set}
use Rattle.std.proofs.lemmas.Grind.{common_steps}
use Rattle.std.proofs.lemmas.List.{length-set}
use Rattle.std.proofs.lemmas.Result.{err_from_is_err_and}
use Rattle.spf_speculation.proofs.Blocks.{BlockLaws}
use Rattle.spf_replay.specs.declared.runner.Runner.{Runner}
use Rattle.spf_replay.specs.Entered.{entry_of}
use Rattle.spf_replay.specs.Runners.{AreBlocksOf}
use Rattle.spf_replay.specs.Schedule.{attempt_events, piece, beginning}
use Rattle.spf_replay.specs.SeenSteps.{seen_steps}
use Rattle.spf_replay.proofs.Copies.{whole-slice}
use Rattle.spf_replay.proofs.Simulated.{IsMade, made-begins, made-whole, found-inside, found-next, turn-blocks, turn-made, steps-more, too-many, weights, made-less, guess_of, has-guesses}
use Rattle.spf_replay.proofs.schedule.schedule_of.Goals as goal

pub loop-alloc-init : goal.loop-alloc-init
loop-alloc-init c =
    let e = entry_of c.args.entered.now in
    let none = ap length c.new-steps.ensures.items in
    record {
      made = λ guess g.
          let blocks = c.in_ok-runners.ensures guess c.args.state g in
          made-begins e guess c.args.state c.in_ok-runners.runners.items c.in_ok-running.running.items (seen_steps c.new-steps.result.items) blocks
          (c.in_ok-running.ensures e (beginning e guess c.args.state) (subst (AreBlocksOf e (beginning e guess c.args.state)) (sym c.deref.ensures.value) blocks))
          (ap seen_steps c.new-steps.ensures.items);
      few = omega (arith, none);
      scratch = c.requires.scratch;
    }

pub index_mut-runner-requires : goal.index_mut-runner-requires
index_mut-runner-requires c =
    let given = guess_of c.args.entered.now in
    let inside = found-inside (entry_of c.args.entered.now) given c.args.state c.loop-alloc.runners.items c.loop-alloc.running.items (seen_steps c.loop-alloc.steps.items) c.loop-alloc.draws.state
    (c.loop-alloc.invariant.made given (has-guesses c.args.entered.now)) c.pick-n.result _ c.deref-in-loop-alloc.result.now c.deref-in-loop-alloc.ensures.value c.pick-n.ensures in
    let ok = c.loop-alloc.runners.ok.0 in
    omega (arith, inside, ok)

pub go_on-requires-clause-block : goal.go_on-requires-clause-block
go_on-requires-clause-block c =
    let given = guess_of c.args.entered.now in
    (found-next (entry_of c.args.entered.now) given c.args.state c.loop-alloc.runners.items c.loop-alloc.running.items (seen_steps c.loop-alloc.steps.items) c.loop-alloc.draws.state
    (c.loop-alloc.invariant.made given (has-guesses c.args.entered.now)) c.pick-n.result c.next.result c.deref-in-loop-alloc.result.now c.index_mut-runner.result.now c.index_mut-runner.result.now
    c.deref-in-loop-alloc.ensures.value c.next.ensures.draw c.pick-n.ensures c.index_mut-runner.ensures.value).picked.inside

pub go_on-requires-clause-runner : goal.go_on-requires-clause-runner
go_on-requires-clause-runner c =
    let given = guess_of c.args.entered.now in
    (found-next (entry_of c.args.entered.now) given c.args.state c.loop-alloc.runners.items c.loop-alloc.running.items (seen_steps c.loop-alloc.steps.items) c.loop-alloc.draws.state
    (c.loop-alloc.invariant.made given (has-guesses c.args.entered.now)) c.pick-n.result c.next.result c.deref-in-loop-alloc.result.now c.index_mut-runner.result.now c.index_mut-runner.result.now
    c.deref-in-loop-alloc.ensures.value c.next.ensures.draw c.pick-n.ensures c.index_mut-runner.ensures.value).block.runner

pub go_on-requires-clause-running : goal.go_on-requires-clause-running
go_on-requires-clause-running c =
    let given = guess_of c.args.entered.now in
    (found-next (entry_of c.args.entered.now) given c.args.state c.loop-alloc.runners.items c.loop-alloc.running.items (seen_steps c.loop-alloc.steps.items) c.loop-alloc.draws.state
    (c.loop-alloc.invariant.made given (has-guesses c.args.entered.now)) c.pick-n.result c.next.result c.deref-in-loop-alloc.result.now c.index_mut-runner.result.now c.index_mut-runner.result.now
    c.deref-in-loop-alloc.ensures.value c.next.ensures.draw c.pick-n.ensures c.index_mut-runner.ensures.value).runs

pub returns-in_err-go_on-clause-too_many : goal.returns-in_err-go_on-clause-too_many
returns-in_err-go_on-clause-too_many c guess g =
    let p = err_from_is_err_and c.from_residual-in_err-go_on.result c.from_residual-in_err-go_on.ensures.1 in
    rw (p.1, p.2) (λ why all last made.
    let e = entry_of c.args.entered.now in
    let m = c.loop-alloc.invariant.made guess g in
    let r = c.index_mut-runner.result.now in
    let next = found-next e guess c.args.state c.loop-alloc.runners.items c.loop-alloc.running.items (seen_steps c.loop-alloc.steps.items) c.loop-alloc.draws.state m c.pick-n.result c.next.result
    c.deref-in-loop-alloc.result.now r r c.deref-in-loop-alloc.ensures.value c.next.ensures.draw c.pick-n.ensures c.index_mut-runner.ensures.value in
    let more = too-many e guess c.args.state c.loop-alloc.runners.items c.loop-alloc.running.items c.loop-alloc.steps.items c.loop-alloc.draws.state (1000000 - c.args.counted) m c.pick-n.result r next
    (c.in_err-go_on.ensures.too_many why) all last made in
    omega (arith, more))

pub follow-requires-clause-block : goal.follow-requires-clause-block
follow-requires-clause-block c =
    let given = guess_of c.args.entered.now in
    let inside = found-inside (entry_of c.args.entered.now) given c.args.state c.loop-alloc.runners.items c.loop-alloc.running.items (seen_steps c.loop-alloc.steps.items) c.loop-alloc.draws.state
    (c.loop-alloc.invariant.made given (has-guesses c.args.entered.now)) c.pick-n.result _ c.deref-in-loop-alloc.result.now c.deref-in-loop-alloc.ensures.value c.pick-n.ensures in
    let size = ap length c.deref_mut.ensures.value ∙ length-set c.loop-alloc.runners.items c.pick-n.result c.go_on.new.runner in
    omega (arith, inside, size)

pub loop-alloc-smaller : goal.loop-alloc-smaller
loop-alloc-smaller c =
    let e = entry_of c.args.entered.now in
    let given = guess_of c.args.entered.now in
    let m = c.loop-alloc.invariant.made given (has-guesses c.args.entered.now) in
    let n = c.pick-n.result in
    let r = c.index_mut-runner.result.now in
    let q = c.go_on.new.runner in
    let runners = c.loop-alloc.runners.items in
    let next = found-next e given c.args.state runners c.loop-alloc.running.items (seen_steps c.loop-alloc.steps.items) c.loop-alloc.draws.state m n c.next.result
    c.deref-in-loop-alloc.result.now r r c.deref-in-loop-alloc.ensures.value c.next.ensures.draw c.pick-n.ensures c.index_mut-runner.ensures.value in
    let laws : BlockLaws = record { runs = c.each_form_has_one_plain_run.ensures.parts; overwrite = c.blocks_overwrite.ensures } in
    let blocks = turn-blocks laws e c.requires.is.is_entry given c.args.state runners c.deref_mut.result.now c.follow.new.runners c.loop-alloc.running.items (seen_steps c.loop-alloc.steps.items) c.loop-alloc.draws.state
    m n r q next c.deref_mut.ensures.value c.in_ok-go_on.ensures.runner c.in_ok-go_on.ensures.flag c.in_ok-go_on.ensures.status c.in_ok-follow.ensures.runners in
    let ok = c.loop-alloc.runners.ok.0 in
    let before = m.blocks.count in
    let after = blocks.count in
    let size = length-set runners n q in
    subst (λ (l : List Runner). (1000000 - c.args.counted - length c.go_on.new.steps.items) + weights e 0 l < (1000000 - c.args.counted - length c.loop-alloc.steps.items) + weights e 0 runners)
    (sym (whole-slice c.loop-alloc.runners.len c.follow.new.runners (slice_set runners n q) (omega (arith, ok, before, after)) (omega (arith, ok, size))))
    (made-less e m.now runners c.follow.new.runners n r (1000000 - c.args.counted) (length c.loop-alloc.steps.items) (length c.go_on.new.steps.items) m.blocks next blocks
    (steps-more c.loop-alloc.steps.items c.go_on.new.steps.items n (piece r.flag (drop r.taken (attempt_events e n r.row []))) c.in_ok-go_on.ensures.steps) c.in_ok-go_on.ensures.few)

pub loop-alloc-preserved : goal.loop-alloc-preserved
loop-alloc-preserved c = record {
  made = λ guess g.
      let e = entry_of c.args.entered.now in
      let m = c.loop-alloc.invariant.made guess g in
      let n = c.pick-n.result in
      let r = c.index_mut-runner.result.now in
      let q = c.go_on.new.runner in
      let runners = c.loop-alloc.runners.items in
      let next = found-next e guess c.args.state runners c.loop-alloc.running.items (seen_steps c.loop-alloc.steps.items) c.loop-alloc.draws.state m n c.next.result
      c.deref-in-loop-alloc.result.now r r c.deref-in-loop-alloc.ensures.value c.next.ensures.draw c.pick-n.ensures c.index_mut-runner.ensures.value in
      let laws : BlockLaws = record { runs = c.each_form_has_one_plain_run.ensures.parts; overwrite = c.blocks_overwrite.ensures } in
      let made = turn-made laws e c.requires.is.is_entry guess c.args.state runners c.deref_mut.result.now c.follow.new.runners c.loop-alloc.running.items c.follow.new.running.items
      (seen_steps c.loop-alloc.steps.items) (seen_steps c.go_on.new.steps.items) c.loop-alloc.draws.state c.next.new.self.state
      m n r q next c.deref_mut.ensures.value c.in_ok-go_on.ensures.runner c.in_ok-go_on.ensures.flag c.in_ok-go_on.ensures.status c.in_ok-follow.ensures.runners c.in_ok-follow.ensures.running
      c.in_ok-go_on.ensures.steps c.next.ensures.state in
      let ok = c.loop-alloc.runners.ok.0 in
      let before = m.blocks.count in
      let after = made.blocks.count in
      let size = length-set runners n q in
      subst (λ (l : List Runner). IsMade e guess c.args.state l c.follow.new.running.items (seen_steps c.go_on.new.steps.items) c.next.new.self.state)
      (sym (whole-slice c.loop-alloc.runners.len c.follow.new.runners (slice_set runners n q) (omega (arith, ok, before, after)) (omega (arith, ok, size)))) made;
  few = c.in_ok-go_on.ensures.few;
  scratch = c.in_ok-go_on.ensures.scratch;
}

pub returns-clause-scheduled : goal.returns-clause-scheduled
returns-clause-scheduled c guess g =
    let none : length c.loop-alloc.running.items ≡ 0 = grind (arith, common_steps, c.is_empty.ensures, c.loop-alloc-test.false) in
    made-whole (entry_of c.args.entered.now) guess c.args.state c.loop-alloc.runners.items c.loop-alloc.running.items (seen_steps c.loop-alloc.steps.items) c.loop-alloc.draws.state
    (c.loop-alloc.invariant.made guess g) none
