use Rattle.std.proofs.Common.{◌≡◌, ◌+◌, ℕ, List, [], ◌∷◌, Some, length, length-append, sym, ap, ◌∙◌, subst, arith}
use Rattle.std.specs.Prelude.{slice_get}
use Rattle.spf_ast_lemmas.proofs.Members.{cases}
use Rattle.spf_replay.specs.declared.runner.Runner.{Runner}
use Rattle.spf_replay.specs.Entered.{entry_of}
use Rattle.spf_replay.specs.Runners.{IsBlockOf}
use Rattle.spf_replay.specs.Schedule.{beginning}
use Rattle.spf_replay.proofs.Settled.{last-or-kept}
use Rattle.spf_replay.proofs.schedule.first_runners.Goals as goal

pub loop-n-preserved : goal.loop-n-preserved
loop-n-preserved c =
    let e = entry_of c.args.entered.now in
    let before = c.loop-n.runners.items in
    let more = c.in_ok-push.ensures.items in
    let count = c.loop-n.invariant.0 in
    let size : length c.push.new.self.items ≡ length before + 1 = ap length more ∙ length-append before (c.first_runner.result ∷ []) in (
      omega (arith, size, count),
      λ guess state g k r at. cases (last-or-kept before k c.first_runner.result r (subst (λ (l : List Runner). slice_get l k ≡ Some r) more at))
          (λ last. subst (λ (y : ℕ × Runner). IsBlockOf e (beginning e guess state) y.0 y.1) (λ i. (sym (last.0 ∙ count) i, last.1 i)) (c.first_runner.ensures guess state g))
          (λ kept. c.loop-n.invariant.1 guess state g k r kept),
    )

pub returns : goal.returns
returns c guess state g =
    let past = c.loop-n-test.false in
    let bound = c.loop-n.auto.n-end in
    let count = c.loop-n.invariant.0 in
    record { count = omega (arith, past, bound, count); each = c.loop-n.invariant.1 guess state g }
