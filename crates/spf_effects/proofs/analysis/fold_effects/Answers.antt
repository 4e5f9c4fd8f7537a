use Rattle.std.proofs.Common.{rules, ◌≡◌, length, map, ap, subst, ◌∙◌}
use Rattle.std.specs.Prelude.{IfOk, pos}
use Rattle.spf_ast.specs.declared.syntax.Fold.{out-Fold}
use Rattle.spf_ast.specs.Syntax.{end}
use Rattle.spf_ast.specs.View.{program, block, arguments, predictor, fold_head}
use Rattle.spf_region.specs.declared.bound.Bound.TheVariants.{Known}
use Rattle.spf_effects.specs.Effects.{AreEffects, effects_of}
use Rattle.spf_effects_findings.specs.Forms.{Setting, block_then_row, declared}
use Rattle.spf_effects_findings.specs.Parts.{guesses_find, outside, within_fold}
use Rattle.spf_effects.proofs.Gathering.{main_setting_is}
use Rattle.spf_effects_walk.proofs.Results.{if_ok}
use Rattle.spf_effects_walk.proofs.Walked.{written_back}
use Rattle.spf_effects.proofs.analysis.fold_effects.Goals as goal

pub returns-in-Body : goal.returns-in-Body
returns-in-Body c =
    let main = rw c.deref.ensures.value at (c.in_ok-slots.ensures {u = tt}) in
    let same = main_setting_is c.args.program.now c.in_ok-slots.slots c.deref-2.result.now c.callable.result main c.deref-2.ensures.value c.callable.ensures in
    let lent = c.deref_mut.ensures.value ∙ c.in_ok-bounds.ensures {u = tt} in
    let made = rw lent at c.declare.ensures in
    let long : c.in_ok-bounds.bounds.len ≡ length c.in_ok-bounds.bounds.items = search rules in
    let size : length c.declare.new.bounds ≡ length c.in_ok-bounds.bounds.items = c.declare.auto.bounds ∙ ap length c.deref_mut.ensures.value in
    let known = c.deref-in-Body.ensures.value ∙ written_back c.in_ok-bounds.bounds.items c.declare.new.bounds c.in_ok-bounds.bounds.len size long ∙ made ∙ ap (λ (g : Setting). declared g (out-Fold c.args.fold.now).block (Known (pos 1) (pos 0) (pos 0)) (outside (program c.args.program.now))) same in
    let exact = subst (λ (g : Setting). IfOk c.effects_and.result (AreEffects (effects_of (block_then_row g (within_fold (program c.args.program.now) (fold_head c.args.fold.now)) (block (out-Fold c.args.fold.now).body.items) (arguments (out-Fold c.args.fold.now).next.items)) (block (out-Fold c.args.fold.now).body.items)))) same (rw (known, c.deref-in-Body-2.ensures.value, c.deref-in-Body-3.ensures.value) at c.effects_and.ensures) in
    if_ok c.effects_and.result exact (λ e h line. rw c.in-Body.is h)

pub returns-in-Predictor : goal.returns-in-Predictor
returns-in-Predictor c =
    let main = rw c.deref.ensures.value at (c.in_ok-slots.ensures {u = tt}) in
    let same = main_setting_is c.args.program.now c.in_ok-slots.slots c.deref-2.result.now c.callable.result main c.deref-2.ensures.value c.callable.ensures in
    let lent = c.deref_mut.ensures.value ∙ c.in_ok-bounds.ensures {u = tt} in
    let made = rw lent at c.declare.ensures in
    let long : c.in_ok-bounds.bounds.len ≡ length c.in_ok-bounds.bounds.items = search rules in
    let size : length c.declare.new.bounds ≡ length c.in_ok-bounds.bounds.items = c.declare.auto.bounds ∙ ap length c.deref_mut.ensures.value in
    let known = c.deref-in-Predictor.ensures.value ∙ written_back c.in_ok-bounds.bounds.items c.declare.new.bounds c.in_ok-bounds.bounds.len size long ∙ made ∙ ap (λ (g : Setting). declared g (out-Fold c.args.fold.now).block (Known (pos 1) (pos 0) (pos 0)) (outside (program c.args.program.now))) same in
    let exact = subst (λ (g : Setting). IfOk c.predictor_effects.result (AreEffects (effects_of (guesses_find g (within_fold (program c.args.program.now) (fold_head c.args.fold.now)) (map predictor (out-Fold c.args.fold.now).predict.items)) end))) same (rw (known, c.deref-in-Predictor-2.ensures.value) at c.predictor_effects.ensures) in
    if_ok c.predictor_effects.result exact (λ e h line. rw c.in-Predictor.is h)
