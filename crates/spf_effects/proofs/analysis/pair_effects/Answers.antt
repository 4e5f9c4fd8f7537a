use Rattle.std.proofs.Common.{map, subst, ◌∙◌}
use Rattle.std.specs.Prelude.{IfOk}
use Rattle.spf_ast.specs.declared.syntax.Pair.{out-Pair}
use Rattle.spf_ast.specs.Syntax.{end}
use Rattle.spf_ast.specs.View.{program, block, arguments, predictor}
use Rattle.spf_effects.specs.Effects.{AreEffects, effects_of}
use Rattle.spf_effects_findings.specs.Forms.{Setting, block_finds, block_then_row}
use Rattle.spf_effects_findings.specs.Parts.{guesses_find, outside}
use Rattle.spf_effects.proofs.Gathering.{main_setting_is}
use Rattle.spf_effects_walk.proofs.Results.{if_ok}
use Rattle.spf_effects.proofs.analysis.pair_effects.Goals as goal

pub returns-in-Producer : goal.returns-in-Producer
returns-in-Producer c =
    let main = rw c.deref.ensures.value at (c.in_ok-slots.ensures {u = tt}) in
    let same = main_setting_is c.args.program.now c.in_ok-slots.slots c.deref-2.result.now c.callable.result main c.deref-2.ensures.value c.callable.ensures in
    let known = c.deref-in-Producer.ensures.value ∙ c.in_ok-bounds.ensures {u = tt} in
    let exact = subst (λ (g : Setting). IfOk c.effects_and.result (AreEffects (effects_of (block_then_row g (outside (program c.args.program.now)) (block (out-Pair c.args.pair.now).producer.items) (arguments (out-Pair c.args.pair.now).give.items)) (block (out-Pair c.args.pair.now).producer.items)))) same (rw (known, c.deref-in-Producer-2.ensures.value, c.deref-in-Producer-3.ensures.value) at c.effects_and.ensures) in
    if_ok c.effects_and.result exact (λ e h line. rw c.in-Producer.is h)

pub returns-in-Consumer : goal.returns-in-Consumer
returns-in-Consumer c =
    let main = rw c.deref.ensures.value at (c.in_ok-slots.ensures {u = tt}) in
    let same = main_setting_is c.args.program.now c.in_ok-slots.slots c.deref-2.result.now c.callable.result main c.deref-2.ensures.value c.callable.ensures in
    let known = c.deref-in-Consumer.ensures.value ∙ c.in_ok-bounds.ensures {u = tt} in
    let exact = subst (λ (g : Setting). IfOk c.block_effects.result (AreEffects (effects_of (block_finds g (outside (program c.args.program.now)) (block (out-Pair c.args.pair.now).consumer.items)) (block (out-Pair c.args.pair.now).consumer.items)))) same (rw (known, c.deref-in-Consumer-2.ensures.value) at c.block_effects.ensures) in
    if_ok c.block_effects.result exact (λ e h line. rw c.in-Consumer.is h)

pub returns-in-Predictor : goal.returns-in-Predictor
returns-in-Predictor c =
    let main = rw c.deref.ensures.value at (c.in_ok-slots.ensures {u = tt}) in
    let same = main_setting_is c.args.program.now c.in_ok-slots.slots c.deref-2.result.now c.callable.result main c.deref-2.ensures.value c.callable.ensures in
    let known = c.deref-in-Predictor.ensures.value ∙ c.in_ok-bounds.ensures {u = tt} in
    let exact = subst (λ (g : Setting). IfOk c.predictor_effects.result (AreEffects (effects_of (guesses_find g (outside (program c.args.program.now)) (map predictor (out-Pair c.args.pair.now).predict.items)) end))) same (rw (known, c.deref-in-Predictor-2.ensures.value) at c.predictor_effects.ensures) in
    if_ok c.predictor_effects.result exact (λ e h line. rw c.in-Predictor.is h)
