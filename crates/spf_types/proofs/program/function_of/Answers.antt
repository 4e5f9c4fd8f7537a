use Rattle.std.proofs.Common.{◌≡◌, map, length, refl, sym, ap, ◌∙◌, arith, rules}
use Rattle.std.proofs.lemmas.Grind.{common_steps}
use Rattle.std.proofs.lemmas.List.{length-map}
use Rattle.std.proofs.lemmas.Result.{err_from_is_err_and}
use Rattle.spf_ast.specs.Syntax.{Block, Expression}
use Rattle.spf_ast.specs.View.{name, expression}
use Rattle.spf_ast.specs.RawView.{raw_expression, raw_block}
use Rattle.spf_types_names.specs.HereView.{setting}
use Rattle.spf_types.proofs.Programs.{from_none, params_none, valued_is, function_form}
use Rattle.spf_types_forms.proofs.Steps.{behind, along, none_in}
use Rattle.spf_types.proofs.program.function_of.Goals as goal

pub returns-in_err-body : goal.returns-in_err-body
returns-in_err-body c =
    let raw = c.args.raw.now in
    let p = err_from_is_err_and c.from_residual-in_err-body.result c.from_residual-in_err-body.ensures.1 in
    let o = c.in_ok-declared_each.ensures {u = tt} in
    let names = ap (map name) c.deref.ensures.value in
    let now = from_none c.make-locals.result c.declared_each.new.locals (map name raw.params.items) c.make-locals.ensures.locals c.make-locals.ensures.slots (rw c.deref.ensures.value at o.after) in
    rw (p.1, p.2) (behind _ _ _ (params_none (setting c.args.here.now) c.make-locals.result raw.line _ (map name raw.params.items) c.make-locals.ensures.locals names o.answers.0) (along _ _ _ (valued_is (setting c.args.here.now) c.declared_each.new.locals (map name raw.params.items) (raw_block raw.body.items) raw.answer_line (raw_expression raw.answer) now) (rw c.deref-2.ensures.value at (c.in_err-body.ensures {u = tt}).answers)))

pub returns : goal.returns
returns c =
    let raw = c.args.raw.now in
    let o = c.in_ok-declared_each.ensures {u = tt} in
    let names = ap (map name) c.deref.ensures.value in
    let now = from_none c.make-locals.result c.declared_each.new.locals (map name raw.params.items) c.make-locals.ensures.locals c.make-locals.ensures.slots (rw c.deref.ensures.value at o.after) in
    let v = rw c.deref-2.ensures.value at (c.in_ok-body.ensures {u = tt}) in
    let bytes : c.in_ok-bytes.bytes.items ≡ raw.name.bytes.items = grind (arith, common_steps) in
    let params : c.in_ok-params.params ≡ length (map name raw.params.items) = (c.in_ok-params.ensures {u = tt}).value ∙ c.len.ensures ∙ search rules ∙ sym (length-map raw.params.items name) in (
      none_in _ _ (params_none (setting c.args.here.now) c.make-locals.result raw.line _ (map name raw.params.items) c.make-locals.ensures.locals names o.answers.0) (valued_is (setting c.args.here.now) c.declared_each.new.locals (map name raw.params.items) (raw_block raw.body.items) raw.answer_line (raw_expression raw.answer) now ∙ v.answers.0),
      function_form c.args.here.now.globals.now c.declared_each.new.locals raw (record { name = record { bytes = c.in_ok-bytes.bytes }; params = c.in_ok-params.params; slots = c.into_slots.result; body = c.in_ok-body.body; answer = c.into_inner.result; answer_line = raw.answer_line; line = raw.line }) now bytes params (c.into_slots.ensures ∙ ap (λ z. z.slots) v.after) (ap (λ (z : Block × Expression). z.0) v.answers.1) (ap expression c.into_inner.ensures ∙ ap (λ (z : Block × Expression). z.1) v.answers.1) refl refl,
    )
