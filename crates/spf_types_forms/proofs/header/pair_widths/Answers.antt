use Rattle.std.proofs.Common.{length, rules, refl, ◌∙◌}
use Rattle.std.proofs.lemmas.Result.{err_from_is_err_and}
use Rattle.spf_ast.specs.declared.raw.RawPair.{out-RawPair}
use Rattle.spf_types_forms.proofs.Arguments.{pair_widths_is}
use Rattle.spf_types_forms.proofs.Steps.{ahead, along, none_in}
use Rattle.spf_types_forms.proofs.header.pair_widths.Goals as goal

pub returns-in_err-same_width : goal.returns-in_err-same_width
returns-in_err-same_width c =
    let p = err_from_is_err_and c.from_residual.result c.from_residual.ensures.1 in
    rw (p.1, p.2) (along _ _ _ (pair_widths_is c.args.line c.args.raw.now c.len-width.result c.len.result (length (out-RawPair c.args.raw.now).predict.items) (search rules) (search rules) refl) (ahead _ _ _ c.in_err-same_width.ensures))

pub returns : goal.returns
returns c = (pair_widths_is c.args.line c.args.raw.now c.len-width.result c.len.result c.len-2.result (search rules) (search rules) (search rules) ∙ (none_in _ _ (c.in_ok-same_width.ensures {u = tt}).0 (c.in_ok-same_width-2.ensures {u = tt}).0), refl)
