use Rattle.std.proofs.Common.{map, false, ap, ◌∙◌}
use Rattle.spf_ast.specs.declared.raw.RawFold.{out-RawFold}
use Rattle.spf_ast.specs.View.{name}
use Rattle.spf_types_names.specs.Locals.{Seen, binding_of}
use Rattle.spf_types_names.proofs.Rows.{hidden_before}
use Rattle.spf_types_forms.proofs.header.header_of.Goals as goal

pub guess-requires : goal.guess-requires
guess-requires c =
    let raw = out-RawFold c.args.raw.now in
    let o = c.in_ok-block.ensures {u = tt} in
    ap (λ (z : Seen). binding_of z.locals (name raw.block)) o.after
    ∙ hidden_before false c.args.locals.now.locals 0 (map name raw.carried.items) (name raw.block) (o.block false 0)
