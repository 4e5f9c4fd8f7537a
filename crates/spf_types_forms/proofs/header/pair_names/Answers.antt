use Rattle.std.proofs.Common.{length, map, false, ap, ◌∙◌}
use Rattle.spf_ast.specs.declared.raw.RawPair.{out-RawPair}
use Rattle.spf_ast.specs.View.{name}
use Rattle.spf_types_names.specs.Locals.{Seen}
use Rattle.spf_types_forms.proofs.Grown.{grown_each, closes}
use Rattle.spf_types_forms.proofs.header.pair_names.Goals as goal

pub returns-clause-after : goal.returns-clause-after
returns-clause-after c =
    let old = c.args.locals.now in
    let names = map name (out-RawPair c.args.raw.now).carried.items in
    let d = rw c.deref.ensures.value at (c.in_ok-declared_each.ensures {u = tt}) in
    let g = grown_each false old.locals (length old.slots) names in
    c.close.ensures
    ∙ (λ i. record { locals = closes old.locals c.declared_each.new.locals.locals c.count-count.result (g.0, ap (λ (z : Seen). z.locals) d.after ∙ g.1) c.count-count.ensures i; slots = ap (λ (z : Seen). z.slots) d.after i })
