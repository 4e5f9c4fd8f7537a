use Rattle.std.proofs.Common.{◌≡◌, Bool, ap, ◌∙◌, arith}
use Rattle.std.specs.Prelude.{◌&&◌, nat_le, nat_lt, if◌then◌else◌}
use Rattle.spf_ast.specs.Event.{word_at}
use Rattle.spf_replay.proofs.copying.copy_span.Goals as goal

pub returns-clause-copied : goal.returns-clause-copied
returns-clause-copied c = λ d.
    let low = c.loop-cell.auto.cell in
    let past = c.loop-cell-test.false in
    let top = c.loop-cell.invariant.top in
    let same : (nat_le c.args.span.from d && nat_lt d c.loop-cell.cell) ≡ (nat_le c.args.span.from d && nat_lt d c.args.span.to) = grind (arith, low, past, top) in
    c.loop-cell.invariant.words d ∙ ap (λ (b : Bool). if b then word_at c.args.from.now d else word_at c.args.to.now d) same
