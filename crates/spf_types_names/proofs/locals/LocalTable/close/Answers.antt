use Rattle.std.proofs.Common.{arith, ap, ◌∙◌}
use Rattle.spf_types_names.proofs.Tables.{drop_one}
use Rattle.spf_types_names.proofs.locals.LocalTable.close.Goals as goal

pub loop-self-preserved : goal.loop-self-preserved
loop-self-preserved c =
    let i = c.loop-self.invariant in
    let d = drop_one 0 c.args.count c.args.self.now.locals c.loop-self.self.locals c.hide.new.self.locals i.left i.most (ap (λ s. s.locals) c.hide.ensures) (omega (arith, c.count.ensures, c.loop-self-test.true)) in
    record {
      left = d.left;
      most = d.most;
      least = omega (arith, d.count, c.count.ensures, c.loop-self-test.true, i.least);
      slots = ap (λ s. s.slots) c.hide.ensures ∙ i.slots;
    }
