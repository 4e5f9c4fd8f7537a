use Rattle.std.proofs.Common.{◌≡◌, suc, ◌+◌, ◌-◌, ◌%◌, arith, ap, ◌∙◌, slice_index}
use Rattle.std.proofs.lemmas.Grind.{common_steps}
use Rattle.spf_apps_formats.proofs.Drawing.{drawn_more}
use Rattle.spf_apps_formats.proofs.generate.drawn_bytes.Goals as goal

pub loop-preserved : goal.loop-preserved
loop-preserved c =
    let many : c.args.size - c.loop.counter ≡ suc (c.args.size - (c.loop.counter + 1)) = omega arith in
    record {
      bytes = drawn_more (λ d. slice_index c.args.table.now (d % 16)) c.loop.bytes.items c.push.new.self.items _ _ c.loop.draws.state c.next.new.self.state _ many c.next.ensures.state (ap (λ d. slice_index c.args.table.now (d % 16)) c.next.ensures.draw) c.in_ok-push.ensures.items ∙ c.loop.invariant.bytes;
      count = grind (arith, common_steps, c.in_ok-push.ensures.items, c.loop.invariant.count);
    }
