use Rattle.std.proofs.Common.{◌≡◌, suc, ◌+◌, ◌-◌, ◌%◌, arith, ap, ◌∙◌}
use Rattle.spf_apps_formats.proofs.Drawing.{drawn_more, state_more}
use Rattle.spf_apps_formats.proofs.generate.push_drawn.Goals as goal

pub loop-preserved : goal.loop-preserved
loop-preserved c =
    let many : c.args.count - c.loop.counter ≡ suc (c.args.count - (c.loop.counter + 1)) = omega arith in
    record {
      file = drawn_more (λ d. d % 256) c.loop.file.items c.push.new.self.items _ _ c.loop.draws.state c.next.new.self.state _ many c.next.ensures.state (ap (λ d. d % 256) c.next.ensures.draw) c.in_ok-push.ensures.items ∙ c.loop.invariant.file;
      state = state_more _ _ c.loop.draws.state c.next.new.self.state many c.next.ensures.state ∙ c.loop.invariant.state;
    }
