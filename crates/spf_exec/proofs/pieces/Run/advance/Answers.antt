use Rattle.std.proofs.Common.{arith, ◌∙◌}
use Rattle.spf_exec.proofs.Prefixes.{count_is}
use Rattle.spf_exec.proofs.pieces.Run.advance.Goals as goal

pub advance_from-requires-clause-within : goal.advance_from-requires-clause-within
advance_from-requires-clause-within c =
    let r = rw (← c.self.view_is) at c.requires.run in
    omega (arith, count_is c.args.instance.now.source.main.items, r.place)

pub returns-clause-run : goal.returns-clause-run
returns-clause-run c =
    let r = rw (← c.self.view_is) at c.requires.run in
    record {
      frame = c.in_ok-place.ensures.size ∙ r.frame;
      cells = c.in_ok-place.ensures.cells ∙ r.cells;
      place = omega (arith, count_is c.args.instance.now.source.main.items, c.in_ok-place.ensures.place);
      passed = c.in_ok-place.ensures.passed;
    }
