use Rattle.std.proofs.Common.{subst}
use Rattle.spf_ast.specs.View.{program}
use Rattle.spf_check.specs.Verdicts.{IsKept}
use Rattle.spf_check.proofs.checked.Checked.program.Goals as goal

pub returns : goal.returns
returns c =
    let kept = subst (λ q. IsKept (program q) c.self.inside.writes.items) c.self.view_is c.self.invariant in
    record {
      program = c.self.view_is;
      lawful = kept.lawful;
      accepted = kept.accepted;
      free = λ number construct is. c.the_rules_set_free.ensures (program c.args.self.now) number construct kept.lawful is (kept.accepted number construct is);
    }
