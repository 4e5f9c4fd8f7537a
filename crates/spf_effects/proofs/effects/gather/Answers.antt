use Rattle.std.proofs.Common.{ap}
use Rattle.spf_ast.specs.View.{block}
use Rattle.spf_effects_findings.specs.Extends.{Lists}
use Rattle.spf_effects.proofs.Gathering.{assigns_outer_is}
use Rattle.spf_effects.proofs.effects.gather.Goals as goal

pub returns : goal.returns
returns c = record {
  uncovered = ap (λ (l : Lists). l.uncovered) c.found.view_is;
  may = ap (λ (l : Lists). l.may) c.found.view_is;
  must = ap (λ (l : Lists). l.written) c.found.view_is;
  assigns_outer = assigns_outer_is c.in_ok-slots.slots (block c.args.statements.now) c.assigns_other.result (c.in_ok-slots.ensures {u = tt}) c.assigns_other.ensures;
  emits = c.emits.ensures;
}
