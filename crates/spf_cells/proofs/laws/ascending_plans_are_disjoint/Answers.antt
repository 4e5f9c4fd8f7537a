use Rattle.spf_cells.proofs.Covering.{spans-cover, cover-spans, ascending-disjoint}
use Rattle.spf_cells.proofs.laws.ascending_plans_are_disjoint.Goals as goal

pub returns-clause-disjoint : goal.returns-clause-disjoint
returns-clause-disjoint c = ascending-disjoint

pub returns-clause-cells : goal.returns-clause-cells
returns-clause-cells c = λ spans cell. (cover-spans spans cell, spans-cover spans cell)
