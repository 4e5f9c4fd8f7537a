-- The blocks of an accepted program can be run as attempts.
use Rattle.std.proofs.Common.{◌≡◌, ℕ, zero, suc, false}
use Rattle.spf_ast.specs.Syntax.{Program}
use Rattle.spf_ast.specs.Silence.{PartIsSilent}
use Rattle.spf_ast.specs.Slots.{assigns_outer}
use Rattle.spf_ast.specs.Construct.{Construct, fold, pair, part_of, statements_of}
use Rattle.spf_ast.specs.ConstructView.{construct}
use Rattle.spf_exec_instance.specs.Instance.{program_of}
use Rattle.spf_check_rules.specs.Rules.{KeepsTheRules}
use Rattle.spf_chain.specs.Jobs.{AcceptedConstructsCanRun}
use Rattle.spf_ast.specs.declared.syntax.Part.TheVariants.{Body, Producer, Consumer}

silent-of : (p : Program) (c : Construct) → KeepsTheRules p c → (n : ℕ) → PartIsSilent c (part_of c n)
silent-of p (fold line head body) k n = k.emits_nothing Body tt
silent-of p (pair line head producer consumer) k zero = k.emits_nothing Producer tt
silent-of p (pair line head producer consumer) k (suc n) = k.emits_nothing Consumer tt

outer-of : (p : Program) (c : Construct) → KeepsTheRules p c → (n : ℕ) → assigns_outer (statements_of c (part_of c n)) ≡ false
outer-of p (fold line head body) k n = k.assigns_no_outer Body tt
outer-of p (pair line head producer consumer) k zero = k.assigns_no_outer Producer tt
outer-of p (pair line head producer consumer) k (suc n) = k.assigns_no_outer Consumer tt

pub can-run : AcceptedConstructsCanRun
can-run job lawful accepted at cells =
    let keeps = accepted job.index (construct job.construct) at in
    record {
      lawful = lawful;
      top = at;
      silent = silent-of (program_of job.instance.now) (construct job.construct) keeps;
      outer = outer-of (program_of job.instance.now) (construct job.construct) keeps;
      cells = cells;
    }
