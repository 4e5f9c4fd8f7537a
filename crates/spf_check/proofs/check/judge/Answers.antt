use Rattle.spf_ast.specs.ConstructView.{construct}
use Rattle.spf_check.proofs.Examining.{construct-line}
use Rattle.spf_check.proofs.check.judge.Goals as goal

pub returns-in-Some : goal.returns-in-Some
returns-in-Some c = λ p found. (c.in-Some.ensures p (construct c.args.construct.now) found, construct-line c.args.construct.now.line c.args.construct.now.kind)
