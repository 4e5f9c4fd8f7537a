use Rattle.spf_effects.proofs.analysis.guess.Goals as goal

pub returns-in_ok-expression-in-Expr : goal.returns-in_ok-expression-in-Expr
returns-in_ok-expression-in-Expr c = rw c.in-Expr.is (c.in_ok-expression-in-Expr.ensures {u = tt}).finds
