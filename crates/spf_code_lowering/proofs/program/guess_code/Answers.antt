use Rattle.spf_code_lowering.proofs.program.guess_code.Goals as goal

pub returns-in-Expr-clause-code : goal.returns-in-Expr-clause-code
returns-in-Expr-clause-code c = λ calls. rw c.in-Expr.is (c.expression_code.ensures.code calls)
