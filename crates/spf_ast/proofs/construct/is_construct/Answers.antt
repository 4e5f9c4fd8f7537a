use Rattle.std.proofs.Common.{sym, ap}
use Rattle.spf_ast.specs.Construct.{is_construct}
use Rattle.spf_ast.proofs.Views.{statement-fold, statement-pair}
use Rattle.spf_ast.proofs.construct.is_construct.Goals as goal

pub returns-in-Fold : goal.returns-in-Fold
returns-in-Fold c = rw c.in-Fold.is (sym (ap is_construct (statement-fold c.in-Fold.field-0)))

pub returns-in-Pair : goal.returns-in-Pair
returns-in-Pair c = rw c.in-Pair.is (sym (ap is_construct (statement-pair c.in-Pair.field-0)))
