use Rattle.std.proofs.Common.{ap, ◌∙◌, map, pos}
use Rattle.spf_ast.specs.Syntax.{Number}
use Rattle.spf_ast.specs.View.{expression, arguments, predictor, block}
use Rattle.spf_ast.specs.declared.syntax.Fold.{out-Fold, out-roll-Fold}
use Rattle.spf_tests_runtime.proofs.CountingFold.{folded}
use Rattle.spf_tests_runtime.proofs.counting.counting_fold.Goals as goal

pub returns : goal.returns
returns c =
    let made = ap out-Fold c.in_ok-new.ensures.ok ∙ out-roll-Fold _ in
    folded c.in_ok-new.field-0
    ((λ t. record { carried = (made t).carried.items; start = arguments (made t).start.items; block = (made t).block; low = expression (made t).low; high = expression (made t).high; predict = map predictor (made t).predict.items; next = arguments (made t).next.items; next_line = (made t).next_line })
    ∙ (λ t. record { carried = c.in_ok-first_slot.ensures t; start = c.in_ok-one_number.ensures t; block = 1; low = Number (pos 0); high = Number (pos 2); predict = c.in_ok-guess_of_five.ensures t; next = c.in_ok-one_number-2.ensures t; next_line = 1 }))
    (ap block (λ t. (made t).body.items) ∙ c.in_ok-loop_to_carried.ensures)
