use Rattle.std.proofs.Common.{rules, w64, FitsSigned, sym, ◌∙◌}
use Rattle.std.proofs.lemmas.Int.{to_z-of_z}
use Rattle.std.proofs.lemmas.Result.{err_from_is_err_and}
use Rattle.spf_ast.specs.View.{fold_head}
use Rattle.spf_exec_instance.specs.Instance.{program_of}
use Rattle.spf_exec_memory.proofs.Growing.{adds-then}
use Rattle.spf_exec_memory.proofs.Steps.{at_once, traps_now, then_value, then_halt}
use Rattle.spf_exec.proofs.Growing.{value-adds, range_of-adds}
use Rattle.spf_exec.proofs.pieces.perform_header.Goals as goal

pub returns-in_err-start-clause-performs : goal.returns-in_err-start-clause-performs
returns-in_err-start-clause-performs g c =
    let p = err_from_is_err_and c.from_residual.result c.from_residual.ensures.1 in
    rw (p.1, p.2) (then_halt _ (λ start. adds-then (value-adds (program_of c.args.instance.now) c.args.instance.now.input c.args.line (fold_head c.args.fold.now).low) (λ low. adds-then (value-adds (program_of c.args.instance.now) c.args.instance.now.input c.args.line (fold_head c.args.fold.now).high) (λ high. range_of-adds c.args.line low high start))) (rw c.deref.ensures.value at c.in_err-start.ensures.performs))

pub returns-in_err-low-clause-performs : goal.returns-in_err-low-clause-performs
returns-in_err-low-clause-performs g c =
    let p = err_from_is_err_and c.from_residual-in_err-low.result c.from_residual-in_err-low.ensures.1 in
    rw (p.1, p.2) (then_value _ g.met.M.Memory.laws (rw c.deref.ensures.value at c.in_ok-start.ensures.performs) (then_halt _ (λ low. adds-then (value-adds (program_of c.args.instance.now) c.args.instance.now.input c.args.line (fold_head c.args.fold.now).high) (λ high. range_of-adds c.args.line low high _)) (rw c.in_ok-start.ensures.kept at c.in_err-low.ensures.performs)))

pub returns-in_err-high-clause-performs : goal.returns-in_err-high-clause-performs
returns-in_err-high-clause-performs g c =
    let p = err_from_is_err_and c.from_residual-in_err-high.result c.from_residual-in_err-high.ensures.1 in
    rw (p.1, p.2) (then_value _ g.met.M.Memory.laws (rw c.deref.ensures.value at c.in_ok-start.ensures.performs) (then_value _ g.met.M.Memory.laws (rw c.in_ok-start.ensures.kept at c.in_ok-low.ensures.performs) (then_halt _ (λ high. range_of-adds c.args.line _ high _) (rw (c.in_ok-low.ensures.kept, c.in_ok-start.ensures.kept) at c.in_err-high.ensures.performs))))

pub returns-then-are_too_many-clause-performs : goal.returns-then-are_too_many-clause-performs
returns-then-are_too_many-clause-performs g c =
    let fl : FitsSigned w64 c.in_ok-low.low = search rules in
    let fh : FitsSigned w64 c.in_ok-high.high = search rules in
    let e = rw (to_z-of_z w64 c.in_ok-low.low fl, to_z-of_z w64 c.in_ok-high.high fh) at (sym c.are_too_many.ensures ∙ c.if-are_too_many.true) in
    then_value _ g.met.M.Memory.laws (rw c.deref.ensures.value at c.in_ok-start.ensures.performs)
    (then_value _ g.met.M.Memory.laws (rw c.in_ok-start.ensures.kept at c.in_ok-low.ensures.performs)
    (then_value _ g.met.M.Memory.laws (rw (c.in_ok-low.ensures.kept, c.in_ok-start.ensures.kept) at c.in_ok-high.ensures.performs)
    (rw e (traps_now g.met.M.Memory.laws _ _ _ _))))

pub returns-clause-performs : goal.returns-clause-performs
returns-clause-performs g c =
    let fl : FitsSigned w64 c.in_ok-low.low = search rules in
    let fh : FitsSigned w64 c.in_ok-high.high = search rules in
    let e = rw (to_z-of_z w64 c.in_ok-low.low fl, to_z-of_z w64 c.in_ok-high.high fh) at (sym c.are_too_many.ensures ∙ c.if-are_too_many.false) in
    let b = rw (to_z-of_z w64 c.in_ok-low.low fl, to_z-of_z w64 c.in_ok-high.high fh) at c.block_count.ensures.count in
    rw (to_z-of_z w64 c.in_ok-low.low fl, b)
    (then_value _ g.met.M.Memory.laws (rw c.deref.ensures.value at c.in_ok-start.ensures.performs)
    (then_value _ g.met.M.Memory.laws (rw c.in_ok-start.ensures.kept at c.in_ok-low.ensures.performs)
    (then_value _ g.met.M.Memory.laws (rw (c.in_ok-low.ensures.kept, c.in_ok-start.ensures.kept) at c.in_ok-high.ensures.performs)
    (rw e (at_once g.met.M.Memory.laws _ _ _)))))
