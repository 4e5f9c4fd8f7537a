use Rattle.std.proofs.Common.{rules, refl, FitsSigned, w64}
use Rattle.std.proofs.lemmas.Result.{err_from_is_err_and}
use Rattle.std.proofs.lemmas.Int.{to_z-of_z}
use Rattle.spf_parse_parts.proofs.Steps.{start, go0, halt0}
use Rattle.spf_parse_parts.proofs.statement.fail_form.Goals as goal

pub returns-in_err-rest : goal.returns-in_err-rest
returns-in_err-rest c =
    let p = err_from_is_err_and c.from_residual.result c.from_residual.ensures.1 in
    rw (p.1, p.2) (halt0 c.in_err-rest.field-0.0 refl (λ x. refl)
    start
    c.in_err-rest.ensures)

pub returns-in_err-n : goal.returns-in_err-n
returns-in_err-n c =
    let l0 = go0 refl start c.in_ok-rest.ensures in
    let p = err_from_is_err_and c.from_residual-in_err-n.result c.from_residual-in_err-n.ensures.1 in
    rw (p.1, p.2) (halt0 c.in_err-n.field-0.0 refl (λ x. refl)
    l0
    c.in_err-n.ensures)

pub returns-in_err-end : goal.returns-in_err-end
returns-in_err-end c =
    let l0 = go0 refl start c.in_ok-rest.ensures in
    let l1 = go0 refl l0 c.in_ok-n.ensures in
    let p = err_from_is_err_and c.from_residual-in_err-end.result c.from_residual-in_err-end.ensures.1 in
    rw (p.1, p.2) (halt0 c.in_err-end.field-0.0 refl (λ x. refl)
    l1
    c.in_err-end.ensures)

pub returns : goal.returns
returns c =
    let l0 = go0 refl start c.in_ok-rest.ensures in
    let l1 = go0 refl l0 c.in_ok-n.ensures in
    let l2 = go0 refl l1 c.in_ok-end.ensures in
    let f : FitsSigned w64 c.in_ok-n.n = search rules in
    rw (to_z-of_z w64 c.in_ok-n.n f) l2
