use Rattle.std.proofs.Common.{rules, refl, FitsSigned, w64}
use Rattle.std.proofs.lemmas.Result.{err_from_is_err_and}
use Rattle.std.proofs.lemmas.Int.{to_z-of_z}
use Rattle.spf_parse_grammar.specs.Parts.{give, array}
use Rattle.spf_parse_parts.proofs.Steps.{start, go, halt, go0, halt0, three_fourteen, unfold_part}
use Rattle.spf_parse_parts.proofs.function.array.Goals as goal

pub returns-in_err-rest : goal.returns-in_err-rest
returns-in_err-rest c =
    let p = err_from_is_err_and c.from_residual.result c.from_residual.ensures.1 in
    rw (p.1, p.2) (halt0 c.in_err-rest.field-0.0 refl (λ x. refl)
    (unfold_part array (λ x. give x) start)
    c.in_err-rest.ensures)

pub returns-in_err-name : goal.returns-in_err-name
returns-in_err-name c =
    let l0 = go0 refl (unfold_part array (λ x. give x) start) c.in_ok-rest.ensures in
    let p = err_from_is_err_and c.from_residual-in_err-name.result c.from_residual-in_err-name.ensures.1 in
    rw (p.1, p.2) (halt0 c.in_err-name.field-0.0 refl (λ x. refl)
    l0
    c.in_err-name.ensures)

pub returns-in_err-inner : goal.returns-in_err-inner
returns-in_err-inner c =
    let l0 = go0 refl (unfold_part array (λ x. give x) start) c.in_ok-rest.ensures in
    let l1 = go0 refl l0 c.in_ok-name.ensures in
    let p = err_from_is_err_and c.from_residual-in_err-inner.result c.from_residual-in_err-inner.ensures.1 in
    rw (p.1, p.2) (halt0 c.in_err-inner.field-0.0 refl (λ x. refl)
    l1
    c.in_err-inner.ensures.answers)

pub returns-in_err-factor : goal.returns-in_err-factor
returns-in_err-factor c =
    let l0 = go0 refl (unfold_part array (λ x. give x) start) c.in_ok-rest.ensures in
    let l1 = go0 refl l0 c.in_ok-name.ensures in
    let l2 = go0 refl l1 c.in_ok-inner.ensures.answers in
    let p = err_from_is_err_and c.from_residual-in_err-factor.result c.from_residual-in_err-factor.ensures.1 in
    rw (p.1, p.2) (halt c.in_err-factor.field-0.0 (λ x. three_fourteen) (λ x. refl)
    l2
    c.in_err-factor.ensures)

pub returns-in_err-closed : goal.returns-in_err-closed
returns-in_err-closed c =
    let l0 = go0 refl (unfold_part array (λ x. give x) start) c.in_ok-rest.ensures in
    let l1 = go0 refl l0 c.in_ok-name.ensures in
    let l2 = go0 refl l1 c.in_ok-inner.ensures.answers in
    let l3 = go (λ x. three_fourteen) l2 c.in_ok-factor.ensures in
    let p = err_from_is_err_and c.from_residual-in_err-closed.result c.from_residual-in_err-closed.ensures.1 in
    rw (p.1, p.2) (halt0 c.in_err-closed.field-0.0 refl (λ x. refl)
    l3
    c.in_err-closed.ensures)

pub returns-in_err-end : goal.returns-in_err-end
returns-in_err-end c =
    let l0 = go0 refl (unfold_part array (λ x. give x) start) c.in_ok-rest.ensures in
    let l1 = go0 refl l0 c.in_ok-name.ensures in
    let l2 = go0 refl l1 c.in_ok-inner.ensures.answers in
    let l3 = go (λ x. three_fourteen) l2 c.in_ok-factor.ensures in
    let l4 = go0 refl l3 c.in_ok-closed.ensures in
    let p = err_from_is_err_and c.from_residual-in_err-end.result c.from_residual-in_err-end.ensures.1 in
    rw (p.1, p.2) (halt0 c.in_err-end.field-0.0 refl (λ x. refl)
    l4
    c.in_err-end.ensures)

pub returns : goal.returns
returns c =
    let l0 = go0 refl (unfold_part array (λ x. give x) start) c.in_ok-rest.ensures in
    let l1 = go0 refl l0 c.in_ok-name.ensures in
    let l2 = go0 refl l1 c.in_ok-inner.ensures.answers in
    let l3 = go (λ x. three_fourteen) l2 c.in_ok-factor.ensures in
    let l4 = go0 refl l3 c.in_ok-closed.ensures in
    let l5 = go0 refl l4 c.in_ok-end.ensures in
    let f : FitsSigned w64 c.in_ok-factor.factor = search rules in
    let g : FitsSigned w64 c.in_ok-factor.offset = search rules in
    rw (to_z-of_z w64 c.in_ok-factor.factor f, to_z-of_z w64 c.in_ok-factor.offset g, c.line_of-line.ensures) l5
