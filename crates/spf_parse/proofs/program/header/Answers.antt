use Rattle.std.proofs.Common.{refl, rules}
use Rattle.std.proofs.lemmas.Result.{err_from_is_err_and}
use Rattle.spf_parse_parts.proofs.Steps.{go0, halt0}
use Rattle.spf_parse.proofs.Programs.{no_header, some_header, first_version, second_version}
use Rattle.spf_parse.proofs.program.header.Goals as goal

pub returns-then-not-is_next : goal.returns-then-not-is_next
returns-then-not-is_next c =
    no_header (λ h. absurd (search (rules, c.is_next.ensures.1 h)))

pub returns-in_err-number_at : goal.returns-in_err-number_at
returns-in_err-number_at c =
    let p = err_from_is_err_and c.from_residual.result c.from_residual.ensures.1 in
    rw (p.1, p.2) (halt0 c.in_err-number_at.field-0.0 refl (λ x. refl) (some_header (search (rules, c.is_next.ensures.0))) c.in_err-number_at.ensures)

pub returns-in_err-rest : goal.returns-in_err-rest
returns-in_err-rest c =
    let l0 = go0 refl (some_header (search (rules, c.is_next.ensures.0))) c.in_ok-number_at.ensures in
    let l1 = first_version (c.is_next-2.ensures.0 c.if-is_next.true) l0 in
    let p = err_from_is_err_and c.from_residual-in_err-rest.result c.from_residual-in_err-rest.ensures.1 in
    rw (p.1, p.2) (halt0 c.in_err-rest.field-0.0 refl (λ x. refl) l1 c.in_err-rest.ensures)

pub returns-in_err-end : goal.returns-in_err-end
returns-in_err-end c =
    let l0 = go0 refl (some_header (search (rules, c.is_next.ensures.0))) c.in_ok-number_at.ensures in
    let l1 = go0 refl (first_version (c.is_next-2.ensures.0 c.if-is_next.true) l0) c.in_ok-rest.ensures in
    let p = err_from_is_err_and c.from_residual-in_err-end.result c.from_residual-in_err-end.ensures.1 in
    rw (p.1, p.2) (halt0 c.in_err-end.field-0.0 refl (λ x. refl) l1 c.in_err-end.ensures)

pub returns-then-is_next : goal.returns-then-is_next
returns-then-is_next c =
    let l0 = go0 refl (some_header (search (rules, c.is_next.ensures.0))) c.in_ok-number_at.ensures in
    let l1 = go0 refl (first_version (c.is_next-2.ensures.0 c.if-is_next.true) l0) c.in_ok-rest.ensures in
    go0 refl l1 c.in_ok-end.ensures

pub returns-in_err-rest-2 : goal.returns-in_err-rest-2
returns-in_err-rest-2 c =
    let l0 = go0 refl (some_header (search (rules, c.is_next.ensures.0))) c.in_ok-number_at.ensures in
    let l1 = second_version (λ h. absurd (search (rules, c.is_next-2.ensures.1 h))) l0 in
    let p = err_from_is_err_and c.from_residual-in_err-rest-2.result c.from_residual-in_err-rest-2.ensures.1 in
    rw (p.1, p.2) (halt0 c.in_err-rest-2.field-0.0 refl (λ x. refl) l1 c.in_err-rest-2.ensures)

pub returns-in_err-end-2 : goal.returns-in_err-end-2
returns-in_err-end-2 c =
    let l0 = go0 refl (some_header (search (rules, c.is_next.ensures.0))) c.in_ok-number_at.ensures in
    let l1 = go0 refl (second_version (λ h. absurd (search (rules, c.is_next-2.ensures.1 h))) l0) c.in_ok-rest-2.ensures in
    let p = err_from_is_err_and c.from_residual-in_err-end-2.result c.from_residual-in_err-end-2.ensures.1 in
    rw (p.1, p.2) (halt0 c.in_err-end-2.field-0.0 refl (λ x. refl) l1 c.in_err-end-2.ensures)

pub returns : goal.returns
returns c =
    let l0 = go0 refl (some_header (search (rules, c.is_next.ensures.0))) c.in_ok-number_at.ensures in
    let l1 = go0 refl (second_version (λ h. absurd (search (rules, c.is_next-2.ensures.1 h))) l0) c.in_ok-rest-2.ensures in
    go0 refl l1 c.in_ok-end-2.ensures
