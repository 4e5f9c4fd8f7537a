use Rattle.std.proofs.Common.{refl}
use Rattle.std.proofs.lemmas.Result.{err_from_is_err_and}
use Rattle.spf_parse_grammar.specs.Parts.{give, program}
use Rattle.spf_parse_parts.proofs.Steps.{start, go, halt, go0, halt0, twelve_fourteen, twelve_thirteen, thirteen_fourteen, unfold_part}
use Rattle.spf_parse.proofs.Programs.{header_follows}
use Rattle.spf_parse.proofs.program.program.Goals as goal

pub returns-in_err-version : goal.returns-in_err-version
returns-in_err-version c =
    let p = err_from_is_err_and c.from_residual.result c.from_residual.ensures.1 in
    rw (p.1, p.2) (halt c.in_err-version.field-0.0 header_follows (λ x. refl)
    (unfold_part program (λ x. give x) start)
    c.in_err-version.ensures)

pub returns-in_err-arrays : goal.returns-in_err-arrays
returns-in_err-arrays c =
    let p = err_from_is_err_and c.from_residual-in_err-arrays.result c.from_residual-in_err-arrays.ensures.1 in
    rw (p.1, p.2) (halt c.in_err-arrays.field-0.0 (λ x. (twelve_thirteen, λ y. twelve_fourteen)) (λ x. refl)
    (go header_follows (unfold_part program (λ x. give x) start) c.in_ok-version.ensures)
    c.in_err-arrays.ensures)

pub returns-in_err-functions : goal.returns-in_err-functions
returns-in_err-functions c =
    let a = go (λ x. (twelve_thirteen, λ y. twelve_fourteen)) (go header_follows (unfold_part program (λ x. give x) start) c.in_ok-version.ensures) c.in_ok-arrays.ensures in
    let p = err_from_is_err_and c.from_residual-in_err-functions.result c.from_residual-in_err-functions.ensures.1 in
    rw (p.1, p.2) (halt c.in_err-functions.field-0.0 (λ x. thirteen_fourteen) (λ x. refl)
    a
    c.in_err-functions.ensures)

pub returns-in_err-rest : goal.returns-in_err-rest
returns-in_err-rest c =
    let a = go (λ x. (twelve_thirteen, λ y. twelve_fourteen)) (go header_follows (unfold_part program (λ x. give x) start) c.in_ok-version.ensures) c.in_ok-arrays.ensures in
    let b = go (λ x. thirteen_fourteen) a c.in_ok-functions.ensures in
    let p = err_from_is_err_and c.from_residual-in_err-rest.result c.from_residual-in_err-rest.ensures.1 in
    rw (p.1, p.2) (halt0 c.in_err-rest.field-0.0 refl (λ x. refl)
    b
    c.in_err-rest.ensures)

pub returns-in_err-main : goal.returns-in_err-main
returns-in_err-main c =
    let a = go (λ x. (twelve_thirteen, λ y. twelve_fourteen)) (go header_follows (unfold_part program (λ x. give x) start) c.in_ok-version.ensures) c.in_ok-arrays.ensures in
    let b = go (λ x. thirteen_fourteen) a c.in_ok-functions.ensures in
    let m = go0 refl b c.in_ok-rest.ensures in
    let p = err_from_is_err_and c.from_residual-in_err-main.result c.from_residual-in_err-main.ensures.1 in
    rw (p.1, p.2) (halt0 c.in_err-main.field-0.0 refl (λ x. refl)
    m
    c.in_err-main.ensures)

pub returns : goal.returns
returns c =
    let a = go (λ x. (twelve_thirteen, λ y. twelve_fourteen)) (go header_follows (unfold_part program (λ x. give x) start) c.in_ok-version.ensures) c.in_ok-arrays.ensures in
    let b = go (λ x. thirteen_fourteen) a c.in_ok-functions.ensures in
    let m = go0 refl b c.in_ok-rest.ensures in
    rw c.line_of-main_line.ensures (go0 refl m c.in_ok-main.ensures)
