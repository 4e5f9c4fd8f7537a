use Rattle.std.proofs.Common.{refl, map}
use Rattle.std.proofs.lemmas.Result.{err_from_is_err_and}
use Rattle.spf_text.specs.declared.token.TokenKind.TheVariants as kind
use Rattle.spf_text.specs.declared.token.Sign.TheVariants as sign
use Rattle.spf_ast.specs.View.{name as seen_name}
use Rattle.spf_parse_grammar.specs.Lexemes.{lexemes}
use Rattle.spf_parse_grammar.specs.Parts.{give, function}
use Rattle.spf_parse_grammar.specs.Reading.{line_of}
use Rattle.spf_ast.specs.RawView.{raw_expression}
use Rattle.spf_parse_parts.specs.Answers.{opened_statements, value_before}
use Rattle.spf_parse_parts.proofs.Steps.{start, go0, halt0, go_rule, halt_rule, go_rule0, halt_rule0, twelve_fourteen, unfold_part}
use Rattle.spf_parse_parts.proofs.Statements.{block_is, function_rest}
use Rattle.spf_parse_parts.proofs.Tokens.{then_token, followed_by0}
use Rattle.spf_parse_parts.proofs.function.function.Goals as goal

pub returns-in_err-rest : goal.returns-in_err-rest
returns-in_err-rest c =
    let p = err_from_is_err_and c.from_residual.result c.from_residual.ensures.1 in
    rw (p.1, p.2) (halt0 c.in_err-rest.field-0.0 refl (λ x. refl)
    (unfold_part (function c.args.breaks) (λ x. give x) start)
    c.in_err-rest.ensures)

pub returns-in_err-name : goal.returns-in_err-name
returns-in_err-name c =
    let l0 = go0 refl (unfold_part (function c.args.breaks) (λ x. give x) start) c.in_ok-rest.ensures in
    let p = err_from_is_err_and c.from_residual-in_err-name.result c.from_residual-in_err-name.ensures.1 in
    rw (p.1, p.2) (halt0 c.in_err-name.field-0.0 refl (λ x. refl)
    l0
    c.in_err-name.ensures)

pub returns-in_err-inner : goal.returns-in_err-inner
returns-in_err-inner c =
    let l0 = go0 refl (unfold_part (function c.args.breaks) (λ x. give x) start) c.in_ok-rest.ensures in
    let l1 = go0 refl l0 c.in_ok-name.ensures in
    let p = err_from_is_err_and c.from_residual-in_err-inner.result c.from_residual-in_err-inner.ensures.1 in
    rw (p.1, p.2) (halt0 c.in_err-inner.field-0.0 refl (λ x. refl)
    l1
    c.in_err-inner.ensures.answers)

pub returns-in_err-params : goal.returns-in_err-params
returns-in_err-params c =
    let l0 = go0 refl (unfold_part (function c.args.breaks) (λ x. give x) start) c.in_ok-rest.ensures in
    let l1 = go0 refl l0 c.in_ok-name.ensures in
    let l2 = go0 refl l1 c.in_ok-inner.ensures.answers in
    let p = err_from_is_err_and c.from_residual-in_err-params.result c.from_residual-in_err-params.ensures.1 in
    rw (p.1, p.2) (halt0 c.in_err-params.field-0.0 refl (λ x. refl)
    l2
    c.in_err-params.ensures)

pub returns-in_err-body : goal.returns-in_err-body
returns-in_err-body c =
    let l0 = go0 refl (unfold_part (function c.args.breaks) (λ x. give x) start) c.in_ok-rest.ensures in
    let l1 = go0 refl l0 c.in_ok-name.ensures in
    let l2 = go0 refl l1 c.in_ok-inner.ensures.answers in
    let l3 = go0 refl l2 c.in_ok-params.ensures in
    let p = err_from_is_err_and c.from_residual-in_err-body.result c.from_residual-in_err-body.ensures.1 in
    rw (p.1, p.2) (halt_rule 12 (opened_statements c.args.breaks 0) (function_rest c.args.breaks (line_of (lexemes c.args.tokens.now)) (seen_name c.in_ok-name.name) (map seen_name c.in_ok-params.params.items)) c.in_err-body.field-0.0 (λ x. twelve_fourteen) (λ x. refl)
    l3
    c.in_err-body.ensures)

pub returns-in_err-answer_at : goal.returns-in_err-answer_at
returns-in_err-answer_at c =
    let l0 = go0 refl (unfold_part (function c.args.breaks) (λ x. give x) start) c.in_ok-rest.ensures in
    let l1 = go0 refl l0 c.in_ok-name.ensures in
    let l2 = go0 refl l1 c.in_ok-inner.ensures.answers in
    let l3 = go0 refl l2 c.in_ok-params.ensures in
    let l4 = go_rule {R = opened_statements c.args.breaks 0} (function_rest c.args.breaks (line_of (lexemes c.args.tokens.now)) (seen_name c.in_ok-name.name) (map seen_name c.in_ok-params.params.items)) (λ x. twelve_fourteen) l3 c.in_ok-body.ensures in
    let p = err_from_is_err_and c.from_residual-in_err-answer_at.result c.from_residual-in_err-answer_at.ensures.1 in
    rw (p.1, p.2) (halt0 c.in_err-answer_at.field-0.0 refl (λ x. refl)
    l4
    c.in_err-answer_at.ensures)

pub returns-in_err-answer : goal.returns-in_err-answer
returns-in_err-answer c =
    let l0 = go0 refl (unfold_part (function c.args.breaks) (λ x. give x) start) c.in_ok-rest.ensures in
    let l1 = go0 refl l0 c.in_ok-name.ensures in
    let l2 = go0 refl l1 c.in_ok-inner.ensures.answers in
    let l3 = go0 refl l2 c.in_ok-params.ensures in
    let l4 = go_rule {R = opened_statements c.args.breaks 0} (function_rest c.args.breaks (line_of (lexemes c.args.tokens.now)) (seen_name c.in_ok-name.name) (map seen_name c.in_ok-params.params.items)) (λ x. twelve_fourteen) l3 c.in_ok-body.ensures in
    let l5 = go0 refl l4 c.in_ok-answer_at.ensures in
    let p = err_from_is_err_and c.from_residual-in_err-answer.result c.from_residual-in_err-answer.ensures.1 in
    rw (p.1, p.2) (halt_rule0 (then_token (value_before 1 (kind.Sign sign.Semicolon)) (kind.Sign sign.CloseBrace)) _ c.in_err-answer.field-0.0 (λ x. refl)
    l5
    (followed_by0 (value_before 1 (kind.Sign sign.Semicolon)) (lexemes c.in_ok-answer_at.answer_at.now) c.value.result _ (kind.Sign sign.CloseBrace) (λ x. x.0) (λ e. raw_expression e.value) (λ x. lexemes x.1.now) c.in_err-answer.ensures.refused c.in_err-answer.ensures.kept c.in_err-answer.ensures.token c.value.ensures))

pub returns : goal.returns
returns c =
    let l0 = go0 refl (unfold_part (function c.args.breaks) (λ x. give x) start) c.in_ok-rest.ensures in
    let l1 = go0 refl l0 c.in_ok-name.ensures in
    let l2 = go0 refl l1 c.in_ok-inner.ensures.answers in
    let l3 = go0 refl l2 c.in_ok-params.ensures in
    let l4 = go_rule {R = opened_statements c.args.breaks 0} (function_rest c.args.breaks (line_of (lexemes c.args.tokens.now)) (seen_name c.in_ok-name.name) (map seen_name c.in_ok-params.params.items)) (λ x. twelve_fourteen) l3 c.in_ok-body.ensures in
    let l5 = go0 refl l4 c.in_ok-answer_at.ensures in
    let l6 = go_rule0 (then_token (value_before 1 (kind.Sign sign.Semicolon)) (kind.Sign sign.CloseBrace)) _ l5 (followed_by0 (value_before 1 (kind.Sign sign.Semicolon)) (lexemes c.in_ok-answer_at.answer_at.now) c.value.result _ (kind.Sign sign.CloseBrace) (λ x. x.0) (λ e. raw_expression e.value) (λ x. lexemes x.1.now) c.in_ok-answer.ensures.refused c.in_ok-answer.ensures.kept c.in_ok-answer.ensures.token c.value.ensures) in
    rw (block_is, c.line_of-line.ensures, c.line_of-answer_line.ensures, c.into_inner.ensures) l6
