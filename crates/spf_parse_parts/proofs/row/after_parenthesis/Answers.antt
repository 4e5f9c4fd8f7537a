use Rattle.std.proofs.Common.{◌+◌, false, refl, sym, ◌∙◌, ap, arith, rules, [], ◌∷◌}
use Rattle.std.proofs.lemmas.Result.{err_from_is_err_and}
use Rattle.spf_text.specs.declared.token.TokenKind.TheVariants as kind
use Rattle.spf_text.specs.declared.token.Sign.TheVariants as sign
use Rattle.spf_ast.specs.RawSyntax.{By}
use Rattle.spf_ast.specs.RawView.{raw_expression}
use Rattle.spf_parse_grammar.specs.Lexemes.{lexemes}
use Rattle.spf_parse_parts.specs.Answers.{row_after, guess_after}
use Rattle.spf_parse_parts.proofs.Steps.{go0, halt0}
use Rattle.spf_parse_parts.proofs.Tokens.{next_token}
use Rattle.spf_parse_parts.proofs.Rows.{bracket_unread, bracket_closed, bracket_whole, bracket_broken, bracket_open}
use Rattle.spf_parse_parts.proofs.row.after_parenthesis.Goals as goal

pub returns-in_err-first-clause-row : goal.returns-in_err-first-clause-row
returns-in_err-first-clause-row c =
    let p = err_from_is_err_and c.from_residual.result c.from_residual.ensures.1 in
    rw (p.1, p.2) (bracket_unread c.args.nesting (λ a. a ∷ []) (λ a. row_after c.args.nesting a false) (lexemes c.args.tokens.now) c.in_err-first.field-0.0 c.in_err-first.ensures)

pub returns-in_err-end-clause-row : goal.returns-in_err-end-clause-row
returns-in_err-end-clause-row c =
    let p = err_from_is_err_and c.from_residual-in_err-end.result c.from_residual-in_err-end.ensures.1 in
    rw (p.1, p.2) (halt0 c.in_err-end.field-0.0 refl (λ x. refl) (bracket_open c.args.nesting (λ a. a ∷ []) (λ a. row_after c.args.nesting a false) c.in_ok-first.ensures c.in_default.ensures) c.in_err-end.ensures)

pub returns-in_default-clause-row : goal.returns-in_default-clause-row
returns-in_default-clause-row c =
    go0 refl (bracket_open c.args.nesting (λ a. a ∷ []) (λ a. row_after c.args.nesting a false) c.in_ok-first.ensures c.in_default.ensures) c.in_ok-end.ensures

pub returns-in_err-whole-clause-row : goal.returns-in_err-whole-clause-row
returns-in_err-whole-clause-row c =
    let x = c.in-Some.ensures in
    let y = next_token c.in_ok-first.rest.now x.0 c.in-Some.closed.now x.2 (kind.Sign sign.CloseParen) x.1 in
    let p = err_from_is_err_and c.from_residual-in_err-whole.result c.from_residual-in_err-whole.ensures.1 in
    rw (p.1, p.2) (bracket_broken c.args.nesting (λ a. a ∷ []) (λ a. row_after c.args.nesting a false) (raw_expression c.in_ok-first.first.value) c.in_err-whole.field-0.0 (bracket_closed c.args.nesting (λ a. a ∷ []) (λ a. row_after c.args.nesting a false) _ c.in_ok-first.ensures y.0 y.1) c.in_err-whole.ensures.answers)

pub returns-clause-row : goal.returns-clause-row
returns-clause-row c =
    let x = c.in-Some.ensures in
    let y = next_token c.in_ok-first.rest.now x.0 c.in-Some.closed.now x.2 (kind.Sign sign.CloseParen) x.1 in
    bracket_whole c.args.nesting (λ a. a ∷ []) (λ a. row_after c.args.nesting a false) (raw_expression c.in_ok-first.first.value) (bracket_closed c.args.nesting (λ a. a ∷ []) (λ a. row_after c.args.nesting a false) _ c.in_ok-first.ensures y.0 y.1) c.in_ok-whole.ensures.answers

pub returns-in_err-first-clause-guess : goal.returns-in_err-first-clause-guess
returns-in_err-first-clause-guess c =
    let p = err_from_is_err_and c.from_residual.result c.from_residual.ensures.1 in
    rw (p.1, p.2) (bracket_unread c.args.nesting (λ a. By a ∷ []) (λ a. guess_after c.args.nesting (By a) false) (lexemes c.args.tokens.now) c.in_err-first.field-0.0 c.in_err-first.ensures)

pub returns-in_err-end-clause-guess : goal.returns-in_err-end-clause-guess
returns-in_err-end-clause-guess c =
    let p = err_from_is_err_and c.from_residual-in_err-end.result c.from_residual-in_err-end.ensures.1 in
    rw (p.1, p.2) (halt0 c.in_err-end.field-0.0 refl (λ x. refl) (bracket_open c.args.nesting (λ a. By a ∷ []) (λ a. guess_after c.args.nesting (By a) false) c.in_ok-first.ensures c.in_default.ensures) c.in_err-end.ensures)

pub returns-in_default-clause-guess : goal.returns-in_default-clause-guess
returns-in_default-clause-guess c =
    go0 refl (bracket_open c.args.nesting (λ a. By a ∷ []) (λ a. guess_after c.args.nesting (By a) false) c.in_ok-first.ensures c.in_default.ensures) c.in_ok-end.ensures

pub returns-in_err-whole-clause-guess : goal.returns-in_err-whole-clause-guess
returns-in_err-whole-clause-guess c =
    let x = c.in-Some.ensures in
    let y = next_token c.in_ok-first.rest.now x.0 c.in-Some.closed.now x.2 (kind.Sign sign.CloseParen) x.1 in
    let p = err_from_is_err_and c.from_residual-in_err-whole.result c.from_residual-in_err-whole.ensures.1 in
    rw (p.1, p.2) (bracket_broken c.args.nesting (λ a. By a ∷ []) (λ a. guess_after c.args.nesting (By a) false) (raw_expression c.in_ok-first.first.value) c.in_err-whole.field-0.0 (bracket_closed c.args.nesting (λ a. By a ∷ []) (λ a. guess_after c.args.nesting (By a) false) _ c.in_ok-first.ensures y.0 y.1) c.in_err-whole.ensures.answers)

pub returns-clause-guess : goal.returns-clause-guess
returns-clause-guess c =
    let x = c.in-Some.ensures in
    let y = next_token c.in_ok-first.rest.now x.0 c.in-Some.closed.now x.2 (kind.Sign sign.CloseParen) x.1 in
    bracket_whole c.args.nesting (λ a. By a ∷ []) (λ a. guess_after c.args.nesting (By a) false) (raw_expression c.in_ok-first.first.value) (bracket_closed c.args.nesting (λ a. By a ∷ []) (λ a. guess_after c.args.nesting (By a) false) _ c.in_ok-first.ensures y.0 y.1) c.in_ok-whole.ensures.answers
