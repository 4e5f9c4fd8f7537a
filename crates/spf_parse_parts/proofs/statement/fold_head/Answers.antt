use Rattle.std.proofs.Common.{refl, map}
use Rattle.std.proofs.lemmas.Result.{err_from_is_err_and}
use Rattle.spf_text.specs.declared.token.TokenKind.TheVariants as kind
use Rattle.spf_text.specs.declared.token.Sign.TheVariants as sign
use Rattle.spf_text.specs.declared.token.Keyword.TheVariants as word
use Rattle.spf_parse_parts.specs.Answers.{value_before, row_before, fold_opening}
use Rattle.spf_parse_parts.proofs.Steps.{start, go, halt, go0, halt0, go_rule0, halt_rule0, ten_ten}
use Rattle.spf_ast.specs.View.{name as seen_name}
use Rattle.spf_parse_grammar.specs.Lexemes.{lexemes}
use Rattle.spf_parse_parts.proofs.Tokens.{then_token, followed_by0}
use Rattle.spf_parse_grammar.specs.Parts.{name, names}
use Rattle.spf_parse_grammar.specs.Rules.{all}
use Rattle.spf_parse_parts.proofs.statement.fold_head.Goals as goal

pub returns-in_err-rest : goal.returns-in_err-rest
returns-in_err-rest c =
    let p = err_from_is_err_and c.from_residual.result c.from_residual.ensures.1 in
    rw (p.1, p.2) (halt0 c.in_err-rest.field-0.0 refl (λ x. refl)
    (start {n = 10} {F = fold_opening c.args.nesting})
    c.in_err-rest.ensures)

pub returns-in_err-carried : goal.returns-in_err-carried
returns-in_err-carried c =
    let l0 = go0 refl (start {n = 10} {F = fold_opening c.args.nesting}) c.in_ok-rest.ensures in
    let p = err_from_is_err_and c.from_residual-in_err-carried.result c.from_residual-in_err-carried.ensures.1 in
    rw (p.1, p.2) (halt_rule0 (then_token (all (names c.args.nesting)) (kind.Sign sign.Assign)) _ c.in_err-carried.field-0.0 (λ x. refl)
    l0
    (followed_by0 (all (names c.args.nesting)) (lexemes c.in_ok-rest.rest.now) c.names.result _ (kind.Sign sign.Assign) (λ x. x.0) (λ v. map seen_name v.items) (λ x. lexemes x.1.now) c.in_err-carried.ensures.refused c.in_err-carried.ensures.kept c.in_err-carried.ensures.token c.names.ensures))

pub returns-in_err-start : goal.returns-in_err-start
returns-in_err-start c =
    let l0 = go0 refl (start {n = 10} {F = fold_opening c.args.nesting}) c.in_ok-rest.ensures in
    let l2 = go_rule0 (then_token (all (names c.args.nesting)) (kind.Sign sign.Assign)) _ l0 (followed_by0 (all (names c.args.nesting)) (lexemes c.in_ok-rest.rest.now) c.names.result _ (kind.Sign sign.Assign) (λ x. x.0) (λ v. map seen_name v.items) (λ x. lexemes x.1.now) c.in_ok-carried.ensures.refused c.in_ok-carried.ensures.kept c.in_ok-carried.ensures.token c.names.ensures) in
    let p = err_from_is_err_and c.from_residual-in_err-start.result c.from_residual-in_err-start.ensures.1 in
    rw (p.1, p.2) (halt_rule0 (row_before c.args.nesting (kind.Keyword word.For)) _ c.in_err-start.field-0.0 (λ x. refl)
    l2
    c.in_err-start.ensures)

pub returns-in_err-block : goal.returns-in_err-block
returns-in_err-block c =
    let l0 = go0 refl (start {n = 10} {F = fold_opening c.args.nesting}) c.in_ok-rest.ensures in
    let l2 = go_rule0 (then_token (all (names c.args.nesting)) (kind.Sign sign.Assign)) _ l0 (followed_by0 (all (names c.args.nesting)) (lexemes c.in_ok-rest.rest.now) c.names.result _ (kind.Sign sign.Assign) (λ x. x.0) (λ v. map seen_name v.items) (λ x. lexemes x.1.now) c.in_ok-carried.ensures.refused c.in_ok-carried.ensures.kept c.in_ok-carried.ensures.token c.names.ensures) in
    let l3 = go_rule0 (row_before c.args.nesting (kind.Keyword word.For)) _ l2 c.in_ok-start.ensures in
    let p = err_from_is_err_and c.from_residual-in_err-block.result c.from_residual-in_err-block.ensures.1 in
    rw (p.1, p.2) (halt_rule0 (then_token (all name) (kind.Keyword word.In)) _ c.in_err-block.field-0.0 (λ x. refl)
    l3
    (followed_by0 (all name) (lexemes c.in_ok-start.after_start.now) c.name.result _ (kind.Keyword word.In) (λ x. x.0) seen_name (λ x. lexemes x.1.now) c.in_err-block.ensures.refused c.in_err-block.ensures.kept c.in_err-block.ensures.token c.name.ensures))

pub returns-in_err-low : goal.returns-in_err-low
returns-in_err-low c =
    let l0 = go0 refl (start {n = 10} {F = fold_opening c.args.nesting}) c.in_ok-rest.ensures in
    let l2 = go_rule0 (then_token (all (names c.args.nesting)) (kind.Sign sign.Assign)) _ l0 (followed_by0 (all (names c.args.nesting)) (lexemes c.in_ok-rest.rest.now) c.names.result _ (kind.Sign sign.Assign) (λ x. x.0) (λ v. map seen_name v.items) (λ x. lexemes x.1.now) c.in_ok-carried.ensures.refused c.in_ok-carried.ensures.kept c.in_ok-carried.ensures.token c.names.ensures) in
    let l3 = go_rule0 (row_before c.args.nesting (kind.Keyword word.For)) _ l2 c.in_ok-start.ensures in
    let l5 = go_rule0 (then_token (all name) (kind.Keyword word.In)) _ l3 (followed_by0 (all name) (lexemes c.in_ok-start.after_start.now) c.name.result _ (kind.Keyword word.In) (λ x. x.0) seen_name (λ x. lexemes x.1.now) c.in_ok-block.ensures.refused c.in_ok-block.ensures.kept c.in_ok-block.ensures.token c.name.ensures) in
    let p = err_from_is_err_and c.from_residual-in_err-low.result c.from_residual-in_err-low.ensures.1 in
    rw (p.1, p.2) (halt_rule0 (value_before c.args.nesting (kind.Sign sign.DotDot)) _ c.in_err-low.field-0.0 (λ x. refl)
    l5
    c.in_err-low.ensures)

pub returns-in_err-high : goal.returns-in_err-high
returns-in_err-high c =
    let l0 = go0 refl (start {n = 10} {F = fold_opening c.args.nesting}) c.in_ok-rest.ensures in
    let l2 = go_rule0 (then_token (all (names c.args.nesting)) (kind.Sign sign.Assign)) _ l0 (followed_by0 (all (names c.args.nesting)) (lexemes c.in_ok-rest.rest.now) c.names.result _ (kind.Sign sign.Assign) (λ x. x.0) (λ v. map seen_name v.items) (λ x. lexemes x.1.now) c.in_ok-carried.ensures.refused c.in_ok-carried.ensures.kept c.in_ok-carried.ensures.token c.names.ensures) in
    let l3 = go_rule0 (row_before c.args.nesting (kind.Keyword word.For)) _ l2 c.in_ok-start.ensures in
    let l5 = go_rule0 (then_token (all name) (kind.Keyword word.In)) _ l3 (followed_by0 (all name) (lexemes c.in_ok-start.after_start.now) c.name.result _ (kind.Keyword word.In) (λ x. x.0) seen_name (λ x. lexemes x.1.now) c.in_ok-block.ensures.refused c.in_ok-block.ensures.kept c.in_ok-block.ensures.token c.name.ensures) in
    let l6 = go_rule0 (value_before c.args.nesting (kind.Sign sign.DotDot)) _ l5 c.in_ok-low.ensures in
    let p = err_from_is_err_and c.from_residual-in_err-high.result c.from_residual-in_err-high.ensures.1 in
    rw (p.1, p.2) (halt_rule0 (value_before c.args.nesting (kind.Keyword word.Predict)) _ c.in_err-high.field-0.0 (λ x. refl)
    l6
    c.in_err-high.ensures)

pub returns-in_err-predict : goal.returns-in_err-predict
returns-in_err-predict c =
    let l0 = go0 refl (start {n = 10} {F = fold_opening c.args.nesting}) c.in_ok-rest.ensures in
    let l2 = go_rule0 (then_token (all (names c.args.nesting)) (kind.Sign sign.Assign)) _ l0 (followed_by0 (all (names c.args.nesting)) (lexemes c.in_ok-rest.rest.now) c.names.result _ (kind.Sign sign.Assign) (λ x. x.0) (λ v. map seen_name v.items) (λ x. lexemes x.1.now) c.in_ok-carried.ensures.refused c.in_ok-carried.ensures.kept c.in_ok-carried.ensures.token c.names.ensures) in
    let l3 = go_rule0 (row_before c.args.nesting (kind.Keyword word.For)) _ l2 c.in_ok-start.ensures in
    let l5 = go_rule0 (then_token (all name) (kind.Keyword word.In)) _ l3 (followed_by0 (all name) (lexemes c.in_ok-start.after_start.now) c.name.result _ (kind.Keyword word.In) (λ x. x.0) seen_name (λ x. lexemes x.1.now) c.in_ok-block.ensures.refused c.in_ok-block.ensures.kept c.in_ok-block.ensures.token c.name.ensures) in
    let l6 = go_rule0 (value_before c.args.nesting (kind.Sign sign.DotDot)) _ l5 c.in_ok-low.ensures in
    let l7 = go_rule0 (value_before c.args.nesting (kind.Keyword word.Predict)) _ l6 c.in_ok-high.ensures in
    let p = err_from_is_err_and c.from_residual-in_err-predict.result c.from_residual-in_err-predict.ensures.1 in
    rw (p.1, p.2) (halt c.in_err-predict.field-0.0 (λ x. ten_ten) (λ x. refl)
    l7
    c.in_err-predict.ensures)

pub returns : goal.returns
returns c =
    let l0 = go0 refl (start {n = 10} {F = fold_opening c.args.nesting}) c.in_ok-rest.ensures in
    let l2 = go_rule0 (then_token (all (names c.args.nesting)) (kind.Sign sign.Assign)) _ l0 (followed_by0 (all (names c.args.nesting)) (lexemes c.in_ok-rest.rest.now) c.names.result _ (kind.Sign sign.Assign) (λ x. x.0) (λ v. map seen_name v.items) (λ x. lexemes x.1.now) c.in_ok-carried.ensures.refused c.in_ok-carried.ensures.kept c.in_ok-carried.ensures.token c.names.ensures) in
    let l3 = go_rule0 (row_before c.args.nesting (kind.Keyword word.For)) _ l2 c.in_ok-start.ensures in
    let l5 = go_rule0 (then_token (all name) (kind.Keyword word.In)) _ l3 (followed_by0 (all name) (lexemes c.in_ok-start.after_start.now) c.name.result _ (kind.Keyword word.In) (λ x. x.0) seen_name (λ x. lexemes x.1.now) c.in_ok-block.ensures.refused c.in_ok-block.ensures.kept c.in_ok-block.ensures.token c.name.ensures) in
    let l6 = go_rule0 (value_before c.args.nesting (kind.Sign sign.DotDot)) _ l5 c.in_ok-low.ensures in
    let l7 = go_rule0 (value_before c.args.nesting (kind.Keyword word.Predict)) _ l6 c.in_ok-high.ensures in
    let l8 = go (λ x. ten_ten) l7 c.in_ok-predict.ensures in
    rw (c.in_ok-new.ensures.ok, c.into_inner.ensures, c.into_inner-2.ensures) l8
