use Rattle.std.proofs.Common.{◌+◌, refl, sym, ◌∙◌, ap, arith, map, Some, None}
use Rattle.std.proofs.lemmas.Result.{err_from_is_err_and}
use Rattle.std.proofs.lemmas.List.{map-append}
use Rattle.spf_text.specs.declared.token.TokenKind.TheVariants as kind
use Rattle.spf_text.specs.declared.token.Sign.TheVariants as sign
use Rattle.spf_text.specs.declared.token.Keyword.TheVariants as word
use Rattle.spf_ast.specs.View.{name as seen_name}
use Rattle.spf_ast.specs.RawView.{raw_statement, raw_expression}
use Rattle.spf_ast.specs.declared.raw.RawFold.{out-RawFold, out-roll-RawFold}
use Rattle.spf_ast.specs.declared.raw.RawPair.{out-RawPair, out-roll-RawPair}
use Rattle.spf_ast.proofs.RawViews.{raw_statement-if, raw_statement-for, raw_statement-while, raw_statement-fold, raw_statement-pair}
use Rattle.spf_parse_grammar.specs.Lexemes.{lexemes}
use Rattle.spf_parse_grammar.specs.Parts.{give, form, block, otherwise, statement, name, names}
use Rattle.spf_parse_grammar.specs.Rules as rules
use Rattle.spf_parse_grammar.specs.Rules.{all}
use Rattle.spf_parse_grammar.specs.Reading.{line_of}
use Rattle.spf_parse_parts.specs.Answers.{value_before, row_before, opened_statements, ended_statements, fold_opening, seen_head, stated}
use Rattle.spf_parse_parts.proofs.Steps.{start, go, halt, go0, halt0, go_rule, halt_rule, go_rule0, halt_rule0, ten_fourteen, twelve_fourteen, eleven_eleven, eleven_twelve, below_twelve, unfold_part, decide, through, through_rule}
use Rattle.spf_parse_parts.proofs.Tokens.{next_token, takes, none_fails, length_fails, then_token, followed_by, followed_by0}
use Rattle.spf_parse_parts.proofs.Expressions.{regroup}
use Rattle.spf_parse_parts.proofs.Statements.{form_some, lined_read, lined_refuses, next_statement, statements_done, block_is, form_start, form_none, other_word, no_else, opened_below, fold_rest, fold_last, pair_rest}
use Rattle.spf_parse_parts.proofs.statement.+statement.Goals as goal

pub if_form-returns-in_err-rest : goal.if_form-returns-in_err-rest
if_form-returns-in_err-rest t c =
    let p = err_from_is_err_and c.from_residual.result c.from_residual.ensures.1 in
    rw (p.1, p.2) (halt0 c.in_err-rest.field-0.0 refl (λ x. refl)
    (start {n = 11} {F = rules.if_form c.args.breaks c.args.nesting})
    c.in_err-rest.ensures)

pub if_form-returns-in_err-test : goal.if_form-returns-in_err-test
if_form-returns-in_err-test t c =
    let l0 = go0 refl (start {n = 11} {F = rules.if_form c.args.breaks c.args.nesting}) c.in_ok-rest.ensures in
    let p = err_from_is_err_and c.from_residual-in_err-test.result c.from_residual-in_err-test.ensures.1 in
    rw (p.1, p.2) (halt c.in_err-test.field-0.0 (λ x. ten_fourteen) (λ x. refl)
    l0
    c.in_err-test.ensures)

pub if_form-returns-in_err-yes : goal.if_form-returns-in_err-yes
if_form-returns-in_err-yes t c =
    let l0 = go0 refl (start {n = 11} {F = rules.if_form c.args.breaks c.args.nesting}) c.in_ok-rest.ensures in
    let l1 = go (λ x. ten_fourteen) l0 c.in_ok-test.ensures in
    let p = err_from_is_err_and c.from_residual-in_err-yes.result c.from_residual-in_err-yes.ensures.1 in
    rw (p.1, p.2) (halt0 c.in_err-yes.field-0.0 refl (λ x. refl)
    l1
    c.in_err-yes.ensures)

pub if_form-returns-in_err-no : goal.if_form-returns-in_err-no
if_form-returns-in_err-no t c =
    let l0 = go0 refl (start {n = 11} {F = rules.if_form c.args.breaks c.args.nesting}) c.in_ok-rest.ensures in
    let l1 = go (λ x. ten_fourteen) l0 c.in_ok-test.ensures in
    let l2 = go0 refl l1 c.in_ok-yes.ensures in
    let p = err_from_is_err_and c.from_residual-in_err-no.result c.from_residual-in_err-no.ensures.1 in
    rw (p.1, p.2) (halt c.in_err-no.field-0.0 (λ x. eleven_eleven) (λ x. refl)
    l2
    c.in_err-no.ensures)

pub if_form-returns : goal.if_form-returns
if_form-returns t c =
    let l0 = go0 refl (start {n = 11} {F = rules.if_form c.args.breaks c.args.nesting}) c.in_ok-rest.ensures in
    let l1 = go (λ x. ten_fourteen) l0 c.in_ok-test.ensures in
    let l2 = go0 refl l1 c.in_ok-yes.ensures in
    let l3 = go (λ x. eleven_eleven) l2 c.in_ok-no.ensures in
    rw (raw_statement-if c.into_inner.result c.in_ok-yes.yes c.in_ok-no.no, c.into_inner.ensures) l3

pub for_form-returns-in_err-rest : goal.for_form-returns-in_err-rest
for_form-returns-in_err-rest t c =
    let p = err_from_is_err_and c.from_residual.result c.from_residual.ensures.1 in
    rw (p.1, p.2) (halt0 c.in_err-rest.field-0.0 refl (λ x. refl)
    (start {n = 11} {F = rules.for_form c.args.breaks c.args.nesting})
    c.in_err-rest.ensures)

pub for_form-returns-in_err-x : goal.for_form-returns-in_err-x
for_form-returns-in_err-x t c =
    let l0 = go0 refl (start {n = 11} {F = rules.for_form c.args.breaks c.args.nesting}) c.in_ok-rest.ensures in
    let p = err_from_is_err_and c.from_residual-in_err-x.result c.from_residual-in_err-x.ensures.1 in
    rw (p.1, p.2) (halt_rule0 (then_token (all name) (kind.Keyword word.In)) _ c.in_err-x.field-0.0 (λ x. refl)
    l0
    (followed_by0 (all name) (lexemes c.in_ok-rest.rest.now) c.name.result _ (kind.Keyword word.In) (λ x. x.0) seen_name (λ x. lexemes x.1.now) c.in_err-x.ensures.refused c.in_err-x.ensures.kept c.in_err-x.ensures.token c.name.ensures))

pub for_form-returns-in_err-low : goal.for_form-returns-in_err-low
for_form-returns-in_err-low t c =
    let l0 = go0 refl (start {n = 11} {F = rules.for_form c.args.breaks c.args.nesting}) c.in_ok-rest.ensures in
    let l2 = go_rule0 (then_token (all name) (kind.Keyword word.In)) _ l0 (followed_by0 (all name) (lexemes c.in_ok-rest.rest.now) c.name.result _ (kind.Keyword word.In) (λ x. x.0) seen_name (λ x. lexemes x.1.now) c.in_ok-x.ensures.refused c.in_ok-x.ensures.kept c.in_ok-x.ensures.token c.name.ensures) in
    let p = err_from_is_err_and c.from_residual-in_err-low.result c.from_residual-in_err-low.ensures.1 in
    rw (p.1, p.2) (halt_rule0 (value_before c.args.nesting (kind.Sign sign.DotDot)) _ c.in_err-low.field-0.0 (λ x. refl)
    l2
    c.in_err-low.ensures)

pub for_form-returns-in_err-high : goal.for_form-returns-in_err-high
for_form-returns-in_err-high t c =
    let l0 = go0 refl (start {n = 11} {F = rules.for_form c.args.breaks c.args.nesting}) c.in_ok-rest.ensures in
    let l2 = go_rule0 (then_token (all name) (kind.Keyword word.In)) _ l0 (followed_by0 (all name) (lexemes c.in_ok-rest.rest.now) c.name.result _ (kind.Keyword word.In) (λ x. x.0) seen_name (λ x. lexemes x.1.now) c.in_ok-x.ensures.refused c.in_ok-x.ensures.kept c.in_ok-x.ensures.token c.name.ensures) in
    let l3 = go_rule0 (value_before c.args.nesting (kind.Sign sign.DotDot)) _ l2 c.in_ok-low.ensures in
    let p = err_from_is_err_and c.from_residual-in_err-high.result c.from_residual-in_err-high.ensures.1 in
    rw (p.1, p.2) (halt c.in_err-high.field-0.0 (λ x. ten_fourteen) (λ x. refl)
    l3
    c.in_err-high.ensures)

pub for_form-returns-in_err-body : goal.for_form-returns-in_err-body
for_form-returns-in_err-body t c =
    let l0 = go0 refl (start {n = 11} {F = rules.for_form c.args.breaks c.args.nesting}) c.in_ok-rest.ensures in
    let l2 = go_rule0 (then_token (all name) (kind.Keyword word.In)) _ l0 (followed_by0 (all name) (lexemes c.in_ok-rest.rest.now) c.name.result _ (kind.Keyword word.In) (λ x. x.0) seen_name (λ x. lexemes x.1.now) c.in_ok-x.ensures.refused c.in_ok-x.ensures.kept c.in_ok-x.ensures.token c.name.ensures) in
    let l3 = go_rule0 (value_before c.args.nesting (kind.Sign sign.DotDot)) _ l2 c.in_ok-low.ensures in
    let l4 = go (λ x. ten_fourteen) l3 c.in_ok-high.ensures in
    let p = err_from_is_err_and c.from_residual-in_err-body.result c.from_residual-in_err-body.ensures.1 in
    rw (p.1, p.2) (halt0 c.in_err-body.field-0.0 refl (λ x. refl)
    l4
    c.in_err-body.ensures)

pub for_form-returns : goal.for_form-returns
for_form-returns t c =
    let l0 = go0 refl (start {n = 11} {F = rules.for_form c.args.breaks c.args.nesting}) c.in_ok-rest.ensures in
    let l2 = go_rule0 (then_token (all name) (kind.Keyword word.In)) _ l0 (followed_by0 (all name) (lexemes c.in_ok-rest.rest.now) c.name.result _ (kind.Keyword word.In) (λ x. x.0) seen_name (λ x. lexemes x.1.now) c.in_ok-x.ensures.refused c.in_ok-x.ensures.kept c.in_ok-x.ensures.token c.name.ensures) in
    let l3 = go_rule0 (value_before c.args.nesting (kind.Sign sign.DotDot)) _ l2 c.in_ok-low.ensures in
    let l4 = go (λ x. ten_fourteen) l3 c.in_ok-high.ensures in
    let l5 = go0 refl l4 c.in_ok-body.ensures in
    rw (raw_statement-for c.in_ok-x.x c.into_inner.result c.into_inner-2.result c.in_ok-body.body, c.into_inner.ensures, c.into_inner-2.ensures) l5

pub while_form-returns-in_err-rest : goal.while_form-returns-in_err-rest
while_form-returns-in_err-rest t c =
    let p = err_from_is_err_and c.from_residual.result c.from_residual.ensures.1 in
    rw (p.1, p.2) (halt0 c.in_err-rest.field-0.0 refl (λ x. refl)
    (start {n = 11} {F = rules.while_form c.args.breaks c.args.nesting})
    c.in_err-rest.ensures)

pub while_form-returns-in_err-test : goal.while_form-returns-in_err-test
while_form-returns-in_err-test t c =
    let l0 = go0 refl (start {n = 11} {F = rules.while_form c.args.breaks c.args.nesting}) c.in_ok-rest.ensures in
    let p = err_from_is_err_and c.from_residual-in_err-test.result c.from_residual-in_err-test.ensures.1 in
    rw (p.1, p.2) (halt_rule0 (value_before c.args.nesting (kind.Keyword word.Max)) _ c.in_err-test.field-0.0 (λ x. refl)
    l0
    c.in_err-test.ensures)

pub while_form-returns-in_err-most : goal.while_form-returns-in_err-most
while_form-returns-in_err-most t c =
    let l0 = go0 refl (start {n = 11} {F = rules.while_form c.args.breaks c.args.nesting}) c.in_ok-rest.ensures in
    let l1 = go_rule0 (value_before c.args.nesting (kind.Keyword word.Max)) _ l0 c.in_ok-test.ensures in
    let p = err_from_is_err_and c.from_residual-in_err-most.result c.from_residual-in_err-most.ensures.1 in
    rw (p.1, p.2) (halt0 c.in_err-most.field-0.0 refl (λ x. refl)
    l1
    c.in_err-most.ensures)

pub while_form-returns-in_err-body : goal.while_form-returns-in_err-body
while_form-returns-in_err-body t c =
    let l0 = go0 refl (start {n = 11} {F = rules.while_form c.args.breaks c.args.nesting}) c.in_ok-rest.ensures in
    let l1 = go_rule0 (value_before c.args.nesting (kind.Keyword word.Max)) _ l0 c.in_ok-test.ensures in
    let l2 = go0 refl l1 c.in_ok-most.ensures in
    let p = err_from_is_err_and c.from_residual-in_err-body.result c.from_residual-in_err-body.ensures.1 in
    rw (p.1, p.2) (halt0 c.in_err-body.field-0.0 refl (λ x. refl)
    l2
    c.in_err-body.ensures)

pub while_form-returns : goal.while_form-returns
while_form-returns t c =
    let l0 = go0 refl (start {n = 11} {F = rules.while_form c.args.breaks c.args.nesting}) c.in_ok-rest.ensures in
    let l1 = go_rule0 (value_before c.args.nesting (kind.Keyword word.Max)) _ l0 c.in_ok-test.ensures in
    let l2 = go0 refl l1 c.in_ok-most.ensures in
    let l3 = go0 refl l2 c.in_ok-body.ensures in
    rw (raw_statement-while c.into_inner.result c.in_ok-most.most c.in_ok-body.body, c.into_inner.ensures) l3

pub fold_form-returns-in_err-head : goal.fold_form-returns-in_err-head
fold_form-returns-in_err-head t c =
    let p = err_from_is_err_and c.from_residual.result c.from_residual.ensures.1 in
    rw (p.1, p.2) (halt_rule 10 (fold_opening c.args.nesting) (fold_rest c.args.breaks c.args.nesting) c.in_err-head.field-0.0 (λ x. ten_fourteen) (λ x. refl)
    (start {n = 11} {F = rules.fold_form c.args.breaks c.args.nesting})
    c.in_err-head.ensures)

pub fold_form-returns-in_err-body : goal.fold_form-returns-in_err-body
fold_form-returns-in_err-body t c =
    let l = go_rule {R = fold_opening c.args.nesting} (fold_rest c.args.breaks c.args.nesting) (λ x. ten_fourteen) (start {n = 11} {F = rules.fold_form c.args.breaks c.args.nesting}) c.in_ok-head.ensures in
    let p = err_from_is_err_and c.from_residual-in_err-body.result c.from_residual-in_err-body.ensures.1 in
    rw (p.1, p.2) (halt_rule0 (ended_statements c.args.breaks c.args.nesting word.Next) (fold_last (seen_head c.in_ok-head.head.value)) c.in_err-body.field-0.0 (λ x. refl)
    l
    c.in_err-body.ensures)

pub fold_form-returns : goal.fold_form-returns
fold_form-returns t c =
    let l = go_rule {R = fold_opening c.args.nesting} (fold_rest c.args.breaks c.args.nesting) (λ x. ten_fourteen) (start {n = 11} {F = rules.fold_form c.args.breaks c.args.nesting}) c.in_ok-head.ensures in
    let made = ap out-RawFold c.in_ok-new.ensures.ok ∙ out-roll-RawFold _ in
    rw (raw_statement-fold c.in_ok-new.field-0, made, block_is, c.into_inner-head.ensures) (go_rule0 (ended_statements c.args.breaks c.args.nesting word.Next) (fold_last (seen_head c.in_ok-head.head.value)) l c.in_ok-body.ensures)

pub pair_form-returns-in_err-rest : goal.pair_form-returns-in_err-rest
pair_form-returns-in_err-rest t c =
    let p = err_from_is_err_and c.from_residual.result c.from_residual.ensures.1 in
    rw (p.1, p.2) (halt0 c.in_err-rest.field-0.0 refl (λ x. refl)
    (start {n = 11} {F = rules.pair_form c.args.breaks c.args.nesting})
    c.in_err-rest.ensures)

pub pair_form-returns-in_err-carried : goal.pair_form-returns-in_err-carried
pair_form-returns-in_err-carried t c =
    let l0 = go0 refl (start {n = 11} {F = rules.pair_form c.args.breaks c.args.nesting}) c.in_ok-rest.ensures in
    let p = err_from_is_err_and c.from_residual-in_err-carried.result c.from_residual-in_err-carried.ensures.1 in
    rw (p.1, p.2) (halt_rule0 (then_token (all (names c.args.nesting)) (kind.Sign sign.Assign)) _ c.in_err-carried.field-0.0 (λ x. refl)
    l0
    (followed_by0 (all (names c.args.nesting)) (lexemes c.in_ok-rest.rest.now) c.names.result _ (kind.Sign sign.Assign) (λ x. x.0) (λ v. map seen_name v.items) (λ x. lexemes x.1.now) c.in_err-carried.ensures.refused c.in_err-carried.ensures.kept c.in_err-carried.ensures.token c.names.ensures))

pub pair_form-returns-in_err-producer : goal.pair_form-returns-in_err-producer
pair_form-returns-in_err-producer t c =
    let l0 = go0 refl (start {n = 11} {F = rules.pair_form c.args.breaks c.args.nesting}) c.in_ok-rest.ensures in
    let l2 = go_rule0 (then_token (all (names c.args.nesting)) (kind.Sign sign.Assign)) _ l0 (followed_by0 (all (names c.args.nesting)) (lexemes c.in_ok-rest.rest.now) c.names.result _ (kind.Sign sign.Assign) (λ x. x.0) (λ v. map seen_name v.items) (λ x. lexemes x.1.now) c.in_ok-carried.ensures.refused c.in_ok-carried.ensures.kept c.in_ok-carried.ensures.token c.names.ensures) in
    let p = err_from_is_err_and c.from_residual-in_err-producer.result c.from_residual-in_err-producer.ensures.1 in
    rw (p.1, p.2) (halt_rule0 (then_token (ended_statements c.args.breaks c.args.nesting word.Give) (kind.Keyword word.Predict)) (pair_rest c.args.breaks c.args.nesting (map seen_name c.in_ok-carried.carried.items)) c.in_err-producer.field-0.0 (λ x. refl)
    l2
    (followed_by0 (ended_statements c.args.breaks c.args.nesting word.Give) (lexemes c.in_ok-carried.open_at.now) c.block_with_row.result _ (kind.Keyword word.Predict) (λ x. x.0) (λ e. (map stated e.0.items, e.1, map raw_expression e.2.items)) (λ x. lexemes x.1.now) c.in_err-producer.ensures.refused c.in_err-producer.ensures.kept c.in_err-producer.ensures.token c.block_with_row.ensures))

pub pair_form-returns-in_err-predict : goal.pair_form-returns-in_err-predict
pair_form-returns-in_err-predict t c =
    let l0 = go0 refl (start {n = 11} {F = rules.pair_form c.args.breaks c.args.nesting}) c.in_ok-rest.ensures in
    let l2 = go_rule0 (then_token (all (names c.args.nesting)) (kind.Sign sign.Assign)) _ l0 (followed_by0 (all (names c.args.nesting)) (lexemes c.in_ok-rest.rest.now) c.names.result _ (kind.Sign sign.Assign) (λ x. x.0) (λ v. map seen_name v.items) (λ x. lexemes x.1.now) c.in_ok-carried.ensures.refused c.in_ok-carried.ensures.kept c.in_ok-carried.ensures.token c.names.ensures) in
    let m = go_rule0 (then_token (ended_statements c.args.breaks c.args.nesting word.Give) (kind.Keyword word.Predict)) (pair_rest c.args.breaks c.args.nesting (map seen_name c.in_ok-carried.carried.items)) l2 (followed_by0 (ended_statements c.args.breaks c.args.nesting word.Give) (lexemes c.in_ok-carried.open_at.now) c.block_with_row.result _ (kind.Keyword word.Predict) (λ x. x.0) (λ e. (map stated e.0.items, e.1, map raw_expression e.2.items)) (λ x. lexemes x.1.now) c.in_ok-producer.ensures.refused c.in_ok-producer.ensures.kept c.in_ok-producer.ensures.token c.block_with_row.ensures) in
    let p = err_from_is_err_and c.from_residual-in_err-predict.result c.from_residual-in_err-predict.ensures.1 in
    rw (p.1, p.2) (halt c.in_err-predict.field-0.0 (λ x. ten_fourteen) (λ x. refl)
    m
    c.in_err-predict.ensures)

pub pair_form-returns-in_err-consumer : goal.pair_form-returns-in_err-consumer
pair_form-returns-in_err-consumer t c =
    let l0 = go0 refl (start {n = 11} {F = rules.pair_form c.args.breaks c.args.nesting}) c.in_ok-rest.ensures in
    let l2 = go_rule0 (then_token (all (names c.args.nesting)) (kind.Sign sign.Assign)) _ l0 (followed_by0 (all (names c.args.nesting)) (lexemes c.in_ok-rest.rest.now) c.names.result _ (kind.Sign sign.Assign) (λ x. x.0) (λ v. map seen_name v.items) (λ x. lexemes x.1.now) c.in_ok-carried.ensures.refused c.in_ok-carried.ensures.kept c.in_ok-carried.ensures.token c.names.ensures) in
    let m = go_rule0 (then_token (ended_statements c.args.breaks c.args.nesting word.Give) (kind.Keyword word.Predict)) (pair_rest c.args.breaks c.args.nesting (map seen_name c.in_ok-carried.carried.items)) l2 (followed_by0 (ended_statements c.args.breaks c.args.nesting word.Give) (lexemes c.in_ok-carried.open_at.now) c.block_with_row.result _ (kind.Keyword word.Predict) (λ x. x.0) (λ e. (map stated e.0.items, e.1, map raw_expression e.2.items)) (λ x. lexemes x.1.now) c.in_ok-producer.ensures.refused c.in_ok-producer.ensures.kept c.in_ok-producer.ensures.token c.block_with_row.ensures) in
    let n = go (λ x. ten_fourteen) m c.in_ok-predict.ensures in
    let p = err_from_is_err_and c.from_residual-in_err-consumer.result c.from_residual-in_err-consumer.ensures.1 in
    rw (p.1, p.2) (halt0 c.in_err-consumer.field-0.0 refl (λ x. refl)
    n
    c.in_err-consumer.ensures)

pub pair_form-returns : goal.pair_form-returns
pair_form-returns t c =
    let l0 = go0 refl (start {n = 11} {F = rules.pair_form c.args.breaks c.args.nesting}) c.in_ok-rest.ensures in
    let l2 = go_rule0 (then_token (all (names c.args.nesting)) (kind.Sign sign.Assign)) _ l0 (followed_by0 (all (names c.args.nesting)) (lexemes c.in_ok-rest.rest.now) c.names.result _ (kind.Sign sign.Assign) (λ x. x.0) (λ v. map seen_name v.items) (λ x. lexemes x.1.now) c.in_ok-carried.ensures.refused c.in_ok-carried.ensures.kept c.in_ok-carried.ensures.token c.names.ensures) in
    let m = go_rule0 (then_token (ended_statements c.args.breaks c.args.nesting word.Give) (kind.Keyword word.Predict)) (pair_rest c.args.breaks c.args.nesting (map seen_name c.in_ok-carried.carried.items)) l2 (followed_by0 (ended_statements c.args.breaks c.args.nesting word.Give) (lexemes c.in_ok-carried.open_at.now) c.block_with_row.result _ (kind.Keyword word.Predict) (λ x. x.0) (λ e. (map stated e.0.items, e.1, map raw_expression e.2.items)) (λ x. lexemes x.1.now) c.in_ok-producer.ensures.refused c.in_ok-producer.ensures.kept c.in_ok-producer.ensures.token c.block_with_row.ensures) in
    let n = go (λ x. ten_fourteen) m c.in_ok-predict.ensures in
    let made = ap out-RawPair c.in_ok-new.ensures.ok ∙ out-roll-RawPair _ in
    rw (raw_statement-pair c.in_ok-new.field-0, made, block_is c.in_ok-producer.producer.items) (go0 refl n c.in_ok-consumer.ensures)

pub block_with_row-returns-in_err-body : goal.block_with_row-returns-in_err-body
block_with_row-returns-in_err-body t c =
    let p = err_from_is_err_and c.from_residual.result c.from_residual.ensures.1 in
    rw (p.1, p.2) (halt_rule 12 (opened_statements c.args.breaks c.args.nesting) _ c.in_err-body.field-0.0 (λ x. c.requires.ends) (λ x. refl)
    start
    c.in_err-body.ensures)

pub block_with_row-returns-in_err-last : goal.block_with_row-returns-in_err-last
block_with_row-returns-in_err-last t c =
    let l0 = go_rule {R = opened_statements c.args.breaks c.args.nesting} _ (λ x. c.requires.ends) start c.in_ok-body.ensures in
    let p = err_from_is_err_and c.from_residual-in_err-last.result c.from_residual-in_err-last.ensures.1 in
    rw (p.1, p.2) (halt0 c.in_err-last.field-0.0 refl (λ x. refl)
    l0
    c.in_err-last.ensures)

pub block_with_row-returns-in_err-a : goal.block_with_row-returns-in_err-a
block_with_row-returns-in_err-a t c =
    let l0 = go_rule {R = opened_statements c.args.breaks c.args.nesting} _ (λ x. c.requires.ends) start c.in_ok-body.ensures in
    let l1 = go0 refl l0 c.in_ok-last.ensures in
    let p = err_from_is_err_and c.from_residual-in_err-a.result c.from_residual-in_err-a.ensures.1 in
    rw (p.1, p.2) (halt_rule0 (then_token (row_before (c.args.nesting + 1) (kind.Sign sign.Semicolon)) (kind.Sign sign.CloseBrace)) _ c.in_err-a.field-0.0 (λ x. refl)
    l1
    (followed_by0 (row_before (c.args.nesting + 1) (kind.Sign sign.Semicolon)) (lexemes c.in_ok-last.last.now) c.row_up_to.result _ (kind.Sign sign.CloseBrace) (λ x. x.0) (λ v. map raw_expression v.items) (λ x. lexemes x.1.now) c.in_err-a.ensures.refused c.in_err-a.ensures.kept c.in_err-a.ensures.token c.row_up_to.ensures))

pub block_with_row-row_up_to-requires-clause-nesting_in : goal.block_with_row-row_up_to-requires-clause-nesting_in
block_with_row-row_up_to-requires-clause-nesting_in t c =
    omega (arith, opened_below c.args.breaks c.args.nesting c.in_ok-body.ensures)

pub block_with_row-returns : goal.block_with_row-returns
block_with_row-returns t c =
    let l0 = go_rule {R = opened_statements c.args.breaks c.args.nesting} _ (λ x. c.requires.ends) start c.in_ok-body.ensures in
    let l1 = go0 refl l0 c.in_ok-last.ensures in
    let l3 = go_rule0 (then_token (row_before (c.args.nesting + 1) (kind.Sign sign.Semicolon)) (kind.Sign sign.CloseBrace)) _ l1 (followed_by0 (row_before (c.args.nesting + 1) (kind.Sign sign.Semicolon)) (lexemes c.in_ok-last.last.now) c.row_up_to.result _ (kind.Sign sign.CloseBrace) (λ x. x.0) (λ v. map raw_expression v.items) (λ x. lexemes x.1.now) c.in_ok-a.ensures.refused c.in_ok-a.ensures.kept c.in_ok-a.ensures.token c.row_up_to.ensures) in
    rw c.line_of-line.ensures l3

pub block-returns-in_err-inside : goal.block-returns-in_err-inside
block-returns-in_err-inside t c =
    let p = err_from_is_err_and c.from_residual.result c.from_residual.ensures.1 in
    rw (p.1, p.2) (halt_rule0 (then_token (opened_statements c.args.breaks c.args.nesting) (kind.Sign sign.CloseBrace)) _ c.in_err-inside.field-0.0 (λ x. refl)
    (unfold_part (block c.args.breaks c.args.nesting) (λ x. give x) start)
    (followed_by (opened_statements c.args.breaks c.args.nesting) (lexemes c.args.tokens.now) c.open_block.result _ (kind.Sign sign.CloseBrace) (λ x. x.0) (λ v. map stated v.items) (λ x. lexemes x.1.now) (λ x. twelve_fourteen) c.in_err-inside.ensures.refused c.in_err-inside.ensures.kept c.in_err-inside.ensures.token c.open_block.ensures))

pub block-returns : goal.block-returns
block-returns t c =
    let l1 = go_rule0 (then_token (opened_statements c.args.breaks c.args.nesting) (kind.Sign sign.CloseBrace)) _ (unfold_part (block c.args.breaks c.args.nesting) (λ x. give x) start) (followed_by (opened_statements c.args.breaks c.args.nesting) (lexemes c.args.tokens.now) c.open_block.result _ (kind.Sign sign.CloseBrace) (λ x. x.0) (λ v. map stated v.items) (λ x. lexemes x.1.now) (λ x. twelve_fourteen) c.in_ok-inside.ensures.refused c.in_ok-inside.ensures.kept c.in_ok-inside.ensures.token c.open_block.ensures) in
    rw (block_is c.in_ok-inside.inside.items) l1

pub otherwise-returns-in-Some : goal.otherwise-returns-in-Some
otherwise-returns-in-Some t c =
    let x = c.in-Some.ensures in
    let y = next_token c.args.tokens.now x.0 c.in-Some.rest.now x.2 (kind.Keyword word.Else) x.1 in
    let b = decide (Some (kind.Keyword word.Else)) y.0 _ (unfold_part (otherwise c.args.breaks c.args.nesting) (λ x. give x) start) in
    through_rule (all (block c.args.breaks c.args.nesting)) _ _ c.block.result (omega arith) (go0 refl b y.1) c.block.ensures

pub otherwise-returns-in-None : goal.otherwise-returns-in-None
otherwise-returns-in-None t c =
    rw c.new.ensures.items (no_else c.args.breaks c.args.nesting c.in-None.ensures)

pub form-returns-in-Let : goal.form-returns-in-Let
form-returns-in-Let t c =
    let b = form_start c.args.breaks c.args.nesting (Some (kind.Keyword word.Let)) (sym c.next.ensures ∙ c.in-Some.is ∙ ap Some (c.in-Keyword.is ∙ ap kind.Keyword c.in-Let.is)) refl in
    through _ _ c.let_form.result b c.let_form.ensures

pub form-returns-in-Fill : goal.form-returns-in-Fill
form-returns-in-Fill t c =
    let b = form_start c.args.breaks c.args.nesting (Some (kind.Keyword word.Fill)) (sym c.next.ensures ∙ c.in-Some.is ∙ ap Some (c.in-Keyword.is ∙ ap kind.Keyword c.in-Fill.is)) refl in
    through _ _ c.fill_form.result b c.fill_form.ensures

pub form-returns-in-Emit : goal.form-returns-in-Emit
form-returns-in-Emit t c =
    let b = form_start c.args.breaks c.args.nesting (Some (kind.Keyword word.Emit)) (sym c.next.ensures ∙ c.in-Some.is ∙ ap Some (c.in-Keyword.is ∙ ap kind.Keyword c.in-Emit.is)) refl in
    through _ _ c.emit_form.result b c.emit_form.ensures

pub form-returns-in-Fail : goal.form-returns-in-Fail
form-returns-in-Fail t c =
    let b = form_start c.args.breaks c.args.nesting (Some (kind.Keyword word.Fail)) (sym c.next.ensures ∙ c.in-Some.is ∙ ap Some (c.in-Keyword.is ∙ ap kind.Keyword c.in-Fail.is)) refl in
    through _ _ c.fail_form.result b c.fail_form.ensures

pub form-returns-in-If : goal.form-returns-in-If
form-returns-in-If t c =
    let b = form_start c.args.breaks c.args.nesting (Some (kind.Keyword word.If)) (sym c.next.ensures ∙ c.in-Some.is ∙ ap Some (c.in-Keyword.is ∙ ap kind.Keyword c.in-If.is)) refl in
    through _ _ c.if_form.result b c.if_form.ensures

pub form-returns-in-For : goal.form-returns-in-For
form-returns-in-For t c =
    let b = form_start c.args.breaks c.args.nesting (Some (kind.Keyword word.For)) (sym c.next.ensures ∙ c.in-Some.is ∙ ap Some (c.in-Keyword.is ∙ ap kind.Keyword c.in-For.is)) refl in
    through _ _ c.for_form.result b c.for_form.ensures

pub form-returns-in-While : goal.form-returns-in-While
form-returns-in-While t c =
    let b = form_start c.args.breaks c.args.nesting (Some (kind.Keyword word.While)) (sym c.next.ensures ∙ c.in-Some.is ∙ ap Some (c.in-Keyword.is ∙ ap kind.Keyword c.in-While.is)) refl in
    through _ _ c.while_form.result b c.while_form.ensures

pub form-returns-in-Specfold : goal.form-returns-in-Specfold
form-returns-in-Specfold t c =
    let b = form_start c.args.breaks c.args.nesting (Some (kind.Keyword word.Specfold)) (sym c.next.ensures ∙ c.in-Some.is ∙ ap Some (c.in-Keyword.is ∙ ap kind.Keyword c.in-Specfold.is)) refl in
    through _ _ c.fold_form.result b c.fold_form.ensures

pub form-break_form-requires : goal.form-break_form-requires
form-break_form-requires t c =
    sym c.next.ensures ∙ c.in-Some.is ∙ ap Some (c.in-Keyword.is ∙ ap kind.Keyword c.in-Break.is)

pub form-returns-in-Spec : goal.form-returns-in-Spec
form-returns-in-Spec t c =
    let b = form_start c.args.breaks c.args.nesting (Some (kind.Keyword word.Spec)) (sym c.next.ensures ∙ c.in-Some.is ∙ ap Some (c.in-Keyword.is ∙ ap kind.Keyword c.in-Spec.is)) refl in
    through _ _ c.pair_form.result b c.pair_form.ensures

pub form-returns-in-Name : goal.form-returns-in-Name
form-returns-in-Name t c =
    let b = form_start c.args.breaks c.args.nesting (Some kind.Name) (sym c.next.ensures ∙ c.in-Some.is ∙ ap Some c.in-Name.is) refl in
    through _ _ c.named_form.result b c.named_form.ensures

pub form-returns-in_default : goal.form-returns-in_default
form-returns-in_default t c =
    let n = sym c.next.ensures ∙ c.in_default.is in none_fails c.args.tokens.now n (form_none c.args.breaks c.args.nesting _ None n refl)

pub form-returns-in_default-word : goal.form-returns-in_default-word
form-returns-in_default-word t c =
    length_fails c.args.tokens.now c.args.tokens.now (form_none c.args.breaks c.args.nesting _ _ (sym c.next.ensures ∙ c.in-Some.is ∙ ap Some c.in-Keyword.is)
    (other_word c.args.breaks c.in-Keyword.word c.in_default-word.not-Let c.in_default-word.not-Fill c.in_default-word.not-Emit c.in_default-word.not-Fail c.in_default-word.not-If c.in_default-word.not-For c.in_default-word.not-While c.in_default-word.not-Specfold c.in_default-word.not-Spec c.in_default-word.not-Break))

pub form-returns-in-Number : goal.form-returns-in-Number
form-returns-in-Number t c =
    length_fails c.args.tokens.now c.args.tokens.now (form_none c.args.breaks c.args.nesting _ _ (sym c.next.ensures ∙ c.in-Some.is ∙ ap Some c.in-Number.is) refl)

pub form-returns-in-Sign : goal.form-returns-in-Sign
form-returns-in-Sign t c =
    length_fails c.args.tokens.now c.args.tokens.now (form_none c.args.breaks c.args.nesting _ _ (sym c.next.ensures ∙ c.in-Some.is ∙ ap Some c.in-Sign.is) refl)

pub open_block-returns-in_err-rest : goal.open_block-returns-in_err-rest
open_block-returns-in_err-rest t c =
    let p = err_from_is_err_and c.from_residual.result c.from_residual.ensures.1 in
    rw (p.1, p.2) (halt0 c.in_err-rest.field-0.0 refl (λ x. refl)
    start
    c.in_err-rest.ensures.answers)

pub open_block-inside-init : goal.open_block-inside-init
open_block-inside-init t c =
    record { leads = rw c.new-inside.ensures.items (go0 refl start c.in_ok-rest.ensures.answers); below = omega (arith, c.in_ok-rest.ensures.below) }

pub open_block-returns-in_err-kind : goal.open_block-returns-in_err-kind
open_block-returns-in_err-kind t c =
    let l = next_statement c.args.breaks (c.args.nesting + 1) (map stated c.inside.inside.items) (sym c.begins_statement.ensures ∙ c.inside-test.true) c.inside.invariant.leads in
    let p = err_from_is_err_and c.from_residual-in_err-kind.result c.from_residual-in_err-kind.ensures.1 in
    rw (p.1, p.2) (halt c.in_err-kind.field-0.0 (λ x. (eleven_twelve, λ y. below_twelve)) (λ x. refl) l (lined_refuses 11 (form c.args.breaks (c.args.nesting + 1)) _ c.in_err-kind.field-0.0 (form_some c.args.breaks (c.args.nesting + 1)) c.in_err-kind.ensures))

pub open_block-inside-smaller : goal.open_block-inside-smaller
open_block-inside-smaller t c =
    takes (form c.args.breaks (c.args.nesting + 1)) c.inside.rest.now c.in_ok-kind.end.now _ (λ y ws d. form_some c.args.breaks (c.args.nesting + 1) 0 y ws d) c.in_ok-kind.ensures

pub open_block-inside-preserved : goal.open_block-inside-preserved
open_block-inside-preserved t c =
    let l = next_statement c.args.breaks (c.args.nesting + 1) (map stated c.inside.inside.items) (sym c.begins_statement.ensures ∙ c.inside-test.true) c.inside.invariant.leads in
    record {
      leads = rw (c.in_ok-push.ensures.items, map-append, c.line_of-line.ensures)
          (regroup (statement c.args.breaks (c.args.nesting + 1)) (λ zs. give zs) (map stated c.inside.inside.items) (line_of (lexemes c.inside.rest.now), raw_statement c.in_ok-kind.kind) (go (λ x. (eleven_twelve, λ y. below_twelve)) l (lined_read (form c.args.breaks (c.args.nesting + 1)) (form_some c.args.breaks (c.args.nesting + 1)) c.in_ok-kind.ensures)));
      below = c.inside.invariant.below;
    }

pub open_block-returns : goal.open_block-returns
open_block-returns t c =
    statements_done c.args.breaks (c.args.nesting + 1) (map stated c.inside.inside.items) (sym c.begins_statement.ensures ∙ c.inside-test.false) c.inside.invariant.leads
