use Rattle.std.proofs.Common.{◌≡◌, length, refl, sym, ◌∙◌, ap, subst, arith}
use Rattle.std.proofs.lemmas.Result.{err_from_is_err_and}
use Rattle.spf_ast.specs.RawView.{raw_program}
use Rattle.spf_parse_grammar.specs.Lexemes.{lexemes}
use Rattle.spf_parse_grammar.specs.Parts.{give, program}
use Rattle.spf_parse_grammar.specs.Rules.{all}
use Rattle.spf_parse_parts.specs.Answers.{Leads}
use Rattle.spf_parse_parts.proofs.Steps.{start, halt0, weaker}
use Rattle.spf_parse_parts.proofs.Tokens.{length_fails, seen_length, empty_is}
use Rattle.spf_parse_parts.proofs.Beginnings.{stops_all}
use Rattle.spf_parse.proofs.Programs.{program_more}
use Rattle.spf_parse.proofs.program.whole.Goals as goal

pub returns-in_err-found : goal.returns-in_err-found
returns-in_err-found c =
    let p = err_from_is_err_and c.from_residual.result c.from_residual.ensures.1 in
    rw (p.1, p.2) (halt0 c.in_err-found.field-0.0 refl (λ x. refl) start c.in_err-found.ensures)

pub returns-then-end-ne0 : goal.returns-then-end-ne0
returns-then-end-ne0 c =
    length_fails c.args.tokens.now c.in_ok-found.end.now (program_more c.in_ok-found.ensures (λ e. let n = sym (seen_length c.in_ok-found.end.now) ∙ ap length e in omega (arith, n, c.if-end-ne0.true)))

pub returns : goal.returns
returns c =
    let n : length c.in_ok-found.end.now ≡ 0 = omega (arith, c.if-end-ne0.false) in
    let e = ap lexemes (empty_is c.in_ok-found.end.now n) in
    subst (λ l. Leads 14 (all program) (lexemes c.args.tokens.now) (give (raw_program c.in_ok-found.found)) l) e (weaker (λ vs s. stops_all vs) c.in_ok-found.ensures)
