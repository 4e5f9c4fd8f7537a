use Rattle.std.proofs.Common.{rules, refl, map}
use Rattle.std.proofs.lemmas.Result.{err_from_is_err_and}
use Rattle.std.proofs.lemmas.List.{map-append}
use Rattle.spf_ast.specs.RawView.{raw_function}
use Rattle.spf_parse_grammar.specs.Parts.{give, function}
use Rattle.spf_parse_parts.proofs.Steps.{start, go0, halt0}
use Rattle.spf_parse_parts.proofs.Tokens.{takes}
use Rattle.spf_parse_parts.proofs.Expressions.{regroup}
use Rattle.spf_parse.proofs.Programs.{function_some, next_function, functions_done}
use Rattle.spf_parse.proofs.program.functions.Goals as goal

pub found-init : goal.found-init
found-init c =
    rw (c.new-found.ensures.items, c.split_at.ensures.back) start

pub returns-in_err-first : goal.returns-in_err-first
returns-in_err-first c =
    let l = next_function c.args.breaks (map raw_function c.found.found.items) (c.is_next.ensures.0 c.found-test.true) c.found.invariant in
    let p = err_from_is_err_and c.from_residual.result c.from_residual.ensures.1 in
    rw (p.1, p.2) (halt0 c.in_err-first.field-0.0 refl (λ x. refl)
    l
    c.in_err-first.ensures)

pub found-smaller : goal.found-smaller
found-smaller c =
    takes (function c.args.breaks) c.found.rest.now c.in_ok-first.end.now _ (λ y ws d. function_some c.args.breaks 0 y ws d) c.in_ok-first.ensures

pub found-preserved : goal.found-preserved
found-preserved c =
    let l = next_function c.args.breaks (map raw_function c.found.found.items) (c.is_next.ensures.0 c.found-test.true) c.found.invariant in
    rw (c.in_ok-push.ensures.items, map-append)
    (regroup (function c.args.breaks) (λ zs. give zs) (map raw_function c.found.found.items) (raw_function c.in_ok-first.first) (go0 refl l c.in_ok-first.ensures))

pub returns : goal.returns
returns c =
    functions_done c.args.breaks (map raw_function c.found.found.items) (λ h. absurd (search (rules, c.is_next.ensures.1 h))) c.found.invariant
