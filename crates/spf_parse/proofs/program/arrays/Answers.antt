use Rattle.std.proofs.Common.{rules, refl, map}
use Rattle.std.proofs.lemmas.Result.{err_from_is_err_and}
use Rattle.std.proofs.lemmas.List.{map-append}
use Rattle.spf_ast.specs.View.{array as seen_array}
use Rattle.spf_parse_grammar.specs.Parts.{give, array}
use Rattle.spf_parse_parts.proofs.Steps.{start, go0, halt0}
use Rattle.spf_parse_parts.proofs.Tokens.{takes}
use Rattle.spf_parse_parts.proofs.Expressions.{regroup}
use Rattle.spf_parse.proofs.Programs.{array_some, next_array, arrays_done}
use Rattle.spf_parse.proofs.program.arrays.Goals as goal

pub found-init : goal.found-init
found-init c =
    rw (c.new-found.ensures.items, c.split_at.ensures.back) start

pub returns-in_err-first : goal.returns-in_err-first
returns-in_err-first c =
    let l = next_array (map seen_array c.found.found.items) (c.is_next.ensures.0 c.found-test.true) c.found.invariant in
    let p = err_from_is_err_and c.from_residual.result c.from_residual.ensures.1 in
    rw (p.1, p.2) (halt0 c.in_err-first.field-0.0 refl (λ x. refl)
    l
    c.in_err-first.ensures)

pub found-smaller : goal.found-smaller
found-smaller c =
    takes array c.found.rest.now c.in_ok-first.end.now _ (λ y ws d. array_some 0 y ws d) c.in_ok-first.ensures

pub found-preserved : goal.found-preserved
found-preserved c =
    let l = next_array (map seen_array c.found.found.items) (c.is_next.ensures.0 c.found-test.true) c.found.invariant in
    rw (c.in_ok-push.ensures.items, map-append)
    (regroup array (λ zs. give zs) (map seen_array c.found.found.items) (seen_array c.in_ok-first.first) (go0 refl l c.in_ok-first.ensures))

pub returns : goal.returns
returns c =
    arrays_done (map seen_array c.found.found.items) (λ h. absurd (search (rules, c.is_next.ensures.1 h))) c.found.invariant
