use Rattle.std.proofs.Common.{arith, ◌≡◌, ◌≤◌, ◌<◌, ◌++◌, length, sym, ◌∙◌, subst, []}
use Rattle.std.proofs.lemmas.List.{take-append-drop}
use Rattle.std.proofs.lemmas.Result.{err_from_is_err_and}
use Rattle.spf_edge_pieces.specs.Pieces.{piece_size}
use Rattle.spf_edge_pieces.proofs.Parts.{IsPutUpTo, put-more, put-broken, put-all, nothing-left}
use Rattle.spf_edge_pieces.proofs.pieces.put_pieces.Goals as goal

pub pieces-preserved : goal.pieces-preserved
pieces-preserved g c =
    let rest = c.pieces.rest.now in
    let piece = c.split_at.result.0.now in
    let others = c.split_at.result.1.now in
    let both : rest ≡ piece ++ others = sym (take-append-drop c.min.result rest) ∙ (λ i. sym c.split_at.ensures.front i ++ sym c.split_at.ensures.back i) in
    let left : 0 < length rest = grind (arith, c.is_empty.ensures, c.pieces-test.true) in
    let some : 0 < length piece = grind (arith, c.split_at.ensures.front_len, c.min.ensures, left) in
    let most : length piece ≤ piece_size = grind (arith, c.split_at.ensures.front_len, c.min.ensures) in
    let full : 0 < length others → length piece ≡ piece_size = λ l. grind (arith, c.split_at.ensures.front_len, c.split_at.ensures.back_len, c.min.ensures, l) in
    let put = c.in_ok-put.ensures {u = tt} in
    put-more c.args.bytes.now rest piece others (g.S.Sink.state c.args.sink.now) (g.S.Sink.state c.pieces.sink) (g.S.Sink.state c.put.new.self) c.pieces.invariant both some most full put.added put.made put.later

pub returns-in_err-put-clause-put : goal.returns-in_err-put-clause-put
returns-in_err-put-clause-put g c =
    let rest = c.pieces.rest.now in
    let piece = c.split_at.result.0.now in
    let others = c.split_at.result.1.now in
    let both : rest ≡ piece ++ others = sym (take-append-drop c.min.result rest) ∙ (λ i. sym c.split_at.ensures.front i ++ sym c.split_at.ensures.back i) in
    let left : 0 < length rest = grind (arith, c.is_empty.ensures, c.pieces-test.true) in
    let some : 0 < length piece = grind (arith, c.split_at.ensures.front_len, c.min.ensures, left) in
    let most : length piece ≤ piece_size = grind (arith, c.split_at.ensures.front_len, c.min.ensures) in
    let full : 0 < length others → length piece ≡ piece_size = λ l. grind (arith, c.split_at.ensures.front_len, c.split_at.ensures.back_len, c.min.ensures, l) in
    let q = err_from_is_err_and c.from_residual.result c.from_residual.ensures.1 in
    let put = c.in_err-put.ensures {u = tt} in
    rw (q.1, q.2) (put-broken c.args.bytes.now rest piece others (g.S.Sink.state c.args.sink.now) (g.S.Sink.state c.pieces.sink) (g.S.Sink.state c.put.new.self) c.in_err-put.field-0.0 c.pieces.invariant both some most full put.front put.made)

pub returns-clause-put : goal.returns-clause-put
returns-clause-put g c =
    let none : c.pieces.rest.now ≡ [] = nothing-left c.pieces.rest.now (grind (arith, c.is_empty.ensures, c.pieces-test.false)) in
    put-all c.args.bytes.now (g.S.Sink.state c.args.sink.now) (g.S.Sink.state c.pieces.sink) (subst (λ rest. IsPutUpTo c.args.bytes.now rest (g.S.Sink.state c.args.sink.now) (g.S.Sink.state c.pieces.sink)) none c.pieces.invariant)
