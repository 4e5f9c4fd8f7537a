use Rattle.std.specs.Prelude.{Err}
use Rattle.spf_edge.specs.Puts.{HasPut, put_of}
use Rattle.std.proofs.Common.{arith, ◌≡◌, ◌+◌, drop, [], ap, subst}
use Rattle.std.proofs.Math.ListN.{drop_of_length-le}
use Rattle.spf_cli_answers.specs.Answering.{lines_of}
use Rattle.spf_edge_pieces.proofs.Parts.{part-of-whole}
use Rattle.spf_cli.proofs.Lines.{AreLinesPutUpTo, from-line, lines-more, lines-broken, lines-all}
use Rattle.spf_cli.proofs.putting.put_lines.Goals as goal

pub loop-line-preserved : goal.loop-line-preserved
loop-line-preserved g c =
    let lines = c.args.lines.now in
    let i = c.loop-line.line-index in
    let line = from-line lines i c.line-item.result c.loop-line-test.true c.line-item.is in
    let put = c.in_ok-put.ensures {u = tt} in
    lines-more (lines_of lines) (lines_of (drop i lines)) c.line-item.result.items (lines_of (drop (i + 1) lines)) (g.S.Sink.state c.args.sink.now) (g.S.Sink.state c.loop-line.sink) (g.S.Sink.state c.put.new.self) c.loop-line.invariant line (rw c.deref.ensures.value at put.added) (rw c.deref.ensures.value at put.made) put.later

pub returns-in_err-put-clause-part : goal.returns-in_err-put-clause-part
returns-in_err-put-clause-part g c =
    let lines = c.args.lines.now in
    let i = c.loop-line.line-index in
    let line = from-line lines i c.line-item.result c.loop-line-test.true c.line-item.is in
    let put = c.in_err-put.ensures {u = tt} in
    lines-broken (lines_of lines) (lines_of (drop i lines)) c.line-item.result.items (lines_of (drop (i + 1) lines)) (g.S.Sink.state c.args.sink.now) (g.S.Sink.state c.loop-line.sink) (g.S.Sink.state c.put.new.self) c.in_err-put.field-0.0 c.loop-line.invariant line (rw c.deref.ensures.value at put.front)
    (subst (λ piece. HasPut (g.S.Sink.state c.loop-line.sink).puts (g.S.Sink.state c.put.new.self).puts (put_of piece (Err c.in_err-put.field-0.0))) c.deref.ensures.value put.made)

pub returns-clause-part : goal.returns-clause-part
returns-clause-part g c =
    let lines = c.args.lines.now in
    let i = c.loop-line.line-index in
    let none : lines_of (drop i lines) ≡ [] = ap lines_of (drop_of_length-le lines (omega (arith, c.loop-line-test.false))) in
    part-of-whole (lines_of lines) (g.S.Sink.state c.args.sink.now) (g.S.Sink.state c.loop-line.sink)
    (lines-all (lines_of lines) (g.S.Sink.state c.args.sink.now) (g.S.Sink.state c.loop-line.sink)
    (subst (λ rest. AreLinesPutUpTo (lines_of lines) rest (g.S.Sink.state c.args.sink.now) (g.S.Sink.state c.loop-line.sink)) none c.loop-line.invariant))
