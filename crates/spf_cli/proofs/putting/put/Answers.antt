use Rattle.std.proofs.Common.{refl}
use Rattle.spf_cli_answers.specs.Answering.{seen_answer}
use Rattle.spf_cli.specs.Answered.{sinks}
use Rattle.spf_cli.proofs.Puts.{text_part, lines_part}
use Rattle.spf_cli.proofs.putting.put.Goals as goal

pub returns-in_err-put_pieces-clause-part : goal.returns-in_err-put_pieces-clause-part
returns-in_err-put_pieces-clause-part g c =
    text_part (seen_answer c.args.given.now) c.args.given.now.output.items c.put_pieces.result
    (sinks (g.S.Sink.state c.args.out.now) (g.S.Sink.state c.put_pieces.new.sink) (g.S.Sink.state c.args.err.now) (g.S.Sink.state c.args.err.now))
    refl (rw c.deref.ensures.value at c.put_pieces.ensures.put) refl

pub returns-clause-part : goal.returns-clause-part
returns-clause-part g c =
    lines_part (seen_answer c.args.given.now) c.args.given.now.output.items
    (sinks (g.S.Sink.state c.args.out.now) (g.S.Sink.state c.put_pieces.new.sink) (g.S.Sink.state c.args.err.now) (g.S.Sink.state c.put_lines.new.sink))
    refl (rw c.deref.ensures.value at c.in_ok-put_pieces.ensures.put) (rw c.deref-2.ensures.value at c.put_lines.ensures.part)
