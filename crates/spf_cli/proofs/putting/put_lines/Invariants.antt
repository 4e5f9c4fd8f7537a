use Rattle.std.proofs.Common.{drop}
use Rattle.spf_cli_answers.specs.Answering.{lines_of}
use Rattle.spf_cli.proofs.Lines.{AreLinesPutUpTo}
use Rattle.spf_cli.proofs.putting.put_lines.Given as goal

-- the lines before this one were put
abbrev pub invariant-loop-line : goal.invariant-loop-line
invariant-loop-line g l =
    AreLinesPutUpTo (lines_of l.lines) (lines_of (drop l.line-index l.lines)) (g.S.Sink.state l.initial.sink) (g.S.Sink.state l.sink)
