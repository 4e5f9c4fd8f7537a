use Rattle.spf_replay.proofs.Pieces.{none-found, some-found}
use Rattle.spf_replay.proofs.runner.has_piece.Goals as goal

pub returns-in-Some-clause-whole : goal.returns-in-Some-clause-whole
returns-in-Some-clause-whole c is full = some-found c.args.runner.now c.deref.result.now _ c.deref.ensures.value c.in-Some.ensures.2

pub returns-in-None-clause-cut : goal.returns-in-None-clause-cut
returns-in-None-clause-cut c is = (c.if-not-runner.false, none-found c.args.runner.now c.deref.result.now c.deref.ensures.value c.in-None.ensures)
