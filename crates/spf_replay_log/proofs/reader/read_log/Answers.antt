use Rattle.std.proofs.lemmas.Result.{err_from_is_err_and}
use Rattle.spf_replay_log.specs.Log.{sections_of}
use Rattle.spf_replay_log.proofs.Reading.{log_breaks}
use Rattle.spf_replay_log.proofs.reader.read_log.Goals as goal

pub returns-in_err-section-clause-refused : goal.returns-in_err-section-clause-refused
returns-in_err-section-clause-refused c =
    let p = err_from_is_err_and c.from_residual.result c.from_residual.ensures.1 in
    rw (p.1, p.2) (log_breaks c.args.bytes.now (sections_of c.loop-at.log.items) c.loop-at.at _ c.loop-at.invariant.steps c.loop-at-test.true c.loop-at.invariant.read c.in_err-section.ensures.refused)
