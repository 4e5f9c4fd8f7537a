use Rattle.spf_replay_log.proofs.Once.{one-log, none-breaks, log-once}
use Rattle.spf_replay_log.proofs.Some.{log-or-break}
use Rattle.spf_replay_log.proofs.laws.bytes_have_one_reading.Goals as goal

pub returns-clause-one : goal.returns-clause-one
returns-clause-one c bytes one other p q = one-log bytes one other p q

pub returns-clause-none : goal.returns-clause-none
returns-clause-none c bytes log offset p b = none-breaks bytes log offset p b

pub returns-clause-offset : goal.returns-clause-offset
returns-clause-offset c bytes one other p q = log-once bytes one other p q

pub returns-clause-some : goal.returns-clause-some
returns-clause-some c bytes are = log-or-break bytes are
