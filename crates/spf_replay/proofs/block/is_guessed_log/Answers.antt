use Rattle.std.proofs.Common.{map}
use Rattle.spf_speculation_entry.specs.Entry.{begins_at}
use Rattle.spf_speculation_entry.specs.Attempts.{attempted}
use Rattle.spf_replay.specs.Reading.{event_of}
use Rattle.spf_replay.proofs.Ends.{comes-at, read-end, both-ways}
use Rattle.spf_replay.proofs.block.is_guessed_log.Goals as goal

pub returns-clause-guessed : goal.returns-clause-guessed
returns-clause-guessed c e guess n context same =
    let log = c.args.log.now in
    both-ways c.is_read.ensures (read-end (attempted e n (begins_at e guess n) 1 (map event_of log)) log c.read_attempt-end.result
    (comes-at e n c.args.context c.args.block.now (begins_at e guess n) 1 log 0 c.read_attempt-end.result context same c.read_attempt-end.ensures.came))
