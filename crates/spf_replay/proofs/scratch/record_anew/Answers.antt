use Rattle.std.proofs.Common.{ℕ, [], map, take, subst}
use Rattle.spf_replay.specs.declared.runner.Runner.{Runner}
use Rattle.spf_replay.specs.Entered.{entry_of}
use Rattle.spf_replay.specs.Reading.{event_of}
use Rattle.spf_replay.specs.Recording.{IsRecordOf}
use Rattle.spf_replay.specs.Schedule.{attempt_events}
use Rattle.spf_replay.proofs.Growing.{record-grows}
use Rattle.spf_replay.proofs.scratch.record_anew.Goals as goal

pub returns-clause-runner : goal.returns-clause-runner
returns-clause-runner c =
    let e = entry_of c.args.entered.now in
    let r = c.args.runner.now in
    let made = c.record_block-record.result in
    let other : Runner = record r { room = made.room; count = made.count; full = made.full } in
    record-grows e c.args.n r other c.args.size c.requires.runner c.requires.size c.record_block-record.ensures.inside
    (subst (λ (size : ℕ). IsRecordOf (attempt_events e c.args.n r.row []) size made.full (map event_of (take made.count made.room.items))) c.in_ok-room.ensures c.record_block-record.ensures.record)
