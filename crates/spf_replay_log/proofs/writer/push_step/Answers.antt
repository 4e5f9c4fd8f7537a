use Rattle.std.proofs.Common.{◌∙◌, ap}
use Rattle.std.specs.Int.{w64, to_be_bytes}
use Rattle.spf_replay_log.proofs.Written.{four_added, on_ok}
use Rattle.spf_replay_log.proofs.writer.push_step.Goals as goal

pub returns-clause-bytes : goal.returns-clause-bytes
returns-clause-bytes c =
    on_ok c.extend_from_slice-3.result _ _ _ _ c.extend_from_slice-3.ensures.items (four_added c.args.bytes.now.items c.push.new.self.items c.extend_from_slice.new.self.items c.extend_from_slice-2.new.self.items _ _ _ _ _ _ _ _
    c.kind_of.ensures c.to_be_bytes.ensures (c.to_be_bytes-2.ensures ∙ ap (to_be_bytes w64) c.cell_of.ensures) (c.to_be_bytes-3.ensures ∙ ap (to_be_bytes w64) c.content_of.ensures)
    c.in_ok-push.ensures.items c.in_ok-extend_from_slice.ensures.items c.in_ok-extend_from_slice-2.ensures.items)
