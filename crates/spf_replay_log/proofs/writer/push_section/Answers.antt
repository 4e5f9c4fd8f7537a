use Rattle.spf_replay_log.specs.Log.{step_bytes, IsStep}
use Rattle.spf_replay_log.proofs.Written.{one_more, all_more}
use Rattle.spf_replay_log.proofs.writer.push_section.Goals as goal

pub loop-step-preserved : goal.loop-step-preserved
loop-step-preserved c = record {
  bytes = one_more step_bytes _ c.loop-step.bytes.items c.push_step.new.bytes.items c.args.section.now c.loop-step.step-index _ c.loop-step-test.true c.loop-step.invariant.bytes c.in_ok-push_step.ensures.bytes;
  is = all_more IsStep c.args.section.now c.loop-step.step-index _ c.loop-step-test.true c.loop-step.invariant.is c.push_step.ensures.is;
}
