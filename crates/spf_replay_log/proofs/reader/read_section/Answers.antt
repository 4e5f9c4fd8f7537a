use Rattle.std.proofs.Common.{inl, ◌+◌, ◌*◌, ◌-◌, length, drop, sym, refl, arith, rules, ap, subst}
use Rattle.std.proofs.lemmas.List.{length-drop}
use Rattle.std.specs.Int.{w64, to_be_bytes}
use Rattle.spf_replay_log.specs.Log.{step_bytes, IsStep, AreSteps}
use Rattle.spf_replay_log.proofs.Reading.{all_one_more, rest-at, read_first, read_more, section_breaks, one_longer}
use Rattle.spf_replay_log.proofs.reader.read_section.Goals as goal

pub returns-then-bytes-at-lt-COUNT_SIZE-clause-refused : goal.returns-then-bytes-at-lt-COUNT_SIZE-clause-refused
returns-then-bytes-at-lt-COUNT_SIZE-clause-refused c =
    let size = length-drop c.args.at c.args.bytes.now in
    (length c.args.bytes.now - c.args.at, omega arith, inl (record { short = omega (arith, size); offset_is = sym size }))

pub loop-index-init : goal.loop-index-init
loop-index-init c = record {
  steps = subst AreSteps (sym c.new-steps.ensures.items) (λ k d low. absurd (omega arith));
  size = ap length c.new-steps.ensures.items;
  inside = omega arith;
  read = read_first step_bytes (drop c.args.at c.args.bytes.now) (to_be_bytes w64 c.eight_at-count.result) c.args.bytes.now c.new-steps.result.items c.args.at 8 (c.args.at + 8 + 0) (sym c.eight_at-count.ensures.bytes) c.new-steps.ensures.items refl (omega arith);
}

pub returns-in-Err-clause-refused : goal.returns-in-Err-clause-refused
returns-in-Err-clause-refused c =
    let h = c.loop-index.invariant in
    section_breaks c.args.bytes.now _ c.args.at c.eight_at-count.result (c.args.at + 8 + 19 * c.loop-index.index) c.in-Err.offset c.loop-index.steps.items
    (search rules) h.steps (omega (arith, h.size)) (omega (arith, h.size)) h.read (rest-at (c.args.at + 8 + 19 * c.loop-index.index) c.args.bytes.now) c.in-Err.ensures

pub loop-index-preserved : goal.loop-index-preserved
loop-index-preserved c =
    let h = c.loop-index.invariant in
    let p = c.args.at + 8 + 19 * c.loop-index.index in
    let new = c.in_ok-push_step-in-Ok.ensures in
    let size = length-drop p c.args.bytes.now in
    let front = ap length (rest-at p c.args.bytes.now) in
    record {
      steps = all_one_more IsStep c.loop-index.steps.items c.push_step.new.steps.items c.in-Ok.step new h.steps c.in-Ok.ensures.0;
      size = one_longer c.loop-index.steps.items c.push_step.new.steps.items c.in-Ok.step c.loop-index.index new h.size;
      inside = omega (arith, c.in-Ok.ensures.1, size, front);
      read = read_more step_bytes (drop c.args.at c.args.bytes.now) (to_be_bytes w64 c.eight_at-count.result) c.args.bytes.now _ c.loop-index.steps.items c.push_step.new.steps.items c.in-Ok.step 19 p (c.args.at + 8 + 19 * (c.loop-index.index + 1)) h.read (rest-at p c.args.bytes.now) c.in-Ok.ensures.2 new (omega arith);
    }
