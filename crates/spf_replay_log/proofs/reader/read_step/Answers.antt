use Rattle.std.proofs.Common.{arith, rules}
use Rattle.spf_replay_log.specs.Refusals.{Kind, Block, Cell}
use Rattle.spf_replay_log.proofs.Reading.{step_found, ends_in, wrong_in, before_kind, before_block, before_cell}
use Rattle.spf_replay_log.proofs.reader.read_step.Goals as goal

pub returns : goal.returns
returns c =
    step_found c.args.bytes.now c.two_at-block.result c.eight_at-cell.result c.eight_at-content.result c.event_of.result (omega arith) (omega arith, omega arith) (search rules)
    (omega arith) (search rules) (search rules) c.two_at-block.ensures.bytes c.eight_at-cell.ensures.bytes c.eight_at-content.ensures.bytes c.event_of.ensures

pub returns-then-size-lt1 : goal.returns-then-size-lt1
returns-then-size-lt1 c = ends_in Kind c.args.bytes.now (before_kind c.args.bytes.now) (omega arith)

pub returns-then-kind-lt1 : goal.returns-then-kind-lt1
returns-then-kind-lt1 c = wrong_in Kind c.args.bytes.now (before_kind c.args.bytes.now) (omega arith) (λ right. omega (arith, right.0, right.1))

pub returns-then-size-lt3 : goal.returns-then-size-lt3
returns-then-size-lt3 c = ends_in Block c.args.bytes.now (before_block c.args.bytes.now (omega arith, (omega arith, omega arith))) (omega arith)

pub returns-then-block-ge-MAX_BLOCKS : goal.returns-then-block-ge-MAX_BLOCKS
returns-then-block-ge-MAX_BLOCKS c =
    let number = c.two_at-block.ensures.number in
    wrong_in Block c.args.bytes.now (before_block c.args.bytes.now (omega arith, (omega arith, omega arith))) (omega arith) (λ right. omega (arith, number, right))

pub returns-then-size-lt11 : goal.returns-then-size-lt11
returns-then-size-lt11 c =
    let number = c.two_at-block.ensures.number in
    ends_in Cell c.args.bytes.now (before_cell c.args.bytes.now (omega arith, (omega arith, omega arith)) (omega arith, omega (arith, number))) (omega arith)

pub returns-then-cell-ne0 : goal.returns-then-cell-ne0
returns-then-cell-ne0 c = search rules

pub returns-then-size-lt-STEP_SIZE : goal.returns-then-size-lt-STEP_SIZE
returns-then-size-lt-STEP_SIZE c = search rules
