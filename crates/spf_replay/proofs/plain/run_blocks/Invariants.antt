use Rattle.std.proofs.Common.{◌≡◌, ◌-◌, length}
use Rattle.spf_speculation.specs.Prefixes.{plain_from}
use Rattle.spf_replay.specs.Plainly.{entry_from}
use Rattle.spf_replay.proofs.PlainBlocks.{IsRest}
use Rattle.spf_replay.proofs.plain.run_blocks.Given as goal

abbrev pub invariant-loop-n : goal.invariant-loop-n
invariant-loop-n l = record {
  work : length l.work ≡ length l.frame;
  cells : length l.memory.cells.items ≡ length l.fn.memory.cells.items;
  rest : let e = entry_from l.instance l.construct l.header l.frame l.fn.memory.cells.items in
      IsRest e l.reals.items (plain_from e l.n (l.header.blocks - l.n) l.row l.memory.cells.items);
}
