use Rattle.std.proofs.Common.{ℕ, ◌<◌, get_or}
use Rattle.spf_replay_walk.proofs.walker.are_bytes.Given as goal

-- the bytes so far
abbrev pub invariant-loop-byte : goal.invariant-loop-byte
invariant-loop-byte l = (i d : ℕ) → i < l.byte-index → get_or l.input i d < 256
