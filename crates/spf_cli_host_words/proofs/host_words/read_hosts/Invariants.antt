use Rattle.std.proofs.Common.{◌≡◌, ◌≤◌, ◌-◌, ◌*◌, length, map, drop, string_bytes}
use Rattle.spf_cli_host_words.specs.HostWords.{AskFor}
use Rattle.spf_cli_host_words.specs.Seen.{seen_kind}
use Rattle.spf_cli_host_words.proofs.host_words.read_hosts.Given as goal

-- the pairs so far were read
abbrev pub invariant-loop-kinds : goal.invariant-loop-kinds
invariant-loop-kinds l = record {
  within : l.rest ≤ length l.words;
  pairs : AskFor (map string_bytes l.words) (map seen_kind l.kinds.items) (map string_bytes (drop l.rest l.words));
  count : l.rest ≡ 2 * length l.kinds.items;
}

abbrev pub decreases-loop-kinds : goal.decreases-loop-kinds
decreases-loop-kinds l = length l.words - l.rest
