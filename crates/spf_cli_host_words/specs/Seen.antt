-- What contracts see of what was read.
use Rattle.std.specs.Prelude.{map}
use Rattle.spf_cli_host_words.specs.HostWords as asked
use Rattle.spf_cli_host_words.specs.declared.host_words.HostKind.{HostKind}
use Rattle.spf_cli_host_words.specs.declared.host_words.HostKind.TheVariants as kind
use Rattle.spf_cli_host_words.specs.declared.host_words.HostWords.{HostWords}

-- what contracts see of a kind
abbrev pub seen_kind : HostKind → asked.Kind
seen_kind (kind.Fixed value) = asked.Fixed value
seen_kind kind.Last = asked.Last
seen_kind kind.Most = asked.Most
seen_kind kind.Table = asked.Table
seen_kind kind.Vote = asked.Vote

-- what contracts see of what was read
abbrev pub seen : HostWords → asked.Reading
seen words = record { kinds = map seen_kind words.kinds.items; rest = words.rest }
