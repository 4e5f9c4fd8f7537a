-- What contracts see of a host.
use Rattle.spf_guess.specs.Answers.{Answers}
use Rattle.spf_guess.specs.declared.fixed.Fixed.{Fixed}
use Rattle.spf_guess.specs.declared.last.Last.{Last}
use Rattle.spf_guess.specs.declared.most.Most.{Most}
use Rattle.spf_guess.specs.declared.table.Table.{Table}
use Rattle.spf_guess.specs.declared.vote.Vote.{Vote}
use Rattle.spf_cli_hosts.specs.declared.host.Host.{Host}
use Rattle.spf_cli_hosts.specs.declared.host.Host.TheVariants as host

-- what a host answers, by what each kind answers
abbrev pub answer_by : (Fixed → Answers) → (Last → Answers) → (Most → Answers) → (Table → Answers) → (Vote → Answers) → Host → Answers
answer_by fixed last most table vote (host.Fixed x) = fixed x
answer_by fixed last most table vote (host.Last x) = last x
answer_by fixed last most table vote (host.Most x) = most x
answer_by fixed last most table vote (host.Table x) = table x
answer_by fixed last most table vote (host.Vote x) = vote x
