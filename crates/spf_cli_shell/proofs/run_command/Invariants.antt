use Rattle.std.proofs.Common.{◌≡◌, map, take}
use Rattle.spf_cli_host_words.specs.Seen.{seen_kind}
use Rattle.spf_cli_hosts.specs.Hosts.{answers_of}
use Rattle.spf_cli_shell.proofs.run_command.OwnLists.{own-1}
use Rattle.spf_cli_shell.proofs.run_command.Given as goal

-- the hosts so far answer as the kinds that they were made for
abbrev pub invariant-loop-kind : goal.invariant-loop-kind
invariant-loop-kind g l =
    map (λ h. (own-1.entry h.vtable).1.answer h.value) l.hosts.items ≡ map answers_of (map seen_kind (take l.kind-index l.kind-items))
