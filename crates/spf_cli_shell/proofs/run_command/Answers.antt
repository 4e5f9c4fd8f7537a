use Rattle.std.proofs.Common.{◌≡◌, ◌∙◌, List, ap, sym, refl, map, drop, string_bytes}
use Rattle.std.proofs.lemmas.List.{take_all, drop_min, drop-map}
use denote.Param.Object.{read_made}
use Rattle.spf_cli_host_words.specs.HostWords.{Reading}
use Rattle.spf_cli_host_words.specs.Seen.{seen, seen_kind}
use Rattle.spf_guess.specs.Answers.{Answers}
use Rattle.spf_cli_answers.specs.Whole.{handed, Whole}
use Rattle.spf_cli.specs.Answered.{sinks, IsAnswered}
use Rattle.spf_cli_hosts.specs.Hosts.{answers_of}
use Rattle.spf_cli_hosts.proofs.Boxes.{one_more}
use Rattle.spf_cli_shell.proofs.Moved.{moved}
use Rattle.spf_cli_shell.proofs.run_command.OwnLists.{own-1, at-1-1}
use Rattle.spf_cli_shell.proofs.run_command.Goals as goal

pub loop-kind-preserved : goal.loop-kind-preserved
loop-kind-preserved g c =
    one_more (λ h. (own-1.entry h.vtable).1.answer h.value) c.loop-kind.hosts.items c.push.new.self.items c.into_dyn_box.result
    c.deref-kind-items.result.now c.loop-kind.kind-index _ c.loop-kind-test.true c.loop-kind.invariant c.in_ok-push.ensures.items
    (read_made own-1 (own-1.entry at-1-1) at-1-1 refl Answers (λ j host. j.1.answer host) c.into_dyn_box.result.vtable c.into_dyn_box.result.value c.in_ok-new.field-0.value c.into_dyn_box.ensures.1
    ∙ ap (own-1.entry at-1-1).1.answer c.in_ok-new.ensures.ok
    ∙ (λ i pairs block. c.in_ok-make.ensures pairs block i))

pub returns-clause-answered : goal.returns-clause-answered
returns-clause-answered g c reading says =
    let read : seen c.in_ok-asked.asked ≡ reading = sym (c.in_ok-asked.ensures.says.only reading says) in
    let hosts : map (λ h. (own-1.entry h.vtable).1.answer h.value) c.loop-kind.hosts.items ≡ map answers_of reading.kinds =
    c.loop-kind.invariant
    ∙ ap (λ kinds. map answers_of (map seen_kind kinds)) (take_all c.loop-kind.kind-index c.deref-kind-items.result.now c.loop-kind-test.false ∙ c.deref-kind-items.ensures.value)
    ∙ ap (λ (r : Reading). map answers_of r.kinds) read in
    let command : map string_bytes c.split_at.result.1.now ≡ drop reading.rest (map string_bytes c.args.words.now) =
    ap (map string_bytes) (c.split_at.ensures.back ∙ ap (λ n. drop n c.args.words.now) c.min.ensures ∙ drop_min c.in_ok-asked.asked.rest c.args.words.now)
    ∙ sym (drop-map string_bytes c.in_ok-asked.asked.rest c.args.words.now)
    ∙ ap (λ (r : Reading). drop r.rest (map string_bytes c.args.words.now)) read in
    moved
    (λ (predictors : List Answers) words. IsAnswered (Whole (handed predictors) words)
    (g.F.Files.state c.args.files.now) (g.F.Files.state c.spf_main.new.files) c.spf_main.result
    (sinks (g.S.Sink.state c.args.out.now) (g.S.Sink.state c.spf_main.new.out) (g.S.Sink.state c.args.err.now) (g.S.Sink.state c.spf_main.new.err)))
    _ _ _ _ hosts command c.spf_main.ensures.answered

pub returns-clause-says : goal.returns-clause-says
returns-clause-says g c = (seen c.in_ok-asked.asked, c.in_ok-asked.ensures.says.says)
