use Rattle.std.proofs.Common.{rules, ◌≡◌, length, map, ◌∙◌}
use Rattle.std.proofs.lemmas.List.{length-map}
use Rattle.spf_cli_answers.specs.Whole.{handed, Demonstrates}
use Rattle.spf_cli_answers.proofs.Steps.{answers_end}
use Rattle.spf_cli_answers.proofs.Batches.{replied_so, begun_so}
use Rattle.spf_cli_answers.proofs.context.Context.answer_command.Goals as goal

pub returns-in-Run-clause-reply : goal.returns-in-Run-clause-reply
returns-in-Run-clause-reply g c =
    rw c.in-Run.is (replied_so (handed (map (λ h. (goal.Predictor-dyn g (h.vtable, h.value)).answer h.value) c.args.hosts.now.items)) _ _ _ c.run_files.result c.reply_with.result c.reply_with.ensures.reply c.run_files.ensures)

pub returns-in-Check-clause-reply : goal.returns-in-Check-clause-reply
returns-in-Check-clause-reply g c =
    let given = (handed (map (λ h. (goal.Predictor-dyn g (h.vtable, h.value)).answer h.value) c.args.hosts.now.items)) in
    rw c.in-Check.is (replied_so given _ _ _ c.check_file.result c.reply_with-in-Check.result c.reply_with-in-Check.ensures.reply (c.check_file.ensures given))

pub returns-in-Explain-clause-reply : goal.returns-in-Explain-clause-reply
returns-in-Explain-clause-reply g c =
    let given = (handed (map (λ h. (goal.Predictor-dyn g (h.vtable, h.value)).answer h.value) c.args.hosts.now.items)) in
    rw c.in-Explain.is (replied_so given _ _ _ c.explain_file.result c.reply_with-in-Explain.result c.reply_with-in-Explain.ensures.reply (c.explain_file.ensures given))

pub returns-in-Print-clause-reply : goal.returns-in-Print-clause-reply
returns-in-Print-clause-reply g c =
    let given = (handed (map (λ h. (goal.Predictor-dyn g (h.vtable, h.value)).answer h.value) c.args.hosts.now.items)) in
    rw c.in-Print.is (replied_so given _ _ _ c.print_file.result c.reply_with-in-Print.result c.reply_with-in-Print.ensures.reply (c.print_file.ensures given))

pub returns-in-Unpack-clause-reply : goal.returns-in-Unpack-clause-reply
returns-in-Unpack-clause-reply g c =
    let given = (handed (map (λ h. (goal.Predictor-dyn g (h.vtable, h.value)).answer h.value) c.args.hosts.now.items)) in
    rw c.in-Unpack.is (replied_so given _ _ _ c.unpack_file.result c.reply_with-in-Unpack.result c.reply_with-in-Unpack.ensures.reply (c.unpack_file.ensures given))

pub returns-in-Unhuff-clause-reply : goal.returns-in-Unhuff-clause-reply
returns-in-Unhuff-clause-reply g c =
    let given = (handed (map (λ h. (goal.Predictor-dyn g (h.vtable, h.value)).answer h.value) c.args.hosts.now.items)) in
    rw c.in-Unhuff.is (replied_so given _ _ _ c.unhuff_file.result c.reply_with-in-Unhuff.result c.reply_with-in-Unhuff.ensures.reply (c.unhuff_file.ensures given))

pub returns-in-Lex-clause-reply : goal.returns-in-Lex-clause-reply
returns-in-Lex-clause-reply g c =
    let given = (handed (map (λ h. (goal.Predictor-dyn g (h.vtable, h.value)).answer h.value) c.args.hosts.now.items)) in
    rw c.in-Lex.is (replied_so given _ _ _ c.lex_files.result c.reply_with-in-Lex.result c.reply_with-in-Lex.ensures.reply (c.lex_files.ensures given))

pub returns-in-Show-clause-reply : goal.returns-in-Show-clause-reply
returns-in-Show-clause-reply g c =
    let given = (handed (map (λ h. (goal.Predictor-dyn g (h.vtable, h.value)).answer h.value) c.args.hosts.now.items)) in
    rw c.in-Show.is (replied_so given _ _ _ c.show_file.result c.reply_with-in-Show.result c.reply_with-in-Show.ensures.reply (c.show_file.ensures given))

pub returns-in-Build-clause-reply : goal.returns-in-Build-clause-reply
returns-in-Build-clause-reply g c =
    let given = (handed (map (λ h. (goal.Predictor-dyn g (h.vtable, h.value)).answer h.value) c.args.hosts.now.items)) in
    rw c.in-Build.is (replied_so given _ _ _ c.build_file.result c.reply_with-in-Build.result c.reply_with-in-Build.ensures.reply (c.build_file.ensures given))

pub returns-in-Sim-clause-reply : goal.returns-in-Sim-clause-reply
returns-in-Sim-clause-reply g c =
    rw c.in-Sim.is (replied_so (handed (map (λ h. (goal.Predictor-dyn g (h.vtable, h.value)).answer h.value) c.args.hosts.now.items)) _ _ _ c.sim_files.result c.reply_with-in-Sim.result c.reply_with-in-Sim.ensures.reply c.sim_files.ensures)

pub returns-in-Replay-clause-reply : goal.returns-in-Replay-clause-reply
returns-in-Replay-clause-reply g c =
    rw c.in-Replay.is (replied_so (handed (map (λ h. (goal.Predictor-dyn g (h.vtable, h.value)).answer h.value) c.args.hosts.now.items)) _ _ _ c.replay_files.result c.reply_with-in-Replay.result c.reply_with-in-Replay.ensures.reply c.replay_files.ensures)

pub returns-in-Batch-clause-reply : goal.returns-in-Batch-clause-reply
returns-in-Batch-clause-reply g c =
    let given = (handed (map (λ h. (goal.Predictor-dyn g (h.vtable, h.value)).answer h.value) c.args.hosts.now.items)) in
    let len : length c.args.hosts.now.items ≡ c.len-count.result = search rules in
    let counted = length-map c.args.hosts.now.items _ ∙ len in
    rw c.in-Batch.is (begun_so given _ _ _ c.read_batch.result c.reply_with_batch.result c.reply_with_batch.ensures (c.read_batch.ensures.ready given counted) (c.read_batch.ensures.left given counted))

pub returns-in-Demo-clause-reply : goal.returns-in-Demo-clause-reply
returns-in-Demo-clause-reply g c =
    rw c.in-Demo.is (replied_so (handed (map (λ h. (goal.Predictor-dyn g (h.vtable, h.value)).answer h.value) c.args.hosts.now.items)) _ _ _ c.demo.result c.reply_with-in-Demo.result c.reply_with-in-Demo.ensures.reply
    (answers_end (Demonstrates c.in-Demo.kind c.in-Demo.seed c.in-Demo.size) (g.F.Files.state c.args.files.now) c.demo.result c.demo.ensures))
