use Rattle.std.proofs.Common.{◌∙◌, map, string_bytes, ap}
use Rattle.std.specs.Prelude.{Err}
use Rattle.spf_cli_answers.specs.Answering.{seen_answer}
use Rattle.spf_cli_answers.specs.Whole.{handed, AskForNothing}
use Rattle.spf_cli_answers.proofs.Steps.{asked_words, no_command}
use Rattle.spf_cli_answers.proofs.Batches.{asked_reply}
use Rattle.spf_cli_answers.proofs.answer.answer_words.Goals as goal

pub returns-in-Ok-answer_command-clause-reply : goal.returns-in-Ok-answer_command-clause-reply
returns-in-Ok-answer_command-clause-reply g c =
    let given = (handed (map (λ h. (goal.Predictor-dyn g (h.vtable, h.value)).answer h.value) c.args.hosts.now.items)) in
    asked_reply given (map string_bytes c.args.words.now) _ _ _ c.in-Ok-answer_command.reply c.in-Ok.ensures.asked c.in-Ok-answer_command.ensures.reply

pub returns-in-Err-Answered-clause-reply : goal.returns-in-Err-Answered-clause-reply
returns-in-Err-Answered-clause-reply g c =
    let given = (handed (map (λ h. (goal.Predictor-dyn g (h.vtable, h.value)).answer h.value) c.args.hosts.now.items)) in
    asked_words given (map string_bytes c.args.words.now) _ _ _ (seen_answer c.in-Err-Answered.given) c.in-Ok.ensures.asked (rw c.in-Err-Answered.field-0-is at c.in-Err-Answered.ensures.reply)

pub returns-in-Err-NotUnderstood-clause-reply : goal.returns-in-Err-NotUnderstood-clause-reply
returns-in-Err-NotUnderstood-clause-reply g c =
    let given = (handed (map (λ h. (goal.Predictor-dyn g (h.vtable, h.value)).answer h.value) c.args.hosts.now.items)) in
    let words = map string_bytes c.args.words.now in
    let none : AskForNothing words = λ command asks. c.read_words.ensures.none (c.in-Err-NotUnderstood.is ∙ ap Err c.in-Err-NotUnderstood.field-0-is) command asks in
    no_command given words (g.F.Files.state c.args.files.now) (seen_answer c.in_ok-given-in-Err-NotUnderstood.given) none c.in_ok-given-in-Err-NotUnderstood.ensures
