use Rattle.std.proofs.Common.{◌≡◌, ◌∙◌, [], ap, subst}
use Rattle.spf_ast.specs.View.{program}
use Rattle.spf_cli_words.specs.Only.{IsOnly}
use Rattle.spf_cli_answers.specs.Answer.{shown}
use Rattle.spf_cli_answers.specs.Answering.{AnswersWith}
use Rattle.spf_cli_answers.specs.Whole.{RunsTo, handed, by_blocks, demo_program, demo_input, Demonstrates}
use Rattle.spf_cli_answers.proofs.Steps.{answers_with}
use Rattle.spf_cli_answers.proofs.Decoders.{demonstrated}
use Rattle.spf_cli_answers.proofs.context.Context.demo.Goals as goal

pub returns : goal.returns
returns g c =
    let kind = c.args.kind in
    let made = c.in_ok-input.ensures in
    let file = made.0 in
    let input : c.deref.result.now ≡ demo_input kind file = c.deref.ensures.value ∙ made.3 in
    let same = ap program c.in_ok-checked.ensures.same ∙ c.in_ok-program.ensures.program in
    let said : AnswersWith (IsOnly (RunsTo shown by_blocks (handed []) (demo_program kind) (demo_input kind file))) c.demonstrate.result =
    subst (λ x. AnswersWith (IsOnly (RunsTo shown by_blocks (handed []) (demo_program kind) x)) c.demonstrate.result) input
    (subst (λ p. AnswersWith (IsOnly (RunsTo shown by_blocks (handed []) p c.deref.result.now)) c.demonstrate.result) same c.demonstrate.ensures) in
    answers_with (IsOnly (Demonstrates kind c.args.seed c.args.size)) (IsOnly (RunsTo shown by_blocks (handed []) (demo_program kind) (demo_input kind file))) c.demonstrate.result said (λ a r.
    demonstrated c.each_demo_input_is_generated_once.ensures kind c.args.seed c.args.size file a made.1 made.2 r)
