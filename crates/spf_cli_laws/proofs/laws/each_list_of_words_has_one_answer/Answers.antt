use Rattle.spf_cli_laws.proofs.OneAnswer.{FormatLaws, answers_same, none_unanswered}
use Rattle.spf_cli_laws.proofs.laws.each_list_of_words_has_one_answer.Goals as goal

pub returns : goal.returns
returns c =
    let rules = c.rules_say_one_thing.ensures in
    let texts = c.each_text_has_one_verdict.ensures in
    let asks = c.each_list_of_words_asks_for_one_command_or_none.ensures in
    let formats : FormatLaws = record {
      huf1 = c.files_have_one_verdict.ensures.huf1;
      lex1 = c.files_have_one_verdict.ensures.lex1;
      machines = c.machines_have_one_text.ensures;
      lists = c.lists_have_one_verdict.ensures;
      logs = record {
        one = c.bytes_have_one_reading.ensures.one;
        none = c.bytes_have_one_reading.ensures.none;
        offset = c.bytes_have_one_reading.ensures.offset;
        some = c.bytes_have_one_reading.ensures.some;
        schedule = c.each_run_has_one_schedule.ensures.one;
        scheduled = c.each_run_has_one_schedule.ensures.some;
        verdict = c.verdicts_are_exact.ensures.one;
      };
      generated = c.each_demo_input_is_generated_once.ensures;
      decoders = c.decoders_keep_their_formats.ensures;
    } in
    record { one = answers_same rules texts.one formats asks; left = none_unanswered rules texts.left formats asks }
