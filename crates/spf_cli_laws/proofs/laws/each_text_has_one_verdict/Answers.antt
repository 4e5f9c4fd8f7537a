use Rattle.spf_cli_laws.proofs.OneVerdict.{TextLaws, one_verdict, none_unjudged}
use Rattle.spf_cli_laws.proofs.laws.each_text_has_one_verdict.Goals as goal

pub returns : goal.returns
returns c =
    let laws : TextLaws = record {
      tokens = c.texts_determine_their_tokens.ensures;
      some_tokens = c.each_text_has_tokens_or_one_fault.ensures.some;
      one_fault = c.each_text_has_tokens_or_one_fault.ensures.one;
      reads_one = c.tokens_are_of_one_program.ensures.one;
      none_left = c.tokens_are_of_one_program.ensures.left;
      wrong_once = c.tokens_go_wrong_once.ensures;
      writable = c.texts_say_writable_programs.ensures;
      resolves = c.each_raw_program_resolves_or_is_refused.ensures.some;
      one_program = c.each_raw_program_resolves_or_is_refused.ensures.one_program;
      one_refusal = c.each_raw_program_resolves_or_is_refused.ensures.one_fault;
      not_both = c.each_raw_program_resolves_or_is_refused.ensures.not_both;
    } in
    record { one = one_verdict laws; left = none_unjudged laws }
