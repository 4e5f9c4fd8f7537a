use Rattle.spf_cli_words.proofs.Answered.{one_or_none}
use Rattle.spf_cli_words.proofs.laws.each_list_of_words_asks_for_one_command_or_none.Goals as goal

pub returns : goal.returns
returns c = one_or_none
