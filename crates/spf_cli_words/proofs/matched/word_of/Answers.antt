use Rattle.std.proofs.Common.{◌∙◌}
use Rattle.clap.specs.Words.{found_of}
use Rattle.clap.proofs.WalkLemmas.{first_value-rows}
use Rattle.spf_cli_words.proofs.Matching.{by_cases}
use Rattle.spf_cli_words.proofs.matched.word_of.Goals as goal

pub returns : goal.returns
returns c = by_cases (λ s. s.now) c.get_str.result _ (c.get_str.ensures ∙ first_value-rows (found_of c.args.matches.now) c.args.argument.now)
