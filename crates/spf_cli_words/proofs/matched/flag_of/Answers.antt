use Rattle.std.proofs.Common.{◌∙◌, Option, codes}
use Rattle.std.specs.Prelude.{bytes_eq}
use Rattle.std.specs.Option.{option_map_or}
use Rattle.std.proofs.Common.{false, ap}
use Rattle.clap.specs.Words.{Text, found_of, one_text}
use Rattle.clap.proofs.WalkLemmas.{one_text-rows}
use Rattle.spf_cli_words.proofs.Matching.{flag-is}
use Rattle.spf_cli_words.proofs.matched.flag_of.Goals as goal

pub returns : goal.returns
returns c =
    let found = found_of c.args.matches.now in
    let argument = c.args.argument.now in
    c.unwrap_or.ensures ∙ flag-is _ (one_text found argument) c.get_one.result c.get_one.ensures.none c.get_one.ensures.value
    ∙ ap (λ (text : Option Text). option_map_or (λ t. bytes_eq t (codes "true")) text false) (one_text-rows found argument)
