use Rattle.std.proofs.Common.{◌∙◌, sym, true≢false}
use Rattle.clap.specs.Words.{found_of, rows_of}
use Rattle.spf_cli_words.proofs.Matching.{name-given, name-refused}
use Rattle.spf_cli_words.proofs.matched.name_of.Goals as goal

pub returns-then-is_file_name : goal.returns-then-is_file_name
returns-then-is_file_name c =
    name-given c.args.argument.now (rows_of (found_of c.args.matches.now)) c.in_ok-word.word.now c.in_ok-word.ensures
    (c.is_file_name.ensures.0 c.if-is_file_name.true)

pub returns-else-is_file_name : goal.returns-else-is_file_name
returns-else-is_file_name c =
    name-refused c.args.argument.now (rows_of (found_of c.args.matches.now)) c.in_ok-word.word.now c.in_ok-word.ensures
    (λ h. true≢false (sym (c.is_file_name.ensures.1 h) ∙ c.if-is_file_name.false))
