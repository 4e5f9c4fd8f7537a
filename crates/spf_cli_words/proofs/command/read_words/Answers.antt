use Rattle.std.proofs.Common.{◌≡◌, ◌∙◌, rules, map, string_bytes, string_eq, sym, true≢false, Some, None}
use Rattle.std.specs.Cmp.Lexicographic.{pointwise}
use Rattle.clap.specs.Words.{subcommand_rows_of}
use Rattle.spf_cli_words.specs.Asked.{seen_command}
use Rattle.spf_cli_words.specs.Matched.{command_in}
use Rattle.spf_cli_words.specs.declared.command.WordsError.TheVariants.{NotUnderstood, OutOfMemory}
use Rattle.spf_cli_words.proofs.Answered.{asked-taken, compared, found-asked, found-never, matched, otherwise}
use Rattle.spf_cli_words.proofs.command.read_words.Goals as goal

differ : NotUnderstood ≡ OutOfMemory → ⊥
differ e = cc

pub returns-in_err-matches-clause-none : goal.returns-in_err-matches-clause-none
returns-in_err-matches-clause-none c e command a =
    let taken = asked-taken c.in_ok-command_line.field-0 (map string_bytes c.args.words.now) command c.in_ok-command_line.ensures a in
    let none = c.in_err-matches.ensures.passes taken in
    let from = rw e at c.from_residual-in_err-matches.ensures.1 in
    differ (from none)

pub returns-in_err-command-clause-none : goal.returns-in_err-command-clause-none
returns-in_err-command-clause-none c e command a =
    let words = map string_bytes c.args.words.now in
    let m = c.in_ok-matches.matches in
    let given = matched c.in_ok-command_line.field-0 words m c.in_ok-command_line.ensures c.in_ok-matches.ensures.matches in
    let none : command_in (subcommand_rows_of m) ≡ None = rw c.in_err-command.ensures.ok_part at c.read_command.ensures in
    found-never words (sym given ∙ none) command a

pub returns-then-eq-clause-asked : goal.returns-then-eq-clause-asked
returns-then-eq-clause-asked c =
    let words = map string_bytes c.args.words.now in
    let m = c.in_ok-matches.matches in
    let command = seen_command c.in_ok-command.command in
    let given = matched c.in_ok-command_line.field-0 words m c.in_ok-command_line.ensures c.in_ok-matches.ensures.matches in
    let some : command_in (subcommand_rows_of m) ≡ Some command = rw c.in_ok-command.ensures.ok_part at c.read_command.ensures in
    let eq : c.eq.result ≡ pointwise string_eq c.in_ok-canonical.canonical.items c.args.words.now = search rules in
    let same = (compared c.in_ok-canonical.canonical.items c.args.words.now c.eq.result eq).0 c.if-eq.true in
    found-asked words command (sym given ∙ some) (sym same ∙ c.in_ok-canonical.ensures)

pub returns-clause-none : goal.returns-clause-none
returns-clause-none c e other a =
    let words = map string_bytes c.args.words.now in
    let m = c.in_ok-matches.matches in
    let command = seen_command c.in_ok-command.command in
    let given = matched c.in_ok-command_line.field-0 words m c.in_ok-command_line.ensures c.in_ok-matches.ensures.matches in
    let some : command_in (subcommand_rows_of m) ≡ Some command = rw c.in_ok-command.ensures.ok_part at c.read_command.ensures in
    let eq : c.eq.result ≡ pointwise string_eq c.in_ok-canonical.canonical.items c.args.words.now = search rules in
    let differs = (compared c.in_ok-canonical.canonical.items c.args.words.now c.eq.result eq).1 in
    otherwise words command (sym given ∙ some) (λ is. true≢false (sym (differs (c.in_ok-canonical.ensures ∙ sym is)) ∙ c.if-eq.false)) other a
