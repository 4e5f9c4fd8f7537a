use Rattle.std.proofs.Common.{rules, ◌≡◌, ◌∷◌, [], ◌∙◌, sym, arith}
use Rattle.spf_cli_words.proofs.Numbers.{zero-read, other-read}
use Rattle.spf_cli_words.proofs.matched.read_seed.Goals as goal

pub returns-then-eq : goal.returns-then-eq
returns-then-eq c =
    let is : c.args.word.now ≡ 48 ∷ [] = search rules in
    sym (zero-read 18446744073709551615 c.args.word.now is)

pub returns-else-eq : goal.returns-else-eq
returns-else-eq c =
    let differs : c.args.word.now ≡ 48 ∷ [] → ⊥ = search rules in
    c.read_number.ensures ∙ other-read 18446744073709551615 c.args.word.now (omega arith) differs
