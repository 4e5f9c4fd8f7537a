use Rattle.std.proofs.Common.{rules, ◌≡◌, ◌<◌, sym, arith}
use Rattle.std.specs.Prelude.{◌^◌}
use Rattle.std.specs.Str.Parse.{IsNumeral, digits_value, without_leading_plus}
use Rattle.std.proofs.Math.ListN.{get_or}
use Rattle.spf_cli_words.proofs.Numbers.{number-first, number-beyond, number-read}
use Rattle.spf_cli_words.proofs.matched.read_number.Goals as goal

pub returns-in_default : goal.returns-in_default
returns-in_default c =
    let small : c.args.most < 2 ^ 64 = omega arith in
    sym (number-first c.args.most c.args.word.now small (λ low high. search rules))

pub returns-in_default-2 : goal.returns-in_default-2
returns-in_default-2 c =
    let small : c.args.most < 2 ^ 64 = omega arith in
    sym (number-first c.args.most c.args.word.now small (λ low high. search rules))

pub returns-in_default-3 : goal.returns-in_default-3
returns-in_default-3 c =
    let small : c.args.most < 2 ^ 64 = omega arith in
    sym (number-first c.args.most c.args.word.now small (λ low high. search rules))

pub returns-in_err-number : goal.returns-in_err-number
returns-in_err-number c =
    let small : c.args.most < 2 ^ 64 = omega arith in
    let first : 48 < get_or c.args.word.now 0 0 = search rules in
    rw c.from_residual.ensures (sym (number-beyond c.args.most c.args.word.now small first (λ numeral value. search rules)))

pub returns-then-number-most : goal.returns-then-number-most
returns-then-number-most c =
    let small : c.args.most < 2 ^ 64 = omega arith in
    let first : 48 < get_or c.args.word.now 0 0 = search rules in
    let numeral : IsNumeral 10 (without_leading_plus c.args.word.now) = search rules in
    let value : digits_value 10 (without_leading_plus c.args.word.now) ≡ c.in_ok-number.number = search rules in
    sym (number-read c.args.most c.args.word.now c.in_ok-number.number small first numeral value c.if-number-most.true)

pub returns-else-number-most : goal.returns-else-number-most
returns-else-number-most c =
    let small : c.args.most < 2 ^ 64 = omega arith in
    let first : 48 < get_or c.args.word.now 0 0 = search rules in
    let value : digits_value 10 (without_leading_plus c.args.word.now) ≡ c.in_ok-number.number = search rules in
    let beyond = c.if-number-most.false in
    sym (number-beyond c.args.most c.args.word.now small first (λ numeral within. omega (arith, value, within, beyond)))
