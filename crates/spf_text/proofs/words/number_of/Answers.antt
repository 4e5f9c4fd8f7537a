use Rattle.std.proofs.Common.{◌+◌, ◌-◌, ◌*◌, ◌<◌, arith, drop, get_or}
use Rattle.spf_text.specs.Tokens.{max_number, number_from}
use Rattle.spf_text.proofs.Digits.{number_from-le, number_from_more}
use Rattle.spf_text.proofs.words.number_of.Goals as goal

pub returns-in_err-checked_mul : goal.returns-in_err-checked_mul
returns-in_err-checked_mul c =
    let ds = c.args.digits.now in
    let i = c.loop-digit.digit-index in
    let next = 10 * c.loop-digit.value + (get_or ds i 0 - 48) in
    let large : max_number < number_from 0 ds = omega (arith, c.in_err-checked_mul.ensures, number_from_more c.loop-digit.value i ds c.loop-digit-test.true, number_from-le next (drop (i + 1) ds)) in
    let none = c.from_residual.ensures in
    rw none large

pub returns-in_err-value : goal.returns-in_err-value
returns-in_err-value c =
    let ds = c.args.digits.now in
    let i = c.loop-digit.digit-index in
    let next = 10 * c.loop-digit.value + (get_or ds i 0 - 48) in
    let from = c.from.ensures in
    let large : max_number < number_from 0 ds = omega (arith, c.in_err-value.ensures, c.in_ok-checked_mul.ensures, number_from_more c.loop-digit.value i ds c.loop-digit-test.true, number_from-le next (drop (i + 1) ds)) in
    let none = c.from_residual-in_err-value.ensures in
    rw none large
