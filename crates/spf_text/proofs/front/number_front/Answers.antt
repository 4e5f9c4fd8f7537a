use Rattle.std.proofs.Common.{to_z-of_z, arith}
use Rattle.std.proofs.lemmas.Int.{ints}
use Rattle.spf_text.proofs.Pieces.{number_first, number_too_large}
use Rattle.spf_text.proofs.front.number_front.Goals as goal

pub returns-in-Some : goal.returns-in-Some
returns-in-Some c =
    let spelled = c.in-Some.ensures in
    number_first c.args.bytes.now c.digits_length-length.result _ c.requires.some c.requires.digit c.digits_length-length.ensures (grind (arith, ints, to_z-of_z, spelled)) spelled.1

pub returns-in-None : goal.returns-in-None
returns-in-None c = number_too_large c.args.bytes.now c.digits_length-length.result c.requires.some c.requires.digit c.digits_length-length.ensures c.in-None.ensures
