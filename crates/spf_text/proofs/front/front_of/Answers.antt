use Rattle.std.proofs.lemmas.Bool.{false≢true}
use Rattle.spf_text.proofs.Pieces.{comment_first, nothing_first}
use Rattle.spf_text.proofs.front.front_of.Goals as goal

pub returns-then-first-eq35 : goal.returns-then-first-eq35
returns-then-first-eq35 c = comment_first c.args.bytes.now c.line_length.result c.requires c.if-first-eq35.true c.line_length.ensures

pub returns-in_default : goal.returns-in_default
returns-in_default c =
    let blank = c.if-is_blank.ensures in
    let letter = c.if-is_letter.ensures in
    let digit = c.if-is_digit.ensures in
    nothing_first c.args.bytes.now c.requires (λ h. false≢true (blank.1 h)) c.if-first-eq35.false (λ h. false≢true (letter.1 h)) (λ h. false≢true (digit.1 h)) c.in_default.ensures
