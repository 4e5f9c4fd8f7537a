use Rattle.std.proofs.Common.{is_ok, ap, sym, subst, ◌∙◌, ◌+◌}
use Rattle.std.proofs.ResultArms.{chosen}
use Rattle.spf_text.specs.declared.front.Front.TheVariants as front
use Rattle.spf_text.proofs.Scanned.{ScannedUpTo, scanned_blank, scanned_comment, scanned_lexeme, IsFront-rest}
use Rattle.spf_text.proofs.scanner.tokens_of.Goals as goal

pub loop-at-preserved-in-Blank : goal.loop-at-preserved-in-Blank
loop-at-preserved-in-Blank c =
    let text = c.args.text.now in
    let at = c.loop-at.at in
    scanned_blank text c.loop-at.tokens.items at _ c.loop-at.invariant (IsFront-rest text at front.Blank c.in-Blank.ensures)

pub loop-at-preserved-in-Comment : goal.loop-at-preserved-in-Comment
loop-at-preserved-in-Comment c =
    let text = c.args.text.now in
    let at = c.loop-at.at in
    let length = c.in-Comment.length in
    scanned_comment text c.loop-at.tokens.items at length _ c.loop-at.invariant (IsFront-rest text at (front.Comment length) c.in-Comment.ensures)

pub loop-at-preserved : goal.loop-at-preserved
loop-at-preserved c =
    let text = c.args.text.now in
    let at = c.loop-at.at in
    let kind = c.in-Lexeme.kind in
    let length = c.in-Lexeme.length in
    let more = scanned_lexeme text c.loop-at.tokens.items at length kind c.loop-at.invariant (IsFront-rest text at (front.Lexeme kind length) c.in-Lexeme.ensures) in
    let pushed = chosen _ _ _ _ c.push.ensures.items (sym c.map_err.ensures.variant ∙ ap is_ok c.in_ok-map_err-in-Lexeme.was) in
    subst (λ tokens. ScannedUpTo text tokens (at + length)) (sym pushed) more
