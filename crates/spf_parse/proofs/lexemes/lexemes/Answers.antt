use Rattle.std.proofs.Common.{◌≡◌, ◌+◌, ◌≤◌, length, arith, get_or}
use Rattle.std.proofs.lemmas.List.{map-append}
use Rattle.spf_parse_grammar.specs.Lexemes.{line_at, lexeme_of}
use Rattle.spf_parse.proofs.Counting.{order_at, line_more, no_token, mapped}
use Rattle.spf_parse.proofs.lexemes.lexemes.Goals as goal
use Rattle.spf_parse.proofs.lexemes.lexemes.Goals.{After-line_ends-line}

pub slice_bounds-line_ends-end : goal.slice_bounds-line_ends-end
slice_bounds-line_ends-end c =
    let o = order_at c.loop-token.up_to (length c.args.text.now) c.loop-token.token-index c.args.tokens.now no_token c.loop-token-test.true c.loop-token.invariant.order in
    let l : c.loop-token.up_to ≤ (get_or c.args.tokens.now c.loop-token.token-index no_token).from = o.0 in
    let m : (get_or c.args.tokens.now c.loop-token.token-index no_token).from ≤ length c.args.text.now = omega (arith, o.1, o.2) in
    omega (arith, l, m)

pub slice_bounds-push-end : goal.slice_bounds-push-end
slice_bounds-push-end c =
    let o = order_at c.loop-token.up_to (length c.args.text.now) c.loop-token.token-index c.args.tokens.now no_token c.loop-token-test.true c.loop-token.invariant.order in
    omega (arith, o.1, o.2)

-- the line, counted up to the token
now_at : (c : After-line_ends-line) → c.loop-token.line + c.line_ends-line.result ≡ line_at c.args.text.now (get_or c.args.tokens.now c.loop-token.token-index no_token).from
now_at c =
    let o = order_at c.loop-token.up_to (length c.args.text.now) c.loop-token.token-index c.args.tokens.now no_token c.loop-token-test.true c.loop-token.invariant.order in
    omega (arith, c.loop-token.invariant.line, c.line_ends-line.ensures, line_more c.args.text.now c.loop-token.up_to _ o.0)

pub loop-token-preserved : goal.loop-token-preserved
loop-token-preserved c =
    let o = order_at c.loop-token.up_to (length c.args.text.now) c.loop-token.token-index c.args.tokens.now no_token c.loop-token-test.true c.loop-token.invariant.order in
    record {
      line = now_at (goal.at.loop-token-preserved c).After-line_ends-line;
      within = omega (arith, o.1, o.2);
      order = o.3;
      items = rw (c.in_ok-push.ensures.items, map-append, c.loop-token.invariant.items, now_at (goal.at.loop-token-preserved c).After-line_ends-line) (mapped (lexeme_of c.args.text.now) c.args.tokens.now no_token c.loop-token.token-index c.loop-token-test.true);
    }
