use Rattle.std.proofs.Common.{arith}
use Rattle.std.proofs.Math.ListN.{length-map}
use Rattle.std.specs.Prelude.{map}
use Rattle.spf_ast.specs.View.{function}
use Rattle.spf_effects_walk.proofs.Calls.{call_beyond, call_absent, some_at}
use Rattle.spf_effects_walk.proofs.context.callee.Goals as goal

pub returns-then-index-below : goal.returns-then-index-below
returns-then-index-below c = λ given. call_beyond (map function c.args.functions.now) c.args.index c.args.below given c.if-index-below.true

pub returns-then-index-functions : goal.returns-then-index-functions
returns-then-index-functions c = λ given.
    call_absent (map function c.args.functions.now) c.args.index c.args.below given c.if-index-below.false
    (omega (arith, length-map c.args.functions.now function, c.if-index-functions.true))

pub returns : goal.returns
returns c = (c.if-index-below.false, some_at function c.args.functions.now c.args.index c.index-functions-index.result c.if-index-functions.false c.index-functions-index.is)
