use Rattle.std.proofs.Common.{◌∙◌, ap, None, arith, ◌++◌, ◌∷◌, []}
use Rattle.std.specs.Prelude.{replicate}
use Rattle.spf_chain.proofs.Beginning.{replicate-more}
use Rattle.spf_chain.proofs.start.empty_homes.Goals as goal

pub loop-init : goal.loop-init
loop-init c = c.in_ok-homes.ensures.items

pub loop-preserved : goal.loop-preserved
loop-preserved c = c.in_ok-push.ensures.items ∙ ap (λ l. l ++ None ∷ []) c.loop.invariant ∙ replicate-more c.loop.counter None

pub returns : goal.returns
returns c = c.loop.invariant ∙ ap (λ n. replicate n None) (omega (arith, c.loop-test.false, c.loop.auto.counter-end))
