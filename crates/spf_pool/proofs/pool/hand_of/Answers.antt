use Rattle.std.proofs.Common.{ℕ, ◌∙◌, sym, subst, List, set}
use Rattle.spf_pool.specs.Ends.{EndValue}
use Rattle.spf_pool.specs.Hand.{AreHandEnds}
use Rattle.spf_pool.proofs.Hands.{seen_by}
use Rattle.spf_pool.proofs.Made.{new_ends, new_seen}
use Rattle.spf_pool.proofs.pool.hand_of.Goals as goal

pub invariant_of-result : goal.invariant_of-result
invariant_of-result g c =
    let ends : List (EndValue g.row.K.Denot) = c.args.ends.items in
    subst (λ (k : g.row.K.Denot × ℕ). AreHandEnds k.0 c.args.own 0 k.1 (set ends c.args.own c.args.owner)) (λ t. (sym c.again.ensures t, sym c.capacity-capacity.ensures t))
    (new_ends c.args.key.now.value c.args.own ends c.args.owner c.requires.ends c.requires.owner c.requires.size.0 c.requires.size.1 c.requires.size.2)

pub returns : goal.returns
returns g c =
    let ends : List (EndValue g.row.K.Denot) = c.args.ends.items in
    (λ t. seen_by (c.again.ensures t) c.args.own (c.capacity-capacity.ensures t) (set ends c.args.own c.args.owner)) ∙ new_seen c.args.key.now.value c.args.own ends c.args.owner c.requires.ends c.requires.owner c.requires.size.0 c.requires.same
