use Rattle.std.proofs.Common.{◌≡◌, ◌≤◌, subst, Some, None, slice_get}
use Rattle.spf_chain.specs.Chains.{HasRaised}
use Rattle.spf_chain.proofs.Raising.{kept-raised, rest-raised}
use Rattle.spf_chain.proofs.chain.Chain.raise_rest.Goals as goal

pub invariant_of-self : goal.invariant_of-self
invariant_of-self c = kept-raised _ c.self.inside c.raise_out.new.warden c.self.invariant c.raise_out.ensures

pub returns : goal.returns
returns c =
    rest-raised c.self.inside c.args.self.now c.raise_out.new.warden c.self.invariant c.self.view_is c.requires.trapped
    (subst (λ l. HasRaised (λ n. (c.self.inside.validation.count ≤ n) × (slice_get l n ≡ Some None)) c.self.inside.warden c.raise_out.new.warden) c.deref.ensures.value c.raise_out.ensures)
