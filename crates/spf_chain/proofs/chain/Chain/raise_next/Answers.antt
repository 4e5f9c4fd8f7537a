use Rattle.std.proofs.Common.{◌∙◌, ap, length}
use Rattle.std.proofs.lemmas.List.{length-set}
use Rattle.spf_cells.specs.Values.{WardenValue}
use Rattle.spf_chain.proofs.Lists.{not-both}
use Rattle.spf_chain.proofs.Raising.{kept-with, to-raise-raisable, to-raise-inside, next-raised, none-next}
use Rattle.spf_chain.proofs.chain.Chain.raise_next.Goals as goal

pub raise-requires-clause-raisable : goal.raise-requires-clause-raisable
raise-requires-clause-raisable c = to-raise-raisable c.prefixes_grow.ensures.real c.self.inside c.args.self.now c.args.real c.self.invariant c.self.view_is c.requires.carried (c.is_next_mispredicted.ensures.0 c.if-not-is_next_mispredicted.false)

pub raise-requires-clause-inside : goal.raise-requires-clause-inside
raise-requires-clause-inside c = to-raise-inside c.self.inside c.args.self.now c.self.invariant c.self.view_is (c.is_next_mispredicted.ensures.0 c.if-not-is_next_mispredicted.false)

pub returns-then-not-is_next_mispredicted : goal.returns-then-not-is_next_mispredicted
returns-then-not-is_next_mispredicted c = none-next c.self.inside c.args.self.now c.args.real c.self.view_is c.requires.carried (λ q. not-both c.is_next_mispredicted.result (c.is_next_mispredicted.ensures.1 q) c.if-not-is_next_mispredicted.true)

pub invariant_of-self : goal.invariant_of-self
invariant_of-self c =
    let is = c.raise.ensures.flag in
    kept-with c.self.inside c.raise.new.self c.self.invariant (ap (λ (w : WardenValue). w.table) is) (ap (λ (w : WardenValue). w.setting) is) (ap (λ (w : WardenValue). w.view.taken) is)
    (ap (λ (w : WardenValue). length w.view.flags) is ∙ length-set c.self.inside.warden.view.flags c.self.inside.validation.count _)

pub returns : goal.returns
returns c = next-raised c.self.inside c.args.self.now c.args.real c.raise.new.self c.self.invariant c.self.view_is c.requires.carried (c.is_next_mispredicted.ensures.0 c.if-not-is_next_mispredicted.false) c.raise.ensures.flag
