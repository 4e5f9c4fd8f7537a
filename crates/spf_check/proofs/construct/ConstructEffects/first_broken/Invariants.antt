use Rattle.std.proofs.Common.{◌≡◌, drop}
use Rattle.spf_check.specs.Breaches.{all_rules, first_broken}
use Rattle.spf_check.proofs.construct.ConstructEffects.first_broken.Given as goal

-- none of the rules before this one is broken
abbrev pub invariant-loop-rule : goal.invariant-loop-rule
invariant-loop-rule l = record {
  rules : l.rule-items ≡ all_rules;
  further : first_broken l.self (drop l.rule-index all_rules) ≡ first_broken l.self all_rules;
}
