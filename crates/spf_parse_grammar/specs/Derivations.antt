-- Derivations of any depth.
use Rattle.std.specs.Prelude.{ℕ}
use Rattle.spf_parse_grammar.specs.Parts.{Part, Value, Rule}
use Rattle.spf_parse_grammar.specs.Reading.{Relation, reads, says}

-- what a part says, by a derivation of any depth
abbrev pub Says : (free : ℕ) → (p : Part) → Relation (Value p)
Says free p ts x us = (depth : ℕ) × says depth free p ts x us

-- what a rule says
abbrev pub Reading : (free : ℕ) → {A : Type 0} → Rule A → Relation A
Reading free r = reads (Says free) r
