use Rattle.std.proofs.Common.{◌≡◌, length, ℕ, List, ℤ}
use Rattle.spf_cells.specs.Values.{CellsValue}
use Rattle.spf_speculation_entry.specs.Entry.{Entry, IsEntry}
use Rattle.spf_ast.specs.declared.outcome.Trap.{Trap}
use Rattle.spf_chain.specs.declared.block.Settled.TheVariants.{Trapped}
use Rattle.spf_chain.specs.Homes.{AreHomes}
use Rattle.spf_chain.specs.Standing.{IsValidationOf, GrowsTo}
use Rattle.spf_chain.proofs.validation.Validation.advance.Given as goal

-- the blocks so far are validated
abbrev pub invariant-loop-block : goal.invariant-loop-block
invariant-loop-block l = record {
  stands : (e : Entry) (guess : ℕ → List ℤ) (c : CellsValue) → IsEntry e → AreHomes e guess c l.homes → IsValidationOf e guess l.homes l.initial.self → IsValidationOf e guess l.homes l.self;
  count : l.self.count ≡ l.block;
  size : length l.self.blocks.items ≡ length l.homes;
  trapped : (t : Trap) → l.initial.self.settled ≡ Trapped t → l.self ≡ l.initial.self;
  stays : l.self.count ≡ l.initial.self.count → l.self.settled ≡ l.initial.self.settled;
  grown : GrowsTo l.initial.self l.self;
}
