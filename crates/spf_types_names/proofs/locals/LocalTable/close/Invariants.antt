use Rattle.std.proofs.Common.{◌≡◌, ◌≤◌, ◌-◌, length, drop, min}
use Rattle.spf_types_names.proofs.locals.LocalTable.close.Given as goal

abbrev pub invariant-loop-self : goal.invariant-loop-self
invariant-loop-self l = record {
  left : l.self.locals ≡ drop (length l.initial.self.locals - length l.self.locals) l.initial.self.locals;
  most : length l.self.locals ≤ length l.initial.self.locals;
  least : min l.count (length l.initial.self.locals) ≤ length l.self.locals;
  slots : l.self.slots ≡ l.initial.self.slots;
}

abbrev pub decreases-loop-self : goal.decreases-loop-self
decreases-loop-self l = length l.self.locals
