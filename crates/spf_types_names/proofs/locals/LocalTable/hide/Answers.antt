use Rattle.std.proofs.Common.{None}
use Rattle.spf_types_names.specs.declared.locals.Binding.{Binding}
use Rattle.spf_types_names.proofs.Tables.{without_last, changed}
use Rattle.spf_types_names.proofs.locals.LocalTable.hide.Goals as goal

pub invariant_of-self : goal.invariant_of-self
invariant_of-self c =
    without_last c.self.inside _ c.in-Some.local (c.in-Some.ensures {u = tt}).items (λ q. changed {X = Binding} c.self.inside.table c.remove.new.self c.in-Some.local.name None c.remove.ensures.updates q) c.self.invariant
