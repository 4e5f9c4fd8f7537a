use Rattle.std.proofs.Common.{◌∙◌, ap}
use Rattle.spf_types_names.specs.declared.locals.Binding.{Binding}
use Rattle.spf_types_names.specs.Locals.{binding_of}
use Rattle.spf_types_names.specs.LocalsView.{seen_locals}
use Rattle.spf_ast.specs.View.{name}
use Rattle.spf_types_names.proofs.Tables.{with_one, changed}
use Rattle.spf_types_names.proofs.locals.LocalTable.show.Goals as goal

pub invariant_of-self-in-Ok : goal.invariant_of-self-in-Ok
invariant_of-self-in-Ok c =
    with_one c.self.inside _ (record { name = c.deref-name.result; binding = record { slot = c.args.slot; fixed = c.args.fixed } }) (c.in_ok-push.ensures {u = tt}).items (ap (binding_of (seen_locals c.self.inside).locals) c.deref-name.ensures.value ∙ ap (λ s. binding_of s.locals (name c.args.name.now)) c.self.view_is ∙ c.requires) (λ q. changed {X = Binding} c.self.inside.table c.insert.new.self c.deref-name.result _ (c.in-Ok.ensures {u = tt}).updates q) c.self.invariant
