use Rattle.std.proofs.Common.{◌++◌, ℕ, sym, ap, ◌∙◌, subst}
use Rattle.spf_ast.specs.Carried.{Carried}
use Rattle.spf_ast.specs.Lawful.{IsLawful}
use Rattle.spf_exec.specs.declared.stop.Stop.{Stop}
use Rattle.spf_cells.specs.Log.{events}
use Rattle.spf_speculation_entry.specs.Attempts.{attempted}
use Rattle.spf_speculation_entry.specs.Sites.{AreMadeFor}
use Rattle.spf_ticket.specs.Tickets.{EndsAs, Ran}
use Rattle.spf_tests_runtime.specs.CountingFold.{counting_entry}
use Rattle.spf_tests_runtime.proofs.CountingFold.{counting_lawful, counting_is_entry, counting_made, five}
use Rattle.spf_tests_runtime.proofs.counting.attempt.Goals as goal

pub run-requires-clause-lawful : goal.run-requires-clause-lawful
run-requires-clause-lawful c = subst IsLawful (sym c.requires.program) counting_lawful

pub returns-clause-turns : goal.returns-clause-turns
returns-clause-turns c value at attempt carried ended =
    let ran : Ran counting_entry c.args.ticket c.run.result =
    c.run.ensures.ran counting_entry (counting_is_entry c.the_rules_set_free.ensures) (subst (AreMadeFor counting_entry) (sym c.requires.setting) counting_made)
    (record { program = c.requires.program; input = c.requires.input; same_construct = c.requires.construct; memory = c.requires.entry }) at in
    ran.grown ∙ ap (λ l. events c.args.ticket.lane.log ++ l) (five ran.log value
    (subst (λ (x : ((ℕ × Carried) × ℕ) × Stop). EndsAs (attempted counting_entry x.0.0.0 x.0.0.1 x.0.1 ran.log) x.1) (λ t. (((c.requires.block t, carried t), attempt t), ended t)) ran.stopped))
