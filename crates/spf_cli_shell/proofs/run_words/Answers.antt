use Rattle.std.proofs.Common.{◌∙◌, ap}
use Rattle.std.specs.Prelude.{Err}
use Rattle.spf_cli_shell.proofs.run_words.Goals as goal

pub returns-in-Ok-clause-shown : goal.returns-in-Ok-clause-shown
returns-in-Ok-clause-shown g c text a = absurd (c.in_default.ensures text a)

pub returns-in-Ok-clause-not_understood : goal.returns-in-Ok-clause-not_understood
returns-in-Ok-clause-not_understood g c page none = absurd (none.nothing c.in-Ok.ensures.says.0 c.in-Ok.ensures.says.1)

pub returns-in-Ok-clause-answered : goal.returns-in-Ok-clause-answered
returns-in-Ok-clause-answered g c reading page says = c.in-Ok.ensures.answered reading says

pub returns-in-Err-NotUnderstood-clause-shown : goal.returns-in-Err-NotUnderstood-clause-shown
returns-in-Err-NotUnderstood-clause-shown g c text a = absurd (c.in_default.ensures text a)

pub returns-in-Err-NotUnderstood-clause-answered : goal.returns-in-Err-NotUnderstood-clause-answered
returns-in-Err-NotUnderstood-clause-answered g c reading page says =
    absurd ((c.run_command.ensures.nothing (c.in-Err-NotUnderstood.is ∙ ap Err c.in-Err-NotUnderstood.field-0-is)).nothing reading says)

pub returns-in-Err-OutOfMemory-clause-shown : goal.returns-in-Err-OutOfMemory-clause-shown
returns-in-Err-OutOfMemory-clause-shown g c text a = absurd (c.in_default.ensures text a)
