use Rattle.std.proofs.Common.{refl, subst}
use Rattle.spf_ast.specs.View.{program}
use Rattle.spf_check.specs.Verdicts.{IsVerdict}
use Rattle.spf_check.proofs.Examining.{refused-not-accepted}
use Rattle.spf_check.proofs.check.check.Goals as goal

pub returns-in-Ok-Accepted : goal.returns-in-Ok-Accepted
returns-in-Ok-Accepted c =
    let said = subst (IsVerdict (program c.args.program)) c.in-Ok-Accepted.field-0-is c.in-Ok-Accepted.ensures in
    (refl, said.0, λ number k is. c.the_rules_set_free.ensures (program c.args.program) number k c.requires.lawful is (said.0 number k is))

pub returns-in-Ok-Refused : goal.returns-in-Ok-Refused
returns-in-Ok-Refused c =
    let said = subst (IsVerdict (program c.args.program)) c.in-Ok-Refused.field-0-is c.in-Ok-Refused.ensures in
    (refl, refused-not-accepted (program c.args.program) _ _ _ said, said)
