use Rattle.std.proofs.Common.{sym, subst}
use Rattle.std.proofs.lemmas.Result.{IfOk-weaker}
use Rattle.spf_check.specs.Accepting.{IsAccepted}
use Rattle.spf_apps.proofs.decoders.lexer.Goals as goal

pub returns-clause-accepted : goal.returns-clause-accepted
returns-clause-accepted c =
    IfOk-weaker c.lexer.result _ _ (λ p e. subst IsAccepted (sym e) (c.decoders_are_accepted.ensures.lexer c.args.block c.args.states c.args.classes (c.requires.some, c.requires.few) (c.requires.some_states, c.requires.few_states) (c.requires.some_classes, c.requires.few_classes))) c.lexer.ensures.program
