use Rattle.std.proofs.Common.{sym, subst}
use Rattle.std.proofs.lemmas.Result.{IfOk-weaker}
use Rattle.spf_check.specs.Accepting.{IsAccepted}
use Rattle.spf_apps.proofs.decoders.huffman.Goals as goal

pub returns-clause-accepted : goal.returns-clause-accepted
returns-clause-accepted c =
    IfOk-weaker c.huffman.result _ _ (λ p e. subst IsAccepted (sym e) (c.decoders_are_accepted.ensures.huffman c.args.block (c.requires.some, c.requires.few))) c.huffman.ensures.program
