use Rattle.std.proofs.Common.{Err, ap, ◌∙◌}
use Rattle.spf_exec.specs.Pieces.{header_result}
use Rattle.spf_exec_memory.proofs.Outcome.{trapped_outcome}
use Rattle.spf_exec.proofs.pieces.fold_header.Goals as goal

pub returns-in-Ok-clause-answer : goal.returns-in-Ok-clause-answer
returns-in-Ok-clause-answer c = c.in-Ok.ensures.outcome.0

pub returns-in-Err-Trapped-clause-answer : goal.returns-in-Err-Trapped-clause-answer
returns-in-Err-Trapped-clause-answer c =
    (trapped_outcome _ _ _ _ (ap header_result (c.in-Err-Trapped.is ∙ ap Err c.in-Err-Trapped.field-0-is)) c.header_quietly.ensures.outcome).0
