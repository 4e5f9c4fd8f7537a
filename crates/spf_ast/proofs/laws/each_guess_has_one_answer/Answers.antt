use Rattle.spf_ast.specs.BlockRun.{guess_asks}
use Rattle.spf_ast.proofs.Unshared.{one_unshared_answer}
use Rattle.spf_ast.proofs.laws.each_guess_has_one_answer.Goals as goal

pub returns : goal.returns
returns c = record { guesses = λ p construct index input slots number memory. one_unshared_answer (guess_asks p construct index input slots number) memory }
