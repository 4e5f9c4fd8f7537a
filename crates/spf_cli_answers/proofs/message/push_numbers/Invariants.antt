use Rattle.std.proofs.Common.{◌≡◌, ◌++◌, drop}
use Rattle.spf_cli_answers.specs.Message.{numbers}
use Rattle.spf_cli_answers.proofs.message.push_numbers.Given as goal

-- the line with what is left to add
abbrev pub invariant-loop-word : goal.invariant-loop-word
invariant-loop-word l = l.line.items ++ numbers (drop l.word-index l.words) ≡ l.initial.line.items ++ numbers l.words
