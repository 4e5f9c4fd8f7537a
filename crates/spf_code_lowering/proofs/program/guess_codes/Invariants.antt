use Rattle.std.proofs.Common.{ℕ, drop, map}
use Rattle.spf_ast.specs.View.{predictor}
use Rattle.spf_code_lowering.specs.Lowering.{callees_in}
use Rattle.spf_code_lowering.proofs.Parts.{GuessesSoFar}
use Rattle.spf_code_lowering.proofs.program.guess_codes.Given as goal

-- with the codes of the guesses that are left, the codes are those of all
abbrev pub invariant-loop-part : goal.invariant-loop-part
invariant-loop-part l = record {
  codes : (calls : ℕ → ℕ) → GuessesSoFar (callees_in l.scope) calls l.scope.own l.line (map predictor l.predict) (map predictor (drop l.part-index l.predict)) l.codes.items;
}
