use Rattle.std.proofs.Common.{◌≡◌, ℕ, length, map}
use Rattle.spf_ast.specs.View.{function}
use Rattle.spf_code_lowering.specs.Lowering.{AreCodesOf}
use Rattle.spf_code_lowering.specs.Tables.{HaveNoTables}
use Rattle.spf_code_lowering.proofs.function.functions.Given as goal

abbrev pub invariant-loop-index : goal.invariant-loop-index
invariant-loop-index l = record {
  count : length l.codes.items ≡ l.index;
  codes : (calls : ℕ → ℕ) → AreCodesOf (map function l.sources) calls l.codes.items;
  tables : HaveNoTables l.codes.items;
}
