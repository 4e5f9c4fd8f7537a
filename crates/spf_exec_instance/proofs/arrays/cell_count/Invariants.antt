use Rattle.std.proofs.Common.{◌≡◌, ◌+◌, ◌^◌, ◌<◌, drop}
use Rattle.std.specs.Prelude.{map}
use Rattle.spf_ast.specs.View.{array}
use Rattle.spf_ast.specs.Program.{sizes}
use Rattle.spf_exec_instance.specs.RunErrors.{counted}
use Rattle.spf_exec_instance.proofs.arrays.cell_count.Given as goal

-- the count, and what is left, make the whole
abbrev pub invariant-loop-array : goal.invariant-loop-array
invariant-loop-array l = record {
  whole : counted (l.count + sizes l.len (map array (drop l.array-index l.arrays))) ≡ counted (sizes l.len (map array l.arrays));
  small : l.count < 2 ^ 128;
}
