use Rattle.std.proofs.Common.{◌≡◌, ◌+◌, ◌++◌, drop}
use Rattle.std.specs.Prelude.{map}
use Rattle.spf_ast.specs.View.{array}
use Rattle.spf_ast.specs.Program.{sizes, extents_from}
use Rattle.spf_exec_instance.proofs.arrays.extents.Given as goal

-- the extents so far, and those that are left, are all
abbrev pub invariant-loop-array : goal.invariant-loop-array
invariant-loop-array l = record {
  all : l.extents.items ++ extents_from l.len l.base (map array (drop l.array-index l.arrays)) ≡ extents_from l.len 0 (map array l.arrays);
  end : l.base + sizes l.len (map array (drop l.array-index l.arrays)) ≡ sizes l.len (map array l.arrays);
}
