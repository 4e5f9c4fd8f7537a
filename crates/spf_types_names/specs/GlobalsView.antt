-- What contracts see of the code's table of arrays and functions.
use Rattle.std.specs.Prelude.{◌≡◌, ℕ, List, map}
use denote.Ref.{Bor}
use Rattle.spf_ast.specs.View.{array}
use Rattle.spf_ast.specs.RawView.{raw_function}
use Rattle.spf_types_names.specs.declared.globals.GlobalTable.TheInside.{Inside}
use Rattle.spf_types_names.specs.Found.{found}
use Rattle.spf_types_names.specs.Globals.{Globals, globals_of, global_named}

-- the arrays and functions
abbrev pub seen_globals : Inside → Globals
seen_globals t = globals_of (map array t.arrays.now) (map raw_function t.functions.now)

-- the table has what each name stands for
abbrev pub IsGlobalTable : Inside → Type 0
IsGlobalTable t = (q : Bor (List ℕ)) → found t.table q ≡ global_named (seen_globals t) q.now
