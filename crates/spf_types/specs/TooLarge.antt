-- Where a program passes the limits of the language.
use Rattle.std.specs.Prelude.{ℕ, ◌+◌, Bool, not, ◌&&◌, nat_lt, nat_le, List, [], ◌∷◌, ◌++◌, length, map, drop}
use Rattle.spf_ast.specs.Syntax.{Array, Function, Program}
use Rattle.spf_ast.specs.Size.{block_measure, by_size, by_depth, by_slots, function_sizes, function_depths, function_slots}
use Rattle.spf_types_names.specs.declared.fault.TypeFault.TheVariants.{TooLarge}
use Rattle.spf_types_names.specs.Faults.{Fault, when}

-- an array that is too many
abbrev pub large_array : Array → Fault
large_array a = record { what = TooLarge; line = a.line }

-- the arrays after the 64th
abbrev pub large_arrays : List Array → List Fault
large_arrays arrays = map large_array (drop 64 arrays)

-- the functions from an index on that come after the 256th or have a size over 65,536
abbrev pub large_functions : (ℕ → ℕ) → ℕ → List Function → List Fault
large_functions sizes index [] = []
large_functions sizes index (f ∷ rest) =
    when (not (nat_lt index 256 && nat_le (sizes index) 65536)) TooLarge f.line ++ large_functions sizes (index + 1) rest

-- whether `main` keeps the limits of size, depth and slots
abbrev pub is_main_small : Program → Bool
is_main_small p =
    nat_le (block_measure (by_size (function_sizes p)) p.main) 65536
    && (nat_le (block_measure (by_depth (function_depths p)) p.main) 256
    && nat_le (length p.slots + block_measure (by_slots (function_slots p)) p.main) 1024)

-- where a program passes a limit, in the order of its text; `main` is on this line
abbrev pub limits_passed : ℕ → Program → List Fault
limits_passed main_line p =
    large_arrays p.arrays
    ++ (large_functions (function_sizes p) 0 p.functions ++ when (not (is_main_small p)) TooLarge main_line)
