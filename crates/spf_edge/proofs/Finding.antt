-- A look-up among files in memory.
use Rattle.std.proofs.Common.{◌≡◌, ℕ, List, [], ◌∷◌, refl, string_bytes, String, Vec, option_map, arith}
use Rattle.std.specs.Prelude.{bytes_eq, find}
use Rattle.std.specs.declared.alloc.Global.{Global}
use Rattle.spf_edge.specs.Entries.{lookup}
use Rattle.spf_edge.specs.Memory.{entries_of}

-- the look-up finds the content of the first pair with that name
pub lookup_entries_of : (held : List (String Global × Vec ℕ Global)) (name : List ℕ) → lookup (entries_of held) name ≡ option_map (λ pair. pair.1.items) (find (λ pair. bytes_eq (string_bytes pair.0) name) held)
lookup_entries_of [] name = refl
lookup_entries_of (pair ∷ held) name = grind (arith, lookup_entries_of held name)
