-- The names of arrays and functions, which are visible in the whole program.
use Rattle.std.specs.Prelude.{ℕ, Bool, false, nat_eq, List, length, map, Option, Some, None, slice_index_or}
use Rattle.std.specs.Option.{option_map}
use Rattle.spf_ast.specs.Syntax.{Array}
use Rattle.spf_ast.specs.RawSyntax.{RawFunction}
use Rattle.spf_types_names.specs.declared.globals.Outer.{Outer}
use Rattle.spf_types_names.specs.declared.globals.Outer.TheVariants as outer
use Rattle.spf_types_names.specs.Names.{index_in}

-- the names of the arrays, the names of the functions, and how many parameters each function has
pub record Globals : Type 0 where
  pub arrays : List (List ℕ)
  pub functions : List (List ℕ)
  pub params : List ℕ

-- those of these arrays and functions
abbrev pub globals_of : List Array → List RawFunction → Globals
globals_of arrays functions = record {
  arrays = map (λ (a : Array). a.name) arrays;
  functions = map (λ (f : RawFunction). f.name) functions;
  params = map (λ (f : RawFunction). length f.params) functions;
}

-- the first of two that is there
abbrev pub either : {A : Type 0} → Option A → Option A → Option A
either (Some a) other = Some a
either None other = other

-- what a name stands for: the first array or function that has it
abbrev pub global_named : Globals → List ℕ → Option Outer
global_named g x = either (option_map outer.Array (index_in g.arrays x)) (option_map outer.Function (index_in g.functions x))

-- how many parameters the function at an index has
abbrev pub params_of : Globals → ℕ → ℕ
params_of g index = slice_index_or g.params index 0

-- whether a name stands for the array, or the function, at an index
abbrev pub is_array_at : Option Outer → ℕ → Bool
is_array_at (Some (outer.Array n)) index = nat_eq n index
is_array_at _ index = false

abbrev pub is_function_at : Option Outer → ℕ → Bool
is_function_at (Some (outer.Function n)) index = nat_eq n index
is_function_at _ index = false
