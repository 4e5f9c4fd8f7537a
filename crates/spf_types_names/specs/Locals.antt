-- Locals with their slots.
use Rattle.std.specs.Prelude.{◌≡◌, ℕ, Bool, false, if◌then◌else◌, List, [], ◌∷◌, Option, Some, None}
use Rattle.std.specs.Str.{bytes_eq}
use Rattle.spf_types_names.specs.declared.locals.Binding.{Binding}

-- a local that may be used: its name, its slot, and whether it may not be assigned
pub record Local : Type 0 where
  pub name : List ℕ
  pub slot : ℕ
  pub fixed : Bool

-- the locals that may be used, the last one that was declared first, and the names of all slots so far
pub record Seen : Type 0 where
  pub locals : List Local
  pub slots : List (List ℕ)

-- the local of a name
abbrev pub binding_of : List Local → List ℕ → Option Binding
binding_of [] x = None
binding_of (l ∷ ls) x = if bytes_eq l.name x then Some (record { slot = l.slot; fixed = l.fixed }) else binding_of ls x

-- none of these names is that of a local or of another of them
abbrev pub AreNew : List Local → List (List ℕ) → Type 0
AreNew ls [] = Unit {0}
AreNew ls (x ∷ xs) = (binding_of ls x ≡ None) × AreNew (record { name = x; slot = 0; fixed = false } ∷ ls) xs
