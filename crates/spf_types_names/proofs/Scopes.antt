-- Locals with their slots, and scopes of names.
use Rattle.std.proofs.Common.{◌≡◌, ℕ, Bool, true, false, cond, List, [], ◌∷◌, Option, Some, None, is_some, refl, ap, ◌∙◌}
use Rattle.std.specs.Option.{option_map}
use Rattle.std.specs.Str.{bytes_eq}
use Rattle.spf_types_names.specs.declared.locals.Binding.{Binding}
use Rattle.spf_types_names.specs.Locals.{Local, binding_of}
use Rattle.spf_types_names.specs.Faults.{local_named}
use Rattle.spf_types_names.specs.Resolved.{scope}

chosen : (b : Bool) (l : Local) (o : Option Binding) (p : Option Bool) → p ≡ option_map (λ (k : Binding). k.fixed) o → cond b (Some l.fixed) p ≡ option_map (λ (k : Binding). k.fixed) (cond b (Some (record { slot = l.slot; fixed = l.fixed })) o)
chosen true l o p e = refl
chosen false l o p e = e

-- what a scope says of a name is what the locals say
pub local_named_is : (ls : List Local) (x : List ℕ) → local_named (scope ls) x ≡ option_map (λ (k : Binding). k.fixed) (binding_of ls x)
local_named_is [] x = refl
local_named_is (l ∷ ls) x = chosen (bytes_eq l.name x) l (binding_of ls x) (local_named (scope ls) x) (local_named_is ls x)

is_some_map : {A B : Type 0} (f : A → B) (o : Option A) → is_some (option_map f o) ≡ is_some o
is_some_map f (Some x) = refl
is_some_map f None = refl

pub is_local_is : (ls : List Local) (x : List ℕ) → is_some (local_named (scope ls) x) ≡ is_some (binding_of ls x)
is_local_is ls x = ap is_some (local_named_is ls x) ∙ is_some_map (λ (k : Binding). k.fixed) (binding_of ls x)

pub ruleset scopes = (local_named_is, is_local_is)
