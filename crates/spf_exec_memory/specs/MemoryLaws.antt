-- What each memory keeps to.
use Rattle.std.specs.Prelude.{◌≡◌, ℕ, ◌<◌, ◌≤◌, List, [], ◌∷◌, ◌++◌, Option, length}
use Rattle.spf_ast.specs.Event.{Event}
use Rattle.spf_ast.specs.Meaning.{max_output}
use Rattle.spf_exec_memory.specs.declared.memory.Emitted.{Emitted}
use Rattle.spf_exec_memory.specs.declared.memory.Emitted.TheVariants.{Put, Full, NoMemory}

-- the empty list leads from each state to itself, two lists that lead one after the other lead joined, and the stopping number never changes
pub record Laws {M : Type 0} (leads : List Event → M → M → Type 0) (stop : M → Option ℕ) : Type 0 where
  pub empty : (m : M) → leads [] m m
  pub joined : (es fs : List Event) (a b c : M) → leads es a b → leads fs b c → leads (es ++ fs) a c
  pub keeps_stop : (es : List Event) (a b : M) → leads es a b → stop b ≡ stop a

-- the byte was put, or the output was full, or it lacked memory where it may; nothing else happens to the output
abbrev pub IsEmitted : Type 0 → Emitted → ℕ → List ℕ → List ℕ → Type 0
IsEmitted may_lack Put byte before after = (length before < max_output) × (after ≡ before ++ byte ∷ [])
IsEmitted may_lack Full byte before after = (max_output ≤ length before) × (after ≡ before)
IsEmitted may_lack NoMemory byte before after = may_lack × (after ≡ before)
