-- What contracts see of sizes that are counted.
use Rattle.std.specs.Prelude.{◌≡◌, ℕ, ◌+◌, ◌-◌, ◌^◌, min, max, List, length, slice_index_or}
use Rattle.spf_ast.specs.Syntax.{Function}
use Rattle.spf_ast.specs.Size.{Measure, by_size, by_depth, by_slots, function_measure, counted_before}
use Rattle.spf_types_size.specs.declared.size.Size.{Size}

-- a count that saturates at the largest number of 64 bits
abbrev pub capped : ℕ → ℕ
capped n = min n (2 ^ 64 - 1)

-- the size of two forms beside each other
pub record IsBeside (one other both : Size) : Type 0 where
  pub nodes : both.nodes ≡ capped (one.nodes + other.nodes)
  pub depth : both.depth ≡ max one.depth other.depth
  pub slots : both.slots ≡ max one.slots other.slots

-- the size of a form around others
pub record IsWithin (inner outer : Size) : Type 0 where
  pub nodes : outer.nodes ≡ capped (1 + inner.nodes)
  pub depth : outer.depth ≡ capped (1 + inner.depth)
  pub slots : outer.slots ≡ inner.slots

-- the size of a form with `nodes` statements and expressions, nested `depth` deep, and `slots` slots
pub record IsSize (size : Size) (nodes depth slots : ℕ) : Type 0 where
  pub nodes_is : size.nodes ≡ capped nodes
  pub depth_is : size.depth ≡ capped depth
  pub slots_is : size.slots ≡ capped slots

-- what functions count by their number
pub record Counts : Type 0 where
  pub nodes : ℕ → ℕ
  pub depth : ℕ → ℕ
  pub slots : ℕ → ℕ

-- what the functions before an index count
abbrev pub counts_before : List Function → ℕ → Counts
counts_before functions index = record {
  nodes = counted_before functions (λ sizes f. function_measure (by_size sizes) f) index;
  depth = counted_before functions (λ depths f. function_measure (by_depth depths) f) index;
  slots = counted_before functions (λ slots f. length f.slots + function_measure (by_slots slots) f) index;
}

-- what all functions count
abbrev pub all_counts : List Function → Counts
all_counts functions = counts_before functions (length functions)

-- a form has this size where functions count so
abbrev pub HasSize : Counts → (Measure → ℕ) → Size → Type 0
HasSize counts measure size =
    IsSize size (measure (by_size counts.nodes)) (measure (by_depth counts.depth)) (measure (by_slots counts.slots))

-- the list has the size of each function; one that it doesn't have counts nothing
abbrev pub IsTable : Counts → List Size → Type 0
IsTable counts sizes =
    (f : ℕ) → IsSize (slice_index_or sizes f (record { nodes = 0; depth = 0; slots = 0 })) (counts.nodes f) (counts.depth f) (counts.slots f)
