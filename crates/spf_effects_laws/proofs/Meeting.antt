-- The cells of ranges at a block, and that a form does no more than is found in it.
use Rattle.std.specs.Prelude.{◌≡◌, ◌⊎◌, ℕ, ◌+◌, ◌<◌, true, List, [], ◌∷◌, length, ℤ, pos, ◌+ℤ◌, ◌≤ℤ◌, slice_index_or, slice_index}
use Rattle.spf_ast.specs.Interaction.{Interaction, Flow, Onward, Broken, State, Ending, Value, Trapped}
use Rattle.spf_ast.specs.Meaning.{Environment, Extent, extent_in}
use Rattle.spf_ast.specs.Lawful.{Names, IsCallable}
use Rattle.spf_region.specs.declared.bound.Bound.{Bound}
use Rattle.spf_region.specs.declared.bound.Bound.TheVariants.{Known, Unknown}
use Rattle.spf_region.specs.declared.range.Range.{Range}
use Rattle.spf_region.specs.declared.range.Range.TheVariants.{Whole, Affine}
use Rattle.spf_region.specs.Ranges.{Offsets}
use Rattle.spf_region.specs.Cells.{at_block}
use Rattle.spf_effects_findings.specs.Found.{Finds, Sweep}
use Rattle.spf_effects_findings.specs.Forms.{Setting}
use Rattle.spf_effects_laws.specs.Ways.{Keeps}
use Rattle.spf_effects_laws.proofs.Ways.{IsIn}

-- a value lies within its bound at block k
abbrev pub IsWithin : ℤ → Bound → ℤ → Type 0
IsWithin k Unknown v = Unit {0}
IsWithin k (Known a l h) v = (at_block k a l ≤ℤ v) × (v ≤ℤ at_block k a h)

-- the bound of a slot
abbrev pub bound_at : List Bound → ℕ → Bound
bound_at bounds slot = slice_index_or bounds slot Unknown

-- ---- cells

-- the cell is that of an element of the array
pub record IsElement (extent : Extent) (cell index : ℕ) : Type 0 where
  pub inside : index < extent.1
  pub is : cell ≡ extent.0 + index

abbrev pub IsCellOf : List Extent → ℤ → Range → ℕ → Type 0
IsCellOf g k (Whole a) cell = (index : ℕ) × IsElement (extent_in g a) cell index
IsCellOf g k (Affine a f from to) cell =
    (index : ℕ) × IsElement (extent_in g a) cell index × (at_block k f from ≤ℤ pos index) × (pos index ≤ℤ at_block k f to)

abbrev pub IsAmong : List Extent → ℤ → List Range → ℕ → Type 0
IsAmong g k [] cell = ⊥
IsAmong g k (r ∷ rest) cell = IsCellOf g k r cell ⊎ IsAmong g k rest cell

-- each cell of the written offsets is among the stored ones
abbrev pub AreStored : List Extent → ℤ → Offsets → List ℕ → Type 0
AreStored g k w done =
    (array : ℕ) (factor offset : ℤ) (cell index : ℕ) → w array factor offset ≡ true → IsElement (extent_in g array) cell index → pos index ≡ at_block k factor offset → IsIn cell done

-- ---- what is found

-- an end with a value
abbrev pub EndsWith : {A : Type 0} → List Extent → ℤ → Offsets → (A → State → List ℕ → Type 0) → Ending A → List ℕ → Type 0
EndsWith g k w post (Value a s) done = AreStored g k w done × post a s done
EndsWith g k w post (Trapped t out) done = Unit {0}

-- from what is written, the tree does no more than is found
pub record Meets {A : Type 0} (g : List Extent) (k : ℤ) (finds : Finds) (post : A → State → List ℕ → Type 0) (t : Interaction (Ending A)) : Type 0 where
  pub holds : (w : Offsets) (done : List ℕ) → AreStored g k w done → Keeps (IsAmong g k (finds w).may) (IsAmong g k (finds w).uncovered) (EndsWith g k (finds w).written post) done t

-- an end of a statement: where it goes on, all that is surely written is stored; where it broke off, or trapped, that
-- isn't required
abbrev pub LeavesWith : List Extent → ℤ → Offsets → (onward broken : State → List ℕ → Type 0) → Ending Flow → List ℕ → Type 0
LeavesWith g k w onward broken (Value Onward s) done = AreStored g k w done × onward s done
LeavesWith g k w onward broken (Value Broken s) done = broken s done
LeavesWith g k w onward broken (Trapped t out) done = Unit {0}

-- from what is written, the statement does no more than is found, and is left so
pub record Leaves (g : List Extent) (k : ℤ) (finds : Finds) (onward broken : State → List ℕ → Type 0) (t : Interaction (Ending Flow)) : Type 0 where
  pub holds : (w : Offsets) (done : List ℕ) → AreStored g k w done → Keeps (IsAmong g k (finds w).may) (IsAmong g k (finds w).uncovered) (LeavesWith g k (finds w).written onward broken) done t

-- each slot holds a value within its bound
abbrev pub AreWithin : ℤ → List Bound → List ℤ → Type 0
AreWithin k env slots = (x : ℕ) → IsWithin k (bound_at env x) (slice_index_or slots x (pos 0))

-- each value lies within its bound
abbrev pub EachWithin : ℤ → List Bound → List ℤ → Type 0
EachWithin k [] [] = Unit {0}
EachWithin k [] (z ∷ values) = ⊥
EachWithin k (b ∷ bounds) [] = ⊥
EachWithin k (b ∷ bounds) (z ∷ values) = IsWithin k b z × EachWithin k bounds values

-- the input is bytes; a call that may be named is made, does no more than is found in it, and gives a value within its bound
pub record IsKnown (g : Environment) (v : Setting) (k : ℤ) (names : Names) : Type 0 where
  pub bytes : (i : ℕ) → i < length g.input → slice_index g.input i < 256
  pub called : (f : ℕ) (bounds : List Bound) (values : List ℤ) (s : State) → IsCallable names f (length bounds) → EachWithin k bounds values → Meets g.extents k (v.call f bounds).finds (λ z e d. (e.slots ≡ s.slots) × IsWithin k (v.call f bounds).bound z) (g.call f values s)
  pub callable : (f count : ℕ) → IsCallable names f count → g.callable f count ≡ true

-- each store of the form of a sweep has been made for the number z of the loop's name
abbrev pub AreSwept : List Extent → List Sweep → ℤ → List ℕ → Type 0
AreSwept g [] z d = Unit {0}
AreSwept g (s ∷ rest) z d =
    ((cell index : ℕ) → IsElement (extent_in g s.array) cell index → pos index ≡ z +ℤ s.distance → IsIn cell d) × AreSwept g rest z d
