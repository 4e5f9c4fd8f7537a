-- That a part of a top construct does no more than is found in it.
use Rattle.std.specs.Prelude.{◌≡◌, ℕ, ◌+◌, ◌<◌, true, List, [], length, slice_get, Some, slice_index_or, ℤ, pos}
use Rattle.std.specs.List.{Contains}
use Rattle.spf_ast.specs.declared.syntax.Part.{Part}
use Rattle.spf_ast.specs.Syntax.{Program}
use Rattle.spf_ast.specs.Lawful.{IsLawful}
use Rattle.spf_ast.specs.Carried.{Carried}
use Rattle.spf_ast.specs.Interaction.{Ending, Value, Trapped}
use Rattle.spf_ast.specs.Construct.{Construct, constructs_in}
use Rattle.spf_ast.specs.Program.{extents_of}
use Rattle.spf_region.specs.declared.range.Range.{Range}
use Rattle.spf_region.specs.Ranges.{Offsets}
use Rattle.spf_region.specs.Cells.{Extent, at_block, cells_at}
use Rattle.spf_effects_findings.specs.Parts.{part_effects}
use Rattle.spf_effects_laws.specs.Ways.{Keeps}
use Rattle.spf_ast.specs.BlockRun.{Setup, IsSetup, part_asks}

-- the cell is one of these ranges at the block of the setup
abbrev pub IsAmong : Program → Setup → List Range → ℕ → Type 0
IsAmong p s list cell = cells_at (extents_of p (length s.input)) s.number list cell ≡ true

-- each element at one of these offsets at block k, where its array has it, has been stored
abbrev pub AreStored : List Extent → ℤ → Offsets → List ℕ → Type 0
AreStored extents k written stored =
    (array index : ℕ) (factor offset : ℤ) →
    written array factor offset ≡ true → pos index ≡ at_block k factor offset → index < (slice_index_or extents array (0, 0)).1 →
    Contains stored ((slice_index_or extents array (0, 0)).0 + index)

-- at an end with a value all that is surely written has been stored
abbrev pub HasStored : Program → Construct → Part → Setup → Ending Carried → List ℕ → Type 0
HasStored p construct part s (Value value state) stored =
    AreStored (extents_of p (length s.input)) s.number (part_effects p construct part).must stored
HasStored p construct part s (Trapped trap output) stored = Unit {0}

-- the part stores only what it may write, loads only what is read uncovered or what it has stored, and at its end has stored what is surely written
abbrev pub KeepsToItsEffects : Program → Construct → Part → Setup → Type 0
KeepsToItsEffects p construct part s =
    Keeps (IsAmong p s (part_effects p construct part).may) (IsAmong p s (part_effects p construct part).uncovered)
    (HasStored p construct part s) [] (part_asks p construct part s)

-- in a lawful program each part of each top construct does so, from any slots, at any block number and with any carried row
abbrev pub PartsKeepToTheirEffects : Type 0
PartsKeepToTheirEffects =
    (p : Program) (n : ℕ) (construct : Construct) (part : Part) (s : Setup) → IsLawful p
    → slice_get (constructs_in p.main) n ≡ Some construct → IsSetup p s → KeepsToItsEffects p construct part s
