-- The seven rules for a top construct, over the effects of its parts.
use Rattle.std.specs.Prelude.{◌≡◌, ◌≢◌, ℕ, true, false, List, ℤ, pos}
use Rattle.spf_ast.specs.declared.syntax.Part.{Part}
use Rattle.spf_ast.specs.declared.syntax.Part.TheVariants.{Body, Producer, Consumer, Predictor}
use Rattle.spf_ast.specs.Syntax.{Program}
use Rattle.spf_ast.specs.Construct.{Construct, fold, pair}
use Rattle.spf_region.specs.declared.range.Range.{Range}
use Rattle.spf_region.specs.Ranges.{offsets_of, wholes_of}
use Rattle.spf_region.specs.Laws.{HasEntry, AreSeparate}
use Rattle.spf_effects_findings.specs.Parts.{part_effects}

-- the parts that are run as blocks; a predictor isn't
abbrev pub IsBlockPart : Part → Type 0
IsBlockPart Body = Unit {0}
IsBlockPart Producer = Unit {0}
IsBlockPart Consumer = Unit {0}
IsBlockPart Predictor = ⊥

-- the part whose blocks begin from a guess, and may run again from the real value: a fold's body, a pair's consumer
abbrev pub guessed_part : Construct → Part
guessed_part (fold line head body) = Body
guessed_part (pair line head producer consumer) = Consumer

-- what a part may write, and what it reads before it has surely written it
abbrev pub may_write : Program → Construct → Part → List Range
may_write p construct part = (part_effects p construct part).may

abbrev pub reads_bare : Program → Construct → Part → List Range
reads_bare p construct part = (part_effects p construct part).uncovered

-- some range is of this array
abbrev pub HasArray : List Range → ℕ → Type 0
HasArray list array = HasEntry (offsets_of list) (wholes_of list) array

-- the array is written by the construct: a block part may write in it
pub record IsWritten (p : Program) (construct : Construct) (array : ℕ) : Type 0 where
  pub part : Part
  pub is_block_part : IsBlockPart part
  pub entry : HasArray (may_write p construct part) array

-- no array that either list has as a whole is in the other, and their offsets in one array have factor 0 and differ
pub record ShareNothing (one other : List Range) : Type 0 where
  pub no_whole : (array : ℕ) → wholes_of one array ≡ true → HasArray other array → ⊥
  pub no_other_whole : (array : ℕ) → HasArray one array → wholes_of other array ≡ true → ⊥
  pub differ : (array : ℕ) (f g o q : ℤ) → offsets_of one array f o ≡ true → offsets_of other array g q ≡ true → (f ≡ pos 0) × (g ≡ pos 0) × (o ≢ q)

-- ---- the rules

-- outer-assign: no block part assigns a local that is declared outside of it
abbrev pub AssignsNoOuter : Program → Construct → Type 0
AssignsNoOuter p construct = (part : Part) → IsBlockPart part → (part_effects p construct part).assigns_outer ≡ false

-- emit-inside: no block part emits
abbrev pub EmitsNothing : Program → Construct → Type 0
EmitsNothing p construct = (part : Part) → IsBlockPart part → (part_effects p construct part).emits ≡ false

-- predictor-writes: the predictor writes nothing
abbrev pub PredictorWritesNothing : Program → Construct → Type 0
PredictorWritesNothing p construct = (array : ℕ) → HasArray (may_write p construct Predictor) array → ⊥

-- overlap: no two blocks write the same cells, and a pair's consumer writes nothing that its producer reads or writes
abbrev pub WritesApart : Program → Construct → Type 0
WritesApart p (fold line head body) =
    AreSeparate (offsets_of (may_write p (fold line head body) Body)) (wholes_of (may_write p (fold line head body) Body))
WritesApart p (pair line head producer consumer) =
    ShareNothing (may_write p (pair line head producer consumer) Consumer) (reads_bare p (pair line head producer consumer) Producer)
    × ShareNothing (may_write p (pair line head producer consumer) Consumer) (may_write p (pair line head producer consumer) Producer)

-- predictor-reads: the predictor reads no written array
abbrev pub PredictorReadsUnwritten : Program → Construct → Type 0
PredictorReadsUnwritten p construct = (array : ℕ) → HasArray (reads_bare p construct Predictor) array → IsWritten p construct array → ⊥

-- read-before-write: the guessed part reads nothing of a written array that it hasn't surely written before
abbrev pub ReadsAfterWriting : Program → Construct → Type 0
ReadsAfterWriting p construct =
    (array : ℕ) → HasArray (reads_bare p construct (guessed_part construct)) array → IsWritten p construct array → ⊥

-- not-overwritten: the guessed part surely writes all that it may write
pub record WritesAll (p : Program) (construct : Construct) : Type 0 where
  pub no_whole : (array : ℕ) → wholes_of (may_write p construct (guessed_part construct)) array ≡ false
  pub sure : (array : ℕ) (f o : ℤ) → offsets_of (may_write p construct (guessed_part construct)) array f o ≡ true
      → (part_effects p construct (guessed_part construct)).must array f o ≡ true

-- the construct keeps all seven rules
pub record KeepsTheRules (p : Program) (construct : Construct) : Type 0 where
  pub assigns_no_outer : AssignsNoOuter p construct
  pub emits_nothing : EmitsNothing p construct
  pub predictor_writes_nothing : PredictorWritesNothing p construct
  pub writes_apart : WritesApart p construct
  pub predictor_reads_unwritten : PredictorReadsUnwritten p construct
  pub reads_after_writing : ReadsAfterWriting p construct
  pub writes_all : WritesAll p construct
