-- Where bytes stop being a log: at the first field that is whole and wrong, or at their end, where that comes inside a field or a section.
use Rattle.std.specs.Prelude.{◌≡◌, ◌⊎◌, ◌≤◌, ◌<◌, ◌+◌, ◌*◌, ◌^◌, ℕ, List, ◌++◌, length, take, drop, slice_index}
use Rattle.std.specs.List.{All, flat_map}
use Rattle.std.specs.Int.{w16, w64, to_be_bytes, from_be_bytes}
use Rattle.spf_replay_log.specs.declared.log.Step.{Step}
use Rattle.spf_replay_log.specs.declared.log.LogError.{LogError}
use Rattle.spf_replay_log.specs.declared.log.LogError.TheVariants.{NotLog, OutOfMemory}
use Rattle.spf_replay_log.specs.Log.{signature, max_blocks, IsKind, AreSteps, IsSection, step_bytes, log_bytes}

-- a field from one offset to another is whole and not right, or the bytes end before it is whole
abbrev pub FailsAt : ℕ → ℕ → Type 0 → List ℕ → ℕ → Type 0
FailsAt begin end right bytes offset =
    ((end ≤ length bytes) × (right → ⊥) × (offset ≡ begin)) ⊎ ((length bytes < end) × (offset ≡ length bytes))

-- ---- steps

-- the fields of a step
pub data Field : Type 0 where
  Kind : Field
  Block : Field
  Cell : Field
  Content : Field

-- how many bytes a step has
abbrev pub step_size : ℕ
step_size = 19

-- the offset of its first byte
abbrev pub begin_of : Field → ℕ
begin_of Kind = 0
begin_of Block = 1
begin_of Cell = 3
begin_of Content = 11

-- the offset after its last byte
abbrev pub end_of : Field → ℕ
end_of Kind = 1
end_of Block = 3
end_of Cell = 11
end_of Content = step_size

-- the kind is one of three, the block is small enough, and a turn has no cell; any content will do
abbrev pub IsRight : Field → List ℕ → Type 0
IsRight Kind bytes = IsKind (slice_index bytes 0)
IsRight Block bytes = from_be_bytes w16 (take 2 (drop 1 bytes)) < max_blocks
IsRight Cell bytes = slice_index bytes 0 ≡ 3 → from_be_bytes w64 (take 8 (drop 3 bytes)) ≡ 0
IsRight Content bytes = Unit {0}

-- the field is whole and right
abbrev pub IsThere : List ℕ → Field → Type 0
IsThere bytes field = (end_of field ≤ length bytes) × IsRight field bytes

-- the bytes begin with no step: this is the first field that isn't there
pub record StepBreaksAt (bytes : List ℕ) (offset : ℕ) : Type 0 where
  pub field : Field
  pub earlier : (other : Field) → begin_of other < begin_of field → IsThere bytes other
  pub fails : FailsAt (begin_of field) (end_of field) (IsRight field bytes) bytes offset

-- ---- sections

-- how many bytes the number of steps has
abbrev pub count_size : ℕ
count_size = 8

-- the bytes end inside the number of steps
pub record LacksCount (bytes : List ℕ) (offset : ℕ) : Type 0 where
  pub short : length bytes < count_size
  pub offset_is : offset ≡ length bytes

-- fewer steps stand there than the section counts, and what follows them isn't a step
pub record LacksStep (bytes : List ℕ) (offset : ℕ) : Type 0 where
  pub count : ℕ
  pub steps : List Step
  pub rest : List ℕ
  pub rest_offset : ℕ
  pub small : count < 2 ^ 64
  pub are_steps : AreSteps steps
  pub fewer : length steps < count
  pub bytes_are : bytes ≡ to_be_bytes w64 count ++ (flat_map step_bytes steps ++ rest)
  pub breaks : StepBreaksAt rest rest_offset
  pub offset_is : offset ≡ count_size + step_size * length steps + rest_offset

-- the bytes begin with no section
abbrev pub SectionBreaksAt : List ℕ → ℕ → Type 0
SectionBreaksAt bytes offset = LacksCount bytes offset ⊎ LacksStep bytes offset

-- ---- logs

-- sections stand there, and what follows them isn't a section
pub record LacksSection (bytes : List ℕ) (offset : ℕ) : Type 0 where
  pub log : List (List Step)
  pub rest : List ℕ
  pub rest_offset : ℕ
  pub are_sections : All IsSection log
  pub goes_on : 1 ≤ length rest
  pub bytes_are : bytes ≡ log_bytes log ++ rest
  pub breaks : SectionBreaksAt rest rest_offset
  pub offset_is : offset ≡ length (log_bytes log) + rest_offset

-- the bytes aren't a log, and this is where they stop being one; the signature is one field
abbrev pub LogBreaksAt : List ℕ → ℕ → Type 0
LogBreaksAt bytes offset = FailsAt 0 (length signature) (take (length signature) bytes ≡ signature) bytes offset ⊎ LacksSection bytes offset

-- ---- errors

-- what an error says of the bytes from an offset on; running out of memory has no cause in them
abbrev pub IsNoSection : List ℕ → ℕ → LogError → Type 0
IsNoSection bytes at (NotLog offset) = (inside : ℕ) × (offset ≡ at + inside) × SectionBreaksAt (drop at bytes) inside
IsNoSection bytes at OutOfMemory = Unit {0}

-- what an error says of all bytes
abbrev pub IsNoLog : List ℕ → LogError → Type 0
IsNoLog bytes (NotLog offset) = LogBreaksAt bytes offset
IsNoLog bytes OutOfMemory = Unit {0}
