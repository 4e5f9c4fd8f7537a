-- The format SPL1: a signature, and then the sections of a log. A section is its number of steps, and the steps; a step is four fields.
use Rattle.std.specs.Prelude.{◌≡◌, ◌≤◌, ◌<◌, ◌^◌, ◌==◌, if◌then◌else◌, ℕ, List, ◌∷◌, ◌++◌, length, map, codes, FitsSigned}
use Rattle.std.specs.Global.{Vec}
use Rattle.std.specs.List.{All, flat_map}
use Rattle.std.specs.Int.{w16, w64, to_be_bytes, cast_unsigned, cast_signed}
use Rattle.spf_replay_log.specs.declared.log.Event.{Event}
use Rattle.spf_replay_log.specs.declared.log.Event.TheVariants.{Load, Store, Turn}
use Rattle.spf_replay_log.specs.declared.log.Step.{Step}

-- what a log begins with
abbrev pub signature : List ℕ
signature = codes "SPL1"

-- how many blocks a section may speak of
abbrev pub max_blocks : ℕ
max_blocks = 4096

-- ---- the fields of a step

-- what kind of event it is
abbrev pub kind_of : Event → ℕ
kind_of (Load cell word) = 1
kind_of (Store cell word) = 2
kind_of (Turn number) = 3

-- its cell; a turn has none, and 0 stands there
abbrev pub cell_of : Event → ℕ
cell_of (Load cell word) = cell
cell_of (Store cell word) = cell
cell_of (Turn number) = 0

-- its word in two's complement, or the turn's number
abbrev pub content_of : Event → ℕ
content_of (Load cell word) = cast_unsigned w64 word
content_of (Store cell word) = cast_unsigned w64 word
content_of (Turn number) = number

-- the numbers of an event have 64 bits
abbrev pub IsEvent : Event → Type 0
IsEvent (Load cell word) = (cell < 2 ^ 64) × FitsSigned w64 word
IsEvent (Store cell word) = (cell < 2 ^ 64) × FitsSigned w64 word
IsEvent (Turn number) = number < 2 ^ 64

-- a step that a log can hold
pub record IsStep (s : Step) : Type 0 where
  pub block : s.block < max_blocks
  pub event : IsEvent s.event

abbrev pub AreSteps : List Step → Type 0
AreSteps steps = All IsStep steps

-- steps that a log can hold as a section
pub record IsSection (steps : List Step) : Type 0 where
  pub each : AreSteps steps
  pub few : length steps < 2 ^ 64

-- ---- bytes

-- the bytes of a step: kind, block, cell, content
abbrev pub step_bytes : Step → List ℕ
step_bytes s = kind_of s.event ∷ (to_be_bytes w16 s.block ++ (to_be_bytes w64 (cell_of s.event) ++ to_be_bytes w64 (content_of s.event)))

-- the bytes of a section: how many steps it has, and the steps
abbrev pub section_bytes : List Step → List ℕ
section_bytes steps = to_be_bytes w64 (length steps) ++ flat_map step_bytes steps

-- the bytes of a log
abbrev pub log_bytes : List (List Step) → List ℕ
log_bytes log = signature ++ flat_map section_bytes log

-- the bytes are those of the log
pub record IsLog (log : List (List Step)) (bytes : List ℕ) : Type 0 where
  pub sections : All IsSection log
  pub bytes_are : bytes ≡ log_bytes log

-- the sections of a log as the code has them
abbrev pub sections_of : List (Vec Step) → List (List Step)
sections_of log = map (λ section. section.items) log

-- ---- events by their fields

-- the number of a kind
abbrev pub IsKind : ℕ → Type 0
IsKind kind = (1 ≤ kind) × (kind ≤ 3)

-- the event with these fields
abbrev pub event_with : ℕ → ℕ → ℕ → Event
event_with kind cell content =
    if kind == 1 then Load cell (cast_signed w64 content) else (if kind == 2 then Store cell (cast_signed w64 content) else Turn content)
