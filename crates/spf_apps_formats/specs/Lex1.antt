-- The format LEX1: a machine that reads bytes by their classes, with a mark beside each next state.
use Rattle.std.specs.Prelude.{◌≡◌, ◌≢◌, ◌⊎◌, ℕ, ◌+◌, ◌*◌, ◌≤◌, min, List, length, Some, codes, slice_get}
use Rattle.spf_apps_formats.specs.Signatures.{BeginsWith, DepartsAt, AreBelow, IsFirstPast}

abbrev pub signature : List ℕ
signature = codes "LEX1"

-- the byte at an offset is a count of 1 to 64
pub record HasCount (file : List ℕ) (offset n : ℕ) : Type 0 where
  pub stands : slice_get file offset ≡ Some n
  pub some : 1 ≤ n
  pub few : n ≤ 64

-- there is no byte, or no such count
abbrev pub HasNoCount : List ℕ → ℕ → Type 0
HasNoCount file offset = (n : ℕ) → HasCount file offset n → ⊥

-- how long the file of a machine is: 6 bytes, the class of each byte, and two bytes for each state and class
abbrev pub size_of : ℕ → ℕ → ℕ
size_of states classes = 262 + 2 * (states * classes)

-- where the class of a byte stands
abbrev pub class_at : ℕ → ℕ
class_at byte = 6 + byte

-- where the next state of an entry stands, and after it the mark; the entry of a state and a class is the one at state * classes + class
abbrev pub next_at : ℕ → ℕ
next_at entry = 262 + 2 * entry

-- the signature and both counts stand there
pub record HasCounts (file : List ℕ) (states classes : ℕ) : Type 0 where
  pub begins : BeginsWith signature file
  pub states_at : HasCount file 4 states
  pub classes_at : HasCount file 5 classes

-- and the file is as long as they say
pub record HasSize (file : List ℕ) (states classes : ℕ) : Type 0 where
  pub counts : HasCounts file states classes
  pub size : length file ≡ size_of states classes

-- and each byte has one of the classes
pub record HasClasses (file : List ℕ) (states classes : ℕ) : Type 0 where
  pub sized : HasSize file states classes
  pub below : AreBelow class_at 256 classes file

-- the file is a machine with these numbers of states and classes: and each next state is one of the states
pub record IsLex1 (file : List ℕ) (states classes : ℕ) : Type 0 where
  pub classed : HasClasses file states classes
  pub below : AreBelow next_at (states * classes) states file

-- ---- what is wrong first

-- no count of states
pub record HasNoStates (file : List ℕ) (offset : ℕ) : Type 0 where
  pub begins : BeginsWith signature file
  pub missing : HasNoCount file 4
  pub offset_is : offset ≡ 4

-- no count of classes
pub record HasNoClasses (file : List ℕ) (offset : ℕ) : Type 0 where
  pub begins : BeginsWith signature file
  pub states : ℕ
  pub states_at : HasCount file 4 states
  pub missing : HasNoCount file 5
  pub offset_is : offset ≡ 5

-- another length than the counts say: the offset is the end of the file, or the end that it should have, whichever comes first
pub record HasOtherSize (file : List ℕ) (offset : ℕ) : Type 0 where
  pub states : ℕ
  pub classes : ℕ
  pub counts : HasCounts file states classes
  pub size : length file ≢ size_of states classes
  pub offset_is : offset ≡ min (length file) (size_of states classes)

-- a class that doesn't exist
pub record HasBadClass (file : List ℕ) (offset : ℕ) : Type 0 where
  pub states : ℕ
  pub classes : ℕ
  pub sized : HasSize file states classes
  pub first : IsFirstPast class_at 256 classes file offset

-- a state that doesn't exist
pub record HasBadNext (file : List ℕ) (offset : ℕ) : Type 0 where
  pub states : ℕ
  pub classes : ℕ
  pub classed : HasClasses file states classes
  pub first : IsFirstPast next_at (states * classes) states file offset

-- the file isn't LEX1, because of what stands, or is missing, at this offset
abbrev pub IsNoLex1At : List ℕ → ℕ → Type 0
IsNoLex1At file offset =
    DepartsAt signature file offset
    ⊎ (HasNoStates file offset ⊎ (HasNoClasses file offset ⊎ (HasOtherSize file offset ⊎ (HasBadClass file offset ⊎ HasBadNext file offset))))
