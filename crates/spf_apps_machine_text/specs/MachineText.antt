-- The text of a LEX1 machine. Each line ends with byte 0A, and numbers are decimal without leading zeros:
--   states S classes C
--   class c XX XX ..     for each class c from 1 on: its bytes in ascending order, in hexadecimal; bytes in no line are of class 0
--   state q N/M N/M ..   for each state q from 0 on: for each class its next state and its mark
use Rattle.std.specs.Prelude.{ℕ, ◌≡◌, ◌+◌, ◌-◌, ◌*◌, ◌/◌, ◌%◌, if◌then◌else◌, ◌==◌, nat_lt, List, [], ◌∷◌, ◌++◌, codes, slice_index}
use Rattle.std.specs.List.{flat_map, range_with_len}
use Rattle.std.specs.Fmt.{decimal}
use Rattle.spf_apps_formats.specs.Laws.{AreBytes}
use Rattle.spf_apps_formats.specs.Lex1.{IsLex1, class_at, next_at}

-- ---- what a machine's file has

abbrev pub states_of : List ℕ → ℕ
states_of file = slice_index file 4

abbrev pub classes_of : List ℕ → ℕ
classes_of file = slice_index file 5

abbrev pub class_of : List ℕ → ℕ → ℕ
class_of file byte = slice_index file (class_at byte)

-- where the next state of a state and a class stands; the mark is the byte after it
abbrev pub entry_at : List ℕ → (state class : ℕ) → ℕ
entry_at file state class = next_at (state * classes_of file + class)

-- ---- the lines

-- `states S classes C`
abbrev pub counts_line : (states classes : ℕ) → List ℕ
counts_line states classes = codes "states " ++ (decimal states ++ (codes " classes " ++ (decimal classes ++ codes "\n")))

-- a hexadecimal digit, in lower case
abbrev pub hex_digit : ℕ → ℕ
hex_digit n = if nat_lt n 10 then 48 + n else 87 + n

-- a byte: a space and two digits
abbrev pub byte_text : ℕ → List ℕ
byte_text byte = 32 ∷ hex_digit (byte / 16) ∷ hex_digit (byte % 16) ∷ []

-- a byte, if it is of the class
abbrev pub member_text : List ℕ → (class byte : ℕ) → List ℕ
member_text file class byte = if class_of file byte == class then byte_text byte else []

-- all bytes, in ascending order
unfoldable pub all_bytes : List ℕ
all_bytes = range_with_len 0 256

-- `class c`, and the bytes of the class
abbrev pub class_line : List ℕ → ℕ → List ℕ
class_line file class =
    codes "class " ++ (decimal class ++ (flat_map (member_text file class) all_bytes ++ codes "\n"))

-- ` NEXT/MARK`
abbrev pub entry_text : List ℕ → (state class : ℕ) → List ℕ
entry_text file state class =
    codes " " ++ (decimal (slice_index file (entry_at file state class))
    ++ (codes "/" ++ decimal (slice_index file (entry_at file state class + 1))))

-- `state q`, and an entry for each class
abbrev pub state_line : List ℕ → ℕ → List ℕ
state_line file state =
    codes "state " ++ (decimal state ++ (flat_map (entry_text file state) (range_with_len 0 (classes_of file)) ++ codes "\n"))

-- ---- the text

unfoldable pub machine_text : List ℕ → List ℕ
machine_text file =
    counts_line (states_of file) (classes_of file)
    ++ (flat_map (class_line file) (range_with_len 1 (classes_of file - 1))
    ++ flat_map (state_line file) (range_with_len 0 (states_of file)))

-- the file is a machine, with some counts
abbrev pub IsMachine : List ℕ → Type 0
IsMachine file = (states : ℕ) × (classes : ℕ) × IsLex1 file states classes

-- the file is a machine, and the text is its text
pub record IsTextOf (text file : List ℕ) : Type 0 where
  pub bytes : AreBytes file
  pub machine : IsMachine file
  pub text_is : text ≡ machine_text file
