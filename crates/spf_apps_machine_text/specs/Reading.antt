-- How the reader goes over a text. It refuses nothing: the text of a machine gives its file, and any other text gives some file, whose text is
-- another one. Only private contracts speak of this.
use Rattle.std.specs.Prelude.{ℕ, zero, suc, ◌+◌, ◌-◌, ◌*◌, ◌%◌, if◌then◌else◌, ◌&&◌, nat_le, Bool, bytes_eq, List, [], ◌∷◌, ◌++◌, length, take, drop, replicate}
use Rattle.spf_apps_formats.specs.Lex1.{signature}
use Rattle.spf_apps_machine_text.specs.MachineText.{byte_text}

-- a decimal digit
abbrev pub is_digit : ℕ → Bool
is_digit byte = nat_le 48 byte && nat_le byte 57

-- the number, modulo 256, that the digits ahead make of the number that was read before them, and what comes after them
abbrev pub number_from : ℕ → List ℕ → ℕ × List ℕ
number_from value [] = (value, [])
number_from value (byte ∷ text) =
    if is_digit byte then number_from ((value * 10 + (byte - 48)) % 256) text else (value, byte ∷ text)

abbrev pub number_at : List ℕ → ℕ × List ℕ
number_at text = number_from 0 text

-- whether the text begins with a piece
abbrev pub begins : List ℕ → List ℕ → Bool
begins piece text = bytes_eq (take (length piece) text) piece

-- one more in front
abbrev pub in_front : ℕ → List ℕ × List ℕ → List ℕ × List ℕ
in_front first read = (first ∷ read.0, read.1)

-- the classes of the bytes from one on after the line of a class, and what comes after the bytes in it
unfoldable pub bytes_read : (class byte : ℕ) → (table text : List ℕ) → List ℕ × List ℕ
bytes_read class byte [] text = ([], text)
bytes_read class byte (old ∷ table) text =
    if begins (byte_text byte) text then in_front class (bytes_read class (byte + 1) table (drop 3 text))
    else in_front old (bytes_read class (byte + 1) table text)

-- the classes and what comes after, for all bytes, from the start of the line
abbrev pub line_read : ℕ → (table text : List ℕ) → List ℕ × List ℕ
line_read class table text = bytes_read class 0 table (number_at (drop 6 text)).1

-- the classes and what comes after, past the lines of `count` classes from one on
abbrev pub classes_read : (count class : ℕ) → List ℕ × List ℕ → List ℕ × List ℕ
classes_read zero class read = read
classes_read (suc count) class read = classes_read count (class + 1) ((line_read class read.0 read.1).0, drop 1 (line_read class read.0 read.1).1)

-- an entry's next state and mark, and what comes after them
abbrev pub next_read : List ℕ → ℕ × List ℕ
next_read text = number_at (drop 1 text)

abbrev pub mark_read : List ℕ → ℕ × List ℕ
mark_read text = number_at (drop 1 (next_read text).1)

-- what was read before, and what is read after it
abbrev pub behind : List ℕ → List ℕ × List ℕ → List ℕ × List ℕ
behind first read = (first ++ read.0, read.1)

-- the bytes of this many entries
abbrev pub entries_read : ℕ → List ℕ → List ℕ × List ℕ
entries_read zero text = ([], text)
entries_read (suc count) text =
    behind ((next_read text).0 ∷ (mark_read text).0 ∷ []) (entries_read count (mark_read text).1)

-- the bytes of the entries of a state's line
abbrev pub state_read : ℕ → List ℕ → List ℕ × List ℕ
state_read classes text = entries_read classes (number_at (drop 6 text)).1

-- the bytes of the entries of `count` states
abbrev pub states_read : (classes count : ℕ) → List ℕ → List ℕ × List ℕ
states_read classes zero text = ([], text)
states_read classes (suc count) text =
    behind (state_read classes text).0 (states_read classes count (drop 1 (state_read classes text).1))

-- both counts, and what comes after their line
abbrev pub states_count : List ℕ → ℕ × List ℕ
states_count text = number_at (drop 7 text)

abbrev pub classes_count : List ℕ → ℕ × List ℕ
classes_count text = number_at (drop 9 (states_count text).1)

-- the classes of all bytes, and what comes after their lines
unfoldable pub table_read : List ℕ → List ℕ × List ℕ
table_read text = classes_read ((classes_count text).0 - 1) 1 (replicate 256 0, drop 1 (classes_count text).1)

-- the file
unfoldable pub file_read : List ℕ → List ℕ
file_read text =
    signature ++ ((states_count text).0 ∷ (classes_count text).0 ∷ [])
    ++ (table_read text).0 ++ (states_read (classes_count text).0 (states_count text).0 (table_read text).1).0
