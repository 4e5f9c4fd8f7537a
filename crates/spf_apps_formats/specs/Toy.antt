-- A small machine of six states and six classes, which marks words, strings, slashes, comments and other signs.
use Rattle.std.specs.Prelude.{ℕ, Bool, if◌then◌else◌, ◌==◌, ◌&&◌, ◌||◌, nat_le, List, [], ◌∷◌, ◌++◌, map}
use Rattle.std.specs.List.{flat_map, range_with_len}
use Rattle.spf_apps_formats.specs.Lex1.{signature}

-- letters, digits and `_`
abbrev pub is_word_byte : ℕ → Bool
is_word_byte b =
    (nat_le 65 b && nat_le b 90) || ((nat_le 97 b && nat_le b 122) || ((nat_le 48 b && nat_le b 57) || (b == 95)))

-- space, tab, byte 0A and byte 0D
abbrev pub is_blank : ℕ → Bool
is_blank b = (b == 32) || ((b == 9) || ((b == 10) || (b == 13)))

-- the class of a byte
abbrev pub class_of : ℕ → ℕ
class_of b =
    if is_word_byte b then 1
    else if is_blank b then 2
    else if b == 34 then 3
    else if b == 47 then 4
    else if b == 42 then 5
    else 0

-- the entries of each state by class: the next state and the mark
abbrev pub entries : List (List (ℕ × ℕ))
entries =
    ((0, 4) ∷ (1, 1) ∷ (0, 0) ∷ (2, 2) ∷ (3, 3) ∷ (0, 4) ∷ [])
    ∷ ((0, 4) ∷ (1, 0) ∷ (0, 0) ∷ (2, 2) ∷ (3, 3) ∷ (0, 4) ∷ [])
    ∷ ((2, 0) ∷ (2, 0) ∷ (2, 0) ∷ (0, 0) ∷ (2, 0) ∷ (2, 0) ∷ [])
    ∷ ((0, 4) ∷ (1, 1) ∷ (0, 0) ∷ (2, 2) ∷ (3, 3) ∷ (4, 0) ∷ [])
    ∷ ((4, 0) ∷ (4, 0) ∷ (4, 0) ∷ (4, 0) ∷ (4, 0) ∷ (5, 0) ∷ [])
    ∷ ((4, 0) ∷ (4, 0) ∷ (4, 0) ∷ (4, 0) ∷ (0, 0) ∷ (5, 0) ∷ [])
    ∷ []

-- an entry, as two bytes
abbrev pub entry_bytes : ℕ × ℕ → List ℕ
entry_bytes entry = entry.0 ∷ entry.1 ∷ []

-- the file of the machine
abbrev pub machine : List ℕ
machine = signature ++ (6 ∷ 6 ∷ []) ++ map class_of (range_with_len 0 256) ++ flat_map (flat_map entry_bytes) entries
