-- The tokens that a LEX1 machine finds in a content.
use Rattle.std.specs.Prelude.{ℕ, zero, suc, ◌+◌, ◌*◌, List, [], ◌∷◌, ◌++◌, slice_index}
use Rattle.std.specs.Int.{to_be_bytes, w32}
use Rattle.spf_apps_formats.specs.Lex1.{class_at, next_at}

-- where the entry of a state and a byte stands
abbrev pub entry_of : List ℕ → ℕ → ℕ → ℕ
entry_of machine state byte = next_at (state * slice_index machine 5 + slice_index machine (class_at byte))

-- the state after a byte
abbrev pub next_state : List ℕ → ℕ → ℕ → ℕ
next_state machine state byte = slice_index machine (entry_of machine state byte)

-- the kind of the token that begins at a byte, or 0
abbrev pub mark : List ℕ → ℕ → ℕ → ℕ
mark machine state byte = slice_index machine (entry_of machine state byte + 1)

-- a token, as its kind and its offset with the highest byte first
abbrev pub token : ℕ → ℕ → List ℕ
token zero offset = []
token (suc kind) offset = suc kind ∷ to_be_bytes w32 offset

-- the tokens of the bytes from an offset on, which the machine reaches in a state
abbrev pub tokens_from : List ℕ → ℕ → ℕ → List ℕ → List ℕ
tokens_from machine state offset [] = []
tokens_from machine state offset (byte ∷ content) =
    token (mark machine state byte) offset ++ tokens_from machine (next_state machine state byte) (offset + 1) content

-- the tokens of a content; a machine starts in state 0
abbrev pub tokens : List ℕ → List ℕ → List ℕ
tokens machine content = tokens_from machine 0 0 content
