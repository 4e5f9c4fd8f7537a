-- The answer of a file: a line that says how the run ended, the bytes that it emitted, and byte 0A.
use Rattle.std.specs.Prelude.{ℕ, List, [], ◌∷◌, ◌++◌, length, codes}
use Rattle.std.specs.Fmt.{decimal}
use Rattle.spf_ast.specs.declared.outcome.Trap.{Trap}
use Rattle.spf_ast.specs.declared.outcome.TrapKind.{TrapKind}
use Rattle.spf_ast.specs.declared.outcome.TrapKind.TheVariants as trap
use Rattle.spf_ast.specs.Program.{Outcome, Done, Stopped}

-- a line of these pieces, with its end
abbrev pub line : List (List ℕ) → List ℕ
line [] = 10 ∷ []
line (piece ∷ pieces) = piece ++ line pieces

-- the name of a kind of trap
abbrev pub kind_name : TrapKind → List ℕ
kind_name trap.Overflow = codes "overflow"
kind_name trap.DivZero = codes "divide-by-zero"
kind_name trap.Index = codes "index"
kind_name trap.Shift = codes "shift"
kind_name trap.Range = codes "range"
kind_name trap.Turns = codes "turns"
kind_name trap.Emit = codes "emit"
kind_name trap.Blocks = codes "blocks"
kind_name (trap.Fail number) = codes "fail " ++ decimal number

-- `NAME done length L`
abbrev pub done_line : List ℕ → ℕ → List ℕ
done_line name size = line (name ∷ codes " done length " ∷ decimal size ∷ [])

-- `NAME trap KIND line N length L`
abbrev pub trap_line : List ℕ → Trap → ℕ → List ℕ
trap_line name t size =
    line (name ∷ codes " trap " ∷ kind_name t.kind ∷ codes " line " ∷ decimal t.line ∷ codes " length " ∷ decimal size ∷ [])

-- the answer of a file of this name whose run had this outcome
abbrev pub answer_of : List ℕ → Outcome → List ℕ
answer_of name (Done cells output) = done_line name (length output) ++ (output ++ 10 ∷ [])
answer_of name (Stopped t output) = trap_line name t (length output) ++ (output ++ 10 ∷ [])
