-- The program that runs LEX1 machines.
use Rattle.std.proofs.Common.{◌≡◌, ◌∷◌, [], codes, List, ℕ, ◌≤◌, refl, append_assoc, ◌-◌}
use Rattle.std.specs.Fmt.{decimal, digits}
use Rattle.spf_ast.specs.declared.syntax.Test.TheVariants.{Ne, Lt, Ge}
use Rattle.spf_ast.specs.Spelling.{Vocabulary, spelled, spelled_fold, spelled_expression, spelled_block, spelled_statement}
use Rattle.spf_ast.specs.Syntax.{Local, Input, Load, Compare, If, Let, Assign, Store, Fill, For, Fold, end}
use Rattle.spf_print_forms.specs.Canonical.{canonical_text, expression_text, fold_line, arrays_text, functions_text, block_text, statement_text}
use Rattle.spf_apps_programs.specs.Writing.{number, plus, minus, only, blocks_for}
use Rattle.spf_apps_programs.specs.Lexer as lexer
use Rattle.spf_apps_programs.specs.Lexer.{entry_at, block_begin, block_end, content, one_byte, head, body, token, output, program_for}
use Rattle.spf_apps_texts.specs.Texts.{lines, lexer_lines}
use Rattle.spf_apps_texts.proofs.Lines.{HasLines, part, if_line, for_line, ◌and◌, none, same, HasPieces, ◌then◌, piece, last, operands, between, input_at, ended, zero_written, one_written, two_written, six_written, table_written, array_pieces}

-- the lines of its text
abbrev text_lines : (size classes machine : ℕ) → List (List ℕ)
text_lines size classes machine = lexer_lines (decimal size) (decimal (size - 1)) (decimal classes) (decimal machine)

-- the names of `main`, and those of `look`
abbrev names : Vocabulary
names = record { arrays = codes "mark" ∷ []; functions = codes "look" ∷ []; slots = lexer.slots }

abbrev look_names : Vocabulary
look_names = record { arrays = codes "mark" ∷ []; functions = codes "look" ∷ []; slots = codes "p" ∷ codes "q" ∷ codes "i" ∷ [] }

-- ---- expressions

begin : (size : ℕ) → HasPieces (expression_text (spelled_expression names (block_begin size))) (decimal size ∷ codes " * " ∷ codes "k" ∷ [])
begin size = operands (piece (decimal size)) (codes " * ") (piece (codes "k"))

finish : (size : ℕ) → HasPieces (expression_text (spelled_expression names (block_end size))) (decimal size ∷ codes " * " ∷ codes "k" ∷ codes " + " ∷ decimal size ∷ [])
finish size = operands (begin size) (codes " + ") (piece (decimal size))

count : (machine : ℕ) → HasPieces (expression_text (spelled_expression names (content machine))) (codes "len" ∷ codes " - " ∷ decimal machine ∷ [])
count machine = operands (piece (codes "len")) (codes " - ") (piece (decimal machine))

block_count : (size machine : ℕ) → HasPieces (expression_text (spelled_expression names (blocks_for (content machine) size))) (codes "(" ∷ codes "len" ∷ codes " - " ∷ decimal machine ∷ codes " + " ∷ decimal (size - 1) ∷ codes ")" ∷ codes " / " ∷ decimal size ∷ [])
block_count size machine =
    operands (between (codes "(") (operands (count machine) (codes " + ") (piece (decimal (size - 1)))) (codes ")")) (codes " / ") (piece (decimal size))

-- the pieces of the offset of an entry
abbrev entry_pieces : (state offset : List ℕ) (classes machine : ℕ) → List (List ℕ)
entry_pieces state offset classes machine =
    codes "262" ∷ codes " + " ∷ codes "2" ∷ codes " * " ∷ codes "(" ∷ state ∷ codes " * " ∷ decimal classes ∷ codes " + "
    ∷ codes "input" ∷ codes "[" ∷ codes "6" ∷ codes " + " ∷ codes "input" ∷ codes "[" ∷ decimal machine ∷ codes " + " ∷ offset
    ∷ codes "]" ∷ codes "]" ∷ codes ")" ∷ []

look_entry : (classes machine : ℕ) → HasPieces (expression_text (spelled_expression look_names (entry_at classes machine 1 2))) (entry_pieces (codes "q") (codes "i") classes machine)
look_entry classes machine =
    let row = operands (piece (codes "q")) (codes " * ") (piece (decimal classes)) in
    let class = input_at (operands six_written (codes " + ") (input_at (operands (piece (decimal machine)) (codes " + ") (piece (codes "i"))))) in
    operands table_written (codes " + ") (operands two_written (codes " * ") (between (codes "(") (operands row (codes " + ") class) (codes ")")))

entry : (classes machine : ℕ) → HasPieces (expression_text (spelled_expression names (entry_at classes machine 2 3))) (entry_pieces (codes "q") (codes "i") classes machine)
entry = look_entry

-- ---- the array and the function

the_array : (size classes machine : ℕ) → 1 ≤ size → HasLines (arrays_text (program_for size classes machine).arrays) (part 1 1 (text_lines size classes machine))
the_array size classes machine h = ended (array_pieces (codes "mark") (codes "1") 0 size one_written h).are (simp append_assoc) and none

look_begins : (size classes machine : ℕ) → HasLines (statement_text (codes "  ") (spelled_statement look_names (Let 1 (number 0)))) (part 3 3 (text_lines size classes machine))
unfolding digits
look_begins size classes machine = record { are = refl }

offsets_begin : (size classes machine : ℕ) → HasLines (for_line look_names (codes "  ") 2 (minus (Local 0) (number 32)) (Local 0)) (part 4 4 (text_lines size classes machine))
unfolding digits
offsets_begin size classes machine = record { are = refl }

inside : (size classes machine : ℕ) → HasLines (if_line look_names (codes "    ") (Compare Ge (Local 2) (number 0))) (part 5 5 (text_lines size classes machine))
unfolding digits
inside size classes machine = record { are = refl }

look_step : (size classes machine : ℕ) → HasLines (statement_text (codes "      ") (spelled_statement look_names (Assign 1 (Input (entry_at classes machine 1 2))))) (part 6 6 (text_lines size classes machine))
look_step size classes machine =
    ended (piece (codes "      q = ") then input_at (look_entry classes machine) then last (piece (codes ";"))).are (simp append_assoc)

look : (size classes machine : ℕ) → HasLines (functions_text (spelled 0 (program_for size classes machine)).functions) (part 2 10 (text_lines size classes machine))
look size classes machine =
    let ls = text_lines size classes machine in
    let step = inside size classes machine and (look_step size classes machine and none) and same 7 7 ls in
    let offsets = offsets_begin size classes machine and (step and none) and same 8 8 ls in
    same 2 2 ls and (look_begins size classes machine and (offsets and none)) and same 9 9 ls and same 10 10 ls and none

-- ---- the fold

fold_begins : (size classes machine : ℕ) → HasLines (fold_line (codes "  ") (spelled_fold names (head size machine))) (part 12 12 (text_lines size classes machine))
fold_begins size classes machine =
    let guess = piece (codes "look") then between (codes "(") (last (begin size)) (codes ")") in
    ended (piece (codes "  specfold s = ") then last zero_written then piece (codes " for k in ") then zero_written then piece (codes "..")
    then block_count size machine then piece (codes " predict ") then last guess then last (piece (codes " {"))).are (simp append_assoc)

cleared : (size classes machine : ℕ) → HasLines (statement_text (codes "    ") (spelled_statement names (Fill 0 (block_begin size) (block_end size) (number 0)))) (part 13 13 (text_lines size classes machine))
cleared size classes machine =
    ended (piece (codes "    fill mark[") then begin size then piece (codes "..") then finish size then piece (codes "] = ") then zero_written
    then last (piece (codes ";"))).are (simp append_assoc)

bytes_begin : (size classes machine : ℕ) → HasLines (for_line names (codes "    ") 3 (block_begin size) (block_end size)) (part 15 15 (text_lines size classes machine))
bytes_begin size classes machine =
    ended (piece (codes "    for i in ") then begin size then piece (codes "..") then finish size then last (piece (codes " {"))).are (simp append_assoc)

in_content : (size classes machine : ℕ) → HasLines (if_line names (codes "      ") (Compare Lt (Local 3) (content machine))) (part 16 16 (text_lines size classes machine))
in_content size classes machine =
    ended (piece (codes "      if ") then operands (piece (codes "i")) (codes " < ") (count machine) then last (piece (codes " {"))).are (simp append_assoc)

entry_found : (size classes machine : ℕ) → HasLines (statement_text (codes "        ") (spelled_statement names (Let 4 (entry_at classes machine 2 3)))) (part 17 17 (text_lines size classes machine))
entry_found size classes machine =
    ended (piece (codes "        let e = ") then entry classes machine then last (piece (codes ";"))).are (simp append_assoc)

marked : (size classes machine : ℕ) → HasLines (statement_text (codes "        ") (spelled_statement names (Store 0 (Local 3) (Input (plus (Local 4) (number 1)))))) (part 18 18 (text_lines size classes machine))
unfolding digits
marked size classes machine = record { are = refl }

bytes : (size classes machine : ℕ) → HasLines (statement_text (codes "    ") (spelled_statement names (For 3 (block_begin size) (block_end size) (one_byte classes machine)))) (part 15 21 (text_lines size classes machine))
bytes size classes machine =
    let ls = text_lines size classes machine in
    let step = entry_found size classes machine and (marked size classes machine and (same 19 19 ls and none)) in
    bytes_begin size classes machine and (in_content size classes machine and step and same 20 20 ls and none) and same 21 21 ls

blocks : (size classes machine : ℕ) → HasLines (statement_text (codes "  ") (spelled_statement names (Fold (head size machine) (body size classes machine)))) (part 12 23 (text_lines size classes machine))
blocks size classes machine =
    let ls = text_lines size classes machine in
    fold_begins size classes machine and (cleared size classes machine and (same 14 14 ls and (bytes size classes machine and none)))
    and same 22 22 ls and same 23 23 ls

-- ---- the output

offsets_written : (size classes machine : ℕ) → HasLines (for_line names (codes "  ") 5 (number 0) (content machine)) (part 24 24 (text_lines size classes machine))
offsets_written size classes machine =
    ended (piece (codes "  for i in ") then zero_written then piece (codes "..") then count machine then last (piece (codes " {"))).are (simp append_assoc)

token_written : (size classes machine : ℕ) → HasLines (block_text (codes "    ") (spelled_block names (only 23 (If (Compare Ne (Load 0 (Local 5)) (number 0)) token end)))) (part 25 31 (text_lines size classes machine))
unfolding digits
token_written size classes machine = record { are = refl }

written : (size classes machine : ℕ) → HasLines (statement_text (codes "  ") (spelled_statement names (output machine))) (part 24 32 (text_lines size classes machine))
written size classes machine = offsets_written size classes machine and token_written size classes machine and same 32 32 (text_lines size classes machine)

pub lexer_is_its_text : (size classes machine : ℕ) → 1 ≤ size → canonical_text (spelled 0 (program_for size classes machine)) ≡ lines (text_lines size classes machine)
lexer_is_its_text size classes machine h =
    let ls = text_lines size classes machine in
    let main = blocks size classes machine and (written size classes machine and none) in
    (the_array size classes machine h and look size classes machine and (same 11 11 ls and main and same 33 33 ls)).are
