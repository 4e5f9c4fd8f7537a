-- The program that unpacks PackBits.
use Rattle.std.proofs.Common.{◌≡◌, ◌∷◌, [], codes, List, ℕ, ◌≤◌, refl, append_assoc, ◌-◌}
use Rattle.std.specs.Fmt.{decimal, digits}
use Rattle.spf_ast.specs.Spelling.{Vocabulary, spelled, spelled_fold, spelled_expression, spelled_block, spelled_statement}
use Rattle.spf_ast.specs.Syntax.{Len, Fill, Fold}
use Rattle.spf_print_forms.specs.Canonical.{canonical_text, expression_text, fold_line, arrays_text, block_text, statement_text}
use Rattle.spf_apps_programs.specs.Writing.{number, blocks_for}
use Rattle.spf_apps_programs.specs.PackBits.{slots, block_begin, block_end, one_byte, block_bytes, head, body, output, packbits_program}
use Rattle.spf_apps_texts.specs.Texts.{packbits_lines, packbits_text}
use Rattle.spf_apps_texts.proofs.Lines.{HasLines, part, for_line, ◌and◌, none, same, HasPieces, ◌then◌, piece, last, operands, between, ended, zero_written, one_written, array_pieces}

-- the lines of its text
abbrev text_lines : ℕ → List (List ℕ)
text_lines size = packbits_lines (decimal size) (decimal (size - 1))

-- the names of the program
abbrev names : Vocabulary
names = record { arrays = codes "rep" ∷ []; functions = []; slots = slots }

begin : (size : ℕ) → HasPieces (expression_text (spelled_expression names (block_begin size))) (decimal size ∷ codes " * " ∷ codes "k" ∷ [])
begin size = operands (piece (decimal size)) (codes " * ") (piece (codes "k"))

finish : (size : ℕ) → HasPieces (expression_text (spelled_expression names (block_end size))) (decimal size ∷ codes " * " ∷ codes "k" ∷ codes " + " ∷ decimal size ∷ [])
finish size = operands (begin size) (codes " + ") (piece (decimal size))

block_count : (size : ℕ) → HasPieces (expression_text (spelled_expression names (blocks_for Len size))) (codes "(" ∷ codes "len" ∷ codes " + " ∷ decimal (size - 1) ∷ codes ")" ∷ codes " / " ∷ decimal size ∷ [])
block_count size =
    operands (between (codes "(") (operands (piece (codes "len")) (codes " + ") (piece (decimal (size - 1)))) (codes ")")) (codes " / ") (piece (decimal size))

the_array : (size : ℕ) → 1 ≤ size → HasLines (arrays_text (packbits_program size).arrays) (part 1 1 (text_lines size))
the_array size h = ended (array_pieces (codes "rep") (codes "1") 0 size one_written h).are (simp append_assoc) and none

fold_begins : (size : ℕ) → HasLines (fold_line (codes "  ") (spelled_fold names (head size))) (part 3 3 (text_lines size))
fold_begins size =
    ended (piece (codes "  specfold s = ") then last zero_written then piece (codes " for k in ") then zero_written then piece (codes "..")
    then block_count size then piece (codes " predict ") then last zero_written then last (piece (codes " {"))).are (simp append_assoc)

cleared : (size : ℕ) → HasLines (statement_text (codes "    ") (spelled_statement names (Fill 0 (block_begin size) (block_end size) (number 0)))) (part 4 4 (text_lines size))
cleared size =
    ended (piece (codes "    fill rep[") then begin size then piece (codes "..") then finish size then piece (codes "] = ") then zero_written
    then last (piece (codes ";"))).are (simp append_assoc)

bytes_begin : (size : ℕ) → HasLines (for_line names (codes "    ") 3 (block_begin size) (block_end size)) (part 6 6 (text_lines size))
bytes_begin size =
    ended (piece (codes "    for i in ") then begin size then piece (codes "..") then finish size then last (piece (codes " {"))).are (simp append_assoc)

a_byte : (size : ℕ) → HasLines (block_text (codes "        ") (spelled_block names one_byte)) (part 8 24 (text_lines size))
unfolding digits
a_byte size = record { are = refl }

bytes : (size : ℕ) → HasLines (statement_text (codes "    ") (spelled_statement names (block_bytes size))) (part 6 26 (text_lines size))
bytes size =
    let ls = text_lines size in
    bytes_begin size and (same 7 7 ls and a_byte size and same 25 25 ls and none) and same 26 26 ls

blocks : (size : ℕ) → HasLines (statement_text (codes "  ") (spelled_statement names (Fold (head size) (body size)))) (part 3 28 (text_lines size))
blocks size =
    let ls = text_lines size in
    fold_begins size and (cleared size and (same 5 5 ls and (bytes size and none))) and same 27 27 ls and same 28 28 ls

written : (size : ℕ) → HasLines (statement_text (codes "  ") (spelled_statement names output)) (part 29 33 (text_lines size))
unfolding digits
written size = record { are = refl }

pub packbits_is_its_text : (size : ℕ) → 1 ≤ size → canonical_text (spelled 0 (packbits_program size)) ≡ packbits_text size
packbits_is_its_text size h =
    let ls = text_lines size in
    let main = blocks size and (written size and none) in
    (the_array size h and none and (same 2 2 ls and main and same 34 34 ls)).are
