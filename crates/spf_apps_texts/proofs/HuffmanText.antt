-- The program that decodes HUF1.
use Rattle.std.proofs.Common.{◌≡◌, ◌∷◌, [], codes, List, ℕ, ◌*◌, ◌-◌, ◌≤◌, refl, append_assoc, arith, pos}
use Rattle.std.specs.Fmt.{decimal, digits}
use Rattle.spf_ast.specs.declared.syntax.Test.TheVariants.{Ne, Lt, Gt}
use Rattle.spf_ast.specs.Spelling.{Vocabulary, spelled, spelled_fold, spelled_expression, spelled_block, spelled_statement, spelled_function}
use Rattle.spf_ast.specs.Syntax.{Local, Input, Load, Compare, Let, Assign, Store, Fill, For, Fold}
use Rattle.spf_print_forms.specs.Canonical.{canonical_text, expression_text, fold_line, array_text, arrays_text, function_text, functions_text, block_text, statement_text}
use Rattle.spf_apps_programs.specs.Writing.{number, plus, only, blocks_for}
use Rattle.spf_apps_programs.specs.Huffman as huffman
use Rattle.spf_apps_programs.specs.Huffman.{with_bit, table, code_bytes, block_begin, bits_begin, bits_end, sym_offset, word_end, one_bit, byte_bits, one_byte, body, head, output, huffman_program}
use Rattle.spf_apps_texts.specs.Texts.{huffman_lines, huffman_text}
use Rattle.spf_apps_texts.proofs.Lines.{HasLines, part, if_line, for_line, ◌and◌, none, same, HasPieces, ◌then◌, piece, last, operands, between, input_at, ended, zero_written, one_written, eight_written, words_written, array_pieces}

-- the lines of its text
abbrev text_lines : ℕ → List (List ℕ)
text_lines size = huffman_lines (decimal size) (decimal (size - 1)) (decimal (8 * size))

-- the names of `main`
abbrev names : Vocabulary
names = record { arrays = codes "code" ∷ codes "sym" ∷ []; functions = codes "bite" ∷ codes "look" ∷ []; slots = huffman.slots }

-- ---- expressions

begin : (size : ℕ) → HasPieces (expression_text (spelled_expression names (block_begin size))) (decimal size ∷ codes " * " ∷ codes "k" ∷ [])
begin size = operands (piece (decimal size)) (codes " * ") (piece (codes "k"))

bits_from : (size : ℕ) → HasPieces (expression_text (spelled_expression names (bits_begin size))) (decimal (8 * size) ∷ codes " * " ∷ codes "k" ∷ [])
bits_from size = operands (piece (decimal (8 * size))) (codes " * ") (piece (codes "k"))

bits_to : (size : ℕ) → HasPieces (expression_text (spelled_expression names (bits_end size))) (decimal (8 * size) ∷ codes " * " ∷ codes "k" ∷ codes " + " ∷ decimal (8 * size) ∷ [])
bits_to size = operands (bits_from size) (codes " + ") (piece (decimal (8 * size)))

count : HasPieces (expression_text (spelled_expression names code_bytes)) (codes "len" ∷ codes " - " ∷ codes "264" ∷ [])
count = operands (piece (codes "len")) (codes " - ") words_written

block_count : (size : ℕ) → HasPieces (expression_text (spelled_expression names (blocks_for code_bytes size))) (codes "(" ∷ codes "len" ∷ codes " - " ∷ codes "264" ∷ codes " + " ∷ decimal (size - 1) ∷ codes ")" ∷ codes " / " ∷ decimal size ∷ [])
block_count size =
    operands (between (codes "(") (operands count (codes " + ") (piece (decimal (size - 1)))) (codes ")")) (codes " / ") (piece (decimal size))

offset_of_bit : (size : ℕ) → HasPieces (expression_text (spelled_expression names (sym_offset size))) (decimal (8 * size) ∷ codes " * " ∷ codes "k" ∷ codes " + " ∷ codes "8" ∷ codes " * " ∷ codes "i" ∷ codes " + " ∷ codes "j" ∷ [])
offset_of_bit size =
    operands (operands (bits_from size) (codes " + ") (operands eight_written (codes " * ") (piece (codes "i")))) (codes " + ") (piece (codes "j"))

-- ---- the arrays, the functions and the table

code_array : (size : ℕ) → HasLines (array_text (record { name = codes "code"; factor = pos 0; offset = pos 65536; line = 1 })) (part 1 1 (text_lines size))
unfolding digits
code_array size = record { are = refl }

some_bits : (size : ℕ) → 1 ≤ size → 1 ≤ 8 * size
some_bits size h = omega (arith, h)

the_arrays : (size : ℕ) → 1 ≤ size → HasLines (arrays_text (huffman_program size).arrays) (part 1 2 (text_lines size))
the_arrays size h =
    code_array size and (ended (array_pieces (codes "sym") (codes "8") 7 (8 * size) eight_written (some_bits size h)).are (simp append_assoc) and none)

bite : (size : ℕ) → HasLines (function_text (spelled_function (huffman_program size) huffman.bite)) (part 3 18 (text_lines size))
unfolding digits
bite size = record { are = refl }

look : (size : ℕ) → HasLines (functions_text (spelled_function (huffman_program size) huffman.look ∷ [])) (part 19 27 (text_lines size))
unfolding digits
look size = record { are = refl }

word_begins : (size : ℕ) → HasLines (statement_text (codes "  ") (spelled_statement names (Let 0 (number 0)))) (part 29 29 (text_lines size))
unfolding digits
word_begins size = record { are = refl }

the_table : (size : ℕ) → HasLines (statement_text (codes "  ") (spelled_statement names table)) (part 30 38 (text_lines size))
unfolding digits
the_table size = record { are = refl }

-- ---- a bit

found : (size : ℕ) → HasLines (if_line names (codes "          ") (Compare Ne (Local 5) (number 0))) (part 46 46 (text_lines size))
unfolding digits
found size = record { are = refl }

moved : (size : ℕ) → HasLines (statement_text (codes "            ") (spelled_statement names (Assign 5 (with_bit 5 7 8)))) (part 47 47 (text_lines size))
unfolding digits
moved size = record { are = refl }

too_long : (size : ℕ) → HasLines (if_line names (codes "            ") (Compare Gt (Local 5) (number 65535))) (part 48 48 (text_lines size))
unfolding digits
too_long size = record { are = refl }

lost : (size : ℕ) → HasLines (block_text (codes "              ") (spelled_block names (only 39 (Assign 5 (number 0))))) (part 49 49 (text_lines size))
unfolding digits
lost size = record { are = refl }

whole : (size : ℕ) → HasLines (if_line names (codes "              ") (Compare Ne (Load 0 (Local 5)) (number 0))) (part 51 51 (text_lines size))
unfolding digits
whole size = record { are = refl }

kept : (size : ℕ) → HasLines (statement_text (codes "                ") (spelled_statement names (Store 1 (sym_offset size) (Load 0 (Local 5))))) (part 52 52 (text_lines size))
kept size =
    ended (piece (codes "                sym[") then offset_of_bit size then piece (codes "] = ") then last (piece (codes "code[h];"))).are (simp append_assoc)

again : (size : ℕ) → HasLines (block_text (codes "                ") (spelled_block names (only 40 (Assign 5 (number 1))))) (part 53 53 (text_lines size))
unfolding digits
again size = record { are = refl }

bit : (size : ℕ) → HasLines (block_text (codes "          ") (spelled_block names (one_bit size))) (part 46 56 (text_lines size))
bit size =
    let ls = text_lines size in
    let ends = whole size and (kept size and again size) and same 54 54 ls in
    let checked = too_long size and lost size and (same 50 50 ls and ends and none and same 55 55 ls) in
    found size and (moved size and (checked and none)) and same 56 56 ls and none

-- ---- the fold

fold_begins : (size : ℕ) → HasLines (fold_line (codes "  ") (spelled_fold names (head size))) (part 39 39 (text_lines size))
fold_begins size =
    let guess = piece (codes "look") then between (codes "(") (last (begin size)) (codes ")") in
    ended (piece (codes "  specfold s = ") then last one_written then piece (codes " for k in ") then zero_written then piece (codes "..")
    then block_count size then piece (codes " predict ") then last guess then last (piece (codes " {"))).are (simp append_assoc)

cleared : (size : ℕ) → HasLines (statement_text (codes "    ") (spelled_statement names (Fill 1 (bits_begin size) (bits_end size) (number 0)))) (part 40 40 (text_lines size))
cleared size =
    ended (piece (codes "    fill sym[") then bits_from size then piece (codes "..") then bits_to size then piece (codes "] = ") then zero_written
    then last (piece (codes ";"))).are (simp append_assoc)

bytes_begin : (size : ℕ) → HasLines (for_line names (codes "    ") 6 (number 0) (number size)) (part 42 42 (text_lines size))
bytes_begin size =
    ended (piece (codes "    for i in ") then zero_written then piece (codes "..") then piece (decimal size) then last (piece (codes " {"))).are (simp append_assoc)

in_content : (size : ℕ) → HasLines (if_line names (codes "      ") (Compare Lt (plus (block_begin size) (Local 6)) code_bytes)) (part 43 43 (text_lines size))
in_content size =
    ended (piece (codes "      if ") then operands (operands (begin size) (codes " + ") (piece (codes "i"))) (codes " < ") count
    then last (piece (codes " {"))).are (simp append_assoc)

byte_read : (size : ℕ) → HasLines (statement_text (codes "        ") (spelled_statement names (Let 7 (Input (plus (plus (number 264) (block_begin size)) (Local 6)))))) (part 44 44 (text_lines size))
byte_read size =
    let offset = operands (operands words_written (codes " + ") (begin size)) (codes " + ") (piece (codes "i")) in
    ended (piece (codes "        let byte = ") then input_at offset then last (piece (codes ";"))).are (simp append_assoc)

bits_begin_line : (size : ℕ) → HasLines (for_line names (codes "        ") 8 (number 0) (number 8)) (part 45 45 (text_lines size))
unfolding digits
bits_begin_line size = record { are = refl }

byte : (size : ℕ) → HasLines (block_text (codes "        ") (spelled_block names (byte_bits size))) (part 44 57 (text_lines size))
byte size = byte_read size and (bits_begin_line size and bit size and same 57 57 (text_lines size) and none)

bytes : (size : ℕ) → HasLines (statement_text (codes "    ") (spelled_statement names (For 6 (number 0) (number size) (one_byte size)))) (part 42 59 (text_lines size))
bytes size =
    let ls = text_lines size in
    bytes_begin size and (in_content size and byte size and same 58 58 ls and none) and same 59 59 ls

blocks : (size : ℕ) → HasLines (statement_text (codes "  ") (spelled_statement names (Fold (head size) (body size)))) (part 39 61 (text_lines size))
blocks size =
    let ls = text_lines size in
    fold_begins size and (cleared size and (same 41 41 ls and (bytes size and none))) and same 60 60 ls and same 61 61 ls

written : (size : ℕ) → HasLines (block_text (codes "  ") (spelled_block names output)) (part 62 74 (text_lines size))
unfolding digits
written size = record { are = refl }

pub huffman_is_its_text : (size : ℕ) → 1 ≤ size → canonical_text (spelled 0 (huffman_program size)) ≡ huffman_text size
huffman_is_its_text size h =
    let ls = text_lines size in
    let main = word_begins size and (the_table size and (blocks size and written size)) in
    (the_arrays size h and (bite size and look size) and (same 28 28 ls and main and same 75 75 ls)).are
