-- How many cells the decoders' programs have.
use Rattle.std.proofs.Common.{◌≡◌, ℕ, ◌+◌, ◌*◌, ◌++◌, List, length, length-append, ap, pos, arith}
use Rattle.std.specs.Prelude.{◌+ℤ◌, ◌*ℤ◌}
use Rattle.std.proofs.lemmas.Int.{ints}
use Rattle.spf_ast.specs.Program.{size_or_none, cell_count_of}
use Rattle.spf_apps_programs.specs.PackBits.{packbits_program}
use Rattle.spf_apps_programs.specs.Huffman.{huffman_program}
use Rattle.spf_apps_programs.specs.Lexer.{lexer_program}

-- the size of an array
sized : (factor n offset : ℕ) → size_or_none (pos factor *ℤ pos n +ℤ pos offset) ≡ factor * n + offset
sized factor n offset = ap size_or_none (let sum : pos factor *ℤ pos n +ℤ pos offset ≡ pos (factor * n + offset) = omega (arith, ints) in sum)

pub packbits_cells : (size n : ℕ) → cell_count_of (packbits_program size) n ≡ n + size
packbits_cells size n = let e = sized 1 n size in omega (arith, e)

pub huffman_cells : (size n : ℕ) → cell_count_of (huffman_program size) n ≡ 65536 + (8 * n + 8 * size)
huffman_cells size n = let e = sized 0 n 65536 in let f = sized 8 n (8 * size) in omega (arith, e, f)

pub lexer_cells : (size states classes : ℕ) (machine content : List ℕ) → cell_count_of (lexer_program size states classes) (length (machine ++ content)) ≡ (length machine + length content) + size
lexer_cells size states classes machine content =
    let e = sized 1 (length (machine ++ content)) size in omega (arith, e, length-append machine content)
