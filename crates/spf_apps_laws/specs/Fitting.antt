-- When a decoder's program, which is written in version 1, has room for its input: its cells and its blocks are within their limits.
use Rattle.std.specs.Prelude.{ℕ, ◌+◌, ◌*◌, ◌<◌, ◌≤◌, List, length}
use Rattle.std.specs.List.{AllByRecursion}
use Rattle.spf_ast.specs.Program.{max_cells_in}
use Rattle.spf_ast.specs.Meaning.{max_blocks}
use Rattle.spf_apps_programs.specs.Laws.{IsBlockSize}

-- a file of bytes fits the program that unpacks PackBits in blocks of this size; that has a cell for each byte of the file and of one more block
pub record FitsPackBits (size : ℕ) (file : List ℕ) : Type 0 where
  pub block : IsBlockSize size
  pub bytes : AllByRecursion (λ b. b < 256) file
  pub cells : length file + size ≤ max_cells_in 1
  pub blocks : length file ≤ max_blocks * size

-- a file of bytes fits the program that decodes HUF1 in blocks of this size. The program has a cell for each word of at
-- most 15 bits and its length, 65,536 in all, and eight for each byte of the file and of one more block; its blocks
-- begin after the header of 264 bytes.
pub record FitsHuffman (size : ℕ) (file : List ℕ) : Type 0 where
  pub block : IsBlockSize size
  pub bytes : AllByRecursion (λ b. b < 256) file
  pub cells : 65536 + (8 * length file + 8 * size) ≤ max_cells_in 1
  pub blocks : length file ≤ 264 + max_blocks * size

-- a machine and a content, both of bytes, fit the program that runs the machine in blocks of this size; that has a cell
-- for each byte of both and of one more block
pub record FitsLexer (size : ℕ) (machine content : List ℕ) : Type 0 where
  pub block : IsBlockSize size
  pub machine_bytes : AllByRecursion (λ b. b < 256) machine
  pub content_bytes : AllByRecursion (λ b. b < 256) content
  pub cells : (length machine + length content) + size ≤ max_cells_in 1
  pub blocks : length content ≤ max_blocks * size
