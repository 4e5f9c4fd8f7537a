-- The program that unpacks PackBits in blocks of a size.
--
-- The carried word is 0 where a header comes next, n > 0 where n bytes are to be copied, and -n where the next byte is repeated
-- n times. Cell i of `rep` says how often input byte i is written.
--
--  1  array rep[1*len + SIZE];
--  2  main {
--  3    specfold s = 0 for k in 0..(len + SIZE-1) / SIZE predict 0 {
--  4      fill rep[SIZE * k..SIZE * k + SIZE] = 0;
--  5      let t = s;
--  6      for i in SIZE * k..SIZE * k + SIZE {
--  7        if i < len {
--  8          let b = input[i];
--  9          if t == 0 {
-- 10            if b < 128 {
-- 11              t = b + 1;
-- 12            }
-- 13            if b > 128 {
-- 14              t = b - 257;
-- 15            }
-- 16          } else {
-- 17            if t > 0 {
-- 18              rep[i] = 1;
-- 19              t = t - 1;
-- 20            } else {
-- 21              rep[i] = 0 - t;
-- 22              t = 0;
-- 23            }
-- 24          }
-- 25        }
-- 26      }
-- 27      next t;
-- 28    }
-- 29    for i in 0..len {
-- 30      for j in 0..rep[i] {
-- 31        emit input[i];
-- 32      }
-- 33    }
-- 34  }
use Rattle.std.specs.Prelude.{ℕ, List, [], ◌∷◌, pos, codes}
use Rattle.spf_ast.specs.declared.syntax.Test.TheVariants.{Eq, Lt, Gt}
use Rattle.spf_ast.specs.Syntax.{
  Expression,
  Local,
  Len,
  Input,
  Load,
  argument,
  no_more,
  Compare,
  By,
  Statement,
  Let,
  Assign,
  Store,
  Fill,
  Emit,
  If,
  For,
  Fold,
  Block,
  end,
  on_line,
  FoldHead,
  Program,
}
use Rattle.spf_apps_programs.specs.Writing.{number, plus, minus, times, only, blocks_for}

-- the slots of `main`: s, k, t, i and b of the fold, and i and j of the output
abbrev pub slots : List (List ℕ)
slots = codes "s" ∷ codes "k" ∷ codes "t" ∷ codes "i" ∷ codes "b" ∷ codes "i" ∷ codes "j" ∷ []

-- SIZE * k
abbrev pub block_begin : ℕ → Expression
block_begin size = times (number size) (Local 1)

-- SIZE * k + SIZE
abbrev pub block_end : ℕ → Expression
block_end size = plus (block_begin size) (number size)

-- lines 10 to 15: a header
abbrev pub header : Block
header =
    on_line 10 (If (Compare Lt (Local 4) (number 128)) (only 11 (Assign 2 (plus (Local 4) (number 1)))) end)
    (only 13 (If (Compare Gt (Local 4) (number 128)) (only 14 (Assign 2 (minus (Local 4) (number 257)))) end))

-- lines 18 and 19: a byte that is copied
abbrev pub copied : Block
copied = on_line 18 (Store 0 (Local 3) (number 1)) (only 19 (Assign 2 (minus (Local 2) (number 1))))

-- lines 21 and 22: a byte that is repeated
abbrev pub repeated : Block
repeated = on_line 21 (Store 0 (Local 3) (minus (number 0) (Local 2))) (only 22 (Assign 2 (number 0)))

-- lines 17 to 23: a byte of data
abbrev pub data_byte : Block
data_byte = only 17 (If (Compare Gt (Local 2) (number 0)) copied repeated)

-- lines 8 to 24: a byte of the input
abbrev pub one_byte : Block
one_byte = on_line 8 (Let 4 (Input (Local 3))) (only 9 (If (Compare Eq (Local 2) (number 0)) header data_byte))

-- lines 6 to 26
abbrev pub block_bytes : ℕ → Statement
block_bytes size = For 3 (block_begin size) (block_end size) (only 7 (If (Compare Lt (Local 3) Len) one_byte end))

-- lines 4 to 26
abbrev pub body : ℕ → Block
body size =
    on_line 4 (Fill 0 (block_begin size) (block_end size) (number 0))
    (on_line 5 (Let 2 (Local 0))
    (only 6 (block_bytes size)))

-- lines 3 and 27
abbrev pub head : ℕ → FoldHead
head size = record {
  carried = 0 ∷ [];
  start = argument (number 0) no_more;
  block = 1;
  low = number 0;
  high = blocks_for Len size;
  predict = By (number 0) ∷ [];
  next = argument (Local 2) no_more;
  next_line = 27;
}

-- lines 29 to 33
abbrev pub output : Statement
output = For 5 (number 0) Len (only 30 (For 6 (number 0) (Load 0 (Local 5)) (only 31 (Emit (Input (Local 5))))))

abbrev pub packbits_program : ℕ → Program
packbits_program size = record {
  version = 1;
  arrays = record { name = codes "rep"; factor = pos 1; offset = pos size; line = 1 } ∷ [];
  functions = [];
  slots = slots;
  main = on_line 3 (Fold (head size) (body size)) (only 29 output);
}
