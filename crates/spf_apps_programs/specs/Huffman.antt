-- The program that decodes HUF1 in blocks of a size.
--
-- The carried word is a 1 followed by the bits that were read since the last whole code word, or since the start where there is
-- none, or 0 once 16 bits were read without a whole code word. The predictor decodes the 16 bytes before the block.
--
--  1  array code[65536];
--  2  array sym[8*len + 8SIZE];
--  3  fn bite(g, byte) {
--  4    let h = g;
--  5    for j in 0..8 {
--  6      if h != 0 {
--  7        h = h * 2 + (byte >> 7 - j & 1);
--  8        if h > 65535 {
--  9          h = 0;
-- 10        } else { if code[h] != 0 { h = 1; } }
-- 11      }
-- 12    }
-- 13    return h;
-- 14  }
-- 15  fn look(p) {
-- 16    let h = 1;
-- 17    for i in p - 16..p {
-- 18      if i >= 0 { h = bite(h, input[264 + i]); }
-- 19    }
-- 20    return h;
-- 21  }
-- 22  main {
-- 23    let v = 0;
-- 24    for n in 1..16 {
-- 25      for y in 0..256 {
-- 26        if input[4 + y] == n { code[(1 << n) + v] = y + 1; v = v + 1; }
-- 27      }
-- 28      v = v * 2;
-- 29    }
-- 30    specfold s = 1 for k in 0..(len - 264 + SIZE-1) / SIZE predict look(SIZE * k) {
-- 31      fill sym[8SIZE * k..8SIZE * k + 8SIZE] = 0;
-- 32      let h = s;
-- 33      for i in 0..SIZE {
-- 34        if SIZE * k + i < len - 264 {
-- 35          let byte = input[264 + SIZE * k + i];
-- 36          for j in 0..8 {
-- 37            if h != 0 {
-- 38              h = h * 2 + (byte >> 7 - j & 1);
-- 39              if h > 65535 { h = 0; }
-- 40              else { if code[h] != 0 { sym[8SIZE * k + 8 * i + j] = code[h]; h = 1; } }
-- 41            }
-- 42          }
-- 43        }
-- 44      }
-- 45      next h;
-- 46    }
-- 47    let want = ((input[260] * 256 + input[261]) * 256 + input[262]) * 256 + input[263];
-- 48    let got = 0;
-- 49    for i in 0..8 * (len - 264) {
-- 50      if sym[i] != 0 { if got < want { emit sym[i] - 1; got = got + 1; } }
-- 51    }
-- 52    if got < want {
-- 53      fail 1;
-- 54    }
-- 55  }
use Rattle.std.specs.Prelude.{ℕ, ◌*◌, List, [], ◌∷◌, pos, codes}
use Rattle.spf_ast.specs.declared.syntax.Op.TheVariants.{Shl}
use Rattle.spf_ast.specs.declared.syntax.Test.TheVariants.{Eq, Ne, Lt, Gt, Ge}
use Rattle.spf_ast.specs.Syntax.{
  Expression,
  Local,
  Len,
  Input,
  Load,
  Call,
  Binary,
  argument,
  no_more,
  Compare,
  By,
  Statement,
  Let,
  Assign,
  Store,
  Fill,
  Emit,
  Fail,
  If,
  For,
  Fold,
  Block,
  end,
  on_line,
  FoldHead,
  Function,
  Program,
}
use Rattle.spf_apps_programs.specs.Writing.{number, plus, minus, times, shifted_right, masked, only, blocks_for}

-- ---- functions

-- h * 2 + (byte >> 7 - j & 1), where these are in slots
abbrev pub with_bit : (h byte j : ℕ) → Expression
with_bit h byte j = plus (times (Local h) (number 2)) (masked (shifted_right (Local byte) (minus (number 7) (Local j))) (number 1))

-- line 10: a code word is whole, or isn't yet
abbrev pub bite_whole : Block
bite_whole = only 10 (If (Compare Ne (Load 0 (Local 2)) (number 0)) (only 10 (Assign 2 (number 1))) end)

-- lines 6 to 11: a bit
abbrev pub bite_bits : Block
bite_bits =
    only 6 (If (Compare Ne (Local 2) (number 0))
    (on_line 7 (Assign 2 (with_bit 2 1 3))
    (only 8 (If (Compare Gt (Local 2) (number 65535))
    (only 9 (Assign 2 (number 0)))
    bite_whole))) end)

abbrev pub bite : Function
bite = record {
  name = codes "bite";
  params = 2;
  slots = codes "g" ∷ codes "byte" ∷ codes "h" ∷ codes "j" ∷ [];
  body = on_line 4 (Let 2 (Local 0)) (only 5 (For 3 (number 0) (number 8) bite_bits));
  answer = Local 2;
  answer_line = 13;
  line = 3;
}

-- line 18
abbrev pub look_byte : Block
look_byte =
    only 18 (If (Compare Ge (Local 2) (number 0))
    (only 18 (Assign 1 (Call 0 (argument (Local 1) (argument (Input (plus (number 264) (Local 2))) no_more))))) end)

abbrev pub look : Function
look = record {
  name = codes "look";
  params = 1;
  slots = codes "p" ∷ codes "h" ∷ codes "i" ∷ [];
  body = on_line 16 (Let 1 (number 1)) (only 17 (For 2 (minus (Local 0) (number 16)) (Local 0) look_byte));
  answer = Local 1;
  answer_line = 20;
  line = 15;
}

-- ---- the table of code words

-- the slots of `main`: v, n and y of the table, s, k, h, i, byte and j of the fold, and want, got and i of the output
abbrev pub slots : List (List ℕ)
slots =
    codes "v" ∷ codes "n" ∷ codes "y" ∷ codes "s" ∷ codes "k" ∷ codes "h" ∷ codes "i" ∷ codes "byte" ∷ codes "j"
    ∷ codes "want" ∷ codes "got" ∷ codes "i" ∷ []

-- line 26: a symbol with code words of n bits
abbrev pub table_entry : Block
table_entry =
    only 26 (If (Compare Eq (Input (plus (number 4) (Local 2))) (Local 1))
    (on_line 26 (Store 0 (plus (Binary Shl (number 1) (Local 1)) (Local 0)) (plus (Local 2) (number 1)))
    (only 26 (Assign 0 (plus (Local 0) (number 1))))) end)

-- lines 24 to 29
abbrev pub table : Statement
table =
    For 1 (number 1) (number 16)
    (on_line 25 (For 2 (number 0) (number 256) table_entry) (only 28 (Assign 0 (times (Local 0) (number 2)))))

-- ---- the fold

-- len - 264: how many bytes hold code words
abbrev pub code_bytes : Expression
code_bytes = minus Len (number 264)

-- SIZE * k
abbrev pub block_begin : ℕ → Expression
block_begin size = times (number size) (Local 4)

-- 8SIZE * k
abbrev pub bits_begin : ℕ → Expression
bits_begin size = times (number (8 * size)) (Local 4)

-- 8SIZE * k + 8SIZE
abbrev pub bits_end : ℕ → Expression
bits_end size = plus (bits_begin size) (number (8 * size))

-- 8SIZE * k + 8 * i + j: the offset of a bit
abbrev pub sym_offset : ℕ → Expression
sym_offset size = plus (plus (bits_begin size) (times (number 8) (Local 6))) (Local 8)

-- line 40: a code word is whole, or isn't yet
abbrev pub word_end : ℕ → Block
word_end size =
    only 40 (If (Compare Ne (Load 0 (Local 5)) (number 0))
    (on_line 40 (Store 1 (sym_offset size) (Load 0 (Local 5)))
    (only 40 (Assign 5 (number 1)))) end)

-- lines 37 to 41: a bit
abbrev pub one_bit : ℕ → Block
one_bit size =
    only 37 (If (Compare Ne (Local 5) (number 0))
    (on_line 38 (Assign 5 (with_bit 5 7 8))
    (only 39 (If (Compare Gt (Local 5) (number 65535)) (only 39 (Assign 5 (number 0))) (word_end size)))) end)

-- lines 35 to 42: the bits of a byte
abbrev pub byte_bits : ℕ → Block
byte_bits size =
    on_line 35 (Let 7 (Input (plus (plus (number 264) (block_begin size)) (Local 6))))
    (only 36 (For 8 (number 0) (number 8) (one_bit size)))

-- lines 34 to 43: a byte
abbrev pub one_byte : ℕ → Block
one_byte size = only 34 (If (Compare Lt (plus (block_begin size) (Local 6)) code_bytes) (byte_bits size) end)

-- lines 31 to 44
abbrev pub body : ℕ → Block
body size =
    on_line 31 (Fill 1 (bits_begin size) (bits_end size) (number 0))
    (on_line 32 (Let 5 (Local 3)) (only 33 (For 6 (number 0) (number size) (one_byte size))))

-- lines 30 and 45
abbrev pub head : ℕ → FoldHead
head size = record {
  carried = 3 ∷ [];
  start = argument (number 1) no_more;
  block = 4;
  low = number 0;
  high = blocks_for code_bytes size;
  predict = By (Call 1 (argument (block_begin size) no_more)) ∷ [];
  next = argument (Local 5) no_more;
  next_line = 45;
}

-- ---- the output

-- a * 256 + input[i]
abbrev pub with_byte : Expression → ℕ → Expression
with_byte a i = plus (times a (number 256)) (Input (number i))

-- line 47: how many symbols are wanted
abbrev pub wanted : Expression
wanted = with_byte (with_byte (with_byte (Input (number 260)) 261) 262) 263

-- lines 50 and 51: a symbol, where a code word ends and symbols are wanted
abbrev pub symbol_out : Block
symbol_out =
    only 50 (If (Compare Ne (Load 1 (Local 11)) (number 0))
    (only 50 (If (Compare Lt (Local 10) (Local 9))
    (on_line 50 (Emit (minus (Load 1 (Local 11)) (number 1))) (only 50 (Assign 10 (plus (Local 10) (number 1))))) end)) end)

-- lines 49 to 51
abbrev pub symbols_out : Statement
symbols_out = For 11 (number 0) (times (number 8) code_bytes) symbol_out

-- lines 52 to 54
abbrev pub too_few : Statement
too_few = If (Compare Lt (Local 10) (Local 9)) (only 53 (Fail 1)) end

-- lines 47 to 54
abbrev pub output : Block
output = on_line 47 (Let 9 wanted) (on_line 48 (Let 10 (number 0)) (on_line 49 symbols_out (only 52 too_few)))

-- lines 23 to 54
abbrev pub main : ℕ → Block
main size = on_line 23 (Let 0 (number 0)) (on_line 24 table (on_line 30 (Fold (head size) (body size)) output))

abbrev pub huffman_program : ℕ → Program
huffman_program size = record {
  version = 1;
  arrays =
      record { name = codes "code"; factor = pos 0; offset = pos 65536; line = 1 }
      ∷ record { name = codes "sym"; factor = pos 8; offset = pos (8 * size); line = 2 }
      ∷ [];
  functions = bite ∷ look ∷ [];
  slots = slots;
  main = main size;
}
