-- The program that runs a LEX1 machine over the bytes after it, in blocks of a size.
--
-- The carried word is the state. The predictor runs the machine over the 32 bytes before the block, from state 0. CLASSES is the
-- number of classes, MACHINE the length of the machine's file.
--
--  1  array mark[1*len + SIZE];
--  2  fn look(p) {
--  3    let q = 0;
--  4    for i in p - 32..p {
--  5      if i >= 0 { q = input[262 + 2 * (q * CLASSES + input[6 + input[MACHINE + i]])]; }
--  6    }
--  7    return q;
--  8  }
--  9  main {
-- 10    specfold s = 0 for k in 0..(len - MACHINE + SIZE-1) / SIZE predict look(SIZE * k) {
-- 11      fill mark[SIZE * k..SIZE * k + SIZE] = 0;
-- 12      let q = s;
-- 13      for i in SIZE * k..SIZE * k + SIZE {
-- 14        if i < len - MACHINE {
-- 15          let e = 262 + 2 * (q * CLASSES + input[6 + input[MACHINE + i]]);
-- 16          mark[i] = input[e + 1];
-- 17          q = input[e];
-- 18        }
-- 19      }
-- 20      next q;
-- 21    }
-- 22    for i in 0..len - MACHINE {
-- 23      if mark[i] != 0 {
-- 24        emit mark[i];
-- 25        emit i >> 24;
-- 26        emit i >> 16 & 255;
-- 27        emit i >> 8 & 255;
-- 28        emit i & 255;
-- 29      }
-- 30    }
-- 31  }
use Rattle.std.specs.Prelude.{ℕ, ◌+◌, ◌*◌, List, [], ◌∷◌, pos, codes}
use Rattle.spf_ast.specs.declared.syntax.Test.TheVariants.{Ne, Lt, Ge}
use Rattle.spf_ast.specs.Syntax.{
  Expression,
  Local,
  Len,
  Input,
  Load,
  Call,
  argument,
  no_more,
  Compare,
  By,
  Statement,
  Let,
  Assign,
  Store,
  Fill,
  Emit,
  If,
  For,
  Fold,
  Block,
  end,
  on_line,
  FoldHead,
  Function,
  Program,
}
use Rattle.spf_apps_programs.specs.Writing.{number, plus, minus, times, shifted_right, masked, only, blocks_for}

-- the length of the file of a machine
abbrev pub machine_length : ℕ → ℕ → ℕ
machine_length states classes = 262 + 2 * (states * classes)

-- the offset of the entry for the state in one slot and the byte at the offset in another slot
abbrev pub entry_at : (classes machine state at : ℕ) → Expression
entry_at classes machine state at =
    plus (number 262) (times (number 2) (plus (times (Local state) (number classes)) (Input (plus (number 6) (Input (plus (number machine) (Local at)))))))

-- line 5
abbrev pub look_byte : (classes machine : ℕ) → Block
look_byte classes machine =
    only 5 (If (Compare Ge (Local 2) (number 0)) (only 5 (Assign 1 (Input (entry_at classes machine 1 2)))) end)

abbrev pub look : (classes machine : ℕ) → Function
look classes machine = record {
  name = codes "look";
  params = 1;
  slots = codes "p" ∷ codes "q" ∷ codes "i" ∷ [];
  body = on_line 3 (Let 1 (number 0)) (only 4 (For 2 (minus (Local 0) (number 32)) (Local 0) (look_byte classes machine)));
  answer = Local 1;
  answer_line = 7;
  line = 2;
}

-- the slots of `main`: s, k, q, i and e of the fold, and i of the output
abbrev pub slots : List (List ℕ)
slots = codes "s" ∷ codes "k" ∷ codes "q" ∷ codes "i" ∷ codes "e" ∷ codes "i" ∷ []

-- SIZE * k
abbrev pub block_begin : ℕ → Expression
block_begin size = times (number size) (Local 1)

-- SIZE * k + SIZE
abbrev pub block_end : ℕ → Expression
block_end size = plus (block_begin size) (number size)

-- len - MACHINE: how many bytes are read
abbrev pub content : ℕ → Expression
content machine = minus Len (number machine)

-- lines 15 to 17: a step of the machine
abbrev pub step : (classes machine : ℕ) → Block
step classes machine =
    on_line 15 (Let 4 (entry_at classes machine 2 3))
    (on_line 16 (Store 0 (Local 3) (Input (plus (Local 4) (number 1)))) (only 17 (Assign 2 (Input (Local 4)))))

-- lines 14 to 18: a byte
abbrev pub one_byte : (classes machine : ℕ) → Block
one_byte classes machine = only 14 (If (Compare Lt (Local 3) (content machine)) (step classes machine) end)

-- lines 11 to 19
abbrev pub body : (size classes machine : ℕ) → Block
body size classes machine =
    on_line 11 (Fill 0 (block_begin size) (block_end size) (number 0))
    (on_line 12 (Let 2 (Local 0)) (only 13 (For 3 (block_begin size) (block_end size) (one_byte classes machine))))

-- lines 10 and 20
abbrev pub head : (size machine : ℕ) → FoldHead
head size machine = record {
  carried = 0 ∷ [];
  start = argument (number 0) no_more;
  block = 1;
  low = number 0;
  high = blocks_for (content machine) size;
  predict = By (Call 0 (argument (block_begin size) no_more)) ∷ [];
  next = argument (Local 2) no_more;
  next_line = 20;
}

-- a byte of the offset, by how many bits it is shifted
abbrev pub offset_byte : ℕ → Statement
offset_byte bits = Emit (masked (shifted_right (Local 5) (number bits)) (number 255))

-- lines 24 to 28: a token, as its kind and its offset with the highest byte first
abbrev pub token : Block
token =
    on_line 24 (Emit (Load 0 (Local 5)))
    (on_line 25 (Emit (shifted_right (Local 5) (number 24)))
    (on_line 26 (offset_byte 16)
    (on_line 27 (offset_byte 8)
    (only 28 (Emit (masked (Local 5) (number 255)))))))

-- lines 22 to 30
abbrev pub output : ℕ → Statement
output machine = For 5 (number 0) (content machine) (only 23 (If (Compare Ne (Load 0 (Local 5)) (number 0)) token end))

abbrev pub program_for : (size classes machine : ℕ) → Program
program_for size classes machine = record {
  version = 1;
  arrays = record { name = codes "mark"; factor = pos 1; offset = pos size; line = 1 } ∷ [];
  functions = look classes machine ∷ [];
  slots = slots;
  main = on_line 10 (Fold (head size machine) (body size classes machine)) (only 22 (output machine));
}

-- the program for machines with these numbers of states and classes
abbrev pub lexer_program : (size states classes : ℕ) → Program
lexer_program size states classes = program_for size classes (machine_length states classes)
