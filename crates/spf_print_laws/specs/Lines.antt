-- Resolved programs but for their lines.
use Rattle.std.specs.Prelude.{◌≡◌, map}
use Rattle.spf_ast.specs.Syntax.{Statement, If, For, While, Fold, Pair, Block, end, on_line, Array, Function, Program}

abbrev mutual
  -- a statement, all of whose lines are 0
  pub without_lines : Statement → Statement
  without_lines (If test a b) = If test (block_without_lines a) (block_without_lines b)
  without_lines (For slot low high body) = For slot low high (block_without_lines body)
  without_lines (While test most body) = While test most (block_without_lines body)
  without_lines (Fold head body) = Fold (record head { next_line = 0 }) (block_without_lines body)
  without_lines (Pair head producer consumer) =
      Pair (record head { give_line = 0 }) (block_without_lines producer) (block_without_lines consumer)
  without_lines s = s

  -- a block
  pub block_without_lines : Block → Block
  block_without_lines end = end
  block_without_lines (on_line line first rest) = on_line 0 (without_lines first) (block_without_lines rest)

-- a function
abbrev pub function_without_lines : Function → Function
function_without_lines f = record {
  name = f.name;
  params = f.params;
  slots = f.slots;
  body = block_without_lines f.body;
  answer = f.answer;
  answer_line = 0;
  line = 0;
}

-- a whole program
abbrev pub program_without_lines : Program → Program
program_without_lines p = record {
  version = p.version;
  arrays = map (λ (a : Array). record a { line = 0 }) p.arrays;
  functions = map function_without_lines p.functions;
  slots = p.slots;
  main = block_without_lines p.main;
}

-- two programs are the same but for their lines
abbrev pub AreSameButForLines : Program → Program → Type 0
AreSameButForLines p q = program_without_lines p ≡ program_without_lines q
