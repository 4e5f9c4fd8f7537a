-- Worked examples, of one array.
use Rattle.std.specs.Prelude.{◌∷◌, [], pos}
use Rattle.spf_ast.specs.declared.syntax.Op.TheVariants.{Add, Mul, And}
use Rattle.spf_ast.specs.declared.syntax.Part.TheVariants.{Body}
use Rattle.spf_ast.specs.declared.syntax.Test.TheVariants.{Eq, Gt}
use Rattle.spf_ast.specs.Syntax.{
  Expression,
  Number,
  Local,
  Load,
  Call,
  Binary,
  argument,
  no_more,
  Compare,
  Fill,
  Store,
  If,
  For,
  Fold,
  Break,
  Block,
  end,
  on_line,
  FoldHead,
  By,
  Function,
  Program,
}
use Rattle.spf_ast.specs.Construct.{fold}
use Rattle.spf_effects_findings.specs.Parts.{PartEffects, part_effects}

-- a fold over blocks 0 to 2 with the carried slot 0 and the block number in slot 1
abbrev pub head : Expression → FoldHead
head next = record {
  carried = 0 ∷ [];
  start = argument (Number (pos 0)) no_more;
  block = 1;
  low = Number (pos 0);
  high = Number (pos 3);
  predict = By (Number (pos 1)) ∷ [];
  next = argument next no_more;
  next_line = 1;
}

abbrev pub program_of : Expression → Block → Program
program_of next body = record {
  version = 2;
  arrays = record { name = []; factor = pos 0; offset = pos 6; line = 1 } ∷ [];
  functions = [];
  slots = [] ∷ [] ∷ [] ∷ [] ∷ [];
  main = on_line 1 (Fold (head next) body) end;
}

-- the effects of the body of such a fold
abbrev pub body_effects : Expression → Block → PartEffects
body_effects next body = part_effects (program_of next body) (fold 1 (head next) body) Body

-- 2 * k
abbrev pub first : Expression
first = Binary Mul (Number (pos 2)) (Local 1)

-- fill out[2 * k..2 * k + 2] = 0; out[2 * k + (s & 1)] = 7; next s + 1;
abbrev pub filled_block : PartEffects
filled_block =
    body_effects (Binary Add (Local 0) (Number (pos 1)))
    (on_line 1 (Fill 0 first (Binary Add first (Number (pos 2))) (Number (pos 0)))
    (on_line 1 (Store 0 (Binary Add first (Binary And (Local 0) (Number (pos 1)))) (Number (pos 7))) end))

-- for i in 0..s { out[k] = 1; } next 1;
abbrev pub short_loop : PartEffects
short_loop =
    body_effects (Number (pos 1))
    (on_line 1 (For 2 (Number (pos 0)) (Local 0) (on_line 1 (Store 0 (Local 1) (Number (pos 1))) end)) end)

-- for i in 2 * k..2 * k + 2 { out[i] = s; } next s;
abbrev pub swept_block : PartEffects
swept_block =
    body_effects (Local 0)
    (on_line 1 (For 2 first (Binary Add first (Number (pos 2))) (on_line 1 (Store 0 (Local 2) (Local 0)) end)) end)

-- for i in 2 * k..2 * k + 2 { out[i] = s; if i > s { break; } } next s;
abbrev pub broken_block : PartEffects
broken_block =
    body_effects (Local 0)
    (on_line 1 (For 2 first (Binary Add first (Number (pos 2)))
    (on_line 1 (Store 0 (Local 2) (Local 0)) (on_line 1 (If (Compare Gt (Local 2) (Local 0)) (on_line 1 Break end) end) end))) end)

-- for i in 2 * k..2 * k + 2 { out[i] = s; for j in 0..i { break; } } next s;
abbrev pub inner_break : PartEffects
inner_break =
    body_effects (Local 0)
    (on_line 1 (For 2 first (Binary Add first (Number (pos 2)))
    (on_line 1 (Store 0 (Local 2) (Local 0)) (on_line 1 (For 3 (Number (pos 0)) (Local 2) (on_line 1 Break end)) end))) end)

-- fn put(p) { out[p] = 1; return p + 1; }
abbrev pub put : Function
put = record {
  name = [];
  params = 1;
  slots = [] ∷ [];
  body = on_line 1 (Store 0 (Local 0) (Number (pos 1))) end;
  answer = Binary Add (Local 0) (Number (pos 1));
  answer_line = 1;
  line = 1;
}

-- out[put(2 * k)] = 5;
abbrev pub store_behind_call : Block
store_behind_call = on_line 1 (Store 0 (Call 0 (argument first no_more)) (Number (pos 5))) end

-- such a body in a program with that function
abbrev pub called_write : PartEffects
called_write =
    part_effects (record (program_of (Number (pos 1)) store_behind_call) { functions = put ∷ [] })
    (fold 1 (head (Number (pos 1))) store_behind_call) Body

-- if s == 0 { out[k] = 1; } else { out[k + 1] = out[k]; } next 1;
abbrev pub branches : PartEffects
branches =
    body_effects (Number (pos 1))
    (on_line 1 (If (Compare Eq (Local 0) (Number (pos 0)))
    (on_line 1 (Store 0 (Local 1) (Number (pos 1))) end)
    (on_line 1 (Store 0 (Binary Add (Local 1) (Number (pos 1))) (Load 0 (Local 1))) end)) end)
