-- What contracts see of a fold's parts, arrays, functions and programs.
use Rattle.std.specs.Prelude.{ℕ, List, [], ◌∷◌, map, pos}
use Rattle.spf_ast.specs.Syntax.{Expression, Number, Local, Arguments, no_more, argument, FoldHead, Predictor, By, Block, Array, Function, Program}
use Rattle.spf_ast.specs.View.{arguments, predictor}
use Rattle.spf_apps_builder.specs.declared.statement.Rows.{Rows}
use Rattle.spf_apps_builder.specs.declared.statement.Carried.{Carried}
use Rattle.spf_apps_builder.specs.declared.program.Signature.{Signature}

-- the rows of a fold: the slots that carry them, the first row, how each part is guessed, the next row, and its line
pub record RowsForm : Type 0 where
  pub carried : List ℕ
  pub start : Arguments
  pub predict : List Predictor
  pub next : Arguments
  pub next_line : ℕ

-- what is seen of the code's rows
abbrev pub rows : Rows → RowsForm
rows r = record {
  carried = r.carried.items;
  start = arguments r.start.items;
  predict = map predictor r.predict.items;
  next = arguments r.next.items;
  next_line = r.next_line;
}

-- rows of one word that is guessed by an expression
abbrev pub one_word : Carried → (guess : Expression) → RowsForm
one_word carried guess = record {
  carried = carried.slot ∷ [];
  start = argument (Number (pos carried.start)) no_more;
  predict = By guess ∷ [];
  next = argument (Local carried.next) no_more;
  next_line = carried.next_line;
}

-- a fold with these rows over `count` blocks, numbered from 0, with the slot of their numbers
abbrev pub head_of : RowsForm → (slot : ℕ) (count : Expression) → FoldHead
head_of r slot count = record {
  carried = r.carried;
  start = r.start;
  block = slot;
  low = Number (pos 0);
  high = count;
  predict = r.predict;
  next = r.next;
  next_line = r.next_line;
}

-- an array with this name, size and line
abbrev pub array_form : List ℕ → (factor offset line : ℕ) → Array
array_form name factor offset line = record { name = name; factor = pos factor; offset = pos offset; line = line }

-- a function with these numbers, name, slots and statements
abbrev pub function_form : Signature → List ℕ → List (List ℕ) → Block → Function
function_form signature name slots body = record {
  name = name;
  params = signature.params;
  slots = slots;
  body = body;
  answer = Local signature.answer;
  answer_line = signature.answer_line;
  line = signature.line;
}

-- a program of these parts, in this version of the language
abbrev pub program_form : ℕ → List Array → List Function → List (List ℕ) → Block → Program
program_form version arrays functions slots main =
    record { version = version; arrays = arrays; functions = functions; slots = slots; main = main }
