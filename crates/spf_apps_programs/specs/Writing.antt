-- Words in which programs are written out: the signs of the language, and code that each of the programs has.
use Rattle.std.specs.Prelude.{ℕ, ◌-◌, pos}
use Rattle.spf_ast.specs.declared.syntax.Op.TheVariants.{Add, Sub, Mul, Div, Shr, And}
use Rattle.spf_ast.specs.Syntax.{Expression, Number, Binary, Block, end, on_line, Statement}

abbrev pub number : ℕ → Expression
number n = Number (pos n)

abbrev pub plus : Expression → Expression → Expression
plus a b = Binary Add a b

abbrev pub minus : Expression → Expression → Expression
minus a b = Binary Sub a b

abbrev pub times : Expression → Expression → Expression
times a b = Binary Mul a b

abbrev pub over : Expression → Expression → Expression
over a b = Binary Div a b

abbrev pub shifted_right : Expression → Expression → Expression
shifted_right a b = Binary Shr a b

abbrev pub masked : Expression → Expression → Expression
masked a b = Binary And a b

-- one statement
abbrev pub only : ℕ → Statement → Block
only line s = on_line line s end

-- (count + SIZE-1) / SIZE: how many blocks of a size there are for `count` bytes
abbrev pub blocks_for : Expression → ℕ → Expression
blocks_for count size = over (plus count (number (size - 1))) (number size)
