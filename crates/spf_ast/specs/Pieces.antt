-- `main` in pieces: the statements up to the next top construct, and the construct itself.
use Rattle.std.specs.Prelude.{ℕ, zero, suc, if◌then◌else◌, Option, None}
use Rattle.spf_ast.specs.Syntax.{Block, end, on_line}
use Rattle.spf_ast.specs.Construct.{Construct, construct_of, is_construct}

-- the statements from an index on
abbrev pub rest_from : ℕ → Block → Block
rest_from zero block = block
rest_from (suc index) end = end
rest_from (suc index) (on_line line first rest) = rest_from index rest

-- how many statements a block has
abbrev pub statement_count : Block → ℕ
statement_count end = 0
statement_count (on_line line first rest) = suc (statement_count rest)

-- the statements before the first construct
abbrev pub before_construct : Block → Block
before_construct end = end
before_construct (on_line line first rest) = if is_construct first then end else on_line line first (before_construct rest)

-- the statements from the first construct on
abbrev pub from_construct : Block → Block
from_construct end = end
from_construct (on_line line first rest) = if is_construct first then on_line line first rest else from_construct rest

-- the construct that stands first, where one does
abbrev pub construct_first : Block → Option Construct
construct_first end = None
construct_first (on_line line first rest) = construct_of line first
