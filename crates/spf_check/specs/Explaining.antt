-- The explanation of a program.
use Rattle.std.specs.Prelude.{ℕ, List}
use Rattle.spf_ast.specs.Syntax.{Program}
use Rattle.spf_ast.specs.Construct.{constructs_in}
use Rattle.spf_check.specs.Text.{AreConstructTexts}

-- for each top construct its line, the effects of its parts and the verdict
abbrev pub Explains : Program → List ℕ → Type 0
Explains p text = AreConstructTexts p (constructs_in p.main) text
