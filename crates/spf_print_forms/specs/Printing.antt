-- What the printer's functions are given, as the definitions have it.
use Rattle.std.specs.Prelude.{map}
use Rattle.spf_print_forms.specs.declared.pieces.Names as code
use Rattle.spf_ast.specs.declared.syntax.Array as code_array
use Rattle.spf_ast.specs.declared.syntax.Function as code_function
use Rattle.spf_ast.specs.View.{name}
use Rattle.spf_ast.specs.Spelling.{Vocabulary}

-- the names that the numbers of a form stand for
abbrev pub vocabulary_of : code.Names → Vocabulary
vocabulary_of names = record {
  arrays = map (λ (a : code_array.Array). name a.name) names.arrays.now;
  functions = map (λ (f : code_function.Function). name f.name) names.functions.now;
  slots = map name names.slots.now;
}
