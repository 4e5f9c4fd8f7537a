use Rattle.spf_ast.specs.View.{arguments}
use Rattle.spf_ast.specs.Spelling.{spelled_arguments}
use Rattle.spf_print_forms.specs.Canonical.{arguments_text}
use Rattle.spf_print_forms.specs.Printing.{vocabulary_of}
use Rattle.spf_print_forms.proofs.Printing.{in_several, in_one, written_count}
use Rattle.spf_print_forms.proofs.expressions.push_row.Goals as goal

pub returns-then-parts-gt1 : goal.returns-then-parts-gt1
returns-then-parts-gt1 c =
    rw (written_count (vocabulary_of c.args.names.now) c.args.parts.now, in_several c.args.parts.now (arguments_text (spelled_arguments (vocabulary_of c.args.names.now) (arguments c.args.parts.now))) c.if-parts-gt1.true) c.push_arguments.ensures

pub returns-else-parts-gt1 : goal.returns-else-parts-gt1
returns-else-parts-gt1 c =
    rw (written_count (vocabulary_of c.args.names.now) c.args.parts.now, in_one c.args.parts.now (arguments_text (spelled_arguments (vocabulary_of c.args.names.now) (arguments c.args.parts.now))) c.if-parts-gt1.false) c.push_list.ensures
