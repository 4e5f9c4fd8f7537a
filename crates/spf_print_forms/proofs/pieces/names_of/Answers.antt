use Rattle.spf_ast.specs.View.{name}
use Rattle.std.specs.Prelude.{map}
use Rattle.spf_print_forms.proofs.Printing.{array_names, function_names}
use Rattle.spf_print_forms.proofs.pieces.names_of.Goals as goal

pub returns : goal.returns
returns c =
    rw (c.deref.ensures.value, c.deref-2.ensures.value) (λ i. record {
      arrays = array_names c.args.program.now.arrays.items i;
      functions = function_names c.args.program.now.functions.items i;
      slots = map name c.args.slots.now;
    })
