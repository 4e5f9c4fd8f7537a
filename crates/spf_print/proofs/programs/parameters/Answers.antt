use Rattle.std.proofs.Common.{ap, sym, ◌∙◌}
use Rattle.std.specs.Prelude.{map}
use Rattle.std.proofs.lemmas.List.{take_min, take-map}
use Rattle.spf_ast.specs.View.{name}
use Rattle.spf_print.proofs.programs.parameters.Goals as goal

pub returns : goal.returns
returns c =
    rw (c.min.ensures, c.deref-slots.ensures.value) (ap (map name) (take_min c.args.function.now.params c.args.function.now.slots.items) ∙ sym (take-map name c.args.function.now.params c.args.function.now.slots.items))
