use Rattle.std.proofs.Common.{ap, map}
use Rattle.spf_ast.specs.View.{function}
use Rattle.spf_apps_programs.proofs.packbits.build.Goals as goal

pub returns : goal.returns
returns c =
    let arrays = c.one_array-arrays.ensures _ c.sized_array.ensures in
    c.program.ensures _ _ _ _ arrays (ap (map function) c.new.ensures.items) c.names-slots.ensures c.statements.ensures
