use Rattle.std.proofs.Common.{ap, ◌∙◌}
use Rattle.spf_ast.specs.View.{array}
use Rattle.spf_types_names.specs.Globals.{params_of}
use Rattle.spf_types_names.proofs.Tables.{params_at}
use Rattle.std.proofs.Common.{map}
use Rattle.spf_types_names.proofs.globals.GlobalTable.params.Goals as goal

pub returns-in-Some : goal.returns-in-Some
returns-in-Some c =
    c.len.ensures ∙ params_at (map array c.self.inside.arrays.now) c.self.inside.functions.now c.args.index _ (c.in-Some.ensures {u = tt}).lookup.3.0 (c.in-Some.ensures {u = tt}).lookup.1 ∙ ap (λ g. params_of g c.args.index) c.self.view_is
