use Rattle.std.proofs.Common.{◌≡◌, ◌<◌, subst, arith, to_z, of_z, w64}
use Rattle.std.specs.Prelude.{Some, slice_get}
use Rattle.std.specs.List.{All}
use Rattle.std.proofs.lemmas.Int.{to_z-of_z}
use Rattle.spf_ast.specs.Syntax.{Program}
use Rattle.spf_ast.specs.Construct.{constructs_in}
use Rattle.spf_ast.specs.ConstructView.{construct as seen_construct}
use Rattle.spf_engine.proofs.Stepping.{over-ok}
use Rattle.spf_replay_walk.proofs.Passing.{is-entry, own-spans}
use Rattle.spf_replay_walk.proofs.walker.Walker.plan_of.Goals as goal

pub returns-clause-entry : goal.returns-clause-entry
returns-clause-entry c =
    is-entry c.args.self.now.checked.now c.args.position c.args.header.now c.args.cells.now c.requires.there c.program-program.ensures.free
    (subst (All (λ b. b < 256)) c.input.ensures.same c.are_bytes.ensures)

pub returns-clause-plan : goal.returns-clause-plan
returns-clause-plan c =
    let there = c.requires.there in
    let low : to_z w64 (of_z w64 c.args.header.now.low) ≡ c.args.header.now.low = grind (arith, to_z-of_z) in
    over-ok _ _
    (λ plan. own-spans c.args.self.now.checked.now c.args.position c.args.header.now c.args.cells.now c.layout-layout.result.now (to_z w64 (of_z w64 c.args.header.now.low)) there c.layout-layout.ensures low _)
    c.plan.result
    (c.plan.ensures (seen_construct c.args.position.construct)
    (subst (λ (p : Program). slice_get (constructs_in p.main) c.args.position.index ≡ Some (seen_construct c.args.position.construct)) there.program there.construct))
