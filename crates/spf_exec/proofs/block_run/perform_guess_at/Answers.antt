use Rattle.std.proofs.Common.{length, w64, ap, ◌∙◌}
use Rattle.std.specs.Prelude.{slice_get}
use Rattle.std.proofs.lemmas.Int.{to_z-of_z}
use Rattle.spf_ast.specs.declared.syntax.Fold.{out-Fold}
use Rattle.spf_ast.specs.View.{fold_head, block}
use Rattle.spf_ast.specs.Construct.{guess_at}
use Rattle.spf_ast.specs.Program.{environment_of}
use Rattle.spf_exec_instance.specs.Frame.{main_slots}
use Rattle.spf_exec_instance.specs.Instance.{program_of}
use Rattle.spf_exec.proofs.Leaving.{number-leaves}
use Rattle.spf_exec.proofs.Prefixes.{take_set}
use Rattle.spf_exec.proofs.Sources.{from_slots}
use Rattle.spf_exec.proofs.block_run.perform_guess_at.Goals as goal

pub returns-in-Fold-clause-performs : goal.returns-in-Fold-clause-performs
returns-in-Fold-clause-performs g c =
    let p = program_of c.args.instance.now in
    let head = fold_head c.in-Fold.fold.now in
    let written = rw (to_z-of_z w64 c.args.number c.ranges.number) at c.write.ensures in
    let slots = ap (main_slots p) written ∙ take_set (length p.slots) c.args.registers.now head.block c.args.number in
    rw c.in-Fold.is
    (from_slots (guess_at (environment_of p c.args.instance.now.input) c.args.construct.line (slice_get head.predict c.args.part)) slots
    (rw c.deref-in-Fold.ensures.value at c.guess_of.ensures.performs))

pub returns-in-Fold-clause-kept : goal.returns-in-Fold-clause-kept
returns-in-Fold-clause-kept g c =
    let p = program_of c.args.instance.now in
    let head = fold_head c.in-Fold.fold.now in
    let body = block (out-Fold c.in-Fold.fold.now).body.items in
    let written = rw (to_z-of_z w64 c.args.number c.ranges.number) at c.write.ensures in
    rw c.in-Fold.is
    (number-leaves c.args.construct.line head body (main_slots p c.args.registers.now) c.args.number
    (c.guess_of.ensures.kept ∙ ap (main_slots p) written ∙ take_set (length p.slots) c.args.registers.now head.block c.args.number))
