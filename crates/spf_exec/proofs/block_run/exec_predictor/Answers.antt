use Rattle.std.proofs.Common.{rules, ◌≡◌, w64, FitsSigned, Ok, Err, length, ap, ◌∙◌, arith}
use Rattle.std.proofs.lemmas.Int.{to_z-of_z}
use Rattle.spf_ast.specs.Construct.{constructs_in}
use Rattle.spf_ast.specs.ConstructView.{construct}
use Rattle.spf_code_registers.specs.Registers.{rooms}
use Rattle.spf_exec_instance.specs.Frame.{main_slots}
use Rattle.spf_exec_instance.specs.Instance.{program_of}
use Rattle.spf_exec_memory.specs.declared.memory.Halt.TheVariants as h
use Rattle.spf_exec_memory.specs.declared.quiet.ReadOnly.{ReadOnly}
use Rattle.spf_exec_memory.specs.QuietMemory.{full_output}
use Rattle.spf_exec.specs.Sources.{callees_of}
use Rattle.spf_exec.proofs.Rooms.{room_at}
use Rattle.spf_exec.proofs.Sources.{construct_at}
use Rattle.spf_exec.proofs.BlockRuns.{guess_answer}
use Rattle.spf_exec.proofs.block_run.exec_predictor.Goals.{in-Ok, in-Err-Trapped}
use Rattle.spf_exec.proofs.block_run.exec_predictor.Goals as goal

pub index-code-requires : goal.index-code-requires
index-code-requires c =
    let p = program_of c.args.instance.now in
    let found = construct_at (callees_of p) (rooms p) (length p.slots) (constructs_in p.main) c.code.result.now.constructs.items c.args.index (construct c.args.construct) (c.code.ensures.code.constructs (rooms p)) c.requires.construct in
    let long : c.code.result.now.constructs.len ≡ length c.code.result.now.constructs.items = search rules in
    let inside = found.0 in
    omega (arith, inside, long)

pub perform_guess_at-requires-clause-code : goal.perform_guess_at-requires-clause-code
perform_guess_at-requires-clause-code c =
    let p = program_of c.args.instance.now in
    let found = construct_at (callees_of p) (rooms p) (length p.slots) (constructs_in p.main) c.code.result.now.constructs.items c.args.index (construct c.args.construct) (c.code.ensures.code.constructs (rooms p)) c.requires.construct in
    found.1 _ c.index-code.ensures

pub perform_guess_at-requires-clause-room : goal.perform_guess_at-requires-clause-room
perform_guess_at-requires-clause-room c =
    let p = program_of c.args.instance.now in
    let room = room_at (rooms p) p.main c.args.index (construct c.args.construct) c.requires.construct in
    let whole = ap length (c.deref_mut.ensures.value ∙ c.frame.view_is) in
    omega (arith, room, whole, c.requires.frame)

pub unreachable-requires : goal.unreachable-requires
unreachable-requires c =
    let p = program_of c.args.instance.now in
    let performs = rw (to_z-of_z w64 c.args.number c.ranges.number) at c.perform_guess_at.ensures.performs in
    guess_answer (λ (m : ReadOnly). m.cells.now) p c.args.instance.now.input (construct c.args.construct) _ _ full_output.bytes c.args.number c.args.part _ _ _
    (Err (h.Cancelled c.in-Err-Cancelled.field-0-0)) (c.in-Err-Cancelled.is ∙ ap Err c.in-Err-Cancelled.field-0-is) c.requires.functions_silent performs

pub returns-clause-guess : goal.returns-clause-guess
returns-clause-guess c =
    let p = program_of c.args.instance.now in
    let here = rw (to_z-of_z w64 c.args.number c.ranges.number) at c.perform_guess_at.ensures.performs in
    let performs = rw (c.deref_mut.ensures.value ∙ c.frame.view_is) at here in
    elim c.match-perform_guess_at.branch [
      | in-Ok w ↦ let f : FitsSigned w64 w.in-Ok.value = search rules in w.result-is ∙ ap Ok (to_z-of_z w64 w.in-Ok.value f) ∙ guess_answer (λ (m : ReadOnly). m.cells.now) p c.args.instance.now.input (construct c.args.construct) (main_slots p c.args.frame.now) _ full_output.bytes c.args.number c.args.part _ _ _ (Ok w.in-Ok.value) w.in-Ok.is c.requires.functions_silent performs
      | in-Err-Trapped w ↦ w.result-is ∙ guess_answer (λ (m : ReadOnly). m.cells.now) p c.args.instance.now.input (construct c.args.construct) (main_slots p c.args.frame.now) _ full_output.bytes c.args.number c.args.part _ _ _ (Err (h.Trapped w.in-Err-Trapped.trap)) (w.in-Err-Trapped.is ∙ ap Err w.in-Err-Trapped.field-0-is) c.requires.functions_silent performs
    ]
