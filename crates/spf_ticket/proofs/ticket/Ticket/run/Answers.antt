use Rattle.std.proofs.Common.{◌≡◌, ◌∙◌, sym, ap, refl, arith, subst}
use Rattle.std.proofs.lemmas.Int.{to_z-of_z}
use mir.Syntax.{w64}
use mir.Val.{to_z, of_z}
use Rattle.spf_ast.specs.Construct.{part_of, statements_of}
use Rattle.spf_ast.specs.ConstructView.{construct}
use Rattle.spf_ast.specs.Slots.{assigns_outer}
use Rattle.spf_ast_laws.specs.Agreement.{AgreeOutside}
use Rattle.spf_exec_instance.specs.Instance.{program_of}
use Rattle.spf_exec_instance.specs.Frame.{main_slots}
use Rattle.spf_ticket.specs.InLane.{in_lane}
use Rattle.spf_ticket.proofs.Running.{Made, Runs, lane-cells, made-run, slots-kept, fresh-ran}
use Rattle.spf_ticket.proofs.ticket.Ticket.run.Goals as goal

pub exec_block-stop-requires-clause-functions_silent : goal.exec_block-stop-requires-clause-functions_silent
exec_block-stop-requires-clause-functions_silent g c = c.lawful_programs_are_quiet_and_small.ensures.functions (program_of c.args.job.now.instance.now) c.requires.lawful

pub returns-clause-same : goal.returns-clause-same
returns-clause-same g c =
    let p = program_of c.args.job.now.instance.now in
    let k = construct c.args.job.now.construct in
    let t = c.args.self in
    let kept : AgreeOutside k c.part_of.result (main_slots p c.exec_block-stop.new.frame) (main_slots p t.frame) =
    slots-kept c.each_part_assigns_what_it_declares.ensures p k c.part_of.result t.frame c.exec_block-stop.new.frame c.exec_block-stop.ensures.size
    (ap (λ x. assigns_outer (statements_of k x)) c.part_of.ensures ∙ c.requires.outer) c.exec_block-stop.ensures.kept in
    record {
      block = refl;
      number = grind (arith, to_z-of_z);
      attempt = refl;
      carried = refl;
      lane = c.exec_block-stop.ensures.performs.performs.led.lane;
      size = c.exec_block-stop.ensures.size;
      slots = subst (λ x. AgreeOutside k x (main_slots p c.exec_block-stop.new.frame) (main_slots p t.frame)) c.part_of.ensures kept;
    }

pub returns-clause-ran : goal.returns-clause-ran
returns-clause-ran g c e entry made of at =
    let p = program_of c.args.job.now.instance.now in
    let k = construct c.args.job.now.construct in
    let t = c.args.self in
    let m = c.exec_block-stop.new.memory in
    let done = c.exec_block-stop.ensures.performs.performs in
    let number : to_z w64 (of_z w64 t.number) ≡ t.number = grind (arith, to_z-of_z) in
    let agree : AgreeOutside e.construct (part_of e.construct t.block) (main_slots p t.frame) e.slots =
    subst (λ q. AgreeOutside e.construct (part_of e.construct t.block) (main_slots q t.frame) e.slots) (sym of.program) at.slots in
    let runs : Runs e t.block t.carried p k c.part_of.result c.args.job.now.instance.now.input (to_z w64 (of_z w64 t.number)) t.carried = record {
      program = of.program;
      same_construct = of.same_construct;
      its_part = c.part_of.ensures ∙ ap (λ x. part_of x t.block) of.same_construct;
      same_input = of.input;
      its_number = number ∙ at.number;
      its_value = refl;
    } in
    let h : Made e t.block t.carried t.attempt c.exec_block-stop.result t.lane m.lane =
    made-run c.block_runs_are_attempts.ensures.runs c.each_part_declares_its_slots_anew.ensures.parts
    e t.block t.carried t.attempt c.exec_block-stop.result t.lane (in_lane m.lane m.entry.now m.attempt) done.events
    p k c.args.job.now.index c.part_of.result c.args.job.now.instance.now.input (to_z w64 (of_z w64 t.number)) t.carried (main_slots p t.frame) c.exec_block-stop.ensures.performs.slots c.args.job.now.entry.now
    runs entry c.requires.lawful c.requires.construct (lane-cells e c.args.cells.now t.lane t.block made at.lane t.own at.low) of.memory agree done.performed done.led in
    record { log = h.log; grown = h.grown; stopped = h.stopped }

pub returns-clause-lawful : goal.returns-clause-lawful
returns-clause-lawful g c e guess entry made of fresh =
    fresh-ran e guess c.args.cells.now (program_of c.args.job.now.instance.now) (construct c.args.job.now.construct) c.args.self _ of.program of.same_construct
    (returns-clause-same g c) fresh (returns-clause-ran g c e entry made of fresh.at)
