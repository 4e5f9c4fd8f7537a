use Rattle.std.proofs.Common.{◌≡◌, List, ℤ, map, take, length, refl, ap, ◌∙◌, subst}
use Rattle.spf_ast.specs.BlockRun.{block_setup, part_asks}
use Rattle.spf_ast.specs.ConstructView.{construct}
use Rattle.spf_ast.specs.Plain.{plain_events}
use Rattle.spf_speculation_entry.specs.Attempts.{on_cells}
use Rattle.spf_speculation_entry.specs.Entry.{asks_at}
use Rattle.spf_exec_instance.specs.Frame.{main_slots}
use Rattle.spf_exec_instance.specs.Instance.{program_of}
use Rattle.spf_replay.specs.Reading.{event_of}
use Rattle.spf_replay.specs.Recording.{in_record, IsRecordOf}
use Rattle.spf_replay.proofs.Apart.{asks-in, recorded-within}
use Rattle.spf_replay.proofs.Prefixes.{recorded-so}
use Rattle.spf_replay.proofs.recording.record_attempt.Goals as goal

pub exec_block-requires-clause-cells : goal.exec_block-requires-clause-cells
exec_block-requires-clause-cells c = c.requires.cells ∙ c.requires.can.cells

pub returns-clause-record : goal.returns-clause-record
returns-clause-record c e n h s =
    let p = program_of c.args.context.instance.now in
    let b = c.args.block.now in
    let spans = c.args.context.spans.now in
    let done = c.exec_block.ensures.performs.performs in
    let m = c.exec_block.new.memory in
    let t = part_asks p (construct b.construct) b.part (block_setup c.args.context.instance.now.input (main_slots p c.restore.new.self) b.number b.value) in
    let asks : t ≡ asks_at e n b.value = ap (λ (f : List ℤ). part_asks p (construct b.construct) b.part (block_setup c.args.context.instance.now.input (main_slots p f) b.number b.value)) c.restore.ensures.equal ∙ asks-in e n c.args.context b s in
    subst (λ events. IsRecordOf events (length c.args.room.items) m.full (map event_of (take m.count m.room.items)))
    (λ i. on_cells (λ cell. s.cells cell i) (plain_events (asks i) (s.memory i)))
    (recorded-so spans c.args.cells.items c.args.context.entry.now c.args.room.items c.args.context.entry.now t
    c.exec_block.result done.events c.exec_block.ensures.performs.slots (in_record m.spans.now m.cells.items m.entry.now m.room.items m.count m.full)
    done.performed done.led
    (recorded-within e n c.args.context b t c.exec_block.result done.events c.exec_block.ensures.performs.slots h s asks done.performed)
    (record { size = c.requires.cells; inside = c.requires.words; outside = λ cell out. refl }))

pub returns-clause-outside : goal.returns-clause-outside
returns-clause-outside c e n h s cell out =
    let p = program_of c.args.context.instance.now in
    let b = c.args.block.now in
    let done = c.exec_block.ensures.performs.performs in
    let t = part_asks p (construct b.construct) b.part (block_setup c.args.context.instance.now.input (main_slots p c.restore.new.self) b.number b.value) in
    let asks : t ≡ asks_at e n b.value = ap (λ (f : List ℤ). part_asks p (construct b.construct) b.part (block_setup c.args.context.instance.now.input (main_slots p f) b.number b.value)) c.restore.ensures.equal ∙ asks-in e n c.args.context b s in
    done.led.kept cell out
    (recorded-within e n c.args.context b t c.exec_block.result done.events c.exec_block.ensures.performs.slots h s asks done.performed)
