use Rattle.std.proofs.Common.{◌+◌, max, length, sym, subst, arith, ap, ◌∙◌}
use Rattle.spf_ast.specs.Carried.{Carried, IsWidth}
use Rattle.spf_ast.specs.declared.syntax.Pair.{out-Pair}
use Rattle.spf_ast.specs.View.{pair_head, block}
use Rattle.spf_ast.specs.Meaning.{gives, block_means}
use Rattle.spf_ast.specs.Program.{environment_of}
use Rattle.spf_code_registers.specs.Registers.{rooms, arguments_need, block_needs}
use Rattle.spf_code.specs.Code.{code_sets}
use Rattle.spf_code.specs.NodeView.{code}
use Rattle.spf_code_lowering.specs.Lowering.{block_changes}
use Rattle.spf_code_lowering.proofs.Fitted.{block_fits}
use Rattle.spf_code_lowering.proofs.Settings.{have_room}
use Rattle.spf_exec_instance.specs.Frame.{main_slots}
use Rattle.spf_exec_instance.specs.Instance.{program_of}
use Rattle.spf_exec_memory.proofs.Growing.{gives-adds}
use Rattle.spf_exec_memory.proofs.Steps.{along, at_once, then_value, exit_halt}
use Rattle.spf_exec.specs.Sources.{callees_of, wholly, block_row}
use Rattle.spf_exec.proofs.Fitting.{row_fits}
use Rattle.spf_exec.proofs.Leaving.{producer-leaves, consumer-leaves}
use Rattle.spf_exec.proofs.Prefixes.{take_carried}
use Rattle.spf_exec.proofs.Sources.{whole-then, runs_block, gives_block, words_need, leaves_slots, from_slots}
use Rattle.spf_exec.proofs.block_run.perform_pair.Goals as goal

pub returns-in-Producer-clause-performs : goal.returns-in-Producer-clause-performs
returns-in-Producer-clause-performs g c =
    let p = program_of c.args.instance.now in
    let head = pair_head c.args.pair.now in
    let a = block (out-Pair c.args.pair.now).producer.items in
    let b = block (out-Pair c.args.pair.now).consumer.items in
    let own = length p.slots in
    let env = environment_of p c.args.instance.now.input in
    let room = own + max (block_needs (rooms p) a) (arguments_need (rooms p) head.give) in
    rw c.in-Producer.is (λ number.
    c.row_of.ensures.performs room (block_row env a head.give_line head.give) (gives_block p c.args.instance.now.input a head.give_line head.give c.args.code.now.first c.requires.orderly.1 c.requires.orderly.3 c.requires.code.gives)
    (omega (arith, c.requires.room)))

pub returns-in-Producer-clause-kept : goal.returns-in-Producer-clause-kept
returns-in-Producer-clause-kept g c =
    let p = program_of c.args.instance.now in
    let head = pair_head c.args.pair.now in
    let a = block (out-Pair c.args.pair.now).producer.items in
    let b = block (out-Pair c.args.pair.now).consumer.items in
    let own = length p.slots in
    let env = environment_of p c.args.instance.now.input in
    let made = code c.args.code.now.first.nodes.items in
    rw c.in-Producer.is
    (producer-leaves c.args.block.now.construct.line head a b (leaves_slots own (λ r. code_sets r made) (block_changes a) c.args.registers.now c.row_of.new.registers c.row_of.ensures.others (λ r l e. c.requires.code.gives_sets r (l, e))))

pub returns-in_err-run-in-Consumer-clause-performs : goal.returns-in_err-run-in-Consumer-clause-performs
returns-in_err-run-in-Consumer-clause-performs g c =
    let p = program_of c.args.instance.now in
    let head = pair_head c.args.pair.now in
    let a = block (out-Pair c.args.pair.now).producer.items in
    let b = block (out-Pair c.args.pair.now).consumer.items in
    let own = length p.slots in
    let env = environment_of p c.args.instance.now.input in
    let carried = rw (c.deref.ensures.value, c.words.ensures) at c.set_carried.ensures in
    let slots = ap (main_slots p) carried ∙ take_carried own head.carried c.args.block.now.value c.args.registers.now in
    rw c.in-Consumer.is (λ number. along (whole-then (block_means env b) (gives {A = Carried} c.args.block.now.value)) (exit_halt _ (λ u. gives-adds c.args.block.now.value) c.from_residual.ensures.1 (from_slots (wholly (block_means env b)) slots
    (rw c.deref-in-Consumer.ensures.value at c.in_err-run-in-Consumer.ensures.performs (own + block_needs (rooms p) b) (block_means env b)
    (runs_block p c.args.instance.now.input b (code c.args.code.now.consumer.items) c.requires.orderly.4 c.requires.code.takes) (omega (arith, c.requires.room, c.set_carried.auto.slots))))))

pub returns-in_ok-run-in-Consumer-clause-performs : goal.returns-in_ok-run-in-Consumer-clause-performs
returns-in_ok-run-in-Consumer-clause-performs g c =
    let p = program_of c.args.instance.now in
    let head = pair_head c.args.pair.now in
    let a = block (out-Pair c.args.pair.now).producer.items in
    let b = block (out-Pair c.args.pair.now).consumer.items in
    let own = length p.slots in
    let env = environment_of p c.args.instance.now.input in
    let carried = rw (c.deref.ensures.value, c.words.ensures) at c.set_carried.ensures in
    let slots = ap (main_slots p) carried ∙ take_carried own head.carried c.args.block.now.value c.args.registers.now in
    rw c.in-Consumer.is (λ number.
    along (whole-then (block_means env b) (gives {A = Carried} c.args.block.now.value)) (then_value _ g.met.M.Memory.laws (from_slots (wholly (block_means env b)) slots
    (rw c.deref-in-Consumer.ensures.value at c.in_ok-run-in-Consumer.ensures.performs (own + block_needs (rooms p) b) (block_means env b)
    (runs_block p c.args.instance.now.input b (code c.args.code.now.consumer.items) c.requires.orderly.4 c.requires.code.takes) (omega (arith, c.requires.room, c.set_carried.auto.slots))))
    (at_once g.met.M.Memory.laws _ _ _)))

pub returns-in_err-run-in-Consumer-clause-kept : goal.returns-in_err-run-in-Consumer-clause-kept
returns-in_err-run-in-Consumer-clause-kept g c =
    let p = program_of c.args.instance.now in
    let head = pair_head c.args.pair.now in
    let a = block (out-Pair c.args.pair.now).producer.items in
    let b = block (out-Pair c.args.pair.now).consumer.items in
    let own = length p.slots in
    let env = environment_of p c.args.instance.now.input in
    let carried = rw (c.deref.ensures.value, c.words.ensures) at c.set_carried.ensures in
    let slots = ap (main_slots p) carried ∙ take_carried own head.carried c.args.block.now.value c.args.registers.now in
    let made = code c.args.code.now.consumer.items in
    rw c.in-Consumer.is
    (consumer-leaves c.args.block.now.construct.line head a b (main_slots p c.args.registers.now) c.args.block.now.value slots
    (leaves_slots own (λ r. code_sets r made) (block_changes b) c.set_carried.new.slots c.run.new.registers (rw c.deref-in-Consumer.ensures.value at c.run.ensures.others) (λ r l e. c.requires.code.takes_sets r (l, e))))

pub returns-in_ok-run-in-Consumer-clause-kept : goal.returns-in_ok-run-in-Consumer-clause-kept
returns-in_ok-run-in-Consumer-clause-kept g c =
    let p = program_of c.args.instance.now in
    let head = pair_head c.args.pair.now in
    let a = block (out-Pair c.args.pair.now).producer.items in
    let b = block (out-Pair c.args.pair.now).consumer.items in
    let own = length p.slots in
    let env = environment_of p c.args.instance.now.input in
    let carried = rw (c.deref.ensures.value, c.words.ensures) at c.set_carried.ensures in
    let slots = ap (main_slots p) carried ∙ take_carried own head.carried c.args.block.now.value c.args.registers.now in
    let made = code c.args.code.now.consumer.items in
    rw c.in-Consumer.is
    (consumer-leaves c.args.block.now.construct.line head a b (main_slots p c.args.registers.now) c.args.block.now.value slots
    (leaves_slots own (λ r. code_sets r made) (block_changes b) c.set_carried.new.slots c.run.new.registers (rw c.deref-in-Consumer.ensures.value at c.run.ensures.others) (λ r l e. c.requires.code.takes_sets r (l, e))))

pub row_of-requires-clause-fits : goal.row_of-requires-clause-fits
row_of-requires-clause-fits g c =
    let head = pair_head c.args.pair.now in
    let a = block (out-Pair c.args.pair.now).producer.items in
    row_fits (program_of c.args.instance.now) a head.give_line (length c.args.registers.now) head.give c.args.code.now.first c.requires.code.gives (omega (arith, c.requires.room))

pub row_of-requires-clause-width : goal.row_of-requires-clause-width
row_of-requires-clause-width g c = subst IsWidth (sym (c.requires.code.gives.width ∙ c.requires.orderly.0.give)) c.requires.orderly.0.width

pub row_of-requires-clause-room : goal.row_of-requires-clause-room
row_of-requires-clause-room g c =
    let p = program_of c.args.instance.now in
    let head = pair_head c.args.pair.now in
    let wide = words_need (rooms p) head.give in
    let from = c.requires.code.gives.register in
    let width = c.requires.code.gives.width in
    omega (arith, c.requires.room, wide, from, width)

pub run-requires-clause-fits : goal.run-requires-clause-fits
run-requires-clause-fits g c =
    let p = program_of c.args.instance.now in
    let b = block (out-Pair c.args.pair.now).consumer.items in
    rw c.deref-in-Consumer.ensures.value
    (block_fits (callees_of p) (rooms p) (length p.slots) (length c.set_carried.new.slots) b (code c.args.code.now.consumer.items) (have_room p.functions (length p.functions)) c.requires.code.takes (omega (arith, c.requires.room, c.set_carried.auto.slots)))
