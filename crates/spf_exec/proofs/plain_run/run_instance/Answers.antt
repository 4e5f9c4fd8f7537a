use Rattle.std.proofs.Common.{rules, ◌≡◌, ◌-◌, length, replicate, take, drop, Err, pos, refl, ap, ◌∙◌}
use Rattle.spf_ast.specs.View.{block}
use Rattle.spf_code_registers.specs.Registers.{rooms, block_needs}
use Rattle.spf_exec_instance.specs.Frame.{main_slots}
use Rattle.spf_exec_instance.specs.Instance.{program_of}
use Rattle.spf_exec_memory.proofs.Outcome.{trapped_outcome}
use Rattle.spf_exec.proofs.Outcome.{whole_outcome}
use Rattle.spf_exec.proofs.Prefixes.{take_zeros}
use Rattle.spf_exec.proofs.Sources.{all_of}
use Rattle.spf_exec.proofs.plain_run.run_instance.Goals as goal

pub returns-in-Ok : goal.returns-in-Ok
returns-in-Ok c =
    let p = program_of c.args.instance.now in
    let xs = c.args.instance.now.source.main.items in
    let whole : c.len-count.result ≡ length xs = search rules in
    let main : block (take (c.len-count.result - 0) (drop 0 xs)) ≡ p.main = ap block (all_of xs c.len-count.result whole) in
    let zeros = c.deref_mut.ensures.value ∙ c.frame.view_is ∙ c.in_ok-frame.ensures.zeros in
    let slots = ap (main_slots p) zeros ∙ take_zeros (length p.slots) (block_needs (rooms p) p.main) (pos 0) in
    let cells = c.in_ok-cells.ensures.items_if_clones_equal (λ y same. same) ∙ ap (λ k. replicate k (pos 0)) (c.cells.ensures ∙ c.layout.ensures.cells) in
    whole_outcome p c.args.instance.now.input _ _ _ _ _ _ _ refl main slots c.new.ensures.items cells c.in-Ok.ensures.outcome.0 c.in-Ok.ensures.outcome.1

pub returns-in-Err-Trapped : goal.returns-in-Err-Trapped
returns-in-Err-Trapped c =
    let p = program_of c.args.instance.now in
    let xs = c.args.instance.now.source.main.items in
    let whole : c.len-count.result ≡ length xs = search rules in
    let main : block (take (c.len-count.result - 0) (drop 0 xs)) ≡ p.main = ap block (all_of xs c.len-count.result whole) in
    let zeros = c.deref_mut.ensures.value ∙ c.frame.view_is ∙ c.in_ok-frame.ensures.zeros in
    let slots = ap (main_slots p) zeros ∙ take_zeros (length p.slots) (block_needs (rooms p) p.main) (pos 0) in
    let cells = c.in_ok-cells.ensures.items_if_clones_equal (λ y same. same) ∙ ap (λ k. replicate k (pos 0)) (c.cells.ensures ∙ c.layout.ensures.cells) in
    let stopped = trapped_outcome _ _ _ _ (c.in-Err-Trapped.is ∙ ap Err c.in-Err-Trapped.field-0-is) c.run_main.ensures.outcome in
    whole_outcome p c.args.instance.now.input _ _ _ _ _ _ _ refl main slots c.new.ensures.items cells stopped.0 stopped.1
