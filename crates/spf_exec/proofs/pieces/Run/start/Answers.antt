use Rattle.std.proofs.Common.{refl, ap, ◌∙◌, length, replicate, take, pos}
use Rattle.spf_code_registers.specs.Registers.{rooms, block_needs}
use Rattle.spf_exec_instance.specs.Instance.{program_of}
use Rattle.spf_exec.proofs.Prefixes.{take_zeros}
use Rattle.spf_exec.proofs.pieces.Run.start.Goals as goal

pub returns-clause-begins : goal.returns-clause-begins
returns-clause-begins c =
    let p = program_of c.args.instance.now in
    record {
      slots = ap (take (length p.slots)) c.in_ok-frame.ensures.zeros ∙ take_zeros (length p.slots) (block_needs (rooms p) p.main) (pos 0);
      cells = c.in_ok-cells.ensures.items_if_clones_equal (λ y same. same) ∙ ap (λ k. replicate k (pos 0)) (c.cells.ensures ∙ c.layout.ensures.cells);
      output = c.new.ensures.items;
      place = refl;
    }
