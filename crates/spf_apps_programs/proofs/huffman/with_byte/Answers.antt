use Rattle.spf_apps_programs.proofs.huffman.with_byte.Goals as goal

pub returns : goal.returns
returns c = λ _ high. c.binary.ensures _ _ (c.binary-moved.ensures _ _ high c.number.ensures) (c.input.ensures _ c.number-2.ensures)
