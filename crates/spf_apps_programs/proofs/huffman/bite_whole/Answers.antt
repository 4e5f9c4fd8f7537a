use Rattle.spf_apps_programs.proofs.huffman.bite_whole.Goals as goal

pub returns : goal.returns
returns c = c.only.ensures _ (c.when.ensures _ _ c.is_whole.ensures (c.only-again.ensures _ (c.assign.ensures _ c.number.ensures)))
