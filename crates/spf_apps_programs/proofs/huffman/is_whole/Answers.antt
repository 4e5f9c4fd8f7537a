use Rattle.spf_apps_programs.proofs.huffman.is_whole.Goals as goal

pub returns : goal.returns
returns c = c.compare.ensures _ _ (c.load-found.ensures _ c.local.ensures) c.number.ensures
