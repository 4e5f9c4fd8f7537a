use Rattle.spf_apps_programs.proofs.huffman.too_few.Goals as goal

pub returns : goal.returns
returns c = c.when.ensures _ _ (c.compare-is_short.ensures _ _ c.local.ensures c.local-2.ensures) (c.only.ensures _ c.fail.ensures)
