use Rattle.spf_apps_programs.proofs.huffman.blocks.Goals as goal

pub returns : goal.returns
returns c = c.fold.ensures _ _ _ (c.rows_of_one-rows.ensures _ (c.call-guess.ensures _ c.block_begin.ensures)) (c.blocks_for-count.ensures _ c.code_bytes.ensures) c.body.ensures
