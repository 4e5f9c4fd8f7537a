use Rattle.spf_apps_programs.proofs.packbits.blocks.Goals as goal

pub returns : goal.returns
returns c = c.fold.ensures _ _ _ (c.rows_of_one-rows.ensures _ c.number.ensures) (c.blocks_for-count.ensures _ c.length.ensures) c.body.ensures
