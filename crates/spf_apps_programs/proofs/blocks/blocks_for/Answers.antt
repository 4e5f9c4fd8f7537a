use Rattle.spf_apps_programs.proofs.blocks.blocks_for.Goals as goal

pub returns : goal.returns
returns c = λ _ bytes. c.binary.ensures _ _ (c.binary-rounded.ensures _ _ bytes c.number.ensures) c.number-2.ensures
