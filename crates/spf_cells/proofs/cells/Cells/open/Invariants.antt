use Rattle.spf_cells.specs.Made.{setting}
use Rattle.spf_cells.proofs.cells.Cells.open.Given as goal

abbrev pub ghost-key_of_setting : goal.ghost-key_of_setting
ghost-key_of_setting g a = setting a.plan.now a.entry.now g.raisable
