use Rattle.spf_ast_laws.proofs.Indices.{stands, anew}
use Rattle.spf_ast_laws.proofs.each_part_declares_its_slots_anew.Goals as goal

pub returns-clause-constructs : goal.returns-clause-constructs
returns-clause-constructs c = stands

pub returns-clause-parts : goal.returns-clause-parts
returns-clause-parts c = anew c.each_form_sees_visible_slots_alone.ensures.parts
