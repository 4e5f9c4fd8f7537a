use Rattle.spf_apps_programs.proofs.huffman.look.Goals as goal

pub returns : goal.returns
returns c =
    c.function.ensures _ _ _ c.name.ensures c.names-slots.ensures c.look_body.ensures
