use Rattle.spf_apps_programs.proofs.huffman.build.Goals as goal

pub returns : goal.returns
returns c =
    let arrays = c.two_arrays-arrays.ensures _ _ c.sized_array-code.ensures c.sized_array-sym.ensures in
    let functions = c.two_functions-functions.ensures _ _ c.bite.ensures c.look.ensures in
    c.program.ensures _ _ _ _ arrays functions c.names-slots.ensures c.statements.ensures
