use Rattle.spf_apps_programs.proofs.lexer.program_for.Goals as goal

pub returns : goal.returns
returns c =
    let arrays = c.one_array-arrays.ensures _ c.sized_array.ensures in
    let functions = c.one_function-functions.ensures _ c.look.ensures in
    c.program.ensures _ _ _ _ arrays functions c.names-slots.ensures c.statements.ensures
