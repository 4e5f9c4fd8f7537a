use Rattle.spf_apps_machine_text.proofs.build.is_machine.Goals as goal

pub returns-in-Err-clause-no : goal.returns-in-Err-clause-no
returns-in-Err-clause-no c = λ _ m. c.files_have_one_verdict.ensures.lex1.apart c.args.file.now c.in-Err.field-0 m.0 m.1 m.2 c.in-Err.ensures
