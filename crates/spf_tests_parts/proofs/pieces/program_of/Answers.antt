use Rattle.spf_tests_parts.proofs.pieces.program_of.Goals as goal

pub returns-clause-orderly : goal.returns-clause-orderly
returns-clause-orderly c = c.breaks_stay_in_their_loops.ensures.programs _ c.in_ok-program.ensures.program.lawful

pub returns-clause-few : goal.returns-clause-few
returns-clause-few c = c.lawful_programs_are_quiet_and_small.ensures.constructs _ c.in_ok-program.ensures.program.lawful
