use Rattle.std.proofs.Common.{length, ap, arith}
use Rattle.spf_ast.specs.Construct.{guess_at}
use Rattle.spf_ast.specs.Program.{environment_of}
use Rattle.spf_code_registers.specs.Registers.{rooms}
use Rattle.spf_exec_instance.specs.Instance.{program_of}
use Rattle.spf_exec_memory.proofs.Steps.{along, at_once}
use Rattle.spf_exec.specs.Sources.{callees_of}
use Rattle.spf_exec.proofs.Sources.{guess_code_at, guess_there, no_guess}
use Rattle.spf_exec.proofs.block_run.guess_of.Goals as goal

pub bounds-codes-part : goal.bounds-codes-part
bounds-codes-part g c =
    let p = program_of c.args.instance.now in
    let found = guess_code_at (callees_of p) (rooms p) (length p.slots) c.args.line c.args.predict.now c.args.codes.now c.args.part c.requires.codes c.if-part-predict.false in
    found.0

pub perform_guess-requires-clause-code : goal.perform_guess-requires-clause-code
perform_guess-requires-clause-code g c =
    let p = program_of c.args.instance.now in
    let found = guess_code_at (callees_of p) (rooms p) (length p.slots) c.args.line c.args.predict.now c.args.codes.now c.args.part c.requires.codes c.if-part-predict.false in
    (found.1 c.index-predict-part.result c.index-codes-part.result c.index-predict-part.is c.index-codes-part.is).0

pub perform_guess-requires-clause-sets : goal.perform_guess-requires-clause-sets
perform_guess-requires-clause-sets g c =
    let p = program_of c.args.instance.now in
    let found = guess_code_at (callees_of p) (rooms p) (length p.slots) c.args.line c.args.predict.now c.args.codes.now c.args.part c.requires.codes c.if-part-predict.false in
    (found.1 c.index-predict-part.result c.index-codes-part.result c.index-predict-part.is c.index-codes-part.is).1

pub perform_guess-requires-clause-room : goal.perform_guess-requires-clause-room
perform_guess-requires-clause-room g c =
    let p = program_of c.args.instance.now in
    let there = guess_there (rooms p) c.args.predict.now c.args.part c.index-predict-part.result c.if-part-predict.false c.index-predict-part.is in
    let less = there.1 in
    omega (arith, c.requires.room, less)

pub returns-then-part-predict-clause-performs : goal.returns-then-part-predict-clause-performs
returns-then-part-predict-clause-performs g c =
    along (ap (guess_at (environment_of (program_of c.args.instance.now) c.args.instance.now.input) c.args.line) (no_guess c.args.predict.now c.args.part c.if-part-predict.true)) (at_once g.met.M.Memory.laws _ _ _)

pub returns-clause-performs : goal.returns-clause-performs
returns-clause-performs g c =
    let p = program_of c.args.instance.now in
    let there = guess_there (rooms p) c.args.predict.now c.args.part c.index-predict-part.result c.if-part-predict.false c.index-predict-part.is in
    along (ap (guess_at (environment_of p c.args.instance.now.input) c.args.line) there.0) c.perform_guess.ensures.performs
