use Rattle.std.proofs.Common.{rules, ◌≡◌, ◌<◌, ◌≤◌, ◌+◌, length, ap, ◌∙◌, arith}
use Rattle.spf_ast.specs.Meaning.{statement_means, main_means}
use Rattle.spf_ast.specs.Program.{environment_of}
use Rattle.spf_ast.specs.View.{statement}
use Rattle.spf_code_registers.specs.Registers.{rooms, statement_needs}
use Rattle.spf_code.specs.NodeView.{code}
use Rattle.spf_code_lowering.proofs.Fitted.{run_fits}
use Rattle.spf_code_lowering.proofs.Settings.{have_room}
use Rattle.spf_exec_instance.specs.Instance.{program_of}
use Rattle.spf_exec_memory.proofs.Steps.{along, exit_halt, steps}
use Rattle.spf_exec_memory.proofs.Turns.{still}
use Rattle.spf_exec.specs.Sources.{callees_of}
use Rattle.spf_exec.proofs.Growing.{main-adds}
use Rattle.spf_exec.proofs.Rooms.{statement_room}
use Rattle.spf_exec.proofs.Sources.{between, next_between, orderly_at, whole-then, runs_statement, statement_at}
use Rattle.spf_exec.proofs.plain_run.perform_statements.Goals as goal

pub index-requires : goal.index-requires
index-requires g c =
    let p = program_of c.args.instance.now in
    let input = c.args.instance.now.input in
    let env = environment_of p input in
    let own = length p.slots in
    let xs = c.args.instance.now.source.main.items in
    let i = c.loop-index.index in
    let less : i < length xs = omega (arith, c.loop-index-test.true, c.requires.within) in
    let here = statement_at (callees_of p) (rooms p) own xs c.code-code.result.now.main.items i (c.code-code.ensures.code.main (rooms p)) less in
    let x = here.statement_is in
    let inside = here.inside in
    let long : c.code-code.result.now.main.len ≡ length c.code-code.result.now.main.items = search rules in
    omega (arith, inside, long)

pub returns-in_err-run-clause-performs : goal.returns-in_err-run-clause-performs
returns-in_err-run-clause-performs g c =
    let p = program_of c.args.instance.now in
    let input = c.args.instance.now.input in
    let env = environment_of p input in
    let own = length p.slots in
    let xs = c.args.instance.now.source.main.items in
    let i = c.loop-index.index in
    let less : i < length xs = omega (arith, c.loop-index-test.true, c.requires.within) in
    let here = statement_at (callees_of p) (rooms p) own xs c.code-code.result.now.main.items i (c.code-code.ensures.code.main (rooms p)) less in
    let x = here.statement_is in
    let form = statement_means env x.line (statement x.kind) in
    let rest = main_means env (between xs (i + 1) c.args.to) in
    let next = ap (main_means env) (next_between xs i c.args.to x c.loop-index-test.true here.there) ∙ whole-then form rest in
    let orderly = orderly_at xs i x here.there c.code-code.ensures.orderly.main in
    let runs = runs_statement p input x.line (statement x.kind) (code c.index.result.now.items) orderly (here.coded c.index.result.now c.index.ensures) in
    let room = statement_room (rooms p) xs i x here.there in
    let wide : own + statement_needs (rooms p) (statement x.kind) ≤ length c.loop-index.registers = omega (arith, room, c.requires.frame, c.loop-index.invariant.count) in
    c.loop-index.invariant.goes.with _ _ _
    (along next (exit_halt _ (λ u. main-adds p input (between xs (i + 1) c.args.to)) c.from_residual.ensures.1 (rw c.deref.ensures.value at c.in_err-run.ensures.performs (own + statement_needs (rooms p) (statement x.kind)) form runs wide)))

pub loop-index-preserved : goal.loop-index-preserved
loop-index-preserved g c =
    let p = program_of c.args.instance.now in
    let input = c.args.instance.now.input in
    let env = environment_of p input in
    let own = length p.slots in
    let xs = c.args.instance.now.source.main.items in
    let i = c.loop-index.index in
    let less : i < length xs = omega (arith, c.loop-index-test.true, c.requires.within) in
    let here = statement_at (callees_of p) (rooms p) own xs c.code-code.result.now.main.items i (c.code-code.ensures.code.main (rooms p)) less in
    let x = here.statement_is in
    let form = statement_means env x.line (statement x.kind) in
    let rest = main_means env (between xs (i + 1) c.args.to) in
    let next = ap (main_means env) (next_between xs i c.args.to x c.loop-index-test.true here.there) ∙ whole-then form rest in
    let orderly = orderly_at xs i x here.there c.code-code.ensures.orderly.main in
    let runs = runs_statement p input x.line (statement x.kind) (code c.index.result.now.items) orderly (here.coded c.index.result.now c.index.ensures) in
    let room = statement_room (rooms p) xs i x here.there in
    let wide : own + statement_needs (rooms p) (statement x.kind) ≤ length c.loop-index.registers = omega (arith, room, c.requires.frame, c.loop-index.invariant.count) in
    record {
      goes = steps (λ _. main_means env (between xs (i + 1) c.args.to)) g.met.M.Memory.laws (still next c.loop-index.invariant.goes)
          (rw c.deref.ensures.value at c.in_ok-run.ensures.performs (own + statement_needs (rooms p) (statement x.kind)) form runs wide);
      cells = c.in_ok-run.ensures.cells ∙ c.loop-index.invariant.cells;
      count = c.run.auto.registers ∙ c.loop-index.invariant.count;
    }

pub run-requires-clause-fits : goal.run-requires-clause-fits
run-requires-clause-fits g c =
    let p = program_of c.args.instance.now in
    let own = length p.slots in
    let xs = c.args.instance.now.source.main.items in
    let i = c.loop-index.index in
    let less : i < length xs = omega (arith, c.loop-index-test.true, c.requires.within) in
    let here = statement_at (callees_of p) (rooms p) own xs c.code-code.result.now.main.items i (c.code-code.ensures.code.main (rooms p)) less in
    let x = here.statement_is in
    let room = statement_room (rooms p) xs i x here.there in
    let wide : own + statement_needs (rooms p) (statement x.kind) ≤ length c.loop-index.registers = omega (arith, room, c.requires.frame, c.loop-index.invariant.count) in
    rw c.deref.ensures.value (run_fits (callees_of p) (rooms p) x.line own (length c.loop-index.registers) (statement x.kind) (code c.index.result.now.items) (have_room p.functions (length p.functions)) (here.coded c.index.result.now c.index.ensures) wide)
