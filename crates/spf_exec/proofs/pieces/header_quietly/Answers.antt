use Rattle.std.proofs.Common.{length, ◌∙◌}
use Rattle.spf_ast.specs.declared.syntax.Fold.{out-Fold}
use Rattle.spf_ast.specs.View.{block, fold_head}
use Rattle.spf_ast.specs.Construct.{fold, header_means}
use Rattle.spf_ast.specs.Program.{environment_of, extents_of}
use Rattle.spf_ast.proofs.Leaving.{calls-leave, header-leaves}
use Rattle.spf_exec_instance.specs.Frame.{main_slots}
use Rattle.spf_exec_instance.specs.Instance.{program_of}
use Rattle.spf_exec_memory.specs.declared.plain.Plain.{Plain}
use Rattle.spf_exec_memory.specs.declared.quiet.Quiet.{Quiet}
use Rattle.spf_exec.specs.Pieces.{header_result}
use Rattle.spf_exec_memory.specs.QuietMemory.{full_output}
use Rattle.spf_exec.proofs.BlockRuns.{quiet_outcome, plain_cells, header_decided}
use Rattle.spf_exec.proofs.pieces.header_quietly.Goals as goal

pub returns-clause-outcome : goal.returns-clause-outcome
returns-clause-outcome c =
    let p = program_of c.args.instance.now in
    let construct = fold c.args.line (fold_head c.args.fold.now) (block (out-Fold c.args.fold.now).body.items) in
    quiet_outcome (λ (m : Plain). m.cells.items) (λ (m : Plain). m.output.items) (λ (s : Quiet Plain). s.memory.now) (λ (s : Quiet Plain). s.memory.ghost_name)
    (header_means (environment_of p c.args.instance.now.input) construct)
    (header-leaves (environment_of p c.args.instance.now.input) (calls-leave c.args.instance.now.input (extents_of p (length c.args.instance.now.input)) p.functions c.requires.silent (length p.functions)) construct)
    (main_slots p c.args.frame.now) full_output.bytes c.args.quiet.now.memory.now.output.items (main_slots p c.args.frame.now) _ _ (header_result c.perform_header.result)
    (rw (c.deref_mut.ensures.value ∙ c.frame.view_is) at c.perform_header.ensures.performs)

pub returns-clause-memory : goal.returns-clause-memory
returns-clause-memory c =
    let p = program_of c.args.instance.now in
    let construct = fold c.args.line (fold_head c.args.fold.now) (block (out-Fold c.args.fold.now).body.items) in
    plain_cells (header_result c.perform_header.result) _ _ _ _ (header_decided c.perform_header.result c.perform_header.ensures.performs.lacking)
    (quiet_outcome (λ (m : Plain). m.cells.items) (λ (m : Plain). m.output.items) (λ (s : Quiet Plain). s.memory.now) (λ (s : Quiet Plain). s.memory.ghost_name)
    (header_means (environment_of p c.args.instance.now.input) construct)
    (header-leaves (environment_of p c.args.instance.now.input) (calls-leave c.args.instance.now.input (extents_of p (length c.args.instance.now.input)) p.functions c.requires.silent (length p.functions)) construct)
    (main_slots p c.args.frame.now) full_output.bytes c.args.quiet.now.memory.now.output.items (main_slots p c.args.frame.now) _ _ (header_result c.perform_header.result)
    (rw (c.deref_mut.ensures.value ∙ c.frame.view_is) at c.perform_header.ensures.performs))
