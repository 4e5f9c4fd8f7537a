use Rattle.std.proofs.Common.{rules, ◌≡◌, ◌+◌, Err, Some, subst, ap, ◌∙◌, length, drop}
use Rattle.std.specs.Prelude.{MatchOption}
use Rattle.spf_ast.specs.View.{block}
use Rattle.spf_ast.specs.Syntax.{end}
use Rattle.spf_ast.specs.Meaning.{main_means}
use Rattle.spf_ast.specs.Program.{environment_of}
use Rattle.spf_ast.specs.Construct.{constructs_in, plainly}
use Rattle.spf_ast.specs.ConstructView.{construct}
use Rattle.spf_ast.specs.Pieces.{rest_from, from_construct, construct_first}
use Rattle.spf_exec_instance.specs.Instance.{program_of}
use Rattle.spf_exec.specs.Pieces.{RunsTo, TrapsIn, run_state, moment_of}
use Rattle.spf_exec_memory.specs.Growing.{IsPrefix, output_of}
use Rattle.spf_exec_memory.proofs.Outcome.{trapped_outcome, lacking_outcome}
use Rattle.spf_exec.proofs.Constructs.{constructs_from}
use Rattle.spf_exec.proofs.Prefixes.{rest_is, advanced_ok, prefix_is, back_is, part_from}
use Rattle.spf_exec.proofs.pieces.advance_from.Goals as goal

pub returns-in-Ok-clause-advanced : goal.returns-in-Ok-clause-advanced
returns-in-Ok-clause-advanced c =
    let p = program_of c.args.instance.now in
    let xs = c.args.instance.now.source.main.items in
    let before = run_state c.args.frame.now c.args.memory.now c.args.place c.args.passed in
    let after = run_state c.perform_between.new.frame c.perform_between.new.memory (c.args.place + c.plain_prefix-prefix.result.count) c.args.passed in
    let statements : c.deref.result.now ≡ xs = search rules in
    let e = part_from c.deref.result.now c.args.place ∙ ap (drop c.args.place) statements in
    let prefix = prefix_is xs _ c.args.place c.plain_prefix-prefix.result.count e c.plain_prefix-prefix.ensures.before in
    let back = back_is xs _ c.args.place c.plain_prefix-prefix.result.count e c.plain_prefix-prefix.ensures.rest in
    let went = subst (λ b. RunsTo p (main_means (environment_of p c.args.instance.now.input) b) before after tt) prefix (record { answer = c.in-Ok.ensures.outcome.0; memory = c.in-Ok.ensures.outcome.1 }) in
    let next = subst (λ b. MatchOption c.plain_prefix-prefix.result.construct (from_construct b ≡ end) (λ k. construct_first (from_construct b) ≡ Some (construct k))) (ap block e ∙ rest_is xs c.args.place) c.plain_prefix-prefix.ensures.construct in
    advanced_ok p c.args.instance.now.input before after c.args.passed c.plain_prefix-prefix.result.construct c.pause.result went back c.requires.passed next c.pause.ensures

pub returns-in-Ok-clause-passed : goal.returns-in-Ok-clause-passed
returns-in-Ok-clause-passed c =
    let p = program_of c.args.instance.now in
    let xs = c.args.instance.now.source.main.items in
    let statements : c.deref.result.now ≡ xs = search rules in
    let e = part_from c.deref.result.now c.args.place ∙ ap (drop c.args.place) statements in
    let back = back_is xs _ c.args.place c.plain_prefix-prefix.result.count e c.plain_prefix-prefix.ensures.rest in
    ap (λ b. c.args.passed + length (constructs_in b)) back ∙ ap (λ l. c.args.passed + length l) (constructs_from (rest_from c.args.place p.main)) ∙ c.requires.passed

pub returns-in-Err-Trapped-clause-advanced : goal.returns-in-Err-Trapped-clause-advanced
returns-in-Err-Trapped-clause-advanced c =
    let p = program_of c.args.instance.now in
    let xs = c.args.instance.now.source.main.items in
    let before = run_state c.args.frame.now c.args.memory.now c.args.place c.args.passed in
    let after = run_state c.perform_between.new.frame c.perform_between.new.memory c.args.place c.args.passed in
    let statements : c.deref.result.now ≡ xs = search rules in
    let e = part_from c.deref.result.now c.args.place ∙ ap (drop c.args.place) statements in
    let prefix = prefix_is xs _ c.args.place c.plain_prefix-prefix.result.count e c.plain_prefix-prefix.ensures.before in
    let stopped = trapped_outcome _ _ _ _ (c.in-Err-Trapped.is ∙ ap Err c.in-Err-Trapped.field-0-is) c.perform_between.ensures.outcome in
    rw c.in-Err-Trapped.field-0-is (subst (λ b. TrapsIn p (main_means (environment_of p c.args.instance.now.input) b) before after c.in-Err-Trapped.trap) prefix stopped.0)

pub returns-in-Err-NoMemory-clause-cut_short : goal.returns-in-Err-NoMemory-clause-cut_short
returns-in-Err-NoMemory-clause-cut_short c =
    let p = program_of c.args.instance.now in
    let xs = c.args.instance.now.source.main.items in
    let before = run_state c.args.frame.now c.args.memory.now c.args.place c.args.passed in
    let after = run_state c.perform_between.new.frame c.perform_between.new.memory c.args.place c.args.passed in
    let statements : c.deref.result.now ≡ xs = search rules in
    let e = part_from c.deref.result.now c.args.place ∙ ap (drop c.args.place) statements in
    let prefix = prefix_is xs _ c.args.place c.plain_prefix-prefix.result.count e c.plain_prefix-prefix.ensures.before in
    let left = lacking_outcome _ _ _ _ (c.in-Err-NoMemory.is ∙ ap Err c.in-Err-NoMemory.field-0-is) c.perform_between.ensures.outcome in
    subst (λ b. IsPrefix after.output (output_of (plainly (main_means (environment_of p c.args.instance.now.input) b) (moment_of p before)))) prefix left
