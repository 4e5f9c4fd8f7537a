use Rattle.std.proofs.Common.{◌≡◌, ℕ, ◌<◌, length, Some, refl, sym, ap, ◌∙◌, subst, arith}
use Rattle.std.proofs.lemmas.Option.{slice_get-get_or}
use Rattle.std.specs.Prelude.{slice_get}
use Rattle.spf_ast.specs.Meaning.{call_before}
use Rattle.spf_ast.specs.Program.{extents_of}
use Rattle.spf_ast.specs.View.{program}
use Rattle.spf_code_lowering.specs.Tables.{HasAnswers}
use Rattle.spf_exec_instance.specs.Instance.{InstanceValue, program_of}
use Rattle.spf_exec_instance.proofs.Tables.{other-tables}
use Rattle.spf_exec_instance.proofs.instance.Instance.set_tables.Goals as goal

pub invariant_of-self : goal.invariant_of-self
invariant_of-self c =
    let xs = c.self.inside.code.functions.items in
    let inside : c.args.function < length xs = omega (arith, c.if-function-len.true) in
    let at : slice_get xs c.args.function ≡ Some c.index_mut.result.now = slice_get-get_or xs c.args.function c.index_mut.result.now inside ∙ ap Some (sym c.index_mut.ensures.value) in
    other-tables (program c.self.inside.program.now) c.self.inside.input.now c.self.inside.layout c.self.inside.code _ c.self.inside.frame_size c.args.function c.index_mut.result.now _ c.self.invariant at refl refl refl refl refl refl
    (subst (λ (i : InstanceValue). (below : ℕ) → c.args.function < below → HasAnswers c.args.tables (call_before i.input (extents_of (program_of i) (length i.input)) (program_of i).functions below c.args.function)) (sym c.self.view_is) (λ below less. c.requires.answers below less))
