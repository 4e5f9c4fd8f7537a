use Rattle.std.proofs.Common.{ℕ, List, length, sym, ◌∙◌, subst}
use Rattle.spf_code_registers.specs.Registers.{rooms}
use Rattle.spf_code.specs.declared.function.FunctionCode.{FunctionCode}
use Rattle.spf_code.specs.Fits.{FunctionsFit}
use Rattle.spf_code.specs.Settings.{setting_before}
use Rattle.spf_code_lowering.proofs.Fitted.{functions_fit}
use Rattle.spf_exec_instance.specs.Instance.{program_of}
use Rattle.spf_exec.specs.Sources.{AgreesWithProgram}
use Rattle.spf_exec.proofs.Sources.{fits_main}
use Rattle.spf_exec.proofs.Within.{layout_within}
use Rattle.spf_exec.proofs.context.context_of.Goals as goal

pub returns-clause-fits : goal.returns-clause-fits
returns-clause-fits c =
    let p = program_of c.args.instance.now in
    let input = c.args.instance.now.input in
    subst (λ (x : List ℕ × List FunctionCode). AgreesWithProgram p input (setting_before x.0 c.extents.result.now x.1 (length x.1)))
    (λ t. (sym c.input.ensures.same t, sym c.deref.ensures.value t))
    (fits_main p input c.extents.result.now c.code.result.now c.code.ensures.code c.code.ensures.orderly c.code.ensures.tables (c.extents.ensures ∙ c.layout.ensures.extents))

pub returns-clause-within : goal.returns-clause-within
returns-clause-within c =
    layout_within (program_of c.args.instance.now) (length c.args.instance.now.input) c.layout.result.now c.extents.result.now c.layout.ensures c.extents.ensures

pub returns-clause-functions : goal.returns-clause-functions
returns-clause-functions c =
    let p = program_of c.args.instance.now in
    subst (FunctionsFit (rooms p)) (sym c.deref.ensures.value) (functions_fit p.functions c.code.result.now.functions.items c.code.ensures.code.count c.code.ensures.code.functions)

pub returns-clause-lowered : goal.returns-clause-lowered
returns-clause-lowered c = record {
  code = c.code.result.now;
  same = c.deref.ensures.value;
  is_code = c.code.ensures.code;
  orderly = c.code.ensures.orderly;
  answers = c.code.ensures.tables;
}

pub returns-clause-input : goal.returns-clause-input
returns-clause-input c = c.input.ensures.same

pub returns-clause-extents : goal.returns-clause-extents
returns-clause-extents c = c.extents.ensures ∙ c.layout.ensures.extents
