use Rattle.std.proofs.Common.{[], ◌∷◌, length, ap, ◌∙◌, arith, length-append}
use Rattle.std.proofs.lemmas.List.Elements.{All-nil, All-cons, All-append, All-same}
use Rattle.spf_code.specs.declared.function.FunctionCode.{FunctionCode}
use Rattle.spf_code_lowering.specs.Tables.{AreEmpty}
use Rattle.spf_code_lowering.proofs.Programs.{no_codes, one_code}
use Rattle.spf_code_lowering.proofs.function.functions.Goals as goal

-- a function without tables
abbrev no_table : FunctionCode → Type 0
no_table k = AreEmpty k.tables

pub loop-index-init : goal.loop-index-init
loop-index-init c = record { count = ap length c.new-codes.ensures.items; codes = λ calls. no_codes _ calls _ c.new-codes.ensures.items; tables = All-same no_table _ [] c.new-codes.ensures.items (All-nil no_table) }

pub loop-index-preserved : goal.loop-index-preserved
loop-index-preserved c =
    let push = (c.in_ok-push.ensures {u = tt}).items in
    let count = c.loop-index.invariant.count in
    record {
      count = ap length push ∙ simp length-append (omega (arith, count));
      codes = λ calls. one_code c.args.sources.now calls c.loop-index.codes.items c.push.new.self.items c.loop-index.index c.in_ok-code.code c.index-sources-index.result c.loop-index-test.true c.index-sources-index.is count push c.in_ok-code.ensures.slots (c.in_ok-code.ensures.code calls) (c.loop-index.invariant.codes calls);
      tables = All-same no_table _ _ push (All-append no_table c.loop-index.codes.items (c.in_ok-code.code ∷ []) c.loop-index.invariant.tables (All-cons no_table c.in_ok-code.code [] c.in_ok-code.ensures.tables (All-nil no_table)));
    }
