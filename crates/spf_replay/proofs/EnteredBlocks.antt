-- Blocks of a construct that a run has reached.
use Rattle.std.proofs.Common.{◌≡◌, ◌≢◌, ℕ, zero, suc, length, ap, sym, ◌∙◌, subst}
use Rattle.std.specs.Prelude.{slice_get, Some}
use Rattle.spf_ast.specs.declared.syntax.Part.{Part}
use Rattle.spf_ast.specs.declared.syntax.Part.TheVariants.{Predictor}
use Rattle.spf_ast.specs.declared.construct.TopConstruct.{TopConstruct}
use Rattle.spf_ast.specs.Construct.{Construct, fold, pair, constructs_in, part_of}
use Rattle.spf_ast.specs.ConstructView.{construct as seen_construct}
use Rattle.spf_ast.specs.Program.{cell_count_of}
use Rattle.spf_ast.specs.Silence.{FunctionsAreSilent, PartIsSilent}
use Rattle.spf_exec_instance.specs.Frame.{frame_size, main_slots}
use Rattle.spf_exec_instance.specs.Instance.{InstanceValue, program_of}
use Rattle.spf_exec.specs.declared.block_run.BlockRun.{BlockRun}
use Rattle.spf_region.specs.Cells.{in_spans}
use Rattle.spf_speculation_entry.specs.Entry.{own, number_of}
use Rattle.spf_replay.specs.declared.context.BlockContext.{BlockContext}
use Rattle.spf_replay.specs.declared.entered.EnteredConstruct.{EnteredConstruct}
use Rattle.spf_replay.specs.Contexts.{CanRun, IsContextOf}
use Rattle.spf_replay.specs.Entered.{entry_of, IsEntered}

-- no block runs the predictor
pub no-predictor : (k : Construct) (n : ℕ) → part_of k n ≢ Predictor
no-predictor (fold line head body) n is = cc
no-predictor (pair line head producer consumer) zero is = cc
no-predictor (pair line head producer consumer) (suc n) is = cc

-- the blocks of a construct can be run
pub can-run : (c : EnteredConstruct) (n : ℕ) (context : BlockContext) (block : BlockRun) → IsEntered c
    → context.instance.now ≡ c.instance.now → context.frame.now ≡ c.frame.now → context.entry.now ≡ c.cells.now
    → block.construct ≡ c.construct → block.index ≡ c.index → block.part ≡ part_of (seen_construct c.construct) n → CanRun context block
can-run c n context block h instance frame entry same index part = record {
  top = (λ i. slice_get (constructs_in (program_of (instance i)).main) (index i)) ∙ h.top ∙ ap (λ k. Some (seen_construct k)) (sym same);
  cells = ap length entry ∙ h.cells ∙ (λ i. cell_count_of (program_of (sym instance i)) (length (sym instance i).input));
  frame = ap length frame ∙ h.frame ∙ (λ i. frame_size (program_of (sym instance i)));
  silent = subst (λ (x : TopConstruct × Part). PartIsSilent (seen_construct x.0) x.1) (λ i. (sym same i, sym part i)) (h.silent n);
  functions_silent = subst (λ (x : InstanceValue). FunctionsAreSilent (program_of x).functions) (sym instance) h.functions_silent;
  run = λ is. no-predictor (seen_construct c.construct) n (sym part ∙ is);
}

-- they are those of its entry
pub context-of : (c : EnteredConstruct) (n : ℕ) (context : BlockContext) (block : BlockRun)
    → context.instance.now ≡ c.instance.now → context.frame.now ≡ c.frame.now → context.entry.now ≡ c.cells.now
    → ((cell : ℕ) → in_spans context.spans.now cell ≡ own (entry_of c) n cell)
    → block.construct ≡ c.construct → block.part ≡ part_of (seen_construct c.construct) n → block.number ≡ number_of (entry_of c) n
    → IsContextOf (entry_of c) n context block
context-of c n context block instance frame entry spans same part number = record {
  program = ap program_of instance;
  input = λ i. (instance i).input;
  slots = λ i. main_slots (program_of (instance i)) (frame i);
  memory = entry;
  cells = spans;
  same_construct = ap seen_construct same;
  part = part;
  number = number;
}
