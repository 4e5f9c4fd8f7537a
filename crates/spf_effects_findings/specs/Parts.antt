-- Functions as calls enter them, and the effects of the parts of top constructs.
use Rattle.std.specs.Prelude.{
  ℕ,
  zero,
  suc,
  ◌-◌,
  Bool,
  true,
  false,
  if◌then◌else◌,
  ◌==◌,
  List,
  [],
  ◌∷◌,
  ◌++◌,
  length,
  replicate,
  Option,
  Some,
  None,
  pos,
  slice_get,
}
use Rattle.spf_region.specs.declared.bound.Bound.{Bound}
use Rattle.spf_region.specs.declared.bound.Bound.TheVariants.{Known, Unknown}
use Rattle.spf_region.specs.declared.range.Range.{Range}
use Rattle.spf_region.specs.Ranges.{Offsets}
use Rattle.spf_ast.specs.declared.syntax.Part.{Part}
use Rattle.spf_ast.specs.declared.syntax.Part.TheVariants.{Body, Producer, Consumer, Predictor}
use Rattle.spf_ast.specs.Syntax.{Program, Function, Block, By, Host, FoldHead}
use Rattle.spf_ast.specs.Syntax as syntax
use Rattle.spf_ast.specs.Construct.{Construct, fold, pair, statements_of}
use Rattle.spf_effects_findings.specs.Found.{Finds, finds_nothing, ◌then◌, nowhere}
use Rattle.spf_effects_findings.specs.Forms.{Entered, Setting, expression_bound, expression_finds, bounds_at_end, block_finds, block_then, block_then_row, declared}
use Rattle.spf_ast.specs.Slots.{assigns, assigns_outer, emits}

-- ---- functions

-- the bounds of parameters from this slot on: those of the arguments, unless an assignment sets the slot
abbrev pub parameter_bounds : (ℕ → Bool) → ℕ → List Bound → List Bound
parameter_bounds is_assigned slot [] = []
parameter_bounds is_assigned slot (b ∷ given) = (if is_assigned slot then Unknown else b) ∷ parameter_bounds is_assigned (suc slot) given

-- the bounds of a function's slots where it is entered
abbrev pub own_bounds : (ℕ → Bool) → ℕ → List Bound → List Bound
own_bounds is_assigned count given = parameter_bounds is_assigned 0 given ++ replicate (count - length given) Unknown

-- where the forms of a body stand
abbrev pub setting_in : (ℕ → List Bound → Entered) → Block → Setting
setting_in call body = record { is_assigned = λ slot. assigns (λ other. other == slot) body; call = call }

-- a function that is entered: its body, and then its answer
abbrev pub entered : (ℕ → List Bound → Entered) → Option Function → List Bound → Entered
entered call None given = record { bound = Unknown; finds = finds_nothing }
entered call (Some f) given =
    let g = setting_in call f.body in
    let slots = own_bounds g.is_assigned (length f.slots) given in
    record { bound = expression_bound g (bounds_at_end g slots f.body) f.answer; finds = block_then g slots f.body f.answer }

-- calls of the functions before an index; each of them calls only functions before its own index
abbrev pub call_before : List Function → ℕ → ℕ → List Bound → Entered
call_before functions zero f given = record { bound = Unknown; finds = finds_nothing }
call_before functions (suc index) f given =
    if f == index then entered (call_before functions index) (slice_get functions index) given else call_before functions index f given

-- ---- parts

-- where the forms of `main` stand: all functions may be called
abbrev pub main_setting : Program → Setting
main_setting p = setting_in (call_before p.functions (length p.functions)) p.main

-- nothing is known of the slots that are declared outside of a part
abbrev pub outside : Program → List Bound
outside p = replicate (length p.slots) Unknown

-- within a fold, its block number is known
abbrev pub within_fold : Program → FoldHead → List Bound
within_fold p head = declared (main_setting p) head.block (Known (pos 1) (pos 0) (pos 0)) (outside p)

-- what is found in the guess of one part of a row; a predictor that is supplied does nothing here
abbrev pub guess_finds : Setting → List Bound → syntax.Predictor → Finds
guess_finds g slots (By guess) = expression_finds g slots guess
guess_finds g slots (Host number) = finds_nothing

-- what is found in the guesses of a row's parts, from left to right
abbrev pub guesses_find : Setting → List Bound → List syntax.Predictor → Finds
guesses_find g slots [] = finds_nothing
guesses_find g slots (first ∷ rest) = guess_finds g slots first then guesses_find g slots rest

-- what is found in a part; one that the construct doesn't have does nothing
abbrev pub part_finds : Program → Construct → Part → Finds
part_finds p (fold line head body) Body = block_then_row (main_setting p) (within_fold p head) body head.next
part_finds p (fold line head body) Predictor = guesses_find (main_setting p) (within_fold p head) head.predict
part_finds p (pair line head producer consumer) Producer = block_then_row (main_setting p) (outside p) producer head.give
part_finds p (pair line head producer consumer) Consumer = block_finds (main_setting p) (outside p) consumer
part_finds p (pair line head producer consumer) Predictor = guesses_find (main_setting p) (outside p) head.predict
part_finds p _ _ = finds_nothing

-- the effects of a part
pub record PartEffects : Type 0 where
  pub uncovered : List Range
  pub may : List Range
  pub must : Offsets
  pub assigns_outer : Bool
  pub emits : Bool

-- the effects of a part of a construct, examined with nothing written before
abbrev pub part_effects : Program → Construct → Part → PartEffects
part_effects p construct part =
    let found = part_finds p construct part nowhere in
    record {
      uncovered = found.uncovered;
      may = found.may;
      must = found.written;
      assigns_outer = assigns_outer (statements_of construct part);
      emits = emits (statements_of construct part);
    }

-- the construct has the part
abbrev pub has_part : Construct → Part → Bool
has_part (fold line head body) Body = true
has_part (fold line head body) Predictor = true
has_part (pair line head producer consumer) Producer = true
has_part (pair line head producer consumer) Consumer = true
has_part (pair line head producer consumer) Predictor = true
has_part _ _ = false
