-- What is surely written after a form has a list in normal form, where what is surely written before it has one.
use Rattle.std.proofs.Common.{ℕ, zero, suc, Bool, true, false, List, [], ◌∷◌, length, Option, Some, None, ℤ, pos, ◌-ℤ◌, ◌+ℤ◌, refl}
use Rattle.std.specs.Prelude.{if◌then◌else◌, ◌==◌, ◌&&◌, int_lt, slice_get}
use Rattle.std.specs.Ordering.{int_eq}
use Rattle.spf_ast.specs.declared.syntax.Part.{Part}
use Rattle.spf_ast.specs.declared.syntax.Part.TheVariants.{Body, Producer, Consumer, Predictor}
use Rattle.spf_ast.specs.Syntax.{Expression, Number, Local, Len, Input, Load, Call, Neg, Binary, Arguments, no_more, argument}
use Rattle.spf_ast.specs.Syntax.{Condition, Compare, Both, Either, Not}
use Rattle.spf_ast.specs.Syntax.{Statement, Let, Assign, Store, Fill, Emit, Fail, If, For, While, Do, Fold, Pair, Break, Block, end, on_line, Function, Program, By, Host}
use Rattle.spf_ast.specs.Syntax as syntax
use Rattle.spf_ast.specs.Construct.{Construct, fold, pair}
use Rattle.spf_region.specs.declared.bound.Bound.{Bound}
use Rattle.spf_region.specs.declared.bound.Bound.TheVariants.{Known, Unknown}
use Rattle.spf_region.specs.declared.range.Range.TheVariants.{Affine}
use Rattle.spf_region.specs.Bounds.{is_small}
use Rattle.spf_region.specs.Ranges.{Offsets, joined}
use Rattle.spf_region.specs.Laws.{IsListed, SetsStayListed, ListsHaveNormalForms}
use Rattle.spf_effects_findings.specs.Found.{Found, Finds, finds_nothing, ◌then◌, perhaps, either, reads_element, writes_element, may_write_between, surely_writes_between, writes_range, Sweep, sweep_joined, sweeps_joined, swept, has_no_turn, turns, nowhere}
use Rattle.spf_effects_findings.specs.Forms.{Entered, Setting, expression_bound, argument_bounds, bounds_behind, bounds_at_end, bounds_in_turn, loop_sweeps, expression_finds, arguments_find, condition_finds, statement_finds, block_finds, block_then, block_then_row}
use Rattle.spf_effects_findings.specs.Parts.{setting_in, own_bounds, entered, call_before, main_setting, outside, within_fold, guess_finds, guesses_find, part_finds, part_effects}
use Rattle.spf_effects.specs.Laws.{HasLists}

-- what a form surely writes stays listed
pub record StaysListed (form : Finds) : Type 0 where
  pub written : (w : Offsets) → IsListed w → IsListed (form w).written

-- each call of a setting does
pub record CallsStayListed (call : ℕ → List Bound → Entered) : Type 0 where
  pub finds : (f : ℕ) (given : List Bound) → StaysListed (call f given).finds

if_listed : (b : Bool) (v w : Offsets) → IsListed v → IsListed w → IsListed (if b then v else w)
if_listed true v w l m = l
if_listed false v w l m = m

module _ (laws : SetsStayListed) where
  nothing : StaysListed finds_nothing
  nothing = record { written = λ w l. l }

  followed : {f g : Finds} → StaysListed f → StaysListed g → StaysListed (f then g)
  followed {f} {g} a b = record { written = λ w l. b.written (f w).written (a.written w l) }

  maybe : (f : Finds) → StaysListed (perhaps f)
  maybe f = record { written = λ w l. l }

  one_of : {f g : Finds} → StaysListed f → StaysListed g → StaysListed (either f g)
  one_of {f} {g} a b = record { written = λ w l. laws.common (f w).written (g w).written (a.written w l) (b.written w l) }

  if_stays : (b : Bool) {f g : Finds} → StaysListed f → StaysListed g → StaysListed (if b then f else g)
  if_stays true a b = a
  if_stays false a b = b

  range_listed : (array : ℕ) (f l h : ℤ) (w : Offsets) → IsListed w → IsListed (joined (Affine array f l h) w)
  range_listed array f l h w m = laws.more (Affine array f l h) w (λ a. refl) m

  read_listed : (array : ℕ) (b : Bound) → StaysListed (reads_element array b)
  read_listed array Unknown = record { written = λ w l. l }
  read_listed array (Known f low high) = record { written = λ w l. l }

  write_listed : (array : ℕ) (b : Bound) → StaysListed (writes_element array b)
  write_listed array Unknown = record { written = λ w l. l }
  write_listed array (Known f low high) =
      record { written = λ w l. if_listed (int_eq low high) (joined (Affine array f low high) w) w (range_listed array f low high w l) l }

  between_listed : (array : ℕ) (f l h m i : ℤ) → StaysListed (surely_writes_between array f l h m i)
  between_listed array f l h m i =
      record { written = λ w listed. if_listed (int_eq l h && (int_eq m i && int_lt l m)) (joined (Affine array f l (m -ℤ pos 1)) w) w (range_listed array f l (m -ℤ pos 1) w listed) listed }

  fill_listed : (array : ℕ) (low high : Bound) → StaysListed (writes_range array low high)
  fill_listed array (Known f l h) (Known g m i) =
      if_stays (int_eq f g) (followed {f = may_write_between array f l i} (record { written = λ w l. l }) (between_listed array f l h m i)) (record { written = λ w l. l })
  fill_listed array (Known f l h) Unknown = record { written = λ w l. l }
  fill_listed array Unknown high = record { written = λ w l. l }

  sweep_listed : (f first last : ℤ) (s : Sweep) (w : Offsets) → IsListed w → IsListed (sweep_joined f first last s w)
  sweep_listed f first last s w l =
      if_listed (is_small (first +ℤ s.distance) && is_small (last +ℤ s.distance)) (joined (Affine s.array f (first +ℤ s.distance) (last +ℤ s.distance)) w) w
      (range_listed s.array f (first +ℤ s.distance) (last +ℤ s.distance) w l) l

  sweeps_listed : (f first last : ℤ) (all : List Sweep) (w : Offsets) → IsListed w → IsListed (sweeps_joined f first last all w)
  sweeps_listed f first last [] w l = l
  sweeps_listed f first last (s ∷ rest) w l = sweeps_listed f first last rest (sweep_joined f first last s w) (sweep_listed f first last s w l)

  swept_listed : (low high : Bound) (all : List Sweep) (w : Offsets) → IsListed w → IsListed (swept low high all w)
  swept_listed (Known f l h) (Known g m i) all w listed =
      if_listed (int_eq f g && (int_eq l h && (int_eq m i && int_lt l m))) (sweeps_joined f l (m -ℤ pos 1) all w) w (sweeps_listed f l (m -ℤ pos 1) all w listed) listed
  swept_listed (Known f l h) Unknown all w listed = listed
  swept_listed Unknown high all w listed = listed

  either_found : (b : Bool) (x y : Found) → IsListed x.written → IsListed y.written → IsListed (if b then x else y).written
  either_found true x y l m = l
  either_found false x y l m = m

  turned : (low high : Bound) (all : List Sweep) (body : Finds) → StaysListed (turns low high all body)
  turned low high all body =
      record { written = λ w l. either_found (has_no_turn low high) (finds_nothing w) (record (body w) { written = swept low high all w }) l (swept_listed low high all w l) }

  -- ---- forms

  module _ (g : Setting) (calls : CallsStayListed g.call) where
    mutual
      expression_listed : (slots : List Bound) (e : Expression) → StaysListed (expression_finds g slots e)
      expression_listed slots (Number n) = nothing
      expression_listed slots (Local slot) = nothing
      expression_listed slots Len = nothing
      expression_listed slots (Input index) = expression_listed slots index
      expression_listed slots (Load array index) = followed (expression_listed slots index) (read_listed array (expression_bound g slots index))
      expression_listed slots (Call f given) = followed (arguments_listed slots given) (calls.finds f (argument_bounds g slots given))
      expression_listed slots (Neg inner) = expression_listed slots inner
      expression_listed slots (Binary op left right) = followed (expression_listed slots left) (expression_listed slots right)

      arguments_listed : (slots : List Bound) (given : Arguments) → StaysListed (arguments_find g slots given)
      arguments_listed slots no_more = nothing
      arguments_listed slots (argument first rest) = followed (expression_listed slots first) (arguments_listed slots rest)

    condition_listed : (slots : List Bound) (c : Condition) → StaysListed (condition_finds g slots c)
    condition_listed slots (Compare test a b) = followed (expression_listed slots a) (expression_listed slots b)
    condition_listed slots (Both c d) = followed (condition_listed slots c) (maybe (condition_finds g slots d))
    condition_listed slots (Either c d) = followed (condition_listed slots c) (maybe (condition_finds g slots d))
    condition_listed slots (Not c) = condition_listed slots c

    mutual
      statement_listed : (slots : List Bound) (s : Statement) → StaysListed (statement_finds g slots s)
      statement_listed slots (Let slot value) = expression_listed slots value
      statement_listed slots (Assign slot value) = expression_listed slots value
      statement_listed slots (Store array index value) =
          followed (expression_listed slots index) (followed (expression_listed slots value) (write_listed array (expression_bound g slots index)))
      statement_listed slots (Fill array low high value) =
          followed (expression_listed slots low) (followed (expression_listed slots high) (followed (expression_listed slots value) (fill_listed array (expression_bound g slots low) (expression_bound g slots high))))
      statement_listed slots (Emit value) = expression_listed slots value
      statement_listed slots (Fail code) = nothing
      statement_listed slots (If c first second) = followed (condition_listed slots c) (one_of (block_listed slots first) (block_listed slots second))
      statement_listed slots (For slot low high body) =
          followed (expression_listed slots low) (followed (expression_listed slots high)
          (turned (expression_bound g slots low) (expression_bound g slots high) (loop_sweeps slot body) (block_finds g (bounds_in_turn g slots slot low high) body)))
      statement_listed slots (While c most body) = followed (condition_listed slots c) (maybe (block_finds g slots body))
      statement_listed slots (Do f given) = followed (arguments_listed slots given) (calls.finds f (argument_bounds g slots given))
      statement_listed slots (Fold head body) =
          followed (arguments_listed slots head.start) (followed (expression_listed slots head.low) (followed (expression_listed slots head.high)
          (turned (expression_bound g slots head.low) (expression_bound g slots head.high) []
          (let inner = bounds_in_turn g slots head.block head.low head.high in
          block_finds g inner body then arguments_find g (bounds_at_end g inner body) head.next))))
      statement_listed slots (Pair head producer consumer) =
          followed (block_listed slots producer) (followed (arguments_listed (bounds_at_end g slots producer) head.give) (block_listed slots consumer))
      statement_listed slots Break = nothing

      block_listed : (slots : List Bound) (b : Block) → StaysListed (block_finds g slots b)
      block_listed slots end = nothing
      block_listed slots (on_line line first rest) = followed (statement_listed slots first) (block_listed (bounds_behind g slots first) rest)

    then_listed : (slots : List Bound) (b : Block) (last : Expression) → StaysListed (block_then g slots b last)
    then_listed slots b last = followed (block_listed slots b) (expression_listed (bounds_at_end g slots b) last)

    row_listed : (slots : List Bound) (b : Block) (last : Arguments) → StaysListed (block_then_row g slots b last)
    row_listed slots b last = followed (block_listed slots b) (arguments_listed (bounds_at_end g slots b) last)

    guess_listed : (slots : List Bound) (p : syntax.Predictor) → StaysListed (guess_finds g slots p)
    guess_listed slots (By guess) = expression_listed slots guess
    guess_listed slots (Host number) = nothing

    guesses_listed : (slots : List Bound) (all : List syntax.Predictor) → StaysListed (guesses_find g slots all)
    guesses_listed slots [] = nothing
    guesses_listed slots (first ∷ rest) = followed (guess_listed slots first) (guesses_listed slots rest)

  -- ---- calls and parts

  entered_listed : (call : ℕ → List Bound → Entered) → CallsStayListed call → (o : Option Function) (given : List Bound) → StaysListed (entered call o given).finds
  entered_listed call calls None given = nothing
  entered_listed call calls (Some f) given =
      let g = setting_in call f.body in
      then_listed g calls (own_bounds g.is_assigned (length f.slots) given) f.body f.answer

  either_entered : (b : Bool) (x y : Entered) → StaysListed x.finds → StaysListed y.finds → StaysListed (if b then x else y).finds
  either_entered true x y l m = l
  either_entered false x y l m = m

  calls_listed : (functions : List Function) (index : ℕ) → CallsStayListed (call_before functions index)
  calls_listed functions zero = record { finds = λ f given. nothing }
  calls_listed functions (suc index) = record {
    finds = λ f given. either_entered (f == index) (entered (call_before functions index) (slice_get functions index) given) (call_before functions index f given)
        (entered_listed (call_before functions index) (calls_listed functions index) (slice_get functions index) given) ((calls_listed functions index).finds f given);
  }

  part_listed : (p : Program) (k : Construct) (part : Part) → StaysListed (part_finds p k part)
  part_listed p (fold line head body) Body = row_listed (main_setting p) (calls_listed p.functions (length p.functions)) (within_fold p head) body head.next
  part_listed p (fold line head body) Predictor = guesses_listed (main_setting p) (calls_listed p.functions (length p.functions)) (within_fold p head) head.predict
  part_listed p (fold line head body) Producer = nothing
  part_listed p (fold line head body) Consumer = nothing
  part_listed p (pair line head producer consumer) Producer = row_listed (main_setting p) (calls_listed p.functions (length p.functions)) (outside p) producer head.give
  part_listed p (pair line head producer consumer) Consumer = block_listed (main_setting p) (calls_listed p.functions (length p.functions)) (outside p) consumer
  part_listed p (pair line head producer consumer) Predictor = guesses_listed (main_setting p) (calls_listed p.functions (length p.functions)) (outside p) head.predict
  part_listed p (pair line head producer consumer) Body = nothing

  pub effects_listed : ListsHaveNormalForms → (p : Program) (k : Construct) (part : Part) → HasLists (part_effects p k part)
  effects_listed normal p k part =
      let e = part_effects p k part in
      let u = normal e.uncovered in
      let m = normal e.may in
      let s = (part_listed p k part).written nowhere laws.none in
      record {
        effects = record { uncovered = u.normal; may = m.normal; must = s.list; assigns_outer = e.assigns_outer; emits = e.emits };
        are = record {
          uncovered = u.offsets;
          uncovered_wholes = u.wholes;
          may = m.offsets;
          may_wholes = m.wholes;
          must = s.offsets;
          must_wholes = s.wholes;
          assigns_outer = refl;
          emits = refl;
        };
        uncovered_normal = u.is_normal;
        may_normal = m.is_normal;
        must_normal = s.is_normal;
      }
