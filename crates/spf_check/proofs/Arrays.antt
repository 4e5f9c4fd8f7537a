-- A lawful program's parts write only arrays that it has.
use Rattle.std.proofs.Common.{◌≡◌, inl, inr, ℕ, zero, suc, ◌<◌, Bool, true, false, List, [], ◌∷◌, ◌++◌, length, Option, Some, None, ℤ, pos, refl, arith}
use Rattle.std.specs.Prelude.{◌==◌, ◌-ℤ◌, int_lt, if◌then◌else◌, IfSome, slice_get}
use Rattle.std.specs.Ordering.{int_eq}
use Rattle.spf_ast.specs.declared.syntax.Part.{Part}
use Rattle.spf_ast.specs.declared.syntax.Part.TheVariants.{Body, Producer, Consumer, Predictor}
use Rattle.spf_ast.specs.Syntax.{Expression, Number, Local, Len, Input, Load, Call, Neg, Binary, Arguments, no_more, argument}
use Rattle.spf_ast.specs.Syntax.{Condition, Compare, Both, Either, Not, By, Host}
use Rattle.spf_ast.specs.Syntax as syntax
use Rattle.spf_ast.specs.Syntax.{Statement, Let, Assign, Store, Fill, Emit, Fail, If, For, While, Do, Fold, Pair, Break, Block, end, on_line, Function, Program}
use Rattle.spf_ast.specs.Lawful.{Names, Scope, IsLawfulExpression, AreLawfulArguments, IsLawfulCondition, IsLawfulPredictor, AreLawfulPredictors, IsLawfulStatement, IsLawfulBlock, IsLawfulFunction, IsScoped, names_at}
use Rattle.spf_ast.specs.Construct.{Construct, fold, pair, constructs_in}
use Rattle.spf_region.specs.declared.bound.Bound.{Bound}
use Rattle.spf_region.specs.declared.bound.Bound.TheVariants.{Known, Unknown}
use Rattle.spf_region.specs.declared.range.Range.{Range}
use Rattle.spf_region.specs.declared.range.Range.TheVariants.{Whole, Affine}
use Rattle.spf_region.specs.Ranges.{Offsets, array_of, has_offset}
use Rattle.spf_region.proofs.Bools.{or-cases}
use Rattle.spf_region.proofs.Covers.{has-parts}
use Rattle.spf_effects_findings.specs.Found.{Finds, finds_nothing, ◌then◌, perhaps, either, reads_element, writes_element, may_write_whole, may_write_between, surely_writes_between, writes_range, has_no_turn, Sweep, turns, nowhere}
use Rattle.spf_effects_findings.specs.Forms.{Entered, Setting, expression_bound, argument_bounds, bounds_behind, bounds_at_end, bounds_in_turn, loop_sweeps, expression_finds, arguments_find, condition_finds, statement_finds, block_finds}
use Rattle.spf_effects_findings.specs.Parts.{setting_in, own_bounds, entered, call_before, main_setting, outside, within_fold, guess_finds, guesses_find, part_finds}
use Rattle.spf_check_rules.specs.Rules.{HasArray, may_write}
use Rattle.spf_ast_lemmas.proofs.Members.{cases}
use Rattle.spf_effects_laws.proofs.Parts.{Stands, main_names, stands}

-- ---- lists of ranges

-- the array of each range stands before this index
abbrev AllBelow : ℕ → List Range → Type 0
AllBelow n [] = Unit {0}
AllBelow n (r ∷ rest) = (array_of r < n) × AllBelow n rest

below-append : (n : ℕ) (xs ys : List Range) → AllBelow n xs → AllBelow n ys → AllBelow n (xs ++ ys)
below-append n [] ys h k = k
below-append n (x ∷ xs) ys h k = (h.0, below-append n xs ys h.1 k)

below-array : (n : ℕ) (list : List Range) (a : ℕ) → AllBelow n list → HasArray list a → a < n
below-array n [] a h (inl w) = cc
below-array n [] a h (inr (f, o, w)) = cc
below-array n (Whole b ∷ rest) a h (inl w) =
    cases (or-cases (a == b) _ w) (λ e. let same : a ≡ b = grind (arith, e) in omega (arith, same, h.0)) (λ later. below-array n rest a h.1 (inl later))
below-array n (Affine b f l i ∷ rest) a h (inl w) = below-array n rest a h.1 (inl w)
below-array n (Whole b ∷ rest) a h (inr (f, o, w)) = below-array n rest a h.1 (inr (f, o, w))
below-array n (Affine b g l i ∷ rest) a h (inr (f, o, w)) =
    cases (or-cases (has_offset (Affine b g l i) a f o) _ w) (λ e. let same = (has-parts b g l i a f o e).0 in omega (arith, same, h.0)) (λ later. below-array n rest a h.1 (inr (f, o, later)))

-- ---- what is found

-- what may be written is in arrays before this index
record Below (n : ℕ) (finds : Finds) : Type 0 where
  pub may : (w : Offsets) → AllBelow n (finds w).may

below-nothing : {n : ℕ} → Below n finds_nothing
below-nothing = record { may = λ w. tt }

below-then : {n : ℕ} {f g : Finds} → Below n f → Below n g → Below n (f then g)
below-then {n} {f} {g} h k = record { may = λ w. below-append n (f w).may (g (f w).written).may (h.may w) (k.may (f w).written) }

below-perhaps : {n : ℕ} {f : Finds} → Below n f → Below n (perhaps f)
below-perhaps h = record { may = h.may }

below-either : {n : ℕ} {f g : Finds} → Below n f → Below n g → Below n (either f g)
below-either {n} {f} {g} h k = record { may = λ w. below-append n (f w).may (g w).may (h.may w) (k.may w) }

below-turns : {n : ℕ} {f : Finds} (low high : Bound) (s : List Sweep) → Below n f → Below n (turns low high s f)
below-turns {n} {f} low high s h = record { may = λ w. go w (has_no_turn low high) refl }
  where
    go : (w : Offsets) (b : Bool) → has_no_turn low high ≡ b → AllBelow n (turns low high s f w).may
    go w true e = rw e tt
    go w false e = rw e (h.may w)

below-read : {n : ℕ} (array : ℕ) (b : Bound) → Below n (reads_element array b)
below-read array Unknown = record { may = λ w. tt }
below-read array (Known f l h) = record { may = λ w. tt }

below-write : {n : ℕ} (array : ℕ) (b : Bound) → array < n → Below n (writes_element array b)
below-write array Unknown lt = record { may = λ w. (lt, tt) }
below-write array (Known f l h) lt = record { may = λ w. (lt, tt) }

below-whole : {n : ℕ} (array : ℕ) → array < n → Below n (may_write_whole array)
below-whole array lt = record { may = λ w. (lt, tt) }

below-between : {n : ℕ} (array : ℕ) (f l i : ℤ) → array < n → Below n (may_write_between array f l i)
below-between {n} array f l i lt = record { may = λ w. go (int_lt l i) }
  where
    go : (b : Bool) → AllBelow n (if b then Affine array f l (i -ℤ pos 1) ∷ [] else [])
    go true = (lt, tt)
    go false = tt

below-sure : {n : ℕ} (array : ℕ) (f l h m i : ℤ) → Below n (surely_writes_between array f l h m i)
below-sure array f l h m i = record { may = λ w. tt }

below-range : {n : ℕ} (array : ℕ) (low high : Bound) → array < n → Below n (writes_range array low high)
below-range {n} array (Known f l h) (Known g m i) lt = go (int_eq f g)
  where
    go : (b : Bool) → Below n (if b then may_write_between array f l i then surely_writes_between array f l h m i else may_write_whole array)
    go true = below-then (below-between array f l i lt) (below-sure array f l h m i)
    go false = below-whole array lt
below-range array (Known f l h) Unknown lt = below-whole array lt
below-range array Unknown high lt = below-whole array lt

-- ---- forms

-- calls write only such arrays
abbrev CallsBelow : ℕ → Setting → Type 0
CallsBelow n g = (f : ℕ) (given : List Bound) → Below n (g.call f given).finds

mutual
  expression-below : (names : Names) (scope : Scope) (g : Setting) → CallsBelow names.arrays g → (slots : List Bound) (e : Expression) → IsLawfulExpression names scope e → Below names.arrays (expression_finds g slots e)
  expression-below names scope g calls slots (Number n) l = below-nothing
  expression-below names scope g calls slots (Local slot) l = below-nothing
  expression-below names scope g calls slots Len l = below-nothing
  expression-below names scope g calls slots (Input index) l = expression-below names scope g calls slots index l
  expression-below names scope g calls slots (Load array index) l =
      below-then (expression-below names scope g calls slots index l.1) (below-read array (expression_bound g slots index))
  expression-below names scope g calls slots (Call f given) l =
      below-then (arguments-below names scope g calls slots given l.1) (calls f (argument_bounds g slots given))
  expression-below names scope g calls slots (Neg inner) l = expression-below names scope g calls slots inner l
  expression-below names scope g calls slots (Binary op a b) l =
      below-then (expression-below names scope g calls slots a l.0) (expression-below names scope g calls slots b l.1)

  arguments-below : (names : Names) (scope : Scope) (g : Setting) → CallsBelow names.arrays g → (slots : List Bound) (given : Arguments) → AreLawfulArguments names scope given → Below names.arrays (arguments_find g slots given)
  arguments-below names scope g calls slots no_more l = below-nothing
  arguments-below names scope g calls slots (argument first rest) l =
      below-then (expression-below names scope g calls slots first l.0) (arguments-below names scope g calls slots rest l.1)

condition-below : (names : Names) (scope : Scope) (g : Setting) → CallsBelow names.arrays g → (slots : List Bound) (c : Condition) → IsLawfulCondition names scope c → Below names.arrays (condition_finds g slots c)
condition-below names scope g calls slots (Compare test a b) l =
    below-then (expression-below names scope g calls slots a l.0) (expression-below names scope g calls slots b l.1)
condition-below names scope g calls slots (Both c d) l =
    below-then (condition-below names scope g calls slots c l.0) (below-perhaps (condition-below names scope g calls slots d l.1))
condition-below names scope g calls slots (Either c d) l =
    below-then (condition-below names scope g calls slots c l.0) (below-perhaps (condition-below names scope g calls slots d l.1))
condition-below names scope g calls slots (Not c) l = condition-below names scope g calls slots c l

mutual
  statement-below : (names : Names) (in_main : Bool) (scope : Scope) (g : Setting) → CallsBelow names.arrays g → (slots : List Bound) (s : Statement) → IsLawfulStatement names in_main scope s → Below names.arrays (statement_finds g slots s)
  statement-below names m scope g calls slots (Let slot value) l = expression-below names scope g calls slots value l.0
  statement-below names m scope g calls slots (Assign slot value) l = expression-below names scope g calls slots value l.2
  statement-below names m scope g calls slots (Store array index value) l =
      below-then (expression-below names scope g calls slots index l.1)
      (below-then (expression-below names scope g calls slots value l.2) (below-write array (expression_bound g slots index) l.0))
  statement-below names m scope g calls slots (Fill array low high value) l =
      below-then (expression-below names scope g calls slots low l.1)
      (below-then (expression-below names scope g calls slots high l.2)
      (below-then (expression-below names scope g calls slots value l.3) (below-range array (expression_bound g slots low) (expression_bound g slots high) l.0)))
  statement-below names m scope g calls slots (Emit value) l = expression-below names scope g calls slots value l.1
  statement-below names m scope g calls slots (Fail code) l = below-nothing
  statement-below names m scope g calls slots (If c first second) l =
      below-then (condition-below names scope g calls slots c l.0)
      (below-either (block-below names m _ g calls slots first l.1) (block-below names m _ g calls slots second l.2))
  statement-below names m scope g calls slots (For slot low high body) l =
      below-then (expression-below names scope g calls slots low l.0)
      (below-then (expression-below names scope g calls slots high l.1)
      (below-turns (expression_bound g slots low) (expression_bound g slots high) (loop_sweeps slot body) (block-below names m _ g calls (bounds_in_turn g slots slot low high) body l.3)))
  statement-below names m scope g calls slots (While c most body) l =
      below-then (condition-below names scope g calls slots c l.0) (below-perhaps (block-below names m _ g calls slots body l.2))
  statement-below names m scope g calls slots (Do f given) l =
      below-then (arguments-below names scope g calls slots given l.1) (calls f (argument_bounds g slots given))
  statement-below names m scope g calls slots (Fold head body) l =
      below-then (arguments-below names scope g calls slots head.start l.0)
      (below-then (expression-below names scope g calls slots head.low l.1)
      (below-then (expression-below names scope g calls slots head.high l.2)
      (below-turns (expression_bound g slots head.low) (expression_bound g slots head.high) []
      (below-then (block-below names m _ g calls (bounds_in_turn g slots head.block head.low head.high) body l.6)
      (arguments-below names _ g calls (bounds_at_end g (bounds_in_turn g slots head.block head.low head.high) body) head.next l.7)))))
  statement-below names m scope g calls slots (Pair head producer consumer) l =
      below-then (block-below names m _ g calls slots producer l.1)
      (below-then (arguments-below names _ g calls (bounds_at_end g slots producer) head.give l.2)
      (block-below names m _ g calls slots consumer l.4))
  statement-below names m scope g calls slots Break l = below-nothing

  block-below : (names : Names) (in_main : Bool) (scope : Scope) (g : Setting) → CallsBelow names.arrays g → (slots : List Bound) (b : Block) → IsLawfulBlock names in_main scope b → Below names.arrays (block_finds g slots b)
  block-below names m scope g calls slots end l = below-nothing
  block-below names m scope g calls slots (on_line line first rest) l =
      below-then (statement-below names m scope g calls slots first l.0) (block-below names m _ g calls (bounds_behind g slots first) rest l.1)

-- ---- functions

entered-below : (p : Program) (index : ℕ) (call : ℕ → List Bound → Entered) → ((f : ℕ) (given : List Bound) → Below (length p.arrays) (call f given).finds) → (f : Option Function) → IfSome f (IsLawfulFunction p index) → (given : List Bound) → Below (length p.arrays) (entered call f given).finds
entered-below p index call calls None l given = below-nothing
entered-below p index call calls (Some f) l given =
    let g = setting_in call f.body in
    let slots = own_bounds g.is_assigned (length f.slots) given in
    below-then (block-below (names_at p index f.slots) false _ g calls slots f.body l.body)
    (expression-below (names_at p index f.slots) _ g calls (bounds_at_end g slots f.body) f.answer l.answer)

calls-below : (p : Program) → IsScoped p → (index f : ℕ) (given : List Bound) → Below (length p.arrays) (call_before p.functions index f given).finds
calls-below p s zero f given = below-nothing
calls-below p s (suc index) f given =
    below-if (f == index) (entered (call_before p.functions index) (slice_get p.functions index) given) (call_before p.functions index f given)
    (entered-below p index (call_before p.functions index) (calls-below p s index) (slice_get p.functions index) (s.functions index) given)
    (calls-below p s index f given)
  where
    below-if : (b : Bool) (one other : Entered) → Below (length p.arrays) one.finds → Below (length p.arrays) other.finds → Below (length p.arrays) (if b then one else other).finds
    below-if true one other h k = h
    below-if false one other h k = k

-- ---- parts

guess-below : (names : Names) (scope : Scope) (g : Setting) → CallsBelow names.arrays g → (slots : List Bound) (guess : syntax.Predictor) → IsLawfulPredictor names scope guess → Below names.arrays (guess_finds g slots guess)
guess-below names scope g calls slots (By guess) l = expression-below names scope g calls slots guess l
guess-below names scope g calls slots (Host number) l = below-nothing

guesses-below : (names : Names) (scope : Scope) (g : Setting) → CallsBelow names.arrays g → (slots : List Bound) (all : List syntax.Predictor) → AreLawfulPredictors names scope all → Below names.arrays (guesses_find g slots all)
guesses-below names scope g calls slots [] l = below-nothing
guesses-below names scope g calls slots (first ∷ rest) l =
    below-then (guess-below names scope g calls slots first l.0) (guesses-below names scope g calls slots rest l.1)

part-below : (p : Program) → IsScoped p → (k : Construct) → Stands p k → (part : Part) → Below (length p.arrays) (part_finds p k part)
part-below p s (fold line head body) at Body =
    let g = main_setting p in
    let calls : CallsBelow (length p.arrays) g = calls-below p s (length p.functions) in
    below-then (block-below (main_names p) true _ g calls (within_fold p head) body at.is.6)
    (arguments-below (main_names p) _ g calls (bounds_at_end g (within_fold p head) body) head.next at.is.7)
part-below p s (fold line head body) at Predictor =
    guesses-below (main_names p) _ (main_setting p) (calls-below p s (length p.functions)) (within_fold p head) head.predict at.is.5
part-below p s (fold line head body) at Producer = below-nothing
part-below p s (fold line head body) at Consumer = below-nothing
part-below p s (pair line head producer consumer) at Producer =
    let g = main_setting p in
    let calls : CallsBelow (length p.arrays) g = calls-below p s (length p.functions) in
    below-then (block-below (main_names p) true _ g calls (outside p) producer at.is.1)
    (arguments-below (main_names p) _ g calls (bounds_at_end g (outside p) producer) head.give at.is.2)
part-below p s (pair line head producer consumer) at Consumer =
    block-below (main_names p) true _ (main_setting p) (calls-below p s (length p.functions)) (outside p) consumer at.is.4
part-below p s (pair line head producer consumer) at Predictor =
    guesses-below (main_names p) _ (main_setting p) (calls-below p s (length p.functions)) (outside p) head.predict at.is.3
part-below p s (pair line head producer consumer) at Body = below-nothing

-- each array that a part of a top construct of a lawful program may write is one of the program
pub written-within : (p : Program) (n : ℕ) (k : Construct) (part : Part) → IsScoped p → slice_get (constructs_in p.main) n ≡ Some k → (a : ℕ) → HasArray (may_write p k part) a → a < length p.arrays
written-within p n k part s is a h =
    below-array (length p.arrays) (may_write p k part) a ((part-below p s k (stands p k n s is) part).may nowhere) h
