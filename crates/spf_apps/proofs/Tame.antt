-- What forms find that read one array nowhere, and store only where a test says.
use Rattle.std.proofs.Common.{◌≡◌, ℕ, zero, suc, Bool, true, false, List, [], ◌∷◌, ◌++◌, Some, None, Option, ℤ, pos, refl, subst, arith, length}
use Rattle.std.specs.Prelude.{◌&&◌, ◌||◌, not, ◌==◌, ◌+ℤ◌, ◌-ℤ◌, int_lt, if◌then◌else◌, slice_get}
use Rattle.std.specs.List.{AllByRecursion}
use Rattle.std.specs.Ordering.{int_eq}
use Rattle.std.proofs.lemmas.Bool.Decides.{nat_tests}
use Rattle.spf_ast_lemmas.proofs.Members.{some_is}
use Rattle.spf_region.specs.declared.bound.Bound.{Bound}
use Rattle.spf_region.specs.declared.bound.Bound.TheVariants.{Known, Unknown}
use Rattle.spf_region.specs.declared.range.Range.{Range}
use Rattle.spf_region.specs.declared.range.Range.TheVariants.{Whole, Affine}
use Rattle.spf_region.specs.Ranges.{Offsets, array_of, joined, has_offset, covers}
use Rattle.spf_region.specs.Bounds.{is_small}
use Rattle.spf_ast.specs.Syntax.{Expression, Number, Local, Len, Input, Load, Call, Neg, Binary, Arguments, no_more, argument, Condition, Compare, Both, Either, Not}
use Rattle.spf_ast.specs.Syntax.{Statement, Let, Assign, Store, Fill, Emit, Fail, If, For, While, Do, Fold, Pair, Break, Block, end, on_line, Function, By}
use Rattle.spf_effects_findings.specs.Found.{Found, Finds, finds_nothing, ◌then◌, perhaps, either, reads_element, writes_element, has_no_turn, Sweep, sweep_joined, sweeps_joined, swept, turns}
use Rattle.spf_effects_findings.specs.Forms.{Setting, Entered, expression_bound, argument_bounds, bounds_behind, bounds_at_end, bounds_in_turn, loop_sweeps, expression_finds, arguments_find, condition_finds, statement_finds, block_finds}
use Rattle.spf_effects_findings.specs.Parts.{guesses_find, own_bounds, setting_in, entered, call_before}

-- ---- forms

-- all that is read bare is of other arrays, what may be written passes the test, and what was surely written still is
pub record IsTame (array : ℕ) (P : Range → Type 0) (finds : Finds) : Type 0 where
  pub bare : (w : Offsets) → AllByRecursion (λ r. array_of r ≡ array → ⊥) (finds w).uncovered
  pub may : (w : Offsets) → AllByRecursion P (finds w).may
  pub keeps : (w : Offsets) (a : ℕ) (f o : ℤ) → w a f o ≡ true → (finds w).written a f o ≡ true

-- nothing is written
abbrev pub NoWrite : Range → Type 0
NoWrite r = ⊥

joined_lists : {A : Type 0} (P : A → Type 0) (xs ys : List A) → AllByRecursion P xs → AllByRecursion P ys → AllByRecursion P (xs ++ ys)
joined_lists P [] ys h k = k
joined_lists P (x ∷ xs) ys h k = (h.0, joined_lists P xs ys h.1 k)

weaker : {A : Type 0} (P Q : A → Type 0) → ((x : A) → P x → Q x) → (xs : List A) → AllByRecursion P xs → AllByRecursion Q xs
weaker P Q f [] h = tt
weaker P Q f (x ∷ xs) h = (f x h.0, weaker P Q f xs h.1)

-- where nothing is written, what is written passes any test
pub tame-any : (array : ℕ) (P : Range → Type 0) (finds : Finds) → IsTame array NoWrite finds → IsTame array P finds
tame-any array P finds t = record { bare = t.bare; may = λ w. weaker NoWrite P (λ r n. absurd n) (finds w).may (t.may w); keeps = t.keeps }

pub tame-nothing : (array : ℕ) (P : Range → Type 0) → IsTame array P finds_nothing
tame-nothing array P = record { bare = λ w. tt; may = λ w. tt; keeps = λ w a f o h. h }

pub tame-then : (array : ℕ) (P : Range → Type 0) (first next : Finds) → IsTame array P first → IsTame array P next → IsTame array P (first then next)
tame-then array P first next s t = record {
  bare = λ w. joined_lists (λ r. array_of r ≡ array → ⊥) (first w).uncovered (next (first w).written).uncovered (s.bare w) (t.bare (first w).written);
  may = λ w. joined_lists P (first w).may (next (first w).written).may (s.may w) (t.may (first w).written);
  keeps = λ w a f o h. t.keeps (first w).written a f o (s.keeps w a f o h);
}

tame-perhaps : (array : ℕ) (P : Range → Type 0) (form : Finds) → IsTame array P form → IsTame array P (perhaps form)
tame-perhaps array P form t = record { bare = t.bare; may = t.may; keeps = λ w a f o h. h }

two_hold : (a b : Bool) → a ≡ true → b ≡ true → (a && b) ≡ true
two_hold true b h k = k
two_hold false b h k = absurd cc

tame-either : (array : ℕ) (P : Range → Type 0) (one other : Finds) → IsTame array P one → IsTame array P other → IsTame array P (either one other)
tame-either array P one other s t = record {
  bare = λ w. joined_lists (λ r. array_of r ≡ array → ⊥) (one w).uncovered (other w).uncovered (s.bare w) (t.bare w);
  may = λ w. joined_lists P (one w).may (other w).may (s.may w) (t.may w);
  keeps = λ w a f o h. two_hold ((one w).written a f o) ((other w).written a f o) (s.keeps w a f o h) (t.keeps w a f o h);
}

-- ---- elements

later_holds : (a b : Bool) → b ≡ true → (a || b) ≡ true
later_holds true b h = refl
later_holds false b h = h

-- with more offsets, those that were there still are
pub more_kept : (b : Bool) (r : Range) (w : Offsets) (a : ℕ) (f o : ℤ) → w a f o ≡ true → (if b then joined r w else w) a f o ≡ true
more_kept true r w a f o h = later_holds (has_offset r a f o) (w a f o) h
more_kept false r w a f o h = h

unless_bare : (array : ℕ) (b : Bool) (r : Range) → (array_of r ≡ array → ⊥) → AllByRecursion (λ s. array_of s ≡ array → ⊥) (if b then [] else r ∷ [])
unless_bare array true r h = tt
unless_bare array false r h = (h, tt)

tame-reads : (array : ℕ) (P : Range → Type 0) (other : ℕ) (b : Bound) → (other ≡ array → ⊥) → IsTame array P (reads_element other b)
tame-reads array P other Unknown h = record { bare = λ w. (h, tt); may = λ w. tt; keeps = λ w a f o k. k }
tame-reads array P other (Known f l i) h = record {
  bare = λ w. unless_bare array (covers w (Affine other f l i)) (Affine other f l i) h;
  may = λ w. tt;
  keeps = λ w a g o k. k;
}

-- the range of an element whose index has this bound
abbrev pub range_of : ℕ → Bound → Range
range_of array Unknown = Whole array
range_of array (Known f l h) = Affine array f l h

tame-writes : (array : ℕ) (P : Range → Type 0) (other : ℕ) (b : Bound) → P (range_of other b) → IsTame array P (writes_element other b)
tame-writes array P other Unknown h = record { bare = λ w. tt; may = λ w. (h, tt); keeps = λ w a f o k. k }
tame-writes array P other (Known f l i) h = record {
  bare = λ w. tt;
  may = λ w. (h, tt);
  keeps = λ w a g o k. more_kept (int_eq l i) (Affine other f l i) w a g o k;
}

-- ---- loops

sweep_keeps : (f first last : ℤ) (s : Sweep) (w : Offsets) (a : ℕ) (g o : ℤ) → w a g o ≡ true → sweep_joined f first last s w a g o ≡ true
sweep_keeps f first last s w a g o h =
    more_kept (is_small (first +ℤ s.distance) && is_small (last +ℤ s.distance)) (Affine s.array f (first +ℤ s.distance) (last +ℤ s.distance)) w a g o h

sweeps_keep : (f first last : ℤ) (list : List Sweep) (w : Offsets) (a : ℕ) (g o : ℤ) → w a g o ≡ true → sweeps_joined f first last list w a g o ≡ true
sweeps_keep f first last [] w a g o h = h
sweeps_keep f first last (s ∷ rest) w a g o h =
    sweeps_keep f first last rest (sweep_joined f first last s w) a g o (sweep_keeps f first last s w a g o h)

chosen_keeps : (b : Bool) (v w : Offsets) (a : ℕ) (g o : ℤ) → v a g o ≡ true → w a g o ≡ true → (if b then v else w) a g o ≡ true
chosen_keeps true v w a g o h k = h
chosen_keeps false v w a g o h k = k

swept_keeps : (low high : Bound) (list : List Sweep) (w : Offsets) (a : ℕ) (g o : ℤ) → w a g o ≡ true → swept low high list w a g o ≡ true
swept_keeps Unknown high list w a g o h = h
swept_keeps (Known f l i) Unknown list w a g o h = h
swept_keeps (Known f l i) (Known g m j) list w a k o h =
    chosen_keeps (int_eq f g && (int_eq l i && (int_eq m j && int_lt l m))) (sweeps_joined f l (m -ℤ pos 1) list w) w a k o (sweeps_keep f l (m -ℤ pos 1) list w a k o h) h

pub tame-turns : (array : ℕ) (P : Range → Type 0) (low high : Bound) (list : List Sweep) (body : Finds) → IsTame array P body → IsTame array P (turns low high list body)
tame-turns array P low high list body t = record {
  bare = λ w. bare w (has_no_turn low high);
  may = λ w. may w (has_no_turn low high);
  keeps = λ w a f o h. keeps w a f o (has_no_turn low high) h;
}
  where
    result : Offsets → Bool → Found
    result w b = if b then finds_nothing w else record (body w) { written = swept low high list w }

    bare : (w : Offsets) (b : Bool) → AllByRecursion (λ r. array_of r ≡ array → ⊥) (if b then finds_nothing w else record (body w) { written = swept low high list w }).uncovered
    bare w true = tt
    bare w false = t.bare w

    may : (w : Offsets) (b : Bool) → AllByRecursion P (if b then finds_nothing w else record (body w) { written = swept low high list w }).may
    may w true = tt
    may w false = t.may w

    keeps : (w : Offsets) (a : ℕ) (f o : ℤ) (b : Bool) → w a f o ≡ true → (if b then finds_nothing w else record (body w) { written = swept low high list w }).written a f o ≡ true
    keeps w a f o true h = h
    keeps w a f o false h = swept_keeps low high list w a f o h

-- ---- expressions

both : (a b : Bool) → (a && b) ≡ true → (a ≡ true) × (b ≡ true)
both true b e = (refl, e)
both false b e = cc

-- no element of the array is read
abbrev mutual
  pub avoids : ℕ → Expression → Bool
  avoids array (Number n) = true
  avoids array (Local slot) = true
  avoids array Len = true
  avoids array (Input index) = avoids array index
  avoids array (Load other index) = not (other == array) && avoids array index
  avoids array (Call f given) = avoid array given
  avoids array (Neg inner) = avoids array inner
  avoids array (Binary op a b) = avoids array a && avoids array b

  pub avoid : ℕ → Arguments → Bool
  avoid array no_more = true
  avoid array (argument first rest) = avoids array first && avoid array rest

-- each call reads the array nowhere, and writes nothing
abbrev pub CallsAreTame : ℕ → Setting → Type 0
CallsAreTame array g = (f : ℕ) (given : List Bound) → IsTame array NoWrite (g.call f given).finds

other_array : (other array : ℕ) → not (other == array) ≡ true → other ≡ array → ⊥
other_array other array n e = grind (arith, nat_tests, n, e)

mutual
  expression-tame : (array : ℕ) (g : Setting) (slots : List Bound) → CallsAreTame array g → (e : Expression) → avoids array e ≡ true → IsTame array NoWrite (expression_finds g slots e)
  expression-tame array g slots calls (Number n) h = tame-nothing array NoWrite
  expression-tame array g slots calls (Local slot) h = tame-nothing array NoWrite
  expression-tame array g slots calls Len h = tame-nothing array NoWrite
  expression-tame array g slots calls (Input index) h = expression-tame array g slots calls index h
  expression-tame array g slots calls (Load other index) h =
      let parts = both (not (other == array)) (avoids array index) h in
      tame-then array NoWrite (expression_finds g slots index) (reads_element other (expression_bound g slots index))
      (expression-tame array g slots calls index parts.1)
      (tame-reads array NoWrite other (expression_bound g slots index) (other_array other array parts.0))
  expression-tame array g slots calls (Call f given) h =
      tame-then array NoWrite (arguments_find g slots given) (g.call f (argument_bounds g slots given)).finds
      (arguments-tame array g slots calls given h) (calls f (argument_bounds g slots given))
  expression-tame array g slots calls (Neg inner) h = expression-tame array g slots calls inner h
  expression-tame array g slots calls (Binary op a b) h =
      let parts = both (avoids array a) (avoids array b) h in
      tame-then array NoWrite (expression_finds g slots a) (expression_finds g slots b) (expression-tame array g slots calls a parts.0) (expression-tame array g slots calls b parts.1)

  arguments-tame : (array : ℕ) (g : Setting) (slots : List Bound) → CallsAreTame array g → (given : Arguments) → avoid array given ≡ true → IsTame array NoWrite (arguments_find g slots given)
  arguments-tame array g slots calls no_more h = tame-nothing array NoWrite
  arguments-tame array g slots calls (argument first rest) h =
      let parts = both (avoids array first) (avoid array rest) h in
      tame-then array NoWrite (expression_finds g slots first) (arguments_find g slots rest) (expression-tame array g slots calls first parts.0) (arguments-tame array g slots calls rest parts.1)

-- an expression, with any test on what is written
pub reads_only : (array : ℕ) (P : Range → Type 0) (g : Setting) (slots : List Bound) → CallsAreTame array g → (e : Expression) → avoids array e ≡ true → IsTame array P (expression_finds g slots e)
reads_only array P g slots calls e h = tame-any array P (expression_finds g slots e) (expression-tame array g slots calls e h)

-- the parts of a row
pub row_reads_only : (array : ℕ) (P : Range → Type 0) (g : Setting) (slots : List Bound) → CallsAreTame array g → (row : Arguments) → avoid array row ≡ true → IsTame array P (arguments_find g slots row)
row_reads_only array P g slots calls row h = tame-any array P (arguments_find g slots row) (arguments-tame array g slots calls row h)

-- the guess of a row of one word, by an expression
pub guess-tame : (array : ℕ) (g : Setting) (slots : List Bound) → CallsAreTame array g → (e : Expression) → avoids array e ≡ true → IsTame array NoWrite (guesses_find g slots (By e ∷ []))
guess-tame array g slots calls e h = tame-then array NoWrite (expression_finds g slots e) finds_nothing (expression-tame array g slots calls e h) (tame-nothing array NoWrite)

-- ---- statements

-- only comparisons, and none reads the array
abbrev pub compares : ℕ → Condition → Bool
compares array (Compare test a b) = avoids array a && avoids array b
compares array _ = false

condition-tame : (array : ℕ) (P : Range → Type 0) (g : Setting) (slots : List Bound) → CallsAreTame array g → (c : Condition) → compares array c ≡ true → IsTame array P (condition_finds g slots c)
condition-tame array P g slots calls (Compare test a b) h =
    let parts = both (avoids array a) (avoids array b) h in
    tame-then array P (expression_finds g slots a) (expression_finds g slots b) (reads_only array P g slots calls a parts.0) (reads_only array P g slots calls b parts.1)
condition-tame array P g slots calls (Both c d) h = absurd cc
condition-tame array P g slots calls (Either c d) h = absurd cc
condition-tame array P g slots calls (Not c) h = absurd cc

-- a statement reads the array nowhere, and each store's range passes the test
abbrev mutual
  pub Stores : ℕ → (Range → Type 0) → Setting → List Bound → Statement → Type 0
  Stores array P g slots (Let slot value) = avoids array value ≡ true
  Stores array P g slots (Assign slot value) = avoids array value ≡ true
  Stores array P g slots (Store other index value) =
      ((avoids array index && avoids array value) ≡ true) × P (range_of other (expression_bound g slots index))
  Stores array P g slots (Fail number) = Unit {0}
  Stores array P g slots (If c a b) = (compares array c ≡ true) × StoresIn array P g slots a × StoresIn array P g slots b
  Stores array P g slots (For slot low high body) =
      ((avoids array low && avoids array high) ≡ true) × StoresIn array P g (bounds_in_turn g slots slot low high) body
  Stores array P g slots _ = ⊥

  pub StoresIn : ℕ → (Range → Type 0) → Setting → List Bound → Block → Type 0
  StoresIn array P g slots end = Unit {0}
  StoresIn array P g slots (on_line line first rest) = Stores array P g slots first × StoresIn array P g (bounds_behind g slots first) rest

mutual
  statement-tame : (array : ℕ) (P : Range → Type 0) (g : Setting) (slots : List Bound) → CallsAreTame array g → (s : Statement) → Stores array P g slots s → IsTame array P (statement_finds g slots s)
  statement-tame array P g slots calls (Let slot value) h = reads_only array P g slots calls value h
  statement-tame array P g slots calls (Assign slot value) h = reads_only array P g slots calls value h
  statement-tame array P g slots calls (Store other index value) h =
      let parts = both (avoids array index) (avoids array value) h.0 in
      tame-then array P (expression_finds g slots index) (expression_finds g slots value then writes_element other (expression_bound g slots index))
      (reads_only array P g slots calls index parts.0)
      (tame-then array P (expression_finds g slots value) (writes_element other (expression_bound g slots index))
      (reads_only array P g slots calls value parts.1)
      (tame-writes array P other (expression_bound g slots index) h.1))
  statement-tame array P g slots calls (Fail number) h = tame-nothing array P
  statement-tame array P g slots calls (If c a b) h =
      tame-then array P (condition_finds g slots c) (either (block_finds g slots a) (block_finds g slots b))
      (condition-tame array P g slots calls c h.0)
      (tame-either array P (block_finds g slots a) (block_finds g slots b) (block-tame array P g slots calls a h.1) (block-tame array P g slots calls b h.2))
  statement-tame array P g slots calls (For slot low high body) h =
      let parts = both (avoids array low) (avoids array high) h.0 in
      let inner = block_finds g (bounds_in_turn g slots slot low high) body in
      let loop = turns (expression_bound g slots low) (expression_bound g slots high) (loop_sweeps slot body) inner in
      tame-then array P (expression_finds g slots low) (expression_finds g slots high then loop)
      (reads_only array P g slots calls low parts.0)
      (tame-then array P (expression_finds g slots high) loop
      (reads_only array P g slots calls high parts.1)
      (tame-turns array P (expression_bound g slots low) (expression_bound g slots high) (loop_sweeps slot body) inner
      (block-tame array P g (bounds_in_turn g slots slot low high) calls body h.1)))
  statement-tame array P g slots calls (Fill other low high value) h = absurd h
  statement-tame array P g slots calls (Emit value) h = absurd h
  statement-tame array P g slots calls (While c most body) h = absurd h
  statement-tame array P g slots calls (Do f given) h = absurd h
  statement-tame array P g slots calls Break h = absurd h
  statement-tame array P g slots calls (Fold head body) h = absurd h
  statement-tame array P g slots calls (Pair head producer consumer) h = absurd h

  pub block-tame : (array : ℕ) (P : Range → Type 0) (g : Setting) (slots : List Bound) → CallsAreTame array g → (b : Block) → StoresIn array P g slots b → IsTame array P (block_finds g slots b)
  block-tame array P g slots calls end h = tame-nothing array P
  block-tame array P g slots calls (on_line line first rest) h =
      tame-then array P (statement_finds g slots first) (block_finds g (bounds_behind g slots first) rest)
      (statement-tame array P g slots calls first h.0)
      (block-tame array P g (bounds_behind g slots first) calls rest h.1)

-- ---- functions

-- a statement stores nothing, and reads the array nowhere
abbrev mutual
  pub quiet : ℕ → Statement → Bool
  quiet array (Let slot value) = avoids array value
  quiet array (Assign slot value) = avoids array value
  quiet array (If c a b) = compares array c && (quiet_block array a && quiet_block array b)
  quiet array (For slot low high body) = (avoids array low && avoids array high) && quiet_block array body
  quiet array _ = false

  pub quiet_block : ℕ → Block → Bool
  quiet_block array end = true
  quiet_block array (on_line line first rest) = quiet array first && quiet_block array rest

mutual
  quiet-stores : (array : ℕ) (P : Range → Type 0) (g : Setting) (slots : List Bound) (s : Statement) → quiet array s ≡ true → Stores array P g slots s
  quiet-stores array P g slots (Let slot value) h = h
  quiet-stores array P g slots (Assign slot value) h = h
  quiet-stores array P g slots (If c a b) h =
      let parts = both (compares array c) (quiet_block array a && quiet_block array b) h in
      let branches = both (quiet_block array a) (quiet_block array b) parts.1 in
      (parts.0, quiet_block-stores array P g slots a branches.0, quiet_block-stores array P g slots b branches.1)
  quiet-stores array P g slots (For slot low high body) h =
      let parts = both (avoids array low && avoids array high) (quiet_block array body) h in
      (parts.0, quiet_block-stores array P g (bounds_in_turn g slots slot low high) body parts.1)
  quiet-stores array P g slots (Store other index value) h = absurd cc
  quiet-stores array P g slots (Fill other low high value) h = absurd cc
  quiet-stores array P g slots (Emit value) h = absurd cc
  quiet-stores array P g slots (Fail number) h = absurd cc
  quiet-stores array P g slots (While c most body) h = absurd cc
  quiet-stores array P g slots (Do f given) h = absurd cc
  quiet-stores array P g slots Break h = absurd cc
  quiet-stores array P g slots (Fold head body) h = absurd cc
  quiet-stores array P g slots (Pair head producer consumer) h = absurd cc

  pub quiet_block-stores : (array : ℕ) (P : Range → Type 0) (g : Setting) (slots : List Bound) (b : Block) → quiet_block array b ≡ true → StoresIn array P g slots b
  quiet_block-stores array P g slots end h = tt
  quiet_block-stores array P g slots (on_line line first rest) h =
      let parts = both (quiet array first) (quiet_block array rest) h in
      (quiet-stores array P g slots first parts.0, quiet_block-stores array P g (bounds_behind g slots first) rest parts.1)

-- each function stores nothing, and reads the array nowhere
abbrev pub are_quiet : ℕ → List Function → Bool
are_quiet array [] = true
are_quiet array (f ∷ functions) = (quiet_block array f.body && avoids array f.answer) && are_quiet array functions

quiet-at : (array : ℕ) (functions : List Function) (index : ℕ) (f : Function) → are_quiet array functions ≡ true → slice_get functions index ≡ Some f → (quiet_block array f.body && avoids array f.answer) ≡ true
quiet-at array [] index f h e = cc
quiet-at array (g ∷ functions) zero f h e =
    subst (λ x. (quiet_block array x.body && avoids array x.answer) ≡ true) (some_is g f e) (both (quiet_block array g.body && avoids array g.answer) (are_quiet array functions) h).0
quiet-at array (g ∷ functions) (suc index) f h e =
    quiet-at array functions index f (both (quiet_block array g.body && avoids array g.answer) (are_quiet array functions) h).1 e

-- a function that is entered, where the functions before it are tame
enter-tame : (array : ℕ) (functions : List Function) (index : ℕ) → are_quiet array functions ≡ true → ((f : ℕ) (given : List Bound) → IsTame array NoWrite (call_before functions index f given).finds) → (given : List Bound) (o : Option Function) → slice_get functions index ≡ o → IsTame array NoWrite (entered (call_before functions index) o given).finds
enter-tame array functions index h before given None e = tame-nothing array NoWrite
enter-tame array functions index h before given (Some called) e =
    let parts = both (quiet_block array called.body) (avoids array called.answer) (quiet-at array functions index called h e) in
    let g = setting_in (call_before functions index) called.body in
    let slots = own_bounds g.is_assigned (length called.slots) given in
    tame-then array NoWrite (block_finds g slots called.body) (expression_finds g (bounds_at_end g slots called.body) called.answer)
    (block-tame array NoWrite g slots before called.body (quiet_block-stores array NoWrite g slots called.body parts.0))
    (expression-tame array g (bounds_at_end g slots called.body) before called.answer parts.1)

chosen-tame : (array : ℕ) (b : Bool) (one other : Entered) → IsTame array NoWrite one.finds → IsTame array NoWrite other.finds → IsTame array NoWrite (if b then one else other).finds
chosen-tame array true one other h k = h
chosen-tame array false one other h k = k

pub calls-tame : (array : ℕ) (functions : List Function) → are_quiet array functions ≡ true → (index f : ℕ) (given : List Bound) → IsTame array NoWrite (call_before functions index f given).finds
calls-tame array functions h zero f given = tame-nothing array NoWrite
calls-tame array functions h (suc index) f given =
    chosen-tame array (f == index) (entered (call_before functions index) (slice_get functions index) given) (call_before functions index f given)
    (enter-tame array functions index h (calls-tame array functions h index) given (slice_get functions index) refl)
    (calls-tame array functions h index f given)
