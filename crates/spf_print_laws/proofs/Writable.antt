-- What a scoped program is spelled as can be written: its names are names, and its numbers are numbers that a text can hold.
use Rattle.std.proofs.Common.{◌≡◌, ℕ, ◌+◌, ◌<◌, ◌≤◌, zero, suc, Bool, true, false, inl, inr, List, [], ◌∷◌, ◌++◌, length, map, take, sym, ap, ◌∙◌, subst, arith, refl}
use Rattle.std.specs.Prelude.{IfSome, slice_get, ◌||◌}
use Rattle.std.specs.List.{All, Contains}
use Rattle.std.proofs.lemmas.List.{length-map}
use Rattle.std.proofs.lemmas.Int.{ints}
use Rattle.spf_ast.specs.Syntax.{Expression, Number, Local, Len, Input, Load, Call, Neg, Binary, Arguments, no_more, argument, Condition, Compare, Both, Either, Not, Predictor, By, Host}
use Rattle.spf_ast.specs.Syntax.{Statement, Let, Assign, Store, Fill, Emit, Fail, If, For, While, Do, Fold, Pair, Break, Block, end, on_line, Array, Function, Program}
use Rattle.spf_ast.specs.Meaning.{count_of}
use Rattle.spf_ast.specs.Lawful.{IsName, IsNumber, Names, Scope, behind, showing, showing_fixed, showing_each, in_turn, in_producer, in_consumer, Declares, DeclaresEach, scope_after, scope_at_end, in_body, in_predictor, declared, declared_in, IsCallable, IsLawfulExpression, AreLawfulArguments, IsLawfulCondition, IsLawfulPredictor, AreLawfulPredictors, IsLawfulStatement, IsLawfulBlock, IsLawfulFunction, IsScoped, names_at, parameters}
use Rattle.spf_ast.specs.Spelling.{Vocabulary, vocabulary, name_at, spelled_expression, spelled_arguments, spelled_names, spelled_condition, spelled_predictor, spelled_statement, spelled_block, spelled_function, spelled, IsWritableExpression, AreWritableArguments, IsWritablePredictor, IsWritableStatement, IsWritableBlock, IsWritableFunction, IsWritableArray, raw_count, has_break, holds_break, HasRows, HoldRows, IsWellFormed, IsWritable}
use Rattle.spf_ast.specs.RawSyntax.{RawArguments, RawPredictor, RawFunction}
use Rattle.spf_ast.specs.Carried.{IsWidth}
use Rattle.spf_types_forms.proofs.Sound.{contains_cases, all_none, all_more}
use Rattle.spf_types.proofs.SoundPrograms.{range_in}

-- ---- names

-- each array, function and slot that a form may name has a name
record HasNames (names : Names) (v : Vocabulary) : Type 0 where
  pub arrays : (a : ℕ) → a < names.arrays → IsName (name_at v.arrays a)
  pub functions : (f count : ℕ) → IsCallable names f count → IsName (name_at v.functions f)
  pub slots : (k : ℕ) → k < length names.slots → IsName (name_at v.slots k)

-- the slots that may be used are there, and so are those that are still to be declared
record Room (names : Names) (s : Scope) (count : ℕ) : Type 0 where
  pub inside : (k : ℕ) → Contains s.visible k → k < length names.slots
  pub room : s.next + count ≤ length names.slots

inside_more : (n slot : ℕ) (visible : List ℕ) → slot < n → ((k : ℕ) → Contains visible k → k < n) → (k : ℕ) → Contains (slot ∷ visible) k → k < n
inside_more n slot visible h f k c = elim (contains_cases slot k visible c) [ inl e ↦ omega (arith, e, h) | inr later ↦ f k later ]

-- each of these slots is there
abbrev AreInside : ℕ → List ℕ → Type 0
AreInside n [] = Unit {0}
AreInside n (slot ∷ slots) = (slot < n) × AreInside n slots

inside_each : (n : ℕ) (slots visible : List ℕ) → AreInside n slots → ((k : ℕ) → Contains visible k → k < n) → (k : ℕ) → Contains (slots ++ visible) k → k < n
inside_each n [] visible h f = f
inside_each n (slot ∷ slots) visible h f = inside_more n slot (slots ++ visible) h.0 (inside_each n slots visible h.1 f)

-- slots that are declared are there, where there is room
declared_inside : (names : Names) (n : ℕ) (s : Scope) (slots : List ℕ) → DeclaresEach names s slots → s.next + length slots ≤ n → AreInside n slots
declared_inside names n s [] h l = tt
declared_inside names n s (slot ∷ slots) h l = (omega (arith, h.0.0, l), declared_inside names n (behind 1 (showing slot s)) slots h.1 (omega (arith, l)))

next_each : (s : Scope) (slots : List ℕ) → (showing_each slots s).next ≡ s.next + length slots
next_each s [] = omega arith
next_each s (slot ∷ slots) = omega (arith, next_each (behind 1 (showing slot s)) slots)

writable_names : (names : Names) (v : Vocabulary) → HasNames names v → (slots : List ℕ) → AreInside (length names.slots) slots → All IsName (spelled_names v slots)
writable_names names v has [] h = all_none IsName
writable_names names v has (slot ∷ slots) h = all_more IsName (name_at v.slots slot) (spelled_names v slots) (has.slots slot h.0) (writable_names names v has slots h.1)

-- ---- expressions

mutual
  writable_expression : (names : Names) (v : Vocabulary) (s : Scope) → HasNames names v → ((k : ℕ) → Contains s.visible k → k < length names.slots) → (e : Expression) → IsLawfulExpression names s e → IsWritableExpression (spelled_expression v e)
  writable_expression names v s has inside (Number n) h = h
  writable_expression names v s has inside (Local slot) h = has.slots slot (inside slot h)
  writable_expression names v s has inside Len h = tt
  writable_expression names v s has inside (Input i) h = writable_expression names v s has inside i h
  writable_expression names v s has inside (Load a i) h = (has.arrays a h.0, writable_expression names v s has inside i h.1)
  writable_expression names v s has inside (Call f given) h = (has.functions f (count_of given) h.0, writable_arguments names v s has inside given h.1)
  writable_expression names v s has inside (Neg i) h = writable_expression names v s has inside i h
  writable_expression names v s has inside (Binary op a b) h = (writable_expression names v s has inside a h.0, writable_expression names v s has inside b h.1)

  writable_arguments : (names : Names) (v : Vocabulary) (s : Scope) → HasNames names v → ((k : ℕ) → Contains s.visible k → k < length names.slots) → (es : Arguments) → AreLawfulArguments names s es → AreWritableArguments (spelled_arguments v es)
  writable_arguments names v s has inside no_more h = tt
  writable_arguments names v s has inside (argument first rest) h = (writable_expression names v s has inside first h.0, writable_arguments names v s has inside rest h.1)

writable_condition : (names : Names) (v : Vocabulary) (s : Scope) → HasNames names v → ((k : ℕ) → Contains s.visible k → k < length names.slots) → (c : Condition) → IsLawfulCondition names s c → IsWritableExpression (spelled_condition v c)
writable_condition names v s has inside (Compare t a b) h = (writable_expression names v s has inside a h.0, writable_expression names v s has inside b h.1)
writable_condition names v s has inside (Both a b) h = (writable_condition names v s has inside a h.0, writable_condition names v s has inside b h.1)
writable_condition names v s has inside (Either a b) h = (writable_condition names v s has inside a h.0, writable_condition names v s has inside b h.1)
writable_condition names v s has inside (Not a) h = writable_condition names v s has inside a h

writable_predictor : (names : Names) (v : Vocabulary) (s : Scope) → HasNames names v → ((k : ℕ) → Contains s.visible k → k < length names.slots) → (p : Predictor) → IsLawfulPredictor names s p → IsWritablePredictor (spelled_predictor v p)
writable_predictor names v s has inside (By e) h = writable_expression names v s has inside e h
writable_predictor names v s has inside (Host n) h = h

writable_predictors : (names : Names) (v : Vocabulary) (s : Scope) → HasNames names v → ((k : ℕ) → Contains s.visible k → k < length names.slots) → (all : List Predictor) → AreLawfulPredictors names s all → All IsWritablePredictor (map (spelled_predictor v) all)
writable_predictors names v s has inside [] h = all_none IsWritablePredictor
writable_predictors names v s has inside (first ∷ rest) h =
    all_more IsWritablePredictor (spelled_predictor v first) (map (spelled_predictor v) rest) (writable_predictor names v s has inside first h.0) (writable_predictors names v s has inside rest h.1)

-- ---- widths

count_spelled : (v : Vocabulary) (es : Arguments) → raw_count (spelled_arguments v es) ≡ count_of es
count_spelled v no_more = refl
count_spelled v (argument first rest) = ap suc (count_spelled v rest)

width_as : (n m : ℕ) → IsWidth m → n ≡ m → IsWidth n
width_as n m w e = (omega (arith, e, w.0), omega (arith, e, w.1))

-- ---- statements

room_after : (names : Names) (m : Bool) (s : Scope) (count : ℕ) (st : Statement) → Room names s (declared st + count) → IsLawfulStatement names m s st → Room names (scope_after s st) count
room_after names m s count (Let slot value) r h = record { inside = inside_more (length names.slots) slot s.visible (omega (arith, h.1.0, r.room)) r.inside; room = omega (arith, r.room) }
room_after names m s count (Assign slot value) r h = record { inside = r.inside; room = omega (arith, r.room) }
room_after names m s count (Store a i value) r h = record { inside = r.inside; room = omega (arith, r.room) }
room_after names m s count (Fill a low high value) r h = record { inside = r.inside; room = omega (arith, r.room) }
room_after names m s count (Emit value) r h = record { inside = r.inside; room = omega (arith, r.room) }
room_after names m s count (Fail number) r h = record { inside = r.inside; room = omega (arith, r.room) }
room_after names m s count (If test a b) r h = record { inside = r.inside; room = omega (arith, r.room) }
room_after names m s count (For slot low high body) r h = record { inside = r.inside; room = omega (arith, r.room) }
room_after names m s count (While test most body) r h = record { inside = r.inside; room = omega (arith, r.room) }
room_after names m s count (Do f given) r h = record { inside = r.inside; room = omega (arith, r.room) }
room_after names m s count (Fold head body) r h = record { inside = inside_each (length names.slots) head.carried s.visible (declared_inside names (length names.slots) s head.carried h.3 (omega (arith, r.room))) r.inside; room = omega (arith, r.room) }
room_after names m s count Break r h = record { inside = r.inside; room = omega (arith, r.room) }
room_after names m s count (Pair head a b) r h = record { inside = inside_each (length names.slots) head.carried s.visible (declared_inside names (length names.slots) s head.carried h.0 (omega (arith, r.room))) r.inside; room = omega (arith, r.room) }

inside_end : (names : Names) (m : Bool) (s : Scope) (b : Block) → Room names s (declared_in b) → IsLawfulBlock names m s b → (k : ℕ) → Contains (scope_at_end s b).visible k → k < length names.slots
inside_end names m s end r h = r.inside
inside_end names m s (on_line line st rest) r h = inside_end names m (scope_after s st) rest (room_after names m s (declared_in rest) st r h.0) h.1

-- a number after a block
writable_value : (names : Names) (v : Vocabulary) (m : Bool) (s : Scope) → HasNames names v → (b : Block) (e : Expression) → Room names s (declared_in b) → IsLawfulBlock names m s b → IsLawfulExpression names (scope_at_end s b) e → IsWritableExpression (spelled_expression v e)
writable_value names v m s has b e r h k = writable_expression names v (scope_at_end s b) has (inside_end names m s b r h) e k

-- a row after a block
writable_row : (names : Names) (v : Vocabulary) (m : Bool) (s : Scope) → HasNames names v → (b : Block) (es : Arguments) → Room names s (declared_in b) → IsLawfulBlock names m s b → AreLawfulArguments names (scope_at_end s b) es → AreWritableArguments (spelled_arguments v es)
writable_row names v m s has b es r h k = writable_arguments names v (scope_at_end s b) has (inside_end names m s b r h) es k

mutual
  writable_statement : (names : Names) (v : Vocabulary) (m : Bool) (s : Scope) → HasNames names v → (st : Statement) → Room names s (declared st) → IsLawfulStatement names m s st → IsWritableStatement (spelled_statement v st)
  writable_statement names v m s has (Let slot value) r h = (has.slots slot (omega (arith, h.1.0, r.room)), writable_expression names v s has r.inside value h.0)
  writable_statement names v m s has (Assign slot value) r h = (has.slots slot (r.inside slot h.0), writable_expression names v s has r.inside value h.2)
  writable_statement names v m s has (Store a i value) r h = (has.arrays a h.0, writable_expression names v s has r.inside i h.1, writable_expression names v s has r.inside value h.2)
  writable_statement names v m s has (Fill a low high value) r h = (has.arrays a h.0, writable_expression names v s has r.inside low h.1, writable_expression names v s has r.inside high h.2, writable_expression names v s has r.inside value h.3)
  writable_statement names v m s has (Emit value) r h = writable_expression names v s has r.inside value h.1
  writable_statement names v m s has (Fail number) r h = (omega (arith, ints), omega (arith, ints, h))
  writable_statement names v m s has (If test a b) r h = (
    writable_condition names v s has r.inside test h.0,
    writable_block names v m s has a (record { inside = r.inside; room = omega (arith, r.room) }) h.1,
    writable_block names v m (behind (declared_in a) s) has b (record { inside = r.inside; room = omega (arith, r.room) }) h.2,
  )
  writable_statement names v m s has (For slot low high body) r h = (
    has.slots slot (omega (arith, h.2.0, r.room)),
    writable_expression names v s has r.inside low h.0,
    writable_expression names v s has r.inside high h.1,
    writable_block names v m (in_turn (behind 1 (showing_fixed slot s))) has body (record { inside = inside_more (length names.slots) slot s.visible (omega (arith, h.2.0, r.room)) r.inside; room = omega (arith, r.room) }) h.3,
  )
  writable_statement names v m s has (While test most body) r h = (writable_condition names v s has r.inside test h.0, h.1, writable_block names v m (in_turn s) has body (record { inside = r.inside; room = r.room }) h.2)
  writable_statement names v m s has (Do f given) r h = (has.functions f (count_of given) h.0, writable_arguments names v s has r.inside given h.1)
  writable_statement names v m s has (Fold head body) r h =
      let n = length names.slots in
      let w = length head.carried in
      let c : AreInside n head.carried = declared_inside names n s head.carried h.3 (omega (arith, r.room)) in
      let b : head.block < n = omega (arith, h.4.0, next_each s head.carried, r.room) in
      let inner : Room names (in_body s head.carried head.block) (declared_in body) = record { inside = inside_more n head.block (head.carried ++ s.visible) b (inside_each n head.carried s.visible c r.inside); room = omega (arith, r.room) } in (
        (
          writable_names names v has head.carried c,
          writable_arguments names v s has r.inside head.start h.0,
          has.slots head.block b,
          writable_expression names v s has r.inside head.low h.1,
          writable_expression names v s has r.inside head.high h.2,
          writable_predictors names v (in_predictor s head.block) has (inside_more n head.block s.visible b r.inside) head.predict h.5,
          writable_row names v m (in_body s head.carried head.block) has body head.next inner h.6 h.7,
          width_as (length (spelled_names v head.carried)) w h.8.width (length-map head.carried (name_at v.slots)),
        ),
        writable_block names v m (in_body s head.carried head.block) has body inner h.6,
      )
  writable_statement names v m s has (Pair head a b) r h =
      let n = length names.slots in
      let w = length head.carried in
      let c : AreInside n head.carried = declared_inside names n s head.carried h.0 (omega (arith, r.room)) in
      let one : Room names (in_producer s head.carried) (declared_in a) = record { inside = r.inside; room = omega (arith, r.room) } in (
        (
          writable_names names v has head.carried c,
          writable_row names v m (in_producer s head.carried) has a head.give one h.1 h.2,
          writable_predictors names v s has r.inside head.predict h.3,
          width_as (length (spelled_names v head.carried)) w h.5.width (length-map head.carried (name_at v.slots)),
        ),
        writable_block names v m (in_producer s head.carried) has a one h.1,
        writable_block names v m (in_consumer s head.carried a) has b (record { inside = inside_each n head.carried s.visible c r.inside; room = omega (arith, r.room) }) h.4,
      )
  writable_statement names v m s has Break r h = tt

  writable_block : (names : Names) (v : Vocabulary) (m : Bool) (s : Scope) → HasNames names v → (b : Block) → Room names s (declared_in b) → IsLawfulBlock names m s b → IsWritableBlock (spelled_block v b)
  writable_block names v m s has end r h = tt
  writable_block names v m s has (on_line line st rest) r h = (
    writable_statement names v m s has st (record { inside = r.inside; room = omega (arith, r.room) }) h.0,
    writable_block names v m (scope_after s st) has rest (room_after names m s (declared_in rest) st r h.0) h.1,
  )

-- ---- rows

mutual
  -- the constructs of a lawful statement have rows
  statement_rows : (names : Names) (v : Vocabulary) (m : Bool) (s : Scope) (st : Statement) → IsLawfulStatement names m s st → HasRows (spelled_statement v st)
  statement_rows names v m s (Let slot value) h = tt
  statement_rows names v m s (Assign slot value) h = tt
  statement_rows names v m s (Store a i value) h = tt
  statement_rows names v m s (Fill a low high value) h = tt
  statement_rows names v m s (Emit value) h = tt
  statement_rows names v m s (Fail number) h = tt
  statement_rows names v m s (Do f given) h = tt
  statement_rows names v m s (If test a b) h = (block_rows names v m s a h.1, block_rows names v m (behind (declared_in a) s) b h.2)
  statement_rows names v m s (For slot low high body) h = block_rows names v m (in_turn (behind 1 (showing_fixed slot s))) body h.3
  statement_rows names v m s (While test most body) h = block_rows names v m (in_turn s) body h.2
  statement_rows names v m s (Fold head body) h =
      let w = length head.carried in (
        record {
          start = width_as (raw_count (spelled_arguments v head.start)) w h.8.width (count_spelled v head.start ∙ h.8.start);
          predict = width_as (length (map (spelled_predictor v) head.predict)) w h.8.width (length-map head.predict (spelled_predictor v) ∙ h.8.predict);
          next = width_as (raw_count (spelled_arguments v head.next)) w h.8.width (count_spelled v head.next ∙ h.8.next);
        },
        block_rows names v m (in_body s head.carried head.block) body h.6,
      )
  statement_rows names v m s (Pair head a b) h =
      let w = length head.carried in (
        record {
          give = width_as (raw_count (spelled_arguments v head.give)) w h.5.width (count_spelled v head.give ∙ h.5.give);
          predict = width_as (length (map (spelled_predictor v) head.predict)) w h.5.width (length-map head.predict (spelled_predictor v) ∙ h.5.predict);
        },
        block_rows names v m (in_producer s head.carried) a h.1,
        block_rows names v m (in_consumer s head.carried a) b h.4,
      )
  statement_rows names v m s Break h = tt

  block_rows : (names : Names) (v : Vocabulary) (m : Bool) (s : Scope) (b : Block) → IsLawfulBlock names m s b → HoldRows (spelled_block v b)
  block_rows names v m s end h = tt
  block_rows names v m s (on_line line st rest) h = (statement_rows names v m s st h.0, block_rows names v m (scope_after s st) rest h.1)

-- ---- `break`

no_break : (a b : Bool) → a ≡ false → b ≡ false → (a || b) ≡ false
no_break a b e f = cc

mutual
  -- a lawful statement of version 1 holds no `break`
  statement_unbroken : (names : Names) (v : Vocabulary) (m : Bool) (s : Scope) → names.version ≡ 1 → (st : Statement) → IsLawfulStatement names m s st → has_break (spelled_statement v st) ≡ false
  statement_unbroken names v m s one (Let slot value) h = refl
  statement_unbroken names v m s one (Assign slot value) h = refl
  statement_unbroken names v m s one (Store a i value) h = refl
  statement_unbroken names v m s one (Fill a low high value) h = refl
  statement_unbroken names v m s one (Emit value) h = refl
  statement_unbroken names v m s one (Fail number) h = refl
  statement_unbroken names v m s one (Do f given) h = refl
  statement_unbroken names v m s one (If test a b) h = no_break _ _ (block_unbroken names v m s one a h.1) (block_unbroken names v m (behind (declared_in a) s) one b h.2)
  statement_unbroken names v m s one (For slot low high body) h = block_unbroken names v m (in_turn (behind 1 (showing_fixed slot s))) one body h.3
  statement_unbroken names v m s one (While test most body) h = block_unbroken names v m (in_turn s) one body h.2
  statement_unbroken names v m s one (Fold head body) h = block_unbroken names v m (in_body s head.carried head.block) one body h.6
  statement_unbroken names v m s one (Pair head a b) h = no_break _ _ (block_unbroken names v m (in_producer s head.carried) one a h.1) (block_unbroken names v m (in_consumer s head.carried a) one b h.4)
  statement_unbroken names v m s one Break h = absurd (omega (arith, one, h.0))

  block_unbroken : (names : Names) (v : Vocabulary) (m : Bool) (s : Scope) → names.version ≡ 1 → (b : Block) → IsLawfulBlock names m s b → holds_break (spelled_block v b) ≡ false
  block_unbroken names v m s one end h = refl
  block_unbroken names v m s one (on_line line st rest) h = no_break _ _ (statement_unbroken names v m s one st h.0) (block_unbroken names v m (scope_after s st) one rest h.1)

-- ---- programs

named : (xs : List (List ℕ)) → All IsName xs → (k : ℕ) → k < length xs → IsName (name_at xs k)
named [] h k l = absurd (omega (arith, l))
named (x ∷ xs) h zero l = h 0 x (omega arith)
named (x ∷ xs) h (suc k) l = named xs (λ i d q. h (suc i) d (omega (arith, q))) k (omega (arith, l))

all_left : (xs ys : List (List ℕ)) → All IsName (xs ++ ys) → All IsName xs
all_left [] ys h = all_none IsName
all_left (x ∷ xs) ys h = all_more IsName x xs (h 0 x (omega arith)) (all_left xs ys (λ k d q. h (suc k) d (omega (arith, q))))

all_right : (xs ys : List (List ℕ)) → All IsName (xs ++ ys) → All IsName ys
all_right [] ys h = h
all_right (x ∷ xs) ys h = all_right xs ys (λ k d q. h (suc k) d (omega (arith, q)))

all_taken : (xs : List (List ℕ)) (n : ℕ) → All IsName xs → All IsName (take n xs)
all_taken [] zero h = h
all_taken [] (suc n) h = h
all_taken (x ∷ xs) zero h = all_none IsName
all_taken (x ∷ xs) (suc n) h = all_more IsName x (take n xs) (h 0 x (omega arith)) (all_taken xs n (λ k d q. h (suc k) d (omega (arith, q))))

has_names : (p : Program) (offset : ℕ) (slots : List (List ℕ)) → IsScoped p → offset ≤ length p.functions → All IsName slots → HasNames (names_at p offset slots) (vocabulary p slots)
has_names p offset slots w h names =
    let a = map (λ (a : Array). a.name) p.arrays in
    let f = map (λ (f : Function). f.name) p.functions in
    record {
      arrays = λ k l. named a (all_left a f w.taken_are_names) k (omega (arith, l, length-map p.arrays (λ (a : Array). a.name)));
      functions = λ k count l. named f (all_right a f w.taken_are_names) k (omega (arith, l.0, h, length-map p.functions (λ (f : Function). f.name)));
      slots = named slots names;
    }

writable_function : (p : Program) (offset : ℕ) (f : Function) → IsScoped p → offset ≤ length p.functions → IsName f.name → IsLawfulFunction p offset f → IsWritableFunction (spelled_function p f)
writable_function p offset f w h name l =
    let names = names_at p offset f.slots in
    let v = vocabulary p f.slots in
    let has = has_names p offset f.slots w h l.names in
    let slots = l.slots in
    let room : Room names (parameters f.params) (declared_in f.body) = record { inside = λ k c. (let r = range_in f.params k c in omega (arith, r, slots)); room = omega (arith, slots) } in (
      name,
      all_taken f.slots f.params l.names,
      writable_block names v false (parameters f.params) has f.body room l.body,
      writable_value names v false (parameters f.params) has f.body f.answer room l.body l.answer,
    )

arrays_are : (arrays : List Array) → All IsName (map (λ (a : Array). a.name) arrays) → All (λ (a : Array). IsNumber a.factor × IsNumber a.offset) arrays → All IsWritableArray arrays
arrays_are [] n s = all_none IsWritableArray
arrays_are (a ∷ rest) n s =
    let z = s 0 a (omega arith) in
    all_more IsWritableArray a rest (n 0 a.name (omega arith), z.0, z.1) (arrays_are rest (λ k d q. n (suc k) d (omega (arith, q))) (λ k d q. s (suc k) d (omega (arith, q))))

-- the functions from an index on
functions_are : (p : Program) (offset : ℕ) (fs : List Function) → IsScoped p → offset + length fs ≤ length p.functions → All IsName (map (λ (f : Function). f.name) fs) → ((i : ℕ) → IfSome (slice_get fs i) (IsLawfulFunction p (offset + i))) → All IsWritableFunction (map (spelled_function p) fs)
functions_are p offset [] w h n each = all_none IsWritableFunction
functions_are p offset (f ∷ rest) w h n each =
    all_more IsWritableFunction (spelled_function p f) (map (spelled_function p) rest)
    (writable_function p offset f w (omega (arith, h)) (n 0 f.name (omega arith)) (subst (λ k. IsLawfulFunction p k f) (let e : offset + 0 ≡ offset = omega arith in e) (each 0)))
    (functions_are p (offset + 1) rest w (omega (arith, h)) (λ k d q. n (suc k) d (omega (arith, q))) (λ i. subst (λ k. IfSome (slice_get rest i) (IsLawfulFunction p k)) (let e : offset + suc i ≡ offset + 1 + i = omega arith in e) (each (suc i))))

-- no function of a scoped program of version 1 holds a `break`
functions_unbroken : (p : Program) → p.version ≡ 1 → (offset : ℕ) (fs : List Function) → ((i : ℕ) → IfSome (slice_get fs i) (IsLawfulFunction p (offset + i))) → All (λ (f : RawFunction). holds_break f.body ≡ false) (map (spelled_function p) fs)
functions_unbroken p one offset [] each = all_none (λ (f : RawFunction). holds_break f.body ≡ false)
functions_unbroken p one offset (f ∷ rest) each =
    let here = subst (λ k. IsLawfulFunction p k f) (let e : offset + 0 ≡ offset = omega arith in e) (each 0) in
    all_more (λ (f : RawFunction). holds_break f.body ≡ false) (spelled_function p f) (map (spelled_function p) rest)
    (block_unbroken (names_at p offset f.slots) (vocabulary p f.slots) false (parameters f.params) one f.body here.body)
    (functions_unbroken p one (offset + 1) rest (λ i. subst (λ k. IfSome (slice_get rest i) (IsLawfulFunction p k)) (let e : offset + suc i ≡ offset + 1 + i = omega arith in e) (each (suc i))))

-- the functions of a scoped program have rows
functions_rows : (p : Program) (offset : ℕ) (fs : List Function) → ((i : ℕ) → IfSome (slice_get fs i) (IsLawfulFunction p (offset + i))) → All (λ (f : RawFunction). HoldRows f.body) (map (spelled_function p) fs)
functions_rows p offset [] each = all_none (λ (f : RawFunction). HoldRows f.body)
functions_rows p offset (f ∷ rest) each =
    let here = subst (λ k. IsLawfulFunction p k f) (let e : offset + 0 ≡ offset = omega arith in e) (each 0) in
    all_more (λ (f : RawFunction). HoldRows f.body) (spelled_function p f) (map (spelled_function p) rest)
    (block_rows (names_at p offset f.slots) (vocabulary p f.slots) false (parameters f.params) f.body here.body)
    (functions_rows p (offset + 1) rest (λ i. subst (λ k. IfSome (slice_get rest i) (IsLawfulFunction p k)) (let e : offset + suc i ≡ offset + 1 + i = omega arith in e) (each (suc i))))

-- a scoped program is spelled as a well-formed one
well_formed : (main_line : ℕ) (p : Program) → IsScoped p → IsWellFormed (spelled main_line p)
well_formed main_line p w =
    let a = map (λ (a : Array). a.name) p.arrays in
    let f = map (λ (f : Function). f.name) p.functions in
    let n = length p.functions in
    let slots = w.slots in
    record {
      version = w.version;
      breaks = record {
        main = λ one. block_unbroken (names_at p n p.slots) (vocabulary p p.slots) true (parameters 0) one p.main w.main;
        functions = λ one. functions_unbroken p one 0 p.functions (λ i. subst (λ k. IfSome (slice_get p.functions i) (IsLawfulFunction p k)) (let e : i ≡ 0 + i = omega arith in e) (w.functions i));
      };
      arrays = arrays_are p.arrays (all_left a f w.taken_are_names) w.sizes;
      functions = functions_are p 0 p.functions w (omega arith) (all_right a f w.taken_are_names) (λ i. subst (λ k. IfSome (slice_get p.functions i) (IsLawfulFunction p k)) (let e : i ≡ 0 + i = omega arith in e) (w.functions i));
      main = writable_block (names_at p n p.slots) (vocabulary p p.slots) true (parameters 0) (has_names p n p.slots w (omega arith) w.slots_are_names) p.main (record { inside = λ k c. (let r = range_in 0 k c in absurd (omega (arith, r))); room = omega (arith, slots) }) w.main;
    }

-- a scoped program can be written
pub writable : (main_line : ℕ) (p : Program) → IsScoped p → IsWritable (spelled main_line p)
writable main_line p w = record {
  well_formed = well_formed main_line p w;
  functions = functions_rows p 0 p.functions (λ i. subst (λ k. IfSome (slice_get p.functions i) (IsLawfulFunction p k)) (let e : i ≡ 0 + i = omega arith in e) (w.functions i));
  main = block_rows (names_at p (length p.functions) p.slots) (vocabulary p p.slots) true (parameters 0) p.main w.main;
}
