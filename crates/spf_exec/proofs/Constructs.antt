-- The top constructs among statements.
use Rattle.std.proofs.Common.{◌≡◌, ℕ, zero, suc, ◌+◌, ◌-◌, ◌<◌, ◌≤◌, Bool, true, false, Some, length, refl, sym, ap, ◌∙◌, arith}
use Rattle.std.specs.Prelude.{if◌then◌else◌, slice_get}
use Rattle.spf_ast.specs.Syntax.{Statement, Let, Assign, Store, Fill, Emit, Fail, If, For, While, Do, Fold, Pair, Break, Block, end, on_line}
use Rattle.spf_ast.specs.Construct.{Construct, construct_of, constructs_in, is_construct}
use Rattle.spf_ast.specs.Pieces.{construct_first, rest_from, from_construct, statement_count}

-- a statement that is no construct is passed over
pub constructs-skip : (line : ℕ) (s : Statement) (rest : Block) → is_construct s ≡ false → constructs_in (on_line line s rest) ≡ constructs_in rest
constructs-skip line (Let slot value) rest e = refl
constructs-skip line (Assign slot value) rest e = refl
constructs-skip line (Store array index value) rest e = refl
constructs-skip line (Fill array low high value) rest e = refl
constructs-skip line (Emit value) rest e = refl
constructs-skip line (Fail number) rest e = refl
constructs-skip line (If test a b) rest e = refl
constructs-skip line (For slot low high body) rest e = refl
constructs-skip line (While test most body) rest e = refl
constructs-skip line (Do f given) rest e = refl
constructs-skip line Break rest e = refl
constructs-skip line (Fold head body) rest e = cc
constructs-skip line (Pair head producer consumer) rest e = cc

-- how many constructs there are
abbrev one_if : Bool → ℕ
one_if true = 1
one_if false = 0

constructs-count : (line : ℕ) (s : Statement) (rest : Block) → length (constructs_in (on_line line s rest)) ≡ one_if (is_construct s) + length (constructs_in rest)
constructs-count line (Let slot value) rest = omega arith
constructs-count line (Assign slot value) rest = omega arith
constructs-count line (Store array index value) rest = omega arith
constructs-count line (Fill array low high value) rest = omega arith
constructs-count line (Emit value) rest = omega arith
constructs-count line (Fail number) rest = omega arith
constructs-count line (If test a b) rest = omega arith
constructs-count line (For slot low high body) rest = omega arith
constructs-count line (While test most body) rest = omega arith
constructs-count line (Do f given) rest = omega arith
constructs-count line Break rest = omega arith
constructs-count line (Fold head body) rest = omega arith
constructs-count line (Pair head producer consumer) rest = omega arith

-- ---- the construct that stands first

at_first : (line : ℕ) (s : Statement) (rest : Block) (k : Construct) → construct_of line s ≡ Some k → slice_get (constructs_in (on_line line s rest)) 0 ≡ Some k
at_first line (Let slot value) rest k e = cc
at_first line (Assign slot value) rest k e = cc
at_first line (Store array index value) rest k e = cc
at_first line (Fill array low high value) rest k e = cc
at_first line (Emit value) rest k e = cc
at_first line (Fail number) rest k e = cc
at_first line (If test a b) rest k e = cc
at_first line (For slot low high body) rest k e = cc
at_first line (While test most body) rest k e = cc
at_first line (Do f given) rest k e = cc
at_first line Break rest k e = cc
at_first line (Fold head body) rest k e = e
at_first line (Pair head producer consumer) rest k e = e

-- a statement is passed over with its construct, if it is one
after_one : (line : ℕ) (s : Statement) (rest : Block) (n : ℕ) → slice_get (constructs_in (on_line line s rest)) (one_if (is_construct s) + n) ≡ slice_get (constructs_in rest) n
after_one line (Let slot value) rest n = ap (slice_get (constructs_in rest)) (let e : 0 + n ≡ n = omega arith in e)
after_one line (Assign slot value) rest n = ap (slice_get (constructs_in rest)) (let e : 0 + n ≡ n = omega arith in e)
after_one line (Store array index value) rest n = ap (slice_get (constructs_in rest)) (let e : 0 + n ≡ n = omega arith in e)
after_one line (Fill array low high value) rest n = ap (slice_get (constructs_in rest)) (let e : 0 + n ≡ n = omega arith in e)
after_one line (Emit value) rest n = ap (slice_get (constructs_in rest)) (let e : 0 + n ≡ n = omega arith in e)
after_one line (Fail number) rest n = ap (slice_get (constructs_in rest)) (let e : 0 + n ≡ n = omega arith in e)
after_one line (If test a b) rest n = ap (slice_get (constructs_in rest)) (let e : 0 + n ≡ n = omega arith in e)
after_one line (For slot low high body) rest n = ap (slice_get (constructs_in rest)) (let e : 0 + n ≡ n = omega arith in e)
after_one line (While test most body) rest n = ap (slice_get (constructs_in rest)) (let e : 0 + n ≡ n = omega arith in e)
after_one line (Do f given) rest n = ap (slice_get (constructs_in rest)) (let e : 0 + n ≡ n = omega arith in e)
after_one line Break rest n = ap (slice_get (constructs_in rest)) (let e : 0 + n ≡ n = omega arith in e)
after_one line (Fold head body) rest n = ap (slice_get (constructs_in (on_line line (Fold head body) rest))) (let e : 1 + n ≡ suc n = omega arith in e)
after_one line (Pair head producer consumer) rest n = ap (slice_get (constructs_in (on_line line (Pair head producer consumer) rest))) (let e : 1 + n ≡ suc n = omega arith in e)

-- a construct that stands first from some index on has as its index the number of constructs that were passed
pub index_of_first : (b : Block) (n passed : ℕ) (k : Construct) → construct_first (rest_from n b) ≡ Some k → passed + length (constructs_in (rest_from n b)) ≡ length (constructs_in b) → slice_get (constructs_in b) passed ≡ Some k
index_of_first end zero passed k e count = cc
index_of_first end (suc n) passed k e count = cc
index_of_first (on_line line s rest) zero passed k e count =
    let none : passed ≡ 0 = omega (arith, count) in
    ap (slice_get (constructs_in (on_line line s rest))) none ∙ at_first line s rest k e
index_of_first (on_line line s rest) (suc n) passed k e count =
    let whole = constructs-count line s rest in
    let few = fewer_left rest n in
    let before : passed ≡ one_if (is_construct s) + (passed - one_if (is_construct s)) = omega (arith, count, whole, few) in
    ap (slice_get (constructs_in (on_line line s rest))) before ∙ after_one line s rest (passed - one_if (is_construct s))
    ∙ index_of_first rest n (passed - one_if (is_construct s)) k e (omega (arith, count, whole, few))
  where
    fewer_left : (b : Block) (n : ℕ) → length (constructs_in (rest_from n b)) ≤ length (constructs_in b)
    fewer_left end zero = omega arith
    fewer_left end (suc n) = omega arith
    fewer_left (on_line line s rest) zero = omega arith
    fewer_left (on_line line s rest) (suc n) = let count = constructs-count line s rest in let less = fewer_left rest n in omega (arith, count, less)

is_one : (line : ℕ) (s : Statement) (k : Construct) → construct_of line s ≡ Some k → one_if (is_construct s) ≡ 1
is_one line (Let slot value) k e = cc
is_one line (Assign slot value) k e = cc
is_one line (Store array index value) k e = cc
is_one line (Fill array low high value) k e = cc
is_one line (Emit value) k e = cc
is_one line (Fail number) k e = cc
is_one line (If test a b) k e = cc
is_one line (For slot low high body) k e = cc
is_one line (While test most body) k e = cc
is_one line (Do f given) k e = cc
is_one line Break k e = cc
is_one line (Fold head body) k e = refl
is_one line (Pair head producer consumer) k e = refl

-- after it there is one construct fewer
pub one_less : (b : Block) (n : ℕ) (k : Construct) → construct_first (rest_from n b) ≡ Some k → length (constructs_in (rest_from n b)) ≡ 1 + length (constructs_in (rest_from (n + 1) b))
one_less end zero k e = cc
one_less end (suc n) k e = cc
one_less (on_line line s rest) zero k e = let count = constructs-count line s rest in let one = is_one line s k e in omega (arith, count, one)
one_less (on_line line s rest) (suc n) k e =
    let next : suc n + 1 ≡ suc (n + 1) = omega arith in
    one_less rest n k e ∙ ap (λ m. 1 + length (constructs_in (rest_from m (on_line line s rest)))) (sym next)

-- and there is a statement
pub within : (b : Block) (n : ℕ) (k : Construct) → construct_first (rest_from n b) ≡ Some k → n < statement_count b
within end zero k e = cc
within end (suc n) k e = cc
within (on_line line s rest) zero k e = omega arith
within (on_line line s rest) (suc n) k e = let w = within rest n k e in omega (arith, w)

-- there are no more constructs than statements
pub few_constructs : (b : Block) → length (constructs_in b) ≤ statement_count b
few_constructs end = omega arith
few_constructs (on_line line s rest) = let few = few_constructs rest in let count = constructs-count line s rest in let one = at_most_one (is_construct s) in omega (arith, few, count, one)
  where
    at_most_one : (b : Bool) → one_if b ≤ 1
    at_most_one true = omega arith
    at_most_one false = omega arith

front_or_rest : (c : Bool) (line : ℕ) (s : Statement) (rest : Block) → is_construct s ≡ c → constructs_in (from_construct rest) ≡ constructs_in rest → constructs_in (if c then on_line line s rest else from_construct rest) ≡ constructs_in (on_line line s rest)
front_or_rest true line s rest e h = refl
front_or_rest false line s rest e h = h ∙ sym (constructs-skip line s rest e)

-- no construct stands before the first one
pub constructs_from : (b : Block) → constructs_in (from_construct b) ≡ constructs_in b
constructs_from end = refl
constructs_from (on_line line s rest) = front_or_rest (is_construct s) line s rest refl (constructs_from rest)
