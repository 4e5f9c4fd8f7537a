-- The number of the construct that stands next.
use Rattle.std.proofs.Common.{◌≡◌, ℕ, zero, suc, ◌+◌, ◌≤◌, ◌∷◌, length, refl, ap, ◌∙◌, subst, arith}
use Rattle.std.specs.Prelude.{Some, slice_get}
use Rattle.spf_ast.specs.Syntax.{Statement, Fold, Pair, Block, end, on_line}
use Rattle.spf_ast.specs.Construct.{Construct, fold, pair, construct_of, constructs_in}
use Rattle.spf_ast.specs.Pieces.{rest_from, construct_first}

-- a statement is a construct, the first of those from it on, or none
data HasFirst (line : ℕ) (s : Statement) (rest : Block) : Type 0 where
  is_one : (c : Construct) → construct_of line s ≡ Some c → constructs_in (on_line line s rest) ≡ c ∷ constructs_in rest → HasFirst line s rest
  is_none : constructs_in (on_line line s rest) ≡ constructs_in rest → HasFirst line s rest

has-first : (line : ℕ) (s : Statement) (rest : Block) → HasFirst line s rest
has-first line (Fold head body) rest = is_one (fold line head body) refl refl
has-first line (Pair head producer consumer) rest = is_one (pair line head producer consumer) refl refl
has-first line s rest = is_none refl

-- there are no more constructs from a place on than in all
fewer : (place : ℕ) (b : Block) → length (constructs_in (rest_from place b)) ≤ length (constructs_in b)
fewer zero b = omega arith
fewer (suc place) end = omega arith
fewer (suc place) (on_line line s rest) = go (has-first line s rest) (fewer place rest)
  where
    go : HasFirst line s rest → length (constructs_in (rest_from place rest)) ≤ length (constructs_in rest) → length (constructs_in (rest_from place rest)) ≤ length (constructs_in (on_line line s rest))
    go (is_one c is all) h = let more = ap length all in omega (arith, h, more)
    go (is_none all) h = let same = ap length all in omega (arith, h, same)

first-of : (b : Block) (c : Construct) → construct_first b ≡ Some c → slice_get (constructs_in b) 0 ≡ Some c
first-of end c e = cc
first-of (on_line line (Fold head body) rest) c e = e
first-of (on_line line (Pair head producer consumer) rest) c e = e
first-of (on_line line s rest) c e = cc

-- the construct that stands at a place has the number of those before it
pub numbered : (place : ℕ) (b : Block) (number : ℕ) (c : Construct) → number + length (constructs_in (rest_from place b)) ≡ length (constructs_in b)
    → construct_first (rest_from place b) ≡ Some c → slice_get (constructs_in b) number ≡ Some c
numbered zero b number c count e =
    let none : 0 ≡ number = omega (arith, count) in
    subst (λ n. slice_get (constructs_in b) n ≡ Some c) none (first-of b c e)
numbered (suc place) end number c count e = cc
numbered (suc place) (on_line line s rest) number c count e = go (has-first line s rest) (λ k h. numbered place rest k c h e) number count
  where
    go : HasFirst line s rest → ((k : ℕ) → k + length (constructs_in (rest_from place rest)) ≡ length (constructs_in rest) → slice_get (constructs_in rest) k ≡ Some c) → (k : ℕ) → k + length (constructs_in (rest_from place rest)) ≡ length (constructs_in (on_line line s rest)) → slice_get (constructs_in (on_line line s rest)) k ≡ Some c
    go (is_one d is all) later zero h = (let more = ap length all in let few = fewer place rest in absurd (omega (arith, h, more, few)))
    go (is_one d is all) later (suc k) h =
        (let more = ap length all in
        ap (λ l. slice_get l (suc k)) all ∙ later k (omega (arith, h, more)))
    go (is_none all) later k h = ap (λ l. slice_get l k) all ∙ later k (h ∙ ap length all)
