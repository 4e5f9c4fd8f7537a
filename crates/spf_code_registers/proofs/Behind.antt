-- The registers of lists of forms.
use Rattle.std.proofs.Common.{◌≡◌, ℕ, ◌+◌, ◌-◌, ◌^◌, ◌<◌, ◌≤◌, max, List, length, get_or, drop, map, sym, ap, subst, arith}
use Rattle.std.proofs.lemmas.List.{drop_all}
use Rattle.spf_ast.specs.declared.syntax.Expr.{Expr}
use Rattle.spf_ast.specs.declared.syntax.Predict.{Predict}
use Rattle.spf_ast.specs.declared.syntax.Stmt.{Stmt}
use Rattle.spf_ast.specs.View.{expression, arguments, predictor, statement, block}
use Rattle.spf_code_registers.specs.Registers.{needs, arguments_need, predictor_needs, predictors_need, block_needs, statement_needs}
use Rattle.spf_code_registers.specs.Counted.{capped}
use Rattle.spf_code_registers.proofs.Lists.{item_at}

-- Where the forms before the rest of a list need `most` registers at most, and `held` of them are held, then this is
-- what the whole list needs.
pub record IsBehind (held most rest all : ℕ) : Type 0 where
  pub left : capped (max most (held + rest)) ≡ capped all
  pub reached : held ≤ most
  pub fits : most ≤ 2 ^ 64 - 1

pub none_behind : (all : ℕ) → IsBehind 0 0 all all
none_behind all = record { left = omega arith; reached = omega arith; fits = omega arith }

-- one more argument, whose value is then held
pub argument_behind : (held most rest all more part sum now need later : ℕ) → IsBehind held most rest all → rest ≡ 1 + max need later → more ≡ capped (held + 1) → part ≡ capped need → sum ≡ capped (more + part) → now ≡ max most sum → IsBehind more now later all
argument_behind held most rest all more part sum now need later so split a b c d =
    let l = so.left in
    let r = so.reached in
    let f = so.fits in
    record { left = omega (arith, l, f, split, a, b, c, d); reached = omega (arith, r, f, a, b, c, d); fits = omega (arith, f, c, d) }

-- one more statement, which holds nothing
pub statement_behind : (most rest all part now need later : ℕ) → IsBehind 0 most rest all → rest ≡ max need later → part ≡ capped need → now ≡ max most part → IsBehind 0 now later all
statement_behind most rest all part now need later so split b d =
    let l = so.left in
    let f = so.fits in
    record { left = omega (arith, l, f, split, b, d); reached = omega arith; fits = omega (arith, f, b, d) }

pub all_behind : (held most rest all : ℕ) → IsBehind held most rest all → rest ≡ 0 → most ≡ capped all
all_behind held most rest all so none =
    let l = so.left in
    let r = so.reached in
    let f = so.fits in
    omega (arith, l, r, f, none)

-- ---- parts put together

pub more_of_two : (m n a b both : ℕ) → a ≡ capped m → b ≡ capped n → both ≡ max a b → both ≡ capped (max m n)
more_of_two m n a b both p q r = omega (arith, p, q, r)

-- with k more
pub with_more : (k m a sum : ℕ) → a ≡ capped m → sum ≡ capped (a + k) → sum ≡ capped (k + m)
with_more k m a sum p q = omega (arith, p, q)

-- forms that are the same need the same
pub same_needs : {A : Type 0} (count : A → ℕ) (e f : A) (n : ℕ) → e ≡ f → n ≡ capped (count f) → n ≡ capped (count e)
same_needs count e f n same h = subst (λ g. n ≡ capped (count g)) (sym same) h

-- ---- lists of forms

-- arguments from an index on
abbrev pub arguments_from : (ℕ → ℕ) → List Expr → ℕ → ℕ
arguments_from calls es i = arguments_need calls (arguments (drop i es))

pub arguments_split : (calls : ℕ → ℕ) (es : List Expr) (i : ℕ) (e : Expr) → i < length es → e ≡ get_or es i e → arguments_from calls es i ≡ 1 + max (needs calls (expression e)) (arguments_from calls es (i + 1))
arguments_split calls es i e h is = ap (λ l. arguments_need calls (arguments l)) (item_at es i e h is)

pub arguments_end : (calls : ℕ → ℕ) (es : List Expr) (i : ℕ) → length es ≤ i → arguments_from calls es i ≡ 0
arguments_end calls es i h = ap (λ l. arguments_need calls (arguments l)) (drop_all i es h)

-- predictors from an index on
abbrev pub predictors_from : (ℕ → ℕ) → List Predict → ℕ → ℕ
predictors_from calls ps i = predictors_need calls (map predictor (drop i ps))

pub predictors_split : (calls : ℕ → ℕ) (ps : List Predict) (i : ℕ) (p : Predict) → i < length ps → p ≡ get_or ps i p → predictors_from calls ps i ≡ max (predictor_needs calls (predictor p)) (predictors_from calls ps (i + 1))
predictors_split calls ps i p h is = ap (λ l. predictors_need calls (map predictor l)) (item_at ps i p h is)

pub predictors_end : (calls : ℕ → ℕ) (ps : List Predict) (i : ℕ) → length ps ≤ i → predictors_from calls ps i ≡ 0
predictors_end calls ps i h = ap (λ l. predictors_need calls (map predictor l)) (drop_all i ps h)

-- statements from an index on
abbrev pub block_from : (ℕ → ℕ) → List Stmt → ℕ → ℕ
block_from calls ss i = block_needs calls (block (drop i ss))

pub block_split : (calls : ℕ → ℕ) (ss : List Stmt) (i : ℕ) (s : Stmt) → i < length ss → s ≡ get_or ss i s → block_from calls ss i ≡ max (statement_needs calls (statement s.kind)) (block_from calls ss (i + 1))
block_split calls ss i s h is = ap (λ l. block_needs calls (block l)) (item_at ss i s h is)

pub block_end : (calls : ℕ → ℕ) (ss : List Stmt) (i : ℕ) → length ss ≤ i → block_from calls ss i ≡ 0
block_end calls ss i h = ap (λ l. block_needs calls (block l)) (drop_all i ss h)
