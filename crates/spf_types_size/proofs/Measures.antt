-- Sizes put together.
use Rattle.std.proofs.Common.{◌≡◌, ℕ, ◌+◌, ◌<◌, ◌≤◌, max, List, length, get_or, drop, map, sym, ap, subst, arith}
use Rattle.std.proofs.lemmas.List.{drop_all}
use Rattle.spf_ast.specs.declared.syntax.Expr.{Expr}
use Rattle.spf_ast.specs.declared.syntax.Predict.{Predict}
use Rattle.spf_ast.specs.declared.syntax.Stmt.{Stmt}
use Rattle.spf_ast.specs.View.{expression, arguments, predictor, statement, block}
use Rattle.spf_ast.specs.Size.{Measure, by_size, by_depth, by_slots, expression_measure, arguments_measure, predictor_measure, predictors_measure, statement_measure, block_measure}
use Rattle.spf_types_size.specs.declared.size.Size.{Size}
use Rattle.spf_types_size.specs.Sizes.{IsBeside, IsWithin, IsSize, Counts, HasSize}
use Rattle.spf_types_size.proofs.Lists.{item_at}

-- nothing has this size
pub nothing_has : (counts : Counts) (s : Size) → s.nodes ≡ 0 → s.depth ≡ 0 → s.slots ≡ 0 → HasSize counts (λ m. 0) s
nothing_has counts s a b c = record { nodes_is = a; depth_is = b; slots_is = c }

-- a form around others
pub within_has : (counts : Counts) (p : Measure → ℕ) (s r : Size) → HasSize counts p s → IsWithin s r → HasSize counts (λ m. m.own + p m) r
within_has counts p s r h w =
    let a = w.nodes in
    let b = w.depth in
    let c = w.slots in
    record {
      nodes_is = (let k = h.nodes_is in omega (arith, a, k));
      depth_is = (let k = h.depth_is in omega (arith, b, k));
      slots_is = (let k = h.slots_is in omega (arith, c, k));
    }

-- two forms beside each other
pub beside_has : (counts : Counts) (p q : Measure → ℕ) (s t r : Size) → HasSize counts p s → HasSize counts q t → IsBeside s t r → HasSize counts (λ m. m.join (p m) (q m)) r
beside_has counts p q s t r h k w =
    let a = w.nodes in
    let b = w.depth in
    let c = w.slots in
    record {
      nodes_is = (let i = h.nodes_is in let j = k.nodes_is in omega (arith, a, i, j));
      depth_is = (let i = h.depth_is in let j = k.depth_is in omega (arith, b, i, j));
      slots_is = (let i = h.slots_is in let j = k.slots_is in omega (arith, c, i, j));
    }

-- a form around two others
pub around_two : (counts : Counts) (p q : Measure → ℕ) (s t u r : Size) → HasSize counts p s → HasSize counts q t → IsBeside s t u → IsWithin u r → HasSize counts (λ m. m.own + m.join (p m) (q m)) r
around_two counts p q s t u r h k w o = within_has counts (λ m. m.join (p m) (q m)) u r (beside_has counts p q s t u h k w) o

-- a form around three others
pub around_three : (counts : Counts) (p q o : Measure → ℕ) (s t u v w r : Size) → HasSize counts p s → HasSize counts q t → HasSize counts o u → IsBeside t u v → IsBeside s v w → IsWithin w r → HasSize counts (λ m. m.own + m.join (p m) (m.join (q m) (o m))) r
around_three counts p q o s t u v w r a b c last all outer =
    around_two counts p (λ m. m.join (q m) (o m)) s v w r a (beside_has counts q o t u v b c last) all outer

-- forms that are the same have the same size
pub has_along : {A : Type 0} (counts : Counts) (measure : Measure → A → ℕ) (e f : A) (r : Size) → e ≡ f → HasSize counts (λ m. measure m f) r → HasSize counts (λ m. measure m e) r
has_along counts measure e f r same h = subst (λ k. HasSize counts (λ m. measure m k) r) (sym same) h

-- the forms before the rest of a list have this size
pub record SizeBehind (counts : Counts) (all rest : Measure → ℕ) (size : Size) : Type 0 where
  pub nodes : ℕ
  pub depth : ℕ
  pub slots : ℕ
  pub is : IsSize size nodes depth slots
  pub nodes_left : nodes + rest (by_size counts.nodes) ≡ all (by_size counts.nodes)
  pub depth_left : max depth (rest (by_depth counts.depth)) ≡ all (by_depth counts.depth)
  pub slots_left : max slots (rest (by_slots counts.slots)) ≡ all (by_slots counts.slots)

pub none_behind : (counts : Counts) (all : Measure → ℕ) (size : Size) → size.nodes ≡ 0 → size.depth ≡ 0 → size.slots ≡ 0 → SizeBehind counts all all size
none_behind counts all size a b c = record {
  nodes = 0;
  depth = 0;
  slots = 0;
  is = record { nodes_is = a; depth_is = b; slots_is = c };
  nodes_left = omega arith;
  depth_left = omega arith;
  slots_left = omega arith;
}

pub one_behind : (counts : Counts) (all rest first later : Measure → ℕ) (size part now : Size) → SizeBehind counts all rest size → ((x : Measure) → rest x ≡ x.join (first x) (later x)) → HasSize counts first part → IsBeside size part now → SizeBehind counts all later now
one_behind counts all rest first later size part now so split h w =
    let i = so.is in
    let n = split (by_size counts.nodes) in
    let d = split (by_depth counts.depth) in
    let k = split (by_slots counts.slots) in
    let nl = so.nodes_left in
    let dl = so.depth_left in
    let sl = so.slots_left in
    let a = w.nodes in
    let b = w.depth in
    let c = w.slots in
    record {
      nodes = so.nodes + first (by_size counts.nodes);
      depth = max so.depth (first (by_depth counts.depth));
      slots = max so.slots (first (by_slots counts.slots));
      is = record {
        nodes_is = (let p = i.nodes_is in let q = h.nodes_is in omega (arith, a, p, q));
        depth_is = (let p = i.depth_is in let q = h.depth_is in omega (arith, b, p, q));
        slots_is = (let p = i.slots_is in let q = h.slots_is in omega (arith, c, p, q));
      };
      nodes_left = omega (arith, n, nl);
      depth_left = omega (arith, d, dl);
      slots_left = omega (arith, k, sl);
    }

pub all_behind : (counts : Counts) (all rest : Measure → ℕ) (size : Size) → SizeBehind counts all rest size → ((x : Measure) → rest x ≡ 0) → HasSize counts all size
all_behind counts all rest size so none =
    let i = so.is in
    let n = none (by_size counts.nodes) in
    let d = none (by_depth counts.depth) in
    let k = none (by_slots counts.slots) in
    let nl = so.nodes_left in
    let dl = so.depth_left in
    let sl = so.slots_left in
    record {
      nodes_is = (let p = i.nodes_is in omega (arith, p, n, nl));
      depth_is = (let p = i.depth_is in omega (arith, p, d, dl));
      slots_is = (let p = i.slots_is in omega (arith, p, k, sl));
    }

-- ---- lists of forms

-- arguments from an index on
abbrev pub arguments_from : List Expr → ℕ → Measure → ℕ
arguments_from es i m = arguments_measure m (arguments (drop i es))

pub arguments_split : (es : List Expr) (i : ℕ) (e : Expr) → i < length es → e ≡ get_or es i e → (m : Measure) → arguments_from es i m ≡ m.join (expression_measure m (expression e)) (arguments_from es (i + 1) m)
arguments_split es i e h is m = ap (λ l. arguments_measure m (arguments l)) (item_at es i e h is)

pub arguments_end : (es : List Expr) (i : ℕ) → length es ≤ i → (m : Measure) → arguments_from es i m ≡ 0
arguments_end es i h m = ap (λ l. arguments_measure m (arguments l)) (drop_all i es h)

-- predictors from an index on
abbrev pub predictors_from : List Predict → ℕ → Measure → ℕ
predictors_from ps i m = predictors_measure m (map predictor (drop i ps))

pub predictors_split : (ps : List Predict) (i : ℕ) (p : Predict) → i < length ps → p ≡ get_or ps i p → (m : Measure) → predictors_from ps i m ≡ m.join (predictor_measure m (predictor p)) (predictors_from ps (i + 1) m)
predictors_split ps i p h is m = ap (λ l. predictors_measure m (map predictor l)) (item_at ps i p h is)

pub predictors_end : (ps : List Predict) (i : ℕ) → length ps ≤ i → (m : Measure) → predictors_from ps i m ≡ 0
predictors_end ps i h m = ap (λ l. predictors_measure m (map predictor l)) (drop_all i ps h)

-- statements from an index on
abbrev pub block_from : List Stmt → ℕ → Measure → ℕ
block_from ss i m = block_measure m (block (drop i ss))

pub block_split : (ss : List Stmt) (i : ℕ) (s : Stmt) → i < length ss → s ≡ get_or ss i s → (m : Measure) → block_from ss i m ≡ m.join (statement_measure m (statement s.kind)) (block_from ss (i + 1) m)
block_split ss i s h is m = ap (λ l. block_measure m (block l)) (item_at ss i s h is)

pub block_end : (ss : List Stmt) (i : ℕ) → length ss ≤ i → (m : Measure) → block_from ss i m ≡ 0
block_end ss i h m = ap (λ l. block_measure m (block l)) (drop_all i ss h)
