-- Arguments one after another.
use Rattle.std.proofs.Common.{◌≡◌, ℕ, ◌+◌, ◌<◌, ◌≤◌, List, [], ◌∷◌, ◌++◌, length, get_or, drop, map, refl, sym, ap, ◌∙◌, arith, append_assoc}
use Rattle.std.proofs.lemmas.List.{map-append, drop_all, length-map}
use Rattle.spf_ast.specs.declared.syntax.Expr.{Expr}
use Rattle.std.specs.declared.vec.Vec.{Vec}
use Rattle.std.specs.declared.alloc.Global.{Global}
use Rattle.spf_ast.specs.declared.syntax.Name.{Name}
use Rattle.spf_ast.specs.declared.syntax.Expr.TheVariants as x
use Rattle.spf_ast.specs.declared.raw.RawExpr.{RawExpr}
use Rattle.spf_ast.specs.declared.raw.RawExpr.TheVariants as e
use Rattle.spf_ast.proofs.Views.{expression-call}
use Rattle.spf_ast.proofs.RawViews.{raw_expression-call}
use Rattle.spf_ast.specs.Syntax.{Expression, Arguments, Call, no_more, argument, arguments_of}
use Rattle.spf_ast.specs.declared.syntax.Predict.{Predict}
use Rattle.spf_ast.specs.declared.raw.RawPredict.{RawPredict}
use Rattle.spf_ast.specs.View.{name, expression, arguments, predictor}
use Rattle.spf_ast.specs.RawView.{raw_expression, raw_arguments, raw_predictor, raw_fold_head, raw_pair_head}
use Rattle.spf_ast.specs.declared.raw.RawFold.{out-RawFold}
use Rattle.spf_ast.specs.declared.raw.RawFold as code_fold
use Rattle.spf_ast.specs.declared.raw.RawPair.{out-RawPair}
use Rattle.spf_ast.specs.declared.raw.RawPair as code_pair
use Rattle.spf_types_names.specs.Globals.{Globals}
use Rattle.spf_types_names.specs.Locals.{Local}
use Rattle.spf_types_names.specs.Faults.{Setting, Scope, Fault, Value, arguments_faults, expression_faults, predictor_faults, predictors_faults, width_faults, fold_widths_faults, pair_widths_faults, called_faults, count_of, no_truth, a_number}
use Rattle.spf_types_names.specs.Resolved.{scope, index_of, resolved_expression, resolved_arguments, resolved_predictor, resolved_predictors}
use Rattle.spf_types_names.proofs.Rows.{item_at, append_nil}

-- these expressions, and then arguments
abbrev pub joined : List Expression → Arguments → Arguments
joined [] rest = rest
joined (e ∷ es) rest = argument e (joined es rest)

pub joined_push : (es : List Expression) (e : Expression) (rest : Arguments) → joined (es ++ e ∷ []) rest ≡ joined es (argument e rest)
joined_push [] e rest = refl
joined_push (x ∷ es) e rest = ap (argument x) (joined_push es e rest)

pub joined_all : (es : List Expression) → joined es no_more ≡ arguments_of es
joined_all [] = refl
joined_all (e ∷ es) = ap (argument e) (joined_all es)

-- the first `count` raw arguments are resolved, and there is no fault in them
pub record AreResolved (here : Setting) (ls : List Local) (line : ℕ) (raw : List RawExpr) (done : List Expr) (count : ℕ) : Type 0 where
  pub faults : arguments_faults here (scope ls) line (raw_arguments raw) ≡ arguments_faults here (scope ls) line (raw_arguments (drop count raw))
  pub forms : resolved_arguments here.globals ls (raw_arguments raw) ≡ joined (map expression done) (resolved_arguments here.globals ls (raw_arguments (drop count raw)))

pub one_more : (here : Setting) (ls : List Local) (line : ℕ) (raw : List RawExpr) (done : List Expr) (count : ℕ) (x : RawExpr) (e : Expr) (now : List Expr) → count < length raw → x ≡ get_or raw count x →
    AreResolved here ls line raw done count → expression_faults here (scope ls) line a_number (raw_expression x) ≡ [] → expression e ≡ resolved_expression here.globals ls (raw_expression x) → now ≡ done ++ e ∷ [] → AreResolved here ls line raw now (count + 1)
one_more here ls line raw done count x e now h is so none form push =
    let split = item_at raw count x h is in
    record {
      faults = so.faults ∙ ap (λ xs. arguments_faults here (scope ls) line (raw_arguments xs)) split ∙ ap (λ (fs : List Fault). fs ++ arguments_faults here (scope ls) line (raw_arguments (drop (count + 1) raw))) none;
      forms =
          so.forms
          ∙ ap (λ xs. joined (map expression done) (resolved_arguments here.globals ls (raw_arguments xs))) split
          ∙ ap (λ y. joined (map expression done) (argument y (resolved_arguments here.globals ls (raw_arguments (drop (count + 1) raw))))) (sym form)
          ∙ sym (joined_push (map expression done) (expression e) (resolved_arguments here.globals ls (raw_arguments (drop (count + 1) raw))))
          ∙ ap (λ es. joined es (resolved_arguments here.globals ls (raw_arguments (drop (count + 1) raw)))) (sym (map-append expression done (e ∷ [])))
          ∙ ap (λ l. joined (map expression l) (resolved_arguments here.globals ls (raw_arguments (drop (count + 1) raw)))) (sym push);
    }

pub all_resolved : (here : Setting) (ls : List Local) (line : ℕ) (raw : List RawExpr) (done : List Expr) (count : ℕ) → length raw ≤ count → AreResolved here ls line raw done count →
    (arguments_faults here (scope ls) line (raw_arguments raw) ≡ []) × (arguments done ≡ resolved_arguments here.globals ls (raw_arguments raw))
all_resolved here ls line raw done count h so =
    let none = drop_all count raw h in (
      so.faults ∙ ap (λ xs. arguments_faults here (scope ls) line (raw_arguments xs)) none,
      sym (so.forms ∙ ap (λ xs. joined (map expression done) (resolved_arguments here.globals ls (raw_arguments xs))) none ∙ joined_all (map expression done)),
    )

pub count_of_raw : (es : List RawExpr) → count_of (raw_arguments es) ≡ length es
count_of_raw [] = refl
count_of_raw (e ∷ es) = let r = count_of_raw es in omega (arith, r)

-- the faults of a call
pub call_faults : (here : Setting) (s : Scope) (line : ℕ) (wanted : Value) (raw : RawExpr) (f : Name) (given : Vec RawExpr Global) (n : ℕ) → raw ≡ e.Call f given → n ≡ length given.items →
    expression_faults here s line wanted (raw_expression raw) ≡ called_faults here s line (name f) n (no_truth wanted line) ++ arguments_faults here s line (raw_arguments given.items)
call_faults here s line wanted raw f given n is count =
    ap (λ r. expression_faults here s line wanted (raw_expression r)) is ∙ ap (expression_faults here s line wanted) (raw_expression-call f given)
    ∙ ap (λ m. called_faults here s line (name f) m (no_truth wanted line) ++ arguments_faults here s line (raw_arguments given.items)) (count_of_raw given.items ∙ sym count)

-- what a call stands for
pub call_form : (g : Globals) (ls : List Local) (raw : RawExpr) (f : Name) (given : Vec RawExpr Global) (index : ℕ) (done : Vec Expr Global) → raw ≡ e.Call f given → index ≡ index_of g (name f) → arguments done.items ≡ resolved_arguments g ls (raw_arguments given.items) →
    expression (x.Call index done) ≡ resolved_expression g ls (raw_expression raw)
call_form g ls raw f given index done is at so =
    expression-call index done ∙ ap (λ n. Call n (arguments done.items)) at ∙ ap (Call (index_of g (name f))) so
    ∙ sym (ap (λ r. resolved_expression g ls (raw_expression r)) is ∙ ap (resolved_expression g ls) (raw_expression-call f given))

-- ---- predictors

-- the first `count` raw predictors are resolved, and there is no fault in them
pub record AreGuessed (here : Setting) (ls : List Local) (line : ℕ) (raw : List RawPredict) (done : List Predict) (count : ℕ) : Type 0 where
  pub faults : predictors_faults here (scope ls) line (map raw_predictor raw) ≡ predictors_faults here (scope ls) line (map raw_predictor (drop count raw))
  pub forms : resolved_predictors here.globals ls (map raw_predictor raw) ≡ map predictor done ++ resolved_predictors here.globals ls (map raw_predictor (drop count raw))

pub one_guessed : (here : Setting) (ls : List Local) (line : ℕ) (raw : List RawPredict) (done : List Predict) (count : ℕ) (x : RawPredict) (e : Predict) (now : List Predict) → count < length raw → x ≡ get_or raw count x →
    AreGuessed here ls line raw done count → predictor_faults here (scope ls) line (raw_predictor x) ≡ [] → predictor e ≡ resolved_predictor here.globals ls (raw_predictor x) → now ≡ done ++ e ∷ [] → AreGuessed here ls line raw now (count + 1)
one_guessed here ls line raw done count x e now h is so none form push =
    let split = item_at raw count x h is in
    let rest = map raw_predictor (drop (count + 1) raw) in
    record {
      faults = so.faults ∙ ap (λ xs. predictors_faults here (scope ls) line (map raw_predictor xs)) split ∙ ap (λ (fs : List Fault). fs ++ predictors_faults here (scope ls) line rest) none;
      forms =
          so.forms
          ∙ ap (λ xs. map predictor done ++ resolved_predictors here.globals ls (map raw_predictor xs)) split
          ∙ ap (λ y. map predictor done ++ y ∷ resolved_predictors here.globals ls rest) (sym form)
          ∙ sym (append_assoc (map predictor done) (predictor e ∷ []) (resolved_predictors here.globals ls rest))
          ∙ ap (λ es. es ++ resolved_predictors here.globals ls rest) (sym (map-append predictor done (e ∷ [])))
          ∙ ap (λ l. map predictor l ++ resolved_predictors here.globals ls rest) (sym push);
    }

pub all_guessed : (here : Setting) (ls : List Local) (line : ℕ) (raw : List RawPredict) (done : List Predict) (count : ℕ) → length raw ≤ count → AreGuessed here ls line raw done count →
    (predictors_faults here (scope ls) line (map raw_predictor raw) ≡ []) × (map predictor done ≡ resolved_predictors here.globals ls (map raw_predictor raw))
all_guessed here ls line raw done count h so =
    let none = drop_all count raw h in (
      so.faults ∙ ap (λ xs. predictors_faults here (scope ls) line (map raw_predictor xs)) none,
      sym (so.forms ∙ ap (λ xs. map predictor done ++ resolved_predictors here.globals ls (map raw_predictor xs)) none ∙ append_nil (map predictor done)),
    )

pub none_guessed : (here : Setting) (ls : List Local) (line : ℕ) (raw : List RawPredict) (done : List Predict) → done ≡ [] → AreGuessed here ls line raw done 0
none_guessed here ls line raw done e = record { faults = refl; forms = ap (λ l. map predictor l ++ resolved_predictors here.globals ls (map raw_predictor raw)) (sym e) }

-- ---- how many parts the lists of a construct have

pub fold_widths_is : (line : ℕ) (raw : code_fold.RawFold) (width start guess next : ℕ) → width ≡ length (out-RawFold raw).carried.items → start ≡ length (out-RawFold raw).start.items → guess ≡ length (out-RawFold raw).predict.items → next ≡ length (out-RawFold raw).next.items →
    fold_widths_faults line (raw_fold_head raw) ≡ width_faults line width start ++ (width_faults line width guess ++ width_faults line width next)
fold_widths_is line raw width start guess next a b c d =
    let f = out-RawFold raw in
    let n : length (map name f.carried.items) ≡ width = length-map f.carried.items name ∙ sym a in
    let k : count_of (raw_arguments f.start.items) ≡ start = count_of_raw f.start.items ∙ sym b in
    let p : length (map raw_predictor f.predict.items) ≡ guess = length-map f.predict.items raw_predictor ∙ sym c in
    let q : count_of (raw_arguments f.next.items) ≡ next = count_of_raw f.next.items ∙ sym d in
    λ j. width_faults line (n j) (k j) ++ (width_faults line (n j) (p j) ++ width_faults line (n j) (q j))

pub pair_widths_is : (line : ℕ) (raw : code_pair.RawPair) (width give guess : ℕ) → width ≡ length (out-RawPair raw).carried.items → give ≡ length (out-RawPair raw).give.items → guess ≡ length (out-RawPair raw).predict.items →
    pair_widths_faults line (raw_pair_head raw) ≡ width_faults line width give ++ width_faults line width guess
pair_widths_is line raw width give guess a b c =
    let f = out-RawPair raw in
    let n : length (map name f.carried.items) ≡ width = length-map f.carried.items name ∙ sym a in
    let k : count_of (raw_arguments f.give.items) ≡ give = count_of_raw f.give.items ∙ sym b in
    let p : length (map raw_predictor f.predict.items) ≡ guess = length-map f.predict.items raw_predictor ∙ sym c in
    λ j. width_faults line (n j) (k j) ++ width_faults line (n j) (p j)
