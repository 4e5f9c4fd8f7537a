-- What the code's statements with blocks stand for.
use Rattle.std.proofs.Common.{◌≡◌, ℕ, ◌+◌, true, List, [], ◌∷◌, ◌++◌, length, map, Result, sym, ap, ◌∙◌, subst, arith, length-append}
use Rattle.std.specs.Prelude.{IfOk}
use Rattle.std.specs.declared.vec.Vec.{Vec}
use Rattle.std.specs.declared.boxed.Box.{Box}
use Rattle.std.specs.declared.alloc.Global.{Global}
use Rattle.spf_ast.specs.declared.syntax.Name.{Name}
use Rattle.spf_ast.specs.declared.syntax.Expr.{Expr}
use Rattle.spf_ast.specs.declared.syntax.Cond.{Cond}
use Rattle.spf_ast.specs.declared.syntax.Stmt.{Stmt}
use Rattle.spf_ast.specs.declared.syntax.StmtKind.{StmtKind}
use Rattle.spf_ast.specs.declared.syntax.StmtKind.TheVariants as s
use Rattle.spf_ast.specs.declared.syntax.Predict.{Predict}
use Rattle.spf_ast.specs.declared.syntax.Fold.{out-Fold}
use Rattle.spf_ast.specs.declared.syntax.Fold as built_fold
use Rattle.spf_ast.specs.declared.syntax.Pair.{out-Pair}
use Rattle.spf_ast.specs.declared.syntax.Pair as built_pair
use Rattle.spf_ast.specs.declared.raw.RawExpr.{RawExpr}
use Rattle.spf_ast.specs.declared.raw.RawStmt.{RawStmt}
use Rattle.spf_ast.specs.declared.raw.RawStmtKind.{RawStmtKind}
use Rattle.spf_ast.specs.declared.raw.RawStmtKind.TheVariants as w
use Rattle.spf_ast.specs.declared.raw.RawFold.{out-RawFold}
use Rattle.spf_ast.specs.declared.raw.RawFold as code_fold
use Rattle.spf_ast.specs.declared.raw.RawPair.{out-RawPair}
use Rattle.spf_ast.specs.declared.raw.RawPair as code_pair
use Rattle.spf_ast.specs.Syntax as x
use Rattle.spf_ast.specs.Syntax.{Expression, Arguments, Condition, Block}
use Rattle.spf_ast.specs.RawSyntax as r
use Rattle.spf_ast.specs.View.{name, expression, arguments, condition, predictor, fold_head, pair_head, statement, block}
use Rattle.spf_ast.specs.RawView.{raw_expression, raw_statement, raw_block, raw_fold_head, raw_pair_head}
use Rattle.spf_ast.proofs.Views.{statement-if, statement-for, statement-while, statement-fold, statement-pair}
use Rattle.spf_ast.proofs.RawViews.{raw_statement-if, raw_statement-for, raw_statement-while, raw_statement-fold, raw_statement-pair}
use Rattle.spf_types_names.specs.declared.fault.TypeError.{TypeError}
use Rattle.spf_types_names.specs.Globals.{Globals}
use Rattle.spf_types_names.specs.Locals.{Local, Seen}
use Rattle.spf_types_names.specs.Faults.{Setting, statement_faults}
use Rattle.spf_types_names.specs.Resolved.{scope, fixed, with_each, row_slots, block_slot, body_slot, resolved_arguments, resolved_expression, resolved_condition, resolved_statement, resolved_block, resolved_predictors, locals_at_end, names_in, slots_in, after_statement}
use Rattle.spf_types_names.specs.Answers.{Answers}

-- the answer for a statement of this form
abbrev pub AnswersForm : Setting → Seen → ℕ → Result StmtKind TypeError → r.RawStatement → Type 0
AnswersForm here old line result form =
    Answers (statement_faults here (scope old.locals) line form) statement (resolved_statement here.globals old.locals (length old.slots) form) result

pub form_along : (here : Setting) (old : Seen) (line : ℕ) (result : Result StmtKind TypeError) (f g : r.RawStatement) → f ≡ g → AnswersForm here old line result g → AnswersForm here old line result f
form_along here old line result f g e h = subst (AnswersForm here old line result) (sym e) h

abbrev pub IsAfterForm : Seen → Seen → Result StmtKind TypeError → r.RawStatement → Type 0
IsAfterForm old now result form = IfOk result (λ k. now ≡ after_statement old form)

pub after_along : (old now : Seen) (result : Result StmtKind TypeError) (f g : r.RawStatement) → f ≡ g → IsAfterForm old now result g → IsAfterForm old now result f
after_along old now result f g e h = subst (IsAfterForm old now result) (sym e) h

pub if_is : (raw : RawStmtKind) (c : RawExpr) (a b : Vec RawStmt Global) (p q : List RawStmt) → raw ≡ w.If c a b → p ≡ a.items → q ≡ b.items → raw_statement raw ≡ r.If (raw_expression c) (raw_block p) (raw_block q)
if_is raw c a b p q is e f = ap raw_statement is ∙ raw_statement-if c a b ∙ (λ i. r.If (raw_expression c) (raw_block (sym e i)) (raw_block (sym f i)))

pub for_is : (raw : RawStmtKind) (n : Name) (low high : RawExpr) (b : Vec RawStmt Global) (p : List RawStmt) → raw ≡ w.For n low high b → p ≡ b.items → raw_statement raw ≡ r.For (name n) (raw_expression low) (raw_expression high) (raw_block p)
for_is raw n low high b p is e = ap raw_statement is ∙ raw_statement-for n low high b ∙ ap (λ l. r.For (name n) (raw_expression low) (raw_expression high) (raw_block l)) (sym e)

pub while_is : (raw : RawStmtKind) (c : RawExpr) (most : ℕ) (b : Vec RawStmt Global) (p : List RawStmt) → raw ≡ w.While c most b → p ≡ b.items → raw_statement raw ≡ r.While (raw_expression c) most (raw_block p)
while_is raw c most b p is e = ap raw_statement is ∙ raw_statement-while c most b ∙ ap (λ l. r.While (raw_expression c) most (raw_block l)) (sym e)

pub fold_is : (raw : RawStmtKind) (f : Box code_fold.RawFold Global) (g : code_fold.RawFold) → raw ≡ w.Fold f → g ≡ f.value → raw_statement raw ≡ r.Fold (raw_fold_head g) (raw_block (out-RawFold g).body.items)
fold_is raw f g is e = ap raw_statement is ∙ raw_statement-fold f ∙ ap (λ z. r.Fold (raw_fold_head z) (raw_block (out-RawFold z).body.items)) (sym e)

pub pair_is : (raw : RawStmtKind) (f : Box code_pair.RawPair Global) (g : code_pair.RawPair) → raw ≡ w.Pair f → g ≡ f.value → raw_statement raw ≡ r.Pair (raw_pair_head g) (raw_block (out-RawPair g).producer.items) (raw_block (out-RawPair g).consumer.items)
pair_is raw f g is e = ap raw_statement is ∙ raw_statement-pair f ∙ ap (λ z. r.Pair (raw_pair_head z) (raw_block (out-RawPair z).producer.items) (raw_block (out-RawPair z).consumer.items)) (sym e)

-- ---- what is built

pub if_form : (g : Globals) (old next : Seen) (c : Cond) (a b : Vec Stmt Global) (rc : r.RawExpression) (ra rb : r.RawBlock) (names : List (List ℕ)) → next ≡ record { locals = old.locals; slots = old.slots ++ names } → length names ≡ slots_in ra →
    condition c ≡ resolved_condition g old.locals rc → block a.items ≡ resolved_block g old.locals (length old.slots) ra → block b.items ≡ resolved_block g next.locals (length next.slots) rb → statement (s.If c a b) ≡ resolved_statement g old.locals (length old.slots) (r.If rc ra rb)
if_form g old next c a b rc ra rb names e n h p q =
    statement-if c a b
    ∙ (λ i. x.If (h i) (p i) (q i))
    ∙ ap (λ (z : Seen). x.If (resolved_condition g old.locals rc) (resolved_block g old.locals (length old.slots) ra) (resolved_block g z.locals (length z.slots) rb)) e
    ∙ ap (λ m. x.If (resolved_condition g old.locals rc) (resolved_block g old.locals (length old.slots) ra) (resolved_block g old.locals m rb)) (length-append old.slots names ∙ ap (λ m. length old.slots + m) n)

pub for_form : (g : Globals) (old inside : Seen) (n : List ℕ) (slot : ℕ) (low high : Expr) (body : Vec Stmt Global) (rlow rhigh : r.RawExpression) (rb : r.RawBlock) → inside ≡ record { locals = fixed n slot ∷ old.locals; slots = old.slots ++ n ∷ [] } → slot ≡ length old.slots →
    expression low ≡ resolved_expression g old.locals rlow → expression high ≡ resolved_expression g old.locals rhigh → block body.items ≡ resolved_block g inside.locals (length inside.slots) rb → statement (s.For slot low high body) ≡ resolved_statement g old.locals (length old.slots) (r.For n rlow rhigh rb)
for_form g old inside n slot low high body rlow rhigh rb e k p q h =
    statement-for slot low high body
    ∙ (λ i. x.For (k i) (p i) (q i) (h i))
    ∙ ap (λ (z : Seen). x.For (length old.slots) (resolved_expression g old.locals rlow) (resolved_expression g old.locals rhigh) (resolved_block g z.locals (length z.slots) rb)) e
    ∙ (λ i. x.For (length old.slots) (resolved_expression g old.locals rlow) (resolved_expression g old.locals rhigh) (resolved_block g (fixed n (k i) ∷ old.locals) (length-append old.slots (n ∷ []) i) rb))

pub while_form : (g : Globals) (old : Seen) (c : Cond) (most : ℕ) (body : Vec Stmt Global) (rc : r.RawExpression) (rb : r.RawBlock) →
    condition c ≡ resolved_condition g old.locals rc → block body.items ≡ resolved_block g old.locals (length old.slots) rb → statement (s.While c most body) ≡ resolved_statement g old.locals (length old.slots) (r.While rc most rb)
while_form g old c most body rc rb h p = statement-while c most body ∙ (λ i. x.While (h i) most (p i))

pub fold_form : (g : Globals) (old inside : Seen) (head : r.RawFoldHead) (rb : r.RawBlock) (f : Box built_fold.Fold Global) (built : built_fold.Fold) (carried : List ℕ) (first blocks : ℕ) (start next : List Expr) (low high : Expr) (predict : List Predict) (body : Vec Stmt Global) → f.value ≡ built →
    fold_head built ≡ record { carried = carried; start = arguments start; block = blocks; low = expression low; high = expression high; predict = map predictor predict; next = arguments next; next_line = head.next_line } → (out-Fold built).body ≡ body →
    first ≡ length old.slots → carried ≡ row_slots (length old.slots) head.carried → blocks ≡ block_slot (length old.slots) head → inside ≡ record { locals = old.locals; slots = old.slots ++ (head.carried ++ head.block ∷ []) } →
    arguments start ≡ resolved_arguments g old.locals head.start → expression low ≡ resolved_expression g old.locals head.low → expression high ≡ resolved_expression g old.locals head.high → map predictor predict ≡ resolved_predictors g (fixed head.block (block_slot (length old.slots) head) ∷ old.locals) head.predict →
    block body.items ≡ resolved_block g (fixed head.block blocks ∷ with_each true inside.locals first head.carried) (length inside.slots) rb → arguments next ≡ resolved_arguments g (locals_at_end (fixed head.block blocks ∷ with_each true inside.locals first head.carried) (length inside.slots) rb) head.next →
    statement (s.Fold f) ≡ resolved_statement g old.locals (length old.slots) (r.Fold head rb)
fold_form g old inside head rb f built carried first blocks start next low high predict body is hd bd u c b i p q h k m n =
    let two : length (old.slots ++ (head.carried ++ head.block ∷ [])) ≡ body_slot (length old.slots) head = omega (arith, length-append old.slots (head.carried ++ head.block ∷ []), length-append head.carried (head.block ∷ [])) in
    let final : (cs : List ℕ) (u0 b0 : ℕ) (ls : List Local) (k0 : ℕ) → x.Statement = λ cs u0 b0 ls k0. x.Fold (record { carried = cs; start = resolved_arguments g old.locals head.start; block = b0; low = resolved_expression g old.locals head.low; high = resolved_expression g old.locals head.high; predict = resolved_predictors g (fixed head.block (block_slot (length old.slots) head) ∷ old.locals) head.predict; next = resolved_arguments g (locals_at_end (fixed head.block b0 ∷ with_each true ls u0 head.carried) k0 rb) head.next; next_line = head.next_line }) (resolved_block g (fixed head.block b0 ∷ with_each true ls u0 head.carried) k0 rb) in
    statement-fold f
    ∙ ap (λ z. x.Fold (fold_head z) (block (out-Fold z).body.items)) is
    ∙ (λ j. x.Fold (hd j) (block (bd j).items))
    ∙ (λ j. x.Fold (record { carried = carried; start = p j; block = blocks; low = q j; high = h j; predict = k j; next = n j; next_line = head.next_line }) (m j))
    ∙ (λ j. final (c j) (u j) (b j) (ap (λ (z : Seen). z.locals) i j) (ap (λ (z : Seen). length z.slots) i j))
    ∙ (λ j. final (row_slots (length old.slots) head.carried) (length old.slots) (block_slot (length old.slots) head) old.locals (two j))

pub pair_form : (g : Globals) (old declared produced : Seen) (head : r.RawPairHead) (rp rc : r.RawBlock) (f : Box built_pair.Pair Global) (built : built_pair.Pair) (carried : List ℕ) (first : ℕ) (give : List Expr) (predict : List Predict) (producer consumer : Vec Stmt Global) → f.value ≡ built →
    pair_head built ≡ record { carried = carried; give = arguments give; give_line = head.give_line; predict = map predictor predict } → (out-Pair built).producer ≡ producer → (out-Pair built).consumer ≡ consumer →
    first ≡ length old.slots → carried ≡ row_slots first head.carried → declared ≡ record { locals = old.locals; slots = old.slots ++ head.carried } → produced ≡ record { locals = declared.locals; slots = declared.slots ++ names_in rp } →
    block producer.items ≡ resolved_block g declared.locals (length declared.slots) rp → arguments give ≡ resolved_arguments g (locals_at_end declared.locals (length declared.slots) rp) head.give → map predictor predict ≡ resolved_predictors g produced.locals head.predict →
    block consumer.items ≡ resolved_block g (with_each true produced.locals first head.carried) (length produced.slots) rc →
    statement (s.Pair f) ≡ resolved_statement g old.locals (length old.slots) (r.Pair head rp rc)
pair_form g old declared produced head rp rc f built carried first give predict producer consumer is hd bp bc u c d p q k m h =
    let one : length (old.slots ++ head.carried) ≡ length old.slots + length head.carried = length-append old.slots head.carried in
    let final : (cs : List ℕ) (u0 k0 k1 : ℕ) (ls ms : List Local) → x.Statement = λ cs u0 k0 k1 ls ms. x.Pair (record { carried = cs; give = resolved_arguments g (locals_at_end ls k0 rp) head.give; give_line = head.give_line; predict = resolved_predictors g ms head.predict }) (resolved_block g ls k0 rp) (resolved_block g (with_each true ms u0 head.carried) k1 rc) in
    let dl = ap (λ (z : Seen). z.locals) d in
    let ds = ap (λ (z : Seen). length z.slots) d ∙ one in
    let pl = ap (λ (z : Seen). z.locals) p ∙ dl in
    let ps = ap (λ (z : Seen). length z.slots) p ∙ length-append declared.slots (names_in rp) ∙ ap (λ z. z + slots_in rp) ds in
    statement-pair f
    ∙ ap (λ z. x.Pair (pair_head z) (block (out-Pair z).producer.items) (block (out-Pair z).consumer.items)) is
    ∙ (λ j. x.Pair (hd j) (block (bp j).items) (block (bc j).items))
    ∙ (λ j. x.Pair (record { carried = c j; give = k j; give_line = head.give_line; predict = m j }) (q j) (h j))
    ∙ (λ j. final (row_slots (u j) head.carried) (u j) (ds j) (ps j) (dl j) (pl j))
