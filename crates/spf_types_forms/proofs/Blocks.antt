-- Statements one after another.
use Rattle.std.proofs.Common.{◌≡◌, ℕ, Bool, false, ◌+◌, ◌<◌, ◌≤◌, List, [], ◌∷◌, ◌++◌, length, get_or, drop, refl, sym, ap, ◌∙◌, append_assoc, length-append}
use Rattle.std.proofs.lemmas.List.{drop_all}
use Rattle.spf_ast.specs.declared.syntax.Stmt.{Stmt}
use Rattle.spf_ast.specs.declared.raw.RawStmt.{RawStmt}
use Rattle.spf_ast.specs.Syntax.{Block, end, on_line, followed_by}
use Rattle.spf_ast.specs.RawSyntax as r
use Rattle.spf_ast.specs.View.{statement, block}
use Rattle.spf_ast.specs.RawView.{raw_statement, raw_block}
use Rattle.spf_types_names.specs.Locals.{Local, Seen}
use Rattle.spf_types_names.specs.Faults.{Setting, Fault, showing_each, scope_after, scope_at_end, block_faults, statement_faults}
use Rattle.spf_types_names.specs.Resolved.{scope, with_each, names_of, names_in, locals_after, locals_at_end, resolved_statement, resolved_block, after_statement, after_block}
use Rattle.spf_types_names.proofs.Rows.{item_at, append_nil}

-- the scope in which names may be used besides is that of the locals of these names
pub scope_each-is : (fixed : Bool) (ls : List Local) (n : ℕ) (xs : List (List ℕ)) → scope (with_each fixed ls n xs) ≡ showing_each fixed (scope ls) xs
scope_each-is fixed ls n [] = refl
scope_each-is fixed ls n (x ∷ xs) = scope_each-is fixed (record { name = x; slot = n; fixed = fixed } ∷ ls) (n + 1) xs

-- the scope after a statement is that of the locals after it
pub scope_after-is : (ls : List Local) (n : ℕ) (s : r.RawStatement) → scope (locals_after ls n s) ≡ scope_after (scope ls) s
scope_after-is ls n (r.Let x value) = refl
scope_after-is ls n (r.Assign x value) = refl
scope_after-is ls n (r.Store a index value) = refl
scope_after-is ls n (r.Fill a low high value) = refl
scope_after-is ls n (r.Emit value) = refl
scope_after-is ls n (r.Fail number) = refl
scope_after-is ls n (r.If test a b) = refl
scope_after-is ls n (r.For x low high body) = refl
scope_after-is ls n (r.While test most body) = refl
scope_after-is ls n (r.Do f given) = refl
scope_after-is ls n (r.Fold head body) = scope_each-is false ls n head.carried
scope_after-is ls n (r.Pair head producer consumer) = scope_each-is false ls n head.carried
scope_after-is ls n r.Break = refl

-- a block and one more statement
pub block_push : (done : List Stmt) (s : Stmt) (rest : Block) → followed_by (block (done ++ s ∷ [])) rest ≡ followed_by (block done) (on_line s.line (statement s.kind) rest)
block_push [] s rest = refl
block_push (x ∷ done) s rest = ap (on_line x.line (statement x.kind)) (block_push done s rest)

pub followed_by-end : (b : Block) → followed_by b end ≡ b
followed_by-end end = refl
followed_by-end (on_line n s rest) = ap (on_line n s) (followed_by-end rest)

-- the first `count` raw statements are resolved, and there is no fault in them
pub record IsResolved (here : Setting) (start now : Seen) (raw : List RawStmt) (done : List Stmt) (count : ℕ) : Type 0 where
  pub faults : block_faults here (scope start.locals) (raw_block raw) ≡ block_faults here (scope now.locals) (raw_block (drop count raw))
  pub forms : resolved_block here.globals start.locals (length start.slots) (raw_block raw) ≡ followed_by (block done) (resolved_block here.globals now.locals (length now.slots) (raw_block (drop count raw)))
  pub after : after_block start (raw_block raw) ≡ after_block now (raw_block (drop count raw))

-- what the rest of a block is, after one more statement
pub faults_behind : (here : Setting) (now next : Seen) (line : ℕ) (s : r.RawStatement) (rest : r.RawBlock) → next ≡ after_statement now s → block_faults here (scope now.locals) (r.on_line line s rest) ≡ statement_faults here (scope now.locals) line s ++ block_faults here (scope next.locals) rest
faults_behind here now next line s rest e =
    ap (λ sc. statement_faults here (scope now.locals) line s ++ block_faults here sc rest) (sym (ap (λ (k : Seen). scope k.locals) e ∙ scope_after-is now.locals (length now.slots) s))

count_behind : (now next : Seen) (s : r.RawStatement) → next ≡ after_statement now s → length next.slots ≡ length now.slots + length (names_of s)
count_behind now next s e = ap (λ (k : Seen). length k.slots) e ∙ length-append now.slots (names_of s)

pub after_behind : (now next : Seen) (line : ℕ) (s : r.RawStatement) (rest : r.RawBlock) → next ≡ after_statement now s → after_block now (r.on_line line s rest) ≡ after_block next rest
after_behind now next line s rest e =
    let n = count_behind now next s e in
    let ls = ap (λ (k : Seen). k.locals) e in
    let sl = ap (λ (k : Seen). k.slots) e in
    λ i. record {
      locals = locals_at_end (sym ls i) (sym n i) rest;
      slots = (sym (append_assoc now.slots (names_of s) (names_in rest)) ∙ ap (λ (k : List (List ℕ)). k ++ names_in rest) (sym sl)) i;
    }

pub one_statement : (here : Setting) (start now next : Seen) (raw : List RawStmt) (done more : List Stmt) (count : ℕ) (x : RawStmt) (s : Stmt) → count < length raw → x ≡ get_or raw count x →
    IsResolved here start now raw done count → next ≡ after_statement now (raw_statement x.kind) → statement_faults here (scope now.locals) x.line (raw_statement x.kind) ≡ [] → s.line ≡ x.line → statement s.kind ≡ resolved_statement here.globals now.locals (length now.slots) (raw_statement x.kind) → more ≡ done ++ s ∷ [] → IsResolved here start next raw more (count + 1)
one_statement here start now next raw done more count x s h is so e none line form push =
    let split = item_at raw count x h is in
    let rest = raw_block (drop (count + 1) raw) in
    let k = raw_statement x.kind in
    let n = count_behind now next k e in
    let ls = ap (λ (z : Seen). z.locals) e in
    record {
      faults =
          so.faults ∙ ap (λ xs. block_faults here (scope now.locals) (raw_block xs)) split
          ∙ faults_behind here now next x.line k rest e
          ∙ ap (λ (fs : List Fault). fs ++ block_faults here (scope next.locals) rest) none;
      forms =
          so.forms ∙ ap (λ xs. followed_by (block done) (resolved_block here.globals now.locals (length now.slots) (raw_block xs))) split
          ∙ (λ i. followed_by (block done) (on_line (sym line i) (sym form i) (resolved_block here.globals (sym ls i) (sym n i) rest)))
          ∙ sym (block_push done s (resolved_block here.globals next.locals (length next.slots) rest))
          ∙ ap (λ l. followed_by (block l) (resolved_block here.globals next.locals (length next.slots) rest)) (sym push);
      after = so.after ∙ ap (λ xs. after_block now (raw_block xs)) split ∙ after_behind now next x.line k rest e;
    }

pub start_of : (here : Setting) (start : Seen) (raw : List RawStmt) (done : List Stmt) → done ≡ [] → IsResolved here start start raw done 0
start_of here start raw done e = record {
  faults = refl;
  forms = ap (λ l. followed_by (block l) (resolved_block here.globals start.locals (length start.slots) (raw_block raw))) (sym e);
  after = refl;
}

pub all_statements : (here : Setting) (start now : Seen) (raw : List RawStmt) (done : List Stmt) (count : ℕ) → length raw ≤ count → IsResolved here start now raw done count →
    (block_faults here (scope start.locals) (raw_block raw) ≡ []) × (block done ≡ resolved_block here.globals start.locals (length start.slots) (raw_block raw)) × (now ≡ after_block start (raw_block raw))
all_statements here start now raw done count h so =
    let none = drop_all count raw h in (
      so.faults ∙ ap (λ xs. block_faults here (scope now.locals) (raw_block xs)) none,
      sym (so.forms ∙ ap (λ xs. followed_by (block done) (resolved_block here.globals now.locals (length now.slots) (raw_block xs))) none ∙ followed_by-end (block done)),
      sym (so.after ∙ ap (λ xs. after_block now (raw_block xs)) none ∙ (λ i. record { locals = now.locals; slots = append_nil now.slots i })),
    )

-- the scope at the end of a block is that of the locals there
pub scope_at_end-is : (ls : List Local) (n : ℕ) (b : r.RawBlock) → scope (locals_at_end ls n b) ≡ scope_at_end (scope ls) b
scope_at_end-is ls n r.end = refl
scope_at_end-is ls n (r.on_line line s rest) =
    scope_at_end-is (locals_after ls n s) (n + length (names_of s)) rest ∙ ap (λ sc. scope_at_end sc rest) (scope_after-is ls n s)
