-- Text that was added for a form that holds a vector.
use Rattle.std.proofs.Common.{length, map, ◌≡◌, ◌++◌, ◌∷◌, [], codes, ℕ, suc, List, refl, sym, ap, ◌∙◌, append_assoc, ◌<◌, ◌≤◌, false, arith}
use Rattle.std.specs.Prelude.{nat_lt}
use Rattle.std.proofs.lemmas.Bool.{lt-ltb}
use Rattle.std.proofs.lemmas.Bool.Decides.{nat_tests}
use Rattle.std.specs.declared.vec.Vec.{Vec}
use Rattle.std.specs.declared.alloc.Global.{Global}
use Rattle.spf_ast.specs.declared.syntax.Expr.{Expr}
use Rattle.spf_ast.specs.declared.syntax.Expr.TheVariants as e
use Rattle.spf_ast.specs.declared.syntax.StmtKind.{StmtKind}
use Rattle.spf_ast.specs.declared.syntax.Array as code_array
use Rattle.spf_ast.specs.declared.syntax.Function as code_function
use Rattle.spf_ast.specs.Syntax.{Call, Statement, Array, Function}
use Rattle.spf_ast.specs.declared.syntax.Stmt.{Stmt}
use Rattle.spf_ast.specs.View.{name, expression, arguments, statement, block, array, function}
use Rattle.spf_ast.specs.Spelling.{Vocabulary, name_at, spelled_expression, spelled_arguments, spelled_statement, spelled_block, raw_count}
use Rattle.spf_print_forms.specs.Canonical.{joined, enclosed, line, deeper, expression_text, arguments_text, statement_text, block_text, otherwise_text}
use Rattle.spf_ast.proofs.Views.{expression-call}

-- a call: its name, and then its arguments
pub call_text : (v : Vocabulary) (f : ℕ) (given : Vec Expr Global) (form : Expr) (passed : List Expr) (before named : List ℕ) → form ≡ e.Call f given → passed ≡ given.items → named ≡ before ++ name_at v.functions f → named ++ joined (codes "(" ∷ arguments_text (spelled_arguments v (arguments passed)) ∷ codes ")" ∷ []) ≡ before ++ expression_text (spelled_expression v (expression form))
call_text v f given form passed before named is p n =
    let plain : (before ++ name_at v.functions f) ++ joined (codes "(" ∷ arguments_text (spelled_arguments v (arguments given.items)) ∷ codes ")" ∷ []) ≡ before ++ expression_text (spelled_expression v (Call f (arguments given.items))) = append_assoc before (name_at v.functions f) _ in
    rw (is, p, n) (plain ∙ ap (λ x. before ++ expression_text (spelled_expression v x)) (sym (expression-call f given)))

-- a piece that was added, and then more
pub and_then : (before piece now more : List ℕ) → now ≡ before ++ piece → now ++ more ≡ before ++ (piece ++ more)
and_then before piece now more e = rw e (append_assoc before piece more)

-- two pieces that were added
pub both : (before piece now more after : List ℕ) → now ≡ before ++ piece → after ≡ now ++ more → after ≡ before ++ (piece ++ more)
both before piece now more after e f = f ∙ and_then before piece now more e

-- an operand that is in parentheses, since its level is below the least, and one that is not
pub in_parentheses : (found level least : ℕ) (text : List ℕ) → found ≡ level → found < least → enclosed (nat_lt level least) text ≡ joined (codes "(" ∷ text ∷ codes ")" ∷ [])
in_parentheses found level least text is low = rw (sym is, lt-ltb found least low) refl

pub with_no_parentheses : (found level least : ℕ) (text : List ℕ) → found ≡ level → least ≤ found → enclosed (nat_lt level least) text ≡ text
with_no_parentheses found level least text is high = let no : nat_lt found least ≡ false = grind (arith, nat_tests, high) in rw (sym is, no) refl

-- a row of several parts, and one of at most one
pub in_several : {A : Type 0} (parts : List A) (text : List ℕ) → 1 < length parts → enclosed (nat_lt 1 (length parts)) text ≡ joined (codes "(" ∷ text ∷ codes ")" ∷ [])
in_several parts text many = in_parentheses 1 1 (length parts) text refl many

pub in_one : {A : Type 0} (parts : List A) (text : List ℕ) → length parts ≤ 1 → enclosed (nat_lt 1 (length parts)) text ≡ text
in_one parts text few = with_no_parentheses 1 1 (length parts) text refl few

-- how many arguments are written
pub written_count : (v : Vocabulary) (given : List Expr) → raw_count (spelled_arguments v (arguments given)) ≡ length given
written_count v [] = refl
written_count v (e ∷ rest) = ap suc (written_count v rest)

-- a block that has a statement is written after `else`
pub otherwise_is : (v : Vocabulary) (indent : List ℕ) (statements : List Stmt) → (length statements ≡ 0 → ⊥) → line indent (codes "} else {" ∷ []) ++ block_text (deeper indent) (spelled_block v (block statements)) ++ line indent (codes "}" ∷ []) ≡ otherwise_text indent (spelled_block v (block statements))
otherwise_is v indent [] some = absurd (some refl)
otherwise_is v indent (first ∷ rest) some =
    ap (λ t. t ++ line indent (codes "}" ∷ [])) (sym (append_assoc (line indent (codes "} else {" ∷ [])) (statement_text (deeper indent) (spelled_statement v (statement first.kind))) (block_text (deeper indent) (spelled_block v (block rest)))))

-- a statement that is seen as this form
pub statement_is : (v : Vocabulary) (indent before now : List ℕ) (kind made : StmtKind) (form : Statement) → kind ≡ made → statement made ≡ form → now ≡ before ++ statement_text indent (spelled_statement v form) → now ≡ before ++ statement_text indent (spelled_statement v (statement kind))
statement_is v indent before now kind made form k m e =
    e ∙ ap (λ s. before ++ statement_text indent (spelled_statement v s)) (sym m) ∙ ap (λ s. before ++ statement_text indent (spelled_statement v (statement s))) (sym k)

-- the names of a program's arrays and functions, from the code's
pub array_names : (arrays : List code_array.Array) → map (λ (a : code_array.Array). name a.name) arrays ≡ map (λ (a : Array). a.name) (map array arrays)
array_names [] = refl
array_names (a ∷ rest) = ap (λ l. name a.name ∷ l) (array_names rest)

pub function_names : (functions : List code_function.Function) → map (λ (f : code_function.Function). name f.name) functions ≡ map (λ (f : Function). f.name) (map function functions)
function_names [] = refl
function_names (f ∷ rest) = ap (λ l. name f.name ∷ l) (function_names rest)
