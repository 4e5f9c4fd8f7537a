-- Walks over arguments and statements, as far as they came: what is found in those that are left gives what is found in all.
use Rattle.std.proofs.Common.{◌≡◌, ℕ, ◌+◌, ◌<◌, ◌≤◌, List, [], ◌∷◌, ◌++◌, length, get_or, drop, append_assoc, append-nil, sym, ap, subst, ◌∙◌}
use Rattle.std.proofs.lemmas.List.{drop_all}
use Rattle.spf_region.specs.declared.bound.Bound.{Bound}
use Rattle.spf_ast.specs.declared.syntax.Expr.{Expr}
use Rattle.spf_ast.specs.declared.syntax.Stmt.{Stmt}
use Rattle.spf_ast.specs.View.{expression, arguments, statement, block}
use Rattle.spf_effects_findings.specs.Extends.{Extends, Lists}
use Rattle.spf_effects_findings.specs.Forms.{Setting, expression_bound, expression_finds, argument_bounds, arguments_find, statement_finds, block_finds, bounds_behind, bounds_at_end}
use Rattle.spf_effects_findings.proofs.Then.{extends_nothing, extends_then}
use Rattle.spf_effects_walk.proofs.Walks.{item_at}

-- of these arguments, those from an index on are left; the bounds of the others are known
pub record ArgumentsLead (g : Setting) (slots : List Bound) (all : List Expr) (old : Lists) (i : ℕ) (known : List Bound) (now : Lists) : Type 0 where
  pub bounds : known ++ argument_bounds g slots (arguments (drop i all)) ≡ argument_bounds g slots (arguments all)
  pub finds : (new : Lists) → Extends (arguments_find g slots (arguments (drop i all))) now new → Extends (arguments_find g slots (arguments all)) old new

pub arguments_next : (g : Setting) (slots : List Bound) (all : List Expr) (old : Lists) (i : ℕ) (known : List Bound) (now new : Lists) (x : Expr) (b : Bound) (more : List Bound) → i < length all → x ≡ get_or all i x → b ≡ expression_bound g slots (expression x) → more ≡ known ++ b ∷ [] → Extends (expression_finds g slots (expression x)) now new → ArgumentsLead g slots all old i known now → ArgumentsLead g slots all old (i + 1) more new
arguments_next g slots all old i known now new x b more h is e k f lead =
    let rest = item_at all i x h is in
    record {
      bounds =
          ap (λ z. z ++ argument_bounds g slots (arguments (drop (i + 1) all))) k
          ∙ append_assoc known (b ∷ []) (argument_bounds g slots (arguments (drop (i + 1) all)))
          ∙ ap (λ z. known ++ z ∷ argument_bounds g slots (arguments (drop (i + 1) all))) e
          ∙ ap (λ l. known ++ argument_bounds g slots (arguments l)) (sym rest)
          ∙ lead.bounds;
      finds = λ last n. lead.finds last (subst (λ l. Extends (arguments_find g slots (arguments l)) now last) (sym rest) (extends_then (expression_finds g slots (expression x)) (arguments_find g slots (arguments (drop (i + 1) all))) now new last f n));
    }

pub arguments_end_bounds : (g : Setting) (slots : List Bound) (all : List Expr) (old : Lists) (i : ℕ) (known : List Bound) (now : Lists) → length all ≤ i → ArgumentsLead g slots all old i known now → known ≡ argument_bounds g slots (arguments all)
arguments_end_bounds g slots all old i known now h lead =
    sym (append-nil known) ∙ ap (λ l. known ++ argument_bounds g slots (arguments l)) (sym (drop_all i all h)) ∙ lead.bounds

pub arguments_end_finds : (g : Setting) (slots : List Bound) (all : List Expr) (old : Lists) (i : ℕ) (known : List Bound) (now : Lists) → length all ≤ i → ArgumentsLead g slots all old i known now → Extends (arguments_find g slots (arguments all)) old now
arguments_end_finds g slots all old i known now h lead =
    lead.finds now (subst (λ l. Extends (arguments_find g slots (arguments l)) now now) (sym (drop_all i all h)) (extends_nothing now))

-- of these statements, those from an index on are left, and the slots have these bounds there
pub record StatementsLead (g : Setting) (slots : List Bound) (all : List Stmt) (old : Lists) (i : ℕ) (known : List Bound) (now : Lists) : Type 0 where
  pub bounds : bounds_at_end g known (block (drop i all)) ≡ bounds_at_end g slots (block all)
  pub finds : (new : Lists) → Extends (block_finds g known (block (drop i all))) now new → Extends (block_finds g slots (block all)) old new

pub statements_next : (g : Setting) (slots : List Bound) (all : List Stmt) (old : Lists) (i : ℕ) (known : List Bound) (now new : Lists) (x : Stmt) (more : List Bound) → i < length all → x ≡ get_or all i x → more ≡ bounds_behind g known (statement x.kind) → Extends (statement_finds g known (statement x.kind)) now new → StatementsLead g slots all old i known now → StatementsLead g slots all old (i + 1) more new
statements_next g slots all old i known now new x more h is e f lead =
    let rest = item_at all i x h is in
    record {
      bounds =
          ap (λ z. bounds_at_end g z (block (drop (i + 1) all))) e
          ∙ ap (λ l. bounds_at_end g known (block l)) (sym rest)
          ∙ lead.bounds;
      finds = λ last n. lead.finds last (subst (λ l. Extends (block_finds g known (block l)) now last) (sym rest) (extends_then (statement_finds g known (statement x.kind)) (block_finds g (bounds_behind g known (statement x.kind)) (block (drop (i + 1) all))) now new last f (subst (λ z. Extends (block_finds g z (block (drop (i + 1) all))) new last) e n)));
    }

pub statements_end_bounds : (g : Setting) (slots : List Bound) (all : List Stmt) (old : Lists) (i : ℕ) (known : List Bound) (now : Lists) → length all ≤ i → StatementsLead g slots all old i known now → known ≡ bounds_at_end g slots (block all)
statements_end_bounds g slots all old i known now h lead =
    ap (λ l. bounds_at_end g known (block l)) (sym (drop_all i all h)) ∙ lead.bounds

pub statements_end_finds : (g : Setting) (slots : List Bound) (all : List Stmt) (old : Lists) (i : ℕ) (known : List Bound) (now : Lists) → length all ≤ i → StatementsLead g slots all old i known now → Extends (block_finds g slots (block all)) old now
statements_end_finds g slots all old i known now h lead =
    lead.finds now (subst (λ l. Extends (block_finds g known (block l)) now now) (sym (drop_all i all h)) (extends_nothing now))
