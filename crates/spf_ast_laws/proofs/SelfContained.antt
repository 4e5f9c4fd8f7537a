-- A construct that keeps the rules on assignments and `emit` has blocks that can be run on their own.
use Rattle.std.proofs.Common.{◌≡◌, ◌<◌, ◌≤◌, ◌+◌, ℕ, List, [], ◌∷◌, length, Bool, true, false, refl, ap, ◌∙◌, arith}
use Rattle.std.specs.Prelude.{◌==◌, not}
use Rattle.std.proofs.lemmas.Bool.Decides.{Decides-eqb, nat_tests}
use Rattle.spf_ast.specs.declared.syntax.Part.{Part}
use Rattle.spf_ast.specs.declared.syntax.Part.TheVariants.{Body, Producer, Consumer, Predictor}
use Rattle.spf_ast.specs.Syntax.{Statement, Let, Assign, Store, Fill, Emit, Fail, If, For, While, Do, Fold, Pair, Break, Block, end, on_line}
use Rattle.spf_ast.specs.Construct.{Construct, fold, pair, statements_of}
use Rattle.spf_ast.specs.Lawful.{Names, Scope, behind, showing, showing_fixed, showing_each, DeclaresEach, in_turn, in_body, in_producer, in_consumer, IsLawfulStatement, IsLawfulBlock, declared_in, scope_after}
use Rattle.spf_ast.specs.Silence.{PartIsSilent}
use Rattle.spf_ast.specs.Slots.{assigns, statement_assigns, declares, statement_declares, assigns_outer, part_declares, is_among}
use Rattle.spf_ast_laws.specs.Keeping.{BlockSpares, IsSelfContained, AreDeclared, ConstructsAreSelfContained, PartsAssignWhatTheyDeclare}
use Rattle.spf_ast_lemmas.proofs.Bools.{neither, either_fails}
use Rattle.spf_ast_laws.proofs.Chains.{is-statement}

-- ---- a lawful form declares no slot that was declared before it

differs : (x slot next : ℕ) → slot ≡ next → x < next → (x == slot) ≡ false
differs x slot next e h = grind (arith, nat_tests)

-- the next declarations are none of those before
among-new : (names : Names) (scope : Scope) (slots : List ℕ) → DeclaresEach names scope slots → (x : ℕ) → x < scope.next → is_among x slots ≡ false
among-new names scope [] d x h = refl
among-new names scope (slot ∷ slots) d x h =
    either_fails (x == slot) (is_among x slots) (differs x slot scope.next d.0.0 h) (among-new names (behind 1 (showing slot scope)) slots d.1 x (omega (arith, h)))

-- there are no fewer after them
each-grows : (slots : List ℕ) (scope : Scope) → scope.next ≤ (showing_each slots scope).next
each-grows [] scope = omega arith
each-grows (slot ∷ slots) scope = let more = each-grows slots (behind 1 (showing slot scope)) in omega (arith, more)

mutual
  pub statement-new : (names : Names) (in_main : Bool) (scope : Scope) (s : Statement) → IsLawfulStatement names in_main scope s → (x n : ℕ) → x < n → n ≡ scope.next → statement_declares x s ≡ false
  statement-new names in_main scope (Let slot value) l x n h e = differs x slot scope.next l.1.0 (omega (arith, h, e))
  statement-new names in_main scope (Assign slot value) l x n h e = refl
  statement-new names in_main scope (Store array index value) l x n h e = refl
  statement-new names in_main scope (Fill array low high value) l x n h e = refl
  statement-new names in_main scope (Emit value) l x n h e = refl
  statement-new names in_main scope (Fail number) l x n h e = refl
  statement-new names in_main scope (If test first second) l x n h e =
      either_fails (declares x first) (declares x second)
      (block-new names in_main scope first l.1 x n h e)
      (block-new names in_main (behind (declared_in first) scope) second l.2 x (n + declared_in first) (omega (arith, h)) (ap (λ k. k + declared_in first) e))
  statement-new names in_main scope (For slot low high body) l x n h e =
      either_fails (x == slot) (declares x body) (differs x slot scope.next l.2.0 (omega (arith, h, e)))
      (block-new names in_main (in_turn (behind 1 (showing_fixed slot scope))) body l.3 x (n + 1) (omega (arith, h)) (ap (λ k. k + 1) e))
  statement-new names in_main scope (While test most body) l x n h e = block-new names in_main (in_turn scope) body l.2 x n h e
  statement-new names in_main scope (Do f given) l x n h e = refl
  statement-new names in_main scope (Fold head body) l x n h e =
      either_fails (is_among x head.carried) _ (among-new names scope head.carried l.3 x (omega (arith, h, e)))
      (either_fails (x == head.block) (declares x body) (differs x head.block (showing_each head.carried scope).next l.4.0 (let more = each-grows head.carried scope in omega (arith, h, e, more)))
      (block-new names in_main (in_body scope head.carried head.block) body l.6 x (n + (length head.carried + 1)) (omega (arith, h)) (ap (λ k. k + (length head.carried + 1)) e)))
  statement-new names in_main scope (Pair head producer consumer) l x n h e =
      either_fails (is_among x head.carried) _ (among-new names scope head.carried l.0 x (omega (arith, h, e)))
      (either_fails (declares x producer) (declares x consumer)
      (block-new names in_main (in_producer scope head.carried) producer l.1 x (n + length head.carried) (omega (arith, h)) (ap (λ k. k + length head.carried) e))
      (block-new names in_main (in_consumer scope head.carried producer) consumer l.4 x (n + (length head.carried + declared_in producer)) (omega (arith, h)) (ap (λ k. k + (length head.carried + declared_in producer)) e)))
  statement-new names in_main scope Break l x n h e = refl

  block-new : (names : Names) (in_main : Bool) (scope : Scope) (b : Block) → IsLawfulBlock names in_main scope b → (x n : ℕ) → x < n → n ≡ scope.next → declares x b ≡ false
  block-new names in_main scope end l x n h e = refl
  block-new names in_main scope (on_line line first rest) l x n h e =
      either_fails (statement_declares x first) (declares x rest) (statement-new names in_main scope first l.0 x n h e)
      (block-new names in_main (scope_after scope first) rest l.1 x ((scope_after scope first).next) (omega (arith, h, e)) refl)

-- ---- what assigns nothing that passes a test assigns nothing that passes a narrower one

narrower : (x y : Bool) → (x ≡ true → y ≡ true) → y ≡ false → x ≡ false
narrower true y i e = let t = i refl in cc
narrower false y i e = refl

mutual
  statement-fewer : (one other : ℕ → Bool) → ((k : ℕ) → one k ≡ true → other k ≡ true) → (s : Statement) → statement_assigns other s ≡ false → statement_assigns one s ≡ false
  statement-fewer one other i (Let slot value) e = refl
  statement-fewer one other i (Assign slot value) e = narrower (one slot) (other slot) (i slot) e
  statement-fewer one other i (Store array index value) e = refl
  statement-fewer one other i (Fill array low high value) e = refl
  statement-fewer one other i (Emit value) e = refl
  statement-fewer one other i (Fail number) e = refl
  statement-fewer one other i (If test first second) e =
      let n = neither (assigns other first) _ e in
      either_fails (assigns one first) (assigns one second) (block-fewer one other i first n.0) (block-fewer one other i second n.1)
  statement-fewer one other i (For slot low high body) e = block-fewer one other i body e
  statement-fewer one other i (While test most body) e = block-fewer one other i body e
  statement-fewer one other i (Do f given) e = refl
  statement-fewer one other i Break e = refl
  statement-fewer one other i (Fold head body) e = block-fewer one other i body e
  statement-fewer one other i (Pair head producer consumer) e =
      let n = neither (assigns other producer) _ e in
      either_fails (assigns one producer) (assigns one consumer) (block-fewer one other i producer n.0) (block-fewer one other i consumer n.1)

  block-fewer : (one other : ℕ → Bool) → ((k : ℕ) → one k ≡ true → other k ≡ true) → (b : Block) → assigns other b ≡ false → assigns one b ≡ false
  block-fewer one other i end e = refl
  block-fewer one other i (on_line line first rest) e =
      let n = neither (statement_assigns other first) _ e in
      either_fails (statement_assigns one first) (assigns one rest) (statement-fewer one other i first n.0) (block-fewer one other i rest n.1)

-- a block that assigns no outer slot spares each slot that it doesn't declare
spares-undeclared : (b : Block) → assigns_outer b ≡ false → (slot : ℕ) → declares slot b ≡ false → assigns (λ other. other == slot) b ≡ false
spares-undeclared b e slot undeclared = block-fewer (λ other. other == slot) (λ other. not (declares other b)) outside b e
  where
    outside : (k : ℕ) → (k == slot) ≡ true → not (declares k b) ≡ true
    outside k same = ap (λ x. not (declares x b)) ((Decides-eqb k slot).0 same) ∙ ap not undeclared

-- so it spares those that were declared before it
spares : (names : Names) (in_main : Bool) (outer scope : Scope) (b : Block) → IsLawfulBlock names in_main scope b → AreDeclared outer → ((x : ℕ) → x < outer.next → x < scope.next) → assigns_outer b ≡ false → BlockSpares outer.visible b
spares names in_main outer scope b l d more e slot c = spares-undeclared b e slot (block-new names in_main scope b l slot scope.next (more slot (d slot c)) refl)

-- what a part doesn't declare isn't declared in its statements
undeclared : (construct : Construct) (part : Part) (slot : ℕ) → part_declares construct part slot ≡ false → declares slot (statements_of construct part) ≡ false
undeclared (fold line head body) Body slot d = (neither (slot == head.block) _ (neither (is_among slot head.carried) _ d).1).1
undeclared (fold line head body) Producer slot d = refl
undeclared (fold line head body) Consumer slot d = refl
undeclared (fold line head body) Predictor slot d = refl
undeclared (pair line head producer consumer) Body slot d = refl
undeclared (pair line head producer consumer) Producer slot d = d
undeclared (pair line head producer consumer) Consumer slot d = (neither (is_among slot head.carried) _ d).1
undeclared (pair line head producer consumer) Predictor slot d = refl

pub own-assigned : PartsAssignWhatTheyDeclare
own-assigned construct part outer slot d = spares-undeclared (statements_of construct part) outer slot (undeclared construct part slot d)

pub self-contained : ConstructsAreSelfContained
self-contained names scope line s c is l d outer silent =
    is-statement line s c
    (λ t k. IsLawfulStatement names true scope t → ((part : Part) → assigns_outer (statements_of k part) ≡ false) → ((part : Part) → PartIsSilent k part) → IsSelfContained scope.visible k)
    (λ head body l outer silent. (spares names true scope (in_body scope head.carried head.block) body l.6 d (λ x h. omega (arith, h)) (outer Body), silent Body))
    (λ head producer consumer l outer silent. (
      (spares names true scope (in_producer scope head.carried) producer l.1 d (λ x h. omega (arith, h)) (outer Producer), silent Producer),
      (spares names true scope (in_consumer scope head.carried producer) consumer l.4 d (λ x h. omega (arith, h)) (outer Consumer), silent Consumer),
    ))
    is l outer silent
