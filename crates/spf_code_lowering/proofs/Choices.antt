-- Choices by conditions.
use Rattle.std.proofs.Common.{◌≡◌, ℕ, ◌+◌, ◌≤◌, Bool, true, false, List, [], ◌∷◌, ◌++◌, length, refl, sym, ap, ◌∙◌, subst, arith, append_assoc, ℤ}
use Rattle.std.specs.Prelude.{not, if◌then◌else◌}
use Rattle.spf_ast.specs.Interaction.{bind, State, Flow, Ending, Value, Trapped, Meaning, after_ending, ◌>>=◌}
use Rattle.spf_ast.specs.Meaning.{Environment, gives, compares, condition_means, block_means}
use Rattle.spf_ast.specs.Syntax.{Expression, Number, Condition, Compare, Not, If, Block}
use Rattle.spf_ast.specs.declared.syntax.Test.{Test}
use Rattle.spf_ast_laws.proofs.Alike.{AskAlike}
use Rattle.spf_code.proofs.Trees.{bind-same, then-assoc}
use Rattle.spf_code.specs.declared.node.Choice.TheVariants as ch
use Rattle.spf_code.specs.declared.node.Node as n
use Rattle.spf_code.specs.Code.{Code, only, ◌then◌, Setting, code_means, Choose, ChooseWith}
use Rattle.spf_code.specs.Fits.{CodeFits}
use Rattle.spf_code.specs.NodeView.{Split, way_of}
use Rattle.spf_code_registers.specs.Registers.{condition_needs}
use Rattle.spf_code_lowering.specs.declared.expression.Scope as code_scope
use Rattle.spf_code_lowering.specs.Computes.{EndsShowing, Runs}
use Rattle.spf_code_lowering.specs.Decision.{Decision, By, Next, decided, Leads, IsDecision, AreTests, with_value, two_conditions, two_blocks, until_other}
use Rattle.spf_code_lowering.specs.Lowering.{Callees, callees_in, IsHeldIn, Wrote, RunIn, BlockIn}
use Rattle.spf_code_lowering.proofs.Decisions.{by-leads, next-leads, flat-decided}
use Rattle.spf_code_lowering.proofs.Fitting.{fit-last, fit-two}
use Rattle.spf_code_lowering.proofs.Lowering.{then-then}
use Rattle.spf_code_lowering.proofs.Same.{flat-of}
use Rattle.spf_code_lowering.proofs.Statements as law
use Rattle.spf_code_lowering.proofs.Wanted.{then_known, differ, two_mean, negated_means, compared_means, with_value-needs}

-- ---- where they are performed

-- code that does what a form does also does what another form does that is the same from each state
runs-same : (c : Setting) (own room : ℕ) (code : Code) (first second : Meaning Flow) → ((s : State) → first s ≡ second s) → Runs c own room code first → Runs c own room code second
runs-same c own room code first second same p = record {
  ends = λ registers s h room_is. subst (λ t. AskAlike (EndsShowing own (length registers.slots)) (code_means c code registers) t) (same s) (p.ends registers s h room_is);
}

-- a choice where one condition holds, by another one
next-is : (one other : Meaning Bool) (known : Bool) (first second : Meaning Flow) (s : State)
    → (one >>= λ x. if x then (other >>= λ y. if y then first else second) else (if known then first else second)) s
    ≡ (then_known one other known >>= λ y. if y then first else second) s
next-is one other known first second s =
    bind-same (one s) _ _ go ∙ sym (then-assoc one (λ x. if x then other else gives known) (λ y. if y then first else second) s)
  where
    go : (e : Ending Bool) → after_ending (λ x. if x then (other >>= λ y. if y then first else second) else (if known then first else second)) e
        ≡ after_ending (λ x. (if x then other else gives known) >>= λ y. if y then first else second) e
    go (Value true t) = refl
    go (Value false t) = refl
    go (Trapped trap output) = refl

-- ---- decisions

-- the decision of a condition with the same meaning
same_decision : (callees : Callees) (calls : ℕ → ℕ) (line own : ℕ) (a b : Condition) (d : Decision) → condition_needs calls a ≤ condition_needs calls b
    → ((g : Environment) (s : State) → condition_means g line a s ≡ condition_means g line b s) → IsDecision callees calls line own a d → IsDecision callees calls line own b d
same_decision callees calls line own a b d needs same p = record {
  asks = λ c g room fits room_is held missed first second x y.
      let k : Bool → Meaning Flow = λ holds. if holds then first else second in
      runs-same c own room (decided d held missed) (condition_means g line a >>= k) (condition_means g line b >>= k) (λ s. ap (λ t. bind t (after_ending k)) (same g s))
      (p.asks c g room fits (omega (arith, room_is, needs)) held missed first second x y);
  fits = λ inner room enough room_is. p.fits inner room enough (omega (arith, room_is, needs));
}

-- a decision that is asked for only where another one holds
next_decision : (callees : Callees) (calls : ℕ → ℕ) (line own : ℕ) (a b both : Condition) (known : Bool) (d e : Decision) → condition_needs calls a ≤ condition_needs calls both → condition_needs calls b ≤ condition_needs calls both
    → ((g : Environment) (s : State) → condition_means g line both s ≡ then_known (condition_means g line a) (condition_means g line b) known s)
    → IsDecision callees calls line own a d → IsDecision callees calls line own b e → IsDecision callees calls line own both (Next d known e)
next_decision callees calls line own a b both known d e first_needs second_needs same p q = record {
  asks = λ c g room fits room_is held missed first second x y.
      let k : Bool → Meaning Flow = λ holds. if holds then first else second in
      runs-same c own room (decided (Next d known e) held missed) (condition_means g line a >>= λ z. if z then (condition_means g line b >>= k) else (if known then first else second)) (condition_means g line both >>= k)
      (λ s. next-is (condition_means g line a) (condition_means g line b) known first second s ∙ ap (λ t. bind t (after_ending k)) (sym (same g s)))
      (p.asks c g room fits (omega (arith, room_is, first_needs)) (decided e held missed) (if known then held else missed) (condition_means g line b >>= k) (if known then first else second)
      (q.asks c g room fits (omega (arith, room_is, second_needs)) held missed first second x y) (exit_runs c room known held missed first second x y));
  fits = λ inner room enough room_is held missed x y.
      p.fits inner room enough (omega (arith, room_is, first_needs)) (decided e held missed) (if known then held else missed)
      (q.fits inner room enough (omega (arith, room_is, second_needs)) held missed x y) (exit_fits inner room known held missed x y);
}
  where
    exit_runs : (c : Setting) (room : ℕ) (known : Bool) (held missed : Code) (first second : Meaning Flow) → Runs c own room held first → Runs c own room missed second → Runs c own room (if known then held else missed) (if known then first else second)
    exit_runs c room true held missed first second x y = x
    exit_runs c room false held missed first second x y = y

    exit_fits : (inner : ℕ → ℕ) (room : ℕ) (known : Bool) (held missed : Code) → CodeFits inner room held → CodeFits inner room missed → CodeFits inner room (if known then held else missed)
    exit_fits inner room true held missed x y = x
    exit_fits inner room false held missed x y = y

pub registers_decide : (callees : Callees) (calls : ℕ → ℕ) (line own between next r q : ℕ) (test : Test) (a b : Expression) (first second : Code) → between ≤ own + 1
    → IsHeldIn callees calls line own own between r a first → IsHeldIn callees calls line own between next q b second → IsDecision callees calls line own (Compare test a b) (By (first then second) (ch.Registers test r q))
registers_decide callees calls line own between next r q test a b first second k p w = record {
  asks = λ c g room fits room_is held missed yes_form no_form x y.
      subst (λ code. Runs c own room code (condition_means g line (Compare test a b) >>= λ holds. if holds then yes_form else no_form)) (sym (then-then first second (only (Choose test r q held missed))))
      (law.choices c g line own own between next room r q first second held missed test a b yes_form no_form (p.asks c g room fits (omega (arith, room_is))) (w.asks c g room fits (omega (arith, room_is, k))) x y);
  fits = λ inner room enough room_is held missed x y.
      let one = p.fits inner room enough (omega (arith, room_is)) in
      let other = w.fits inner room enough (omega (arith, room_is, k)) in
      subst (CodeFits inner room) (sym (then-then first second (only (Choose test r q held missed))))
      (fit-two inner room first second (Choose test r q held missed) one.1 other.1 (one.0, other.0, x, y));
}

pub number_decides : (callees : Callees) (calls : ℕ → ℕ) (line own next r : ℕ) (test : Test) (a : Expression) (number : ℤ) (first : Code)
    → IsHeldIn callees calls line own own next r a first → IsDecision callees calls line own (Compare test a (Number number)) (By first (ch.Number test r number))
number_decides callees calls line own next r test a number first p = record {
  asks = λ c g room fits room_is held missed yes_form no_form x y.
      law.number_choices c g line own own next room r first held missed test a number yes_form no_form (p.asks c g room fits (omega (arith, room_is))) x y;
  fits = λ inner room enough room_is held missed x y.
      let one = p.fits inner room enough (omega (arith, room_is)) in
      fit-last inner room first (ChooseWith test r number held missed) one.1 (one.0, x, y);
}

-- ---- tests

-- the tests of another condition with the same meaning
same_tests : (callees : Callees) (calls : ℕ → ℕ) (line own : ℕ) (a b : Condition) (skip : ℕ) (before after : List n.Node) → condition_needs calls a ≤ condition_needs calls b
    → ((g : Environment) (s : State) → condition_means g line a s ≡ condition_means g line b s) → AreTests callees calls line own a skip before after → AreTests callees calls line own b skip before after
same_tests callees calls line own a b skip before after needs same p = record {
  nodes = p.nodes;
  appended = p.appended;
  decision = p.decision;
  leads = p.leads;
  decides = same_decision callees calls line own a b p.decision needs same p.decides;
}

pub negated_tests : (callees : Callees) (calls : ℕ → ℕ) (line own : ℕ) (wanted : Bool) (a : Condition) (skip : ℕ) (before after : List n.Node)
    → AreTests callees calls line own (with_value (not wanted) a) skip before after → AreTests callees calls line own (with_value wanted (Not a)) skip before after
negated_tests callees calls line own wanted a skip before after p =
    let x = with_value-needs calls (not wanted) a in
    let y = with_value-needs calls wanted (Not a) in
    same_tests callees calls line own (with_value (not wanted) a) (with_value wanted (Not a)) skip before after (omega (arith, x, y)) (λ g s. sym (negated_means g line wanted a s)) p

-- a comparison, and the node that leaves out others unless it holds
pub comparison_tests : (callees : Callees) (calls : ℕ → ℕ) (line own : ℕ) (wanted : Bool) (test other : Test) (a b : Expression) (choice : _) (skip : ℕ) (before between after : List n.Node) (x : n.Node)
    → ((v w : ℤ) → compares other v w ≡ (if wanted then compares test v w else not (compares test v w)))
    → Wrote before between (λ made. IsDecision callees calls line own (Compare other a b) (By made choice)) → way_of x ≡ Split choice skip → after ≡ between ++ x ∷ []
    → AreTests callees calls line own (with_value wanted (Compare test a b)) skip before after
comparison_tests callees calls line own wanted test other a b choice skip before between after x is w way e =
    let needs = with_value-needs calls wanted (Compare test a b) in
    same_tests callees calls line own (Compare other a b) (with_value wanted (Compare test a b)) skip before after (omega (arith, needs)) (λ g s. sym (compared_means g line wanted test other a b is s)) (record {
      nodes = w.nodes ++ x ∷ [];
      appended = e ∙ ap (λ l. l ++ x ∷ []) w.appended ∙ append_assoc before w.nodes (x ∷ []);
      decision = By w.made choice;
      leads = by-leads w.nodes x w.made choice skip way w.flat;
      decides = w.asked;
    })

-- the tests of one condition, and then those of another one that were put together before
pub both_tests : (callees : Callees) (calls : ℕ → ℕ) (line own : ℕ) (both wanted : Bool) (a b : Condition) (past skip : ℕ) (before between after last : List n.Node)
    → past ≡ length last + (if differ both wanted then 0 else skip)
    → AreTests callees calls line own (with_value wanted b) skip [] last → AreTests callees calls line own (with_value both a) past before between → after ≡ between ++ last
    → AreTests callees calls line own (with_value wanted (two_conditions both a b)) skip before after
both_tests callees calls line own both wanted a b past skip before between after last is second first e = record {
  nodes = first.nodes ++ second.nodes;
  appended = e ∙ (λ i. first.appended i ++ second.appended i) ∙ append_assoc before first.nodes second.nodes;
  decision = Next first.decision (differ both wanted) second.decision;
  leads = next-leads first.nodes second.nodes past skip (differ both wanted) first.decision second.decision (is ∙ ap (λ l. length l + (if differ both wanted then 0 else skip)) second.appended) first.leads second.leads;
  decides = next_decision callees calls line own (with_value both a) (with_value wanted b) (with_value wanted (two_conditions both a b)) (differ both wanted) first.decision second.decision
      (first_needs both wanted) (second_needs both wanted) (λ g s. two_mean g line both wanted a b s) first.decides second.decides;
}
  where
    first_needs : (both wanted : Bool) → condition_needs calls (with_value both a) ≤ condition_needs calls (with_value wanted (two_conditions both a b))
    first_needs true true = omega arith
    first_needs true false = omega arith
    first_needs false true = omega arith
    first_needs false false = omega arith

    second_needs : (both wanted : Bool) → condition_needs calls (with_value wanted b) ≤ condition_needs calls (with_value wanted (two_conditions both a b))
    second_needs true true = omega arith
    second_needs true false = omega arith
    second_needs false true = omega arith
    second_needs false false = omega arith

-- ---- in the code for a scope

decided_run : (s : code_scope.Scope) (calls : ℕ → ℕ) (line : ℕ) (test : Condition) (held missed : Block) (d : Decision) (one other : Code) → IsDecision (callees_in s) calls line s.own test d
    → BlockIn s calls held one → BlockIn s calls missed other → RunIn s calls line (If test held missed) (decided d one other)
decided_run s calls line test held missed d one other p x y = record {
  asks = λ c g room fits room_is orderly.
      p.asks c g room fits (omega (arith, room_is)) one other (block_means g held) (block_means g missed) (x.asks c g room fits (omega (arith, room_is)) orderly.0) (y.asks c g room fits (omega (arith, room_is)) orderly.1);
  fits = λ inner room enough room_is. p.fits inner room enough (omega (arith, room_is)) one other (x.fits inner room enough (omega (arith, room_is))) (y.fits inner room enough (omega (arith, room_is)));
}

-- the tests of a condition, and then two blocks
pub choice_run : (s : code_scope.Scope) (calls : ℕ → ℕ) (line : ℕ) (test : Condition) (held missed : Block) (skip : ℕ) (before between after one other : List n.Node)
    → skip ≡ until_other one other → AreTests (callees_in s) calls line s.own test skip before between
    → Wrote [] one (BlockIn s calls held) → Wrote [] other (BlockIn s calls missed) → after ≡ between ++ two_blocks one other
    → Wrote before after (RunIn s calls line (If test held missed))
choice_run s calls line test held missed skip before between after one other is tests x y e = record {
  nodes = tests.nodes ++ two_blocks one other;
  appended = e ∙ ap (λ l. l ++ two_blocks one other) tests.appended ∙ append_assoc before tests.nodes (two_blocks one other);
  made = decided tests.decision x.made y.made;
  flat = flat-decided tests.nodes one other tests.decision x.made y.made (subst (λ k. Leads tests.nodes k tests.decision) is tests.leads)
      (flat-of one (BlockIn s calls held) x) (flat-of other (BlockIn s calls missed) y);
  asked = decided_run s calls line test held missed tests.decision x.made y.made tests.decides x.asked y.asked;
}
