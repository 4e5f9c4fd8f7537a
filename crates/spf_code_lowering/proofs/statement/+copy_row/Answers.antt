use Rattle.std.proofs.Common.{◌≡◌, ◌<◌, ◌≤◌, Bool, true, false, ℕ, suc, length, refl, sym, ap, ◌∙◌, subst, arith}
use Rattle.std.specs.Prelude.{◌==◌, nat_lt, if◌then◌else◌}
use Rattle.std.proofs.lemmas.Bool.Decides.{nat_tests}
use Rattle.spf_ast_lemmas.proofs.Bools.{neither}
use Rattle.spf_ast.specs.Slots.{is_among}
use Rattle.spf_code.specs.declared.node.Node.TheVariants as v
use Rattle.spf_code.specs.Code.{Code, Move, stop, only, ◌then◌}
use Rattle.spf_code_lowering.specs.Computes.{copies}
use Rattle.spf_code_lowering.specs.Lowering.{Wrote, SetsNone}
use Rattle.spf_code_lowering.proofs.Lowering.{mapped, nothing, one, more}
use Rattle.spf_code_lowering.proofs.Spared.{fewer, both-spared, one-more, same-spared}
use Rattle.spf_code_lowering.proofs.statement.+copy_row.Goals.{then-slot-scope+in_ok-add-in-Some, else-slot-scope}
use Rattle.spf_code_lowering.proofs.statement.+copy_row.Goals as goal

pub copy_row-requires : goal.copy_row-requires
copy_row-requires t c =
    let m : t ≡ length c.args.slots.now = sym c.decreases in
    let e = ap length c.in-Some.ensures.cases.0 in
    let k : length c.in-Some.others.now < t = omega (arith, m, e) in
    (k, tt)

is-less : (a b : ℕ) → a < b → nat_lt a b ≡ true
is-less a b h = grind (arith, nat_tests)

is-not-less : (a b : ℕ) → b ≤ a → nat_lt a b ≡ false
is-not-less a b h = grind (arith, nat_tests)

pub returns-in_ok-next-in-Some-clause-wrote : goal.returns-in_ok-next-in-Some-clause-wrote
returns-in_ok-next-in-Some-clause-wrote t c =
    let own = c.args.scope.now.own in
    let from = c.args.from in
    let slot = c.in-Some.slot.now in
    let others = c.in-Some.others.now in
    let copied : Bool → Code = λ b. if b then only (Move slot from) else stop in
    let first : Wrote c.args.out.now.items c.if-slot-scope.out.items (λ made. made ≡ copied (nat_lt slot own)) = elim c.if-slot-scope.branch [
      | then-slot-scope+in_ok-add-in-Some w ↦ rw w.out-is (one _ _ (v.Move slot from) _ refl (w.in_ok-add-in-Some.ensures {u = tt}).appended (ap copied (sym (is-less slot own w.if-slot-scope.true))))
      | else-slot-scope w ↦ rw w.out-is (nothing _ _ (ap copied (sym (is-not-less slot own w.if-slot-scope.false))))
    ] in
    let next : suc from ≡ c.in_ok-next-in-Some.next = (let e = c.in_ok-next-in-Some.ensures {u = tt} in omega (arith, e)) in
    mapped c.copy_row.result c.copy_row.ensures.wrote (λ u w. more (λ made. made ≡ copies own c.args.slots.now from) first w
    (λ a b p q. (λ i. p i then q i) ∙ ap (λ n. copied (nat_lt slot own) then copies own others n) (sym next) ∙ ap (λ l. copies own l from) (sym c.in-Some.ensures.cases.0)))

pub returns-in_ok-next-in-Some-clause-spares : goal.returns-in_ok-next-in-Some-clause-spares
returns-in_ok-next-in-Some-clause-spares t c =
    let own = c.args.scope.now.own in
    let slots = c.args.slots.now in
    let slot = c.in-Some.slot.now in
    let left : ℕ → Type 0 = λ r. (r < own) × (is_among r slots ≡ false) in
    let split : (r : ℕ) → left r → ((r == slot) ≡ false) × (is_among r c.in-Some.others.now ≡ false)
    = λ r p. neither (r == slot) (is_among r c.in-Some.others.now) (subst (λ l. is_among r l ≡ false) c.in-Some.ensures.cases.0 p.1) in
    let first : SetsNone left c.args.out.now.items c.if-slot-scope.out.items = elim c.if-slot-scope.branch [
      | then-slot-scope+in_ok-add-in-Some w ↦ rw w.out-is (one-more left (v.Move slot c.args.from) refl (w.in_ok-add-in-Some.ensures {u = tt}).appended (λ r p. (split r p).0))
      | else-slot-scope w ↦ rw w.out-is same-spared
    ] in
    mapped c.copy_row.result c.copy_row.ensures.spares (λ u w. both-spared first (fewer left w (λ r p. (p.0, (split r p).1))))
