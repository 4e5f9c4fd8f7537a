use Rattle.std.proofs.Common.{◌≡◌, ℕ, ◌+◌, List, ◌∷◌, ◌++◌, [], length, length-append, sym, ap, ◌∙◌, subst, arith}
use mathlib.Core.Option.{some}
use lib.ListN.{get_elem?}
use Rattle.spf_pool.specs.Hands.{HandValue}
use Rattle.spf_crew.specs.declared.view.CrewSetting.{CrewSetting}
use Rattle.spf_crew.specs.Values.{ChainSeatValue, CrewValue}
use Rattle.spf_crew.specs.Mates.{MateValue}
use Rattle.spf_crew.specs.Mates.{new_seat}
use Rattle.spf_crew.specs.Crews.{AreFirstMates, dealt, AreDealt, IsNewMate}
use Rattle.spf_crew.proofs.Crews.{beheaded, first_of, numbered-snoc, all-snoc, each-snoc, dealt-on, dealt-first, new-mate}
use Rattle.spf_crew.proofs.mates.enlist_all.Goals as goal

pub new-requires : goal.new-requires
new-requires c =
    let i = c.loop-hands.invariant in
    let d = dealt-first c.args.crew.now.setting c.args.tickets (length c.loop-hands.mates.items) c.loop-hands.hands.items c.remove-hand.result i.hands (first_of c.loop-hands.hands.items c.remove-hand.result i.some c.remove-hand.ensures.value) in
    d.key ∙ (sym (ap (λ p. p.setting) i.rest) ∙ sym (ap (λ p. p.setting) c.enlist-seat.ensures.new))

pub new-requires-2 : goal.new-requires-2
new-requires-2 c =
    let i = c.loop-hands.invariant in
    let d = dealt-first c.args.crew.now.setting c.args.tickets (length c.loop-hands.mates.items) c.loop-hands.hands.items c.remove-hand-2.result i.hands (first_of c.loop-hands.hands.items c.remove-hand-2.result i.some c.remove-hand-2.ensures.value) in
    d.key ∙ sym (ap (λ p. p.setting) i.rest)

pub loop-hands-preserved : goal.loop-hands-preserved
loop-hands-preserved c =
    let i = c.loop-hands.invariant in
    let crew : CrewValue = c.args.crew.now in
    let mates : List MateValue = c.loop-hands.mates.items in
    let hands : List (HandValue CrewSetting) = c.loop-hands.hands.items in
    let m : MateValue = c.new.result in
    let grown : c.push.new.self.items ≡ mates ++ m ∷ [] = c.in_ok-push.ensures.items in
    let long : length c.push.new.self.items ≡ length mates + 1 = ap length grown ∙ length-append mates (m ∷ []) in
    let shorter : length c.remove-hand.new.self.items + 1 ≡ length hands = ap (λ l. length l + 1) c.remove-hand.ensures.items ∙ beheaded hands i.some in
    let at : ChainSeatValue = c.enlist-seat.result in
    let own : at ≡ record (new_seat crew (length mates)) { to = length mates + 1 } = c.enlist-seat.ensures.new ∙ ap (λ (p : ChainSeatValue). record p { to = p.from + 1 }) i.rest in
    let seat : m.seat ≡ record (new_seat crew (length mates)) { to = length mates + 1 } = ap (λ (x : MateValue). x.seat) c.new.ensures ∙ own in
    let d = dealt-first crew.setting c.args.tickets (length mates) hands c.remove-hand.result i.hands (first_of hands c.remove-hand.result i.some c.remove-hand.ensures.value) in
    let count = i.count in
    let more = c.loop-hands-test.true in
    let len = c.len-in-loop-hands.ensures in
    let ok = c.loop-hands.hands.ok.0 in record {
      rest = c.enlist-seat.ensures.rest ∙ (ap (λ (p : ChainSeatValue). record p { from = p.from + 1 }) i.rest ∙ ap (new_seat crew) (sym long));
      mates = subst (AreFirstMates crew) (sym grown) (numbered-snoc crew mates m i.mates record { of = (ap (λ (p : ChainSeatValue). p.table) seat, ap (λ (p : ChainSeatValue). p.setting) seat); from = ap (λ (p : ChainSeatValue). p.from) seat; to = ap (λ (p : ChainSeatValue). p.to) seat });
      fresh = each-snoc (λ n. IsNewMate (dealt c.args.tickets n)) mates c.push.new.self.items m grown i.fresh
          (new-mate crew.setting (dealt c.args.tickets (length mates)) m at c.remove-hand.result c.new.ensures (ap (λ (p : ChainSeatValue). p.seen) own) (ap (λ (p : ChainSeatValue). p.read) own) d);
      hands = dealt-on crew.setting c.args.tickets (length mates) (length c.push.new.self.items) hands c.remove-hand.new.self.items i.hands c.remove-hand.ensures.items long;
      count = omega (arith, long, shorter, count);
      some = omega (arith, shorter, more, len, ok);
    }

pub returns-clause-all : goal.returns-clause-all
returns-clause-all c =
    let i = c.loop-hands.invariant in
    let crew : CrewValue = c.args.crew.now in
    let mates : List MateValue = c.loop-hands.mates.items in
    let m : MateValue = c.new-2.result in
    let seat : m.seat ≡ new_seat crew (length mates) = ap (λ (x : MateValue). x.seat) c.new-2.ensures ∙ i.rest in
    let count = i.count in
    let some = i.some in
    let less = c.loop-hands-test.false in
    let len = c.len-in-loop-hands.ensures in
    let ok = c.loop-hands.hands.ok.0 in
    let one : length mates + 1 ≡ crew.setting.mates = omega (arith, count, some, less, len, ok) in
    all-snoc crew mates c.push-2.new.self.items m c.in_ok-push-2.ensures.items i.mates
    record { of = (ap (λ (p : ChainSeatValue). p.table) seat, ap (λ (p : ChainSeatValue). p.setting) seat); from = ap (λ (p : ChainSeatValue). p.from) seat; to = ap (λ (p : ChainSeatValue). p.to) seat ∙ sym one } one

pub returns-clause-new : goal.returns-clause-new
returns-clause-new c =
    let i = c.loop-hands.invariant in
    let crew : CrewValue = c.args.crew.now in
    let mates : List MateValue = c.loop-hands.mates.items in
    let hands : List (HandValue CrewSetting) = c.loop-hands.hands.items in
    let d = dealt-first crew.setting c.args.tickets (length mates) hands c.remove-hand-2.result i.hands (first_of hands c.remove-hand-2.result i.some c.remove-hand-2.ensures.value) in
    each-snoc (λ n. IsNewMate (dealt c.args.tickets n)) mates c.push-2.new.self.items c.new-2.result c.in_ok-push-2.ensures.items i.fresh
    (new-mate crew.setting (dealt c.args.tickets (length mates)) c.new-2.result c.loop-hands.rest c.remove-hand-2.result c.new-2.ensures (ap (λ (p : ChainSeatValue). p.seen) i.rest) (ap (λ (p : ChainSeatValue). p.read) i.rest) d)

no-mate : (mates : List MateValue) (i : ℕ) (m : MateValue) → mates ≡ [] → get_elem? mates i ≡ some m → ⊥
no-mate mates i m none at = let e : get_elem? [] i ≡ some m = ap (λ l. get_elem? l i) (sym none) ∙ at in cc

pub loop-hands-init : goal.loop-hands-init
loop-hands-init c =
    let none = c.in_ok-mates.ensures.items in
    let size = ap length none in
    let count = c.requires.count.0 in
    record {
      rest = subst (λ (l : List MateValue). c.args.founder ≡ new_seat c.args.crew.now (length l)) (sym none) c.requires.new;
      mates = λ i m at. absurd (no-mate c.in_ok-mates.mates.items i m none at);
      fresh = λ i m at. absurd (no-mate c.in_ok-mates.mates.items i m none at);
      hands = subst (λ (l : List MateValue). AreDealt c.args.crew.now.setting c.args.tickets (length l) c.args.hands.items) (sym none) c.requires.hands;
      count = omega (arith, size, count);
      some = c.requires.count.1;
    }
