use Rattle.std.proofs.Common.{◌≡◌, ℕ, ◌<◌, ◌≤◌, List, length, length-set, get_or, set, sym, ap, ◌∙◌, subst, arith}
use Rattle.std.specs.List.{All}
use Rattle.std.proofs.lemmas.Option.{slice_get-get_or}
use Rattle.spf_cells.specs.Values.{CellsValue}
use Rattle.spf_chain.specs.Chains.{ChainValue}
use Rattle.spf_chain.specs.Beginning.{IsStarted}
use Rattle.spf_speculation_entry.specs.Sites.{entry_at, guess_at}
use Rattle.spf_pool.specs.Hands.{HandValue}
use Rattle.spf_pool.specs.Made.{AreNewHands}
use Rattle.spf_ticket.specs.Tickets.{IsFresh}
use Rattle.spf_ticket.specs.declared.ticket.Ticket.{Ticket}
use Rattle.spf_crew.specs.declared.view.CrewSetting.{CrewSetting}
use Rattle.spf_crew.specs.Crews.{capacities_for, AreDealt, IsDealtTo, AreNewMates}
use Rattle.spf_crew.specs.Tickets.{IsFreshOf}
use Rattle.spf_crew.specs.Values.{setting_of}
use Rattle.spf_crew.proofs.Crews.{first_of, first-hand, hands-count, all-dealt, CanTakeAll}
use Rattle.spf_crew.proofs.crew.Crew.make.Goals as goal

-- all tickets of a chain that has just started are fresh ones of its crew
all-fresh : (c : ChainValue) (cells : CellsValue) (tickets : List Ticket) (workers : ℕ) → IsStarted c.site c cells tickets → All (IsFreshOf (setting_of c workers)) tickets
all-fresh c cells tickets workers s = λ k d low.
    subst (λ x. IsFresh (entry_at c.site) (guess_at c.site) x (get_or tickets k d)) s.its_cells (s.fresh k (get_or tickets k d) (slice_get-get_or tickets k d low))

few : (c : ChainValue) (cells : CellsValue) (tickets : List Ticket) (n : ℕ) → IsStarted c.site c cells tickets → n ≡ length tickets → n ≤ 8192
few c cells tickets n s is = let f = s.ground.few in let count = s.count in omega (arith, f, count, is)

pub hands_of-requires-clause-capacity : goal.hands_of-requires-clause-capacity
hands_of-requires-clause-capacity c = few c.args.chain c.args.cells c.args.tickets.items c.len-count.result c.requires.started (c.len-count.ensures ∙ c.args.tickets.ok.0)

first : (k : CrewSetting) (capacity workers : ℕ) (hands : List (HandValue CrewSetting)) (h : HandValue CrewSetting) → AreNewHands k (capacities_for workers capacity) hands → 0 < workers → h ≡ get_or hands 0 h → CanTakeAll k capacity h
first k capacity workers hands h new more is = first-hand k capacity workers hands h new more (first_of hands h (let n = hands-count k capacity workers hands new in omega (arith, n, more)) is)

pub give_all-requires : goal.give_all-requires
give_all-requires c =
    let k : CrewSetting = setting_of c.args.chain c.args.workers in
    let h = first k c.len-count.result c.args.workers c.in_ok-hands.hands.items c.index_mut.result.now c.in_ok-hands.ensures c.requires.workers.0 c.index_mut.ensures.value in
    record {
      fresh = subst (λ x. All (IsFreshOf x) c.args.tickets.items) (sym h.key) (all-fresh c.args.chain c.args.cells c.args.tickets.items c.args.workers c.requires.started);
      room = h.capacity_is ∙ (c.len-count.ensures ∙ c.args.tickets.ok.0);
      own = (h.own, h.given);
    }

pub open-requires : goal.open-requires
open-requires c = record {
  cells = c.requires.started.its_cells;
  ground = c.requires.started.ground;
  mates = c.requires.workers.0;
  new = ap (λ (x : ChainValue). x.reports) c.requires.started.chain;
}

sized : (workers mates : ℕ) (hands all : List (HandValue CrewSetting)) → 0 < workers → length hands ≡ workers → mates ≡ workers → length all ≡ length hands → (length all ≡ mates) × (0 < length all)
sized workers mates hands all more count same size = (size ∙ (count ∙ sym same), omega (arith, more, count, size))

pub enlist_all-requires : goal.enlist_all-requires
enlist_all-requires c =
    let k : CrewSetting = setting_of c.args.chain c.args.workers in
    let h = first k c.len-count.result c.args.workers c.in_ok-hands.hands.items c.index_mut.result.now c.in_ok-hands.ensures c.requires.workers.0 c.index_mut.ensures.value in
    let count : length c.args.tickets.items ≡ c.len-count.result = sym (c.len-count.ensures ∙ c.args.tickets.ok.0) in
    let deal : IsDealtTo k c.len-count.result c.give_all.new.hand = subst (λ n. IsDealtTo k n c.give_all.new.hand) count (subst (λ x. IsDealtTo x (length c.args.tickets.items) c.give_all.new.hand) h.key c.give_all.ensures) in
    let dealt = all-dealt k c.len-count.result c.args.workers c.len-count.result c.in_ok-hands.hands.items c.give_all.new.hand c.in_ok-hands.ensures deal in
    record {
      new = c.in_ok-crew.ensures.seat;
      hands = subst (λ x. AreDealt x c.len-count.result 0 (set c.in_ok-hands.hands.items 0 c.give_all.new.hand)) (sym c.in_ok-crew.ensures.setting) dealt;
      count = sized c.args.workers c.in_ok-crew.crew.setting.mates c.in_ok-hands.hands.items (set c.in_ok-hands.hands.items 0 c.give_all.new.hand) c.requires.workers.0 (hands-count k c.len-count.result c.args.workers c.in_ok-hands.hands.items c.in_ok-hands.ensures)
          (ap (λ (x : CrewSetting). x.mates) c.in_ok-crew.ensures.setting) (length-set c.in_ok-hands.hands.items 0 c.give_all.new.hand);
    }

pub returns-clause-new : goal.returns-clause-new
returns-clause-new c = subst (λ n. AreNewMates n c.in_ok-mates.mates.items) (c.len-count.ensures ∙ c.args.tickets.ok.0) c.in_ok-mates.ensures.new
