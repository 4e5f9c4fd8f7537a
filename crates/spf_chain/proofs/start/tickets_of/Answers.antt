use Rattle.std.proofs.Common.{◌≡◌, ◌+◌, ◌++◌, ◌∷◌, [], ◌∙◌, List, length, length-append, append_assoc, arith, refl, sym, ap, subst}
use Rattle.std.proofs.lemmas.Int.{to_z-of_z}
use Rattle.std.proofs.lemmas.List.{append-nil}
use mir.Syntax.{w64}
use mir.Val.{to_z, of_z}
use Rattle.spf_cells.specs.Values.{LaneValue}
use Rattle.spf_cells.specs.Made.{new_lane}
use Rattle.spf_chain.specs.Beginning.{IsFirstTicket, AreFirstTickets}
use Rattle.spf_chain.proofs.Tickets.{next-lane, more-tickets, no-tickets, no-rest, length-new}
use Rattle.spf_chain.proofs.start.tickets_of.Goals as goal

pub first_ticket-requires-clause-lane : goal.first_ticket-requires-clause-lane
first_ticket-requires-clause-lane c =
    let at = next-lane c.args.cells.now (length c.args.blocks.now) c.args.lanes.items c.loop-lane.yielded c.next.new.self.rest.items c.in-Some.lane c.requires.lanes
    (sym c.into_iter-lane-iterator.ensures.into_iter_gives.0 ∙ (c.loop-lane.invariant.left ∙ ap (λ (l : List LaneValue). c.loop-lane.yielded ++ l) c.in-Some.ensures.steps.0)) in
    ap (λ (l : LaneValue). l.block) at.0 ∙ sym (c.len-block.ensures ∙ c.loop-lane.tickets.ok.0 ∙ c.loop-lane.invariant.made.size)

pub first_ticket-requires-clause-inside : goal.first_ticket-requires-clause-inside
first_ticket-requires-clause-inside c =
    let at = next-lane c.args.cells.now (length c.args.blocks.now) c.args.lanes.items c.loop-lane.yielded c.next.new.self.rest.items c.in-Some.lane c.requires.lanes
    (sym c.into_iter-lane-iterator.ensures.into_iter_gives.0 ∙ (c.loop-lane.invariant.left ∙ ap (λ (l : List LaneValue). c.loop-lane.yielded ++ l) c.in-Some.ensures.steps.0)) in
    let low = at.1 in
    omega (arith, low, c.len-block.ensures ∙ c.loop-lane.tickets.ok.0 ∙ c.loop-lane.invariant.made.size)

pub loop-lane-init : goal.loop-lane-init
loop-lane-init c = record {
  can = tt;
  ends = tt;
  left = refl;
  len = omega (arith, c.into_iter-lane-iterator.ensures.into_iter_gives.1, c.args.lanes.ok.0, ap length c.into_iter-lane-iterator.ensures.into_iter_gives.0);
  made = subst (AreFirstTickets c.args.cells.now (to_z w64 (of_z w64 c.args.low)) c.args.blocks.now c.args.frame.now 0) (sym c.in_ok-tickets.ensures.items)
      (no-tickets c.args.cells.now (to_z w64 (of_z w64 c.args.low)) c.args.blocks.now c.args.frame.now);
}

pub loop-lane-preserved : goal.loop-lane-preserved
loop-lane-preserved c =
    let inv = c.loop-lane.invariant in
    let steps = c.in-Some.ensures.steps in
    let len = inv.len in
    let one = steps.1 in
    let size = ap length steps.0 in
    let at = next-lane c.args.cells.now (length c.args.blocks.now) c.args.lanes.items c.loop-lane.yielded c.next.new.self.rest.items c.in-Some.lane c.requires.lanes
    (sym c.into_iter-lane-iterator.ensures.into_iter_gives.0 ∙ (inv.left ∙ ap (λ (l : List LaneValue). c.loop-lane.yielded ++ l) steps.0)) in
    let count : c.len-block.result ≡ length c.loop-lane.yielded = c.len-block.ensures ∙ c.loop-lane.tickets.ok.0 ∙ inv.made.size in
    let low = to_z w64 (of_z w64 c.args.low) in
    let ticket = c.in_ok-first_ticket.ensures in
    let more : length (c.loop-lane.yielded ++ c.in-Some.lane ∷ []) ≡ length c.loop-lane.yielded + 1 = length-append c.loop-lane.yielded (c.in-Some.lane ∷ []) in
    record {
      can = tt;
      ends = tt;
      left = inv.left ∙ (ap (λ (x : List LaneValue). c.loop-lane.yielded ++ x) steps.0 ∙ sym (append_assoc c.loop-lane.yielded (c.in-Some.lane ∷ []) c.next.new.self.rest.items));
      len = omega (arith, one, len, size);
      made = subst (λ n. AreFirstTickets c.args.cells.now low c.args.blocks.now c.args.frame.now n c.push.new.self.items) (sym more)
          (more-tickets c.args.cells.now low c.args.blocks.now c.args.frame.now (length c.loop-lane.yielded) c.loop-lane.tickets.items c.push.new.self.items c.in_ok-first_ticket.field-0
          inv.made
          (subst (λ n. IsFirstTicket (new_lane c.args.cells.now n) low c.args.blocks.now c.args.frame.now n c.in_ok-first_ticket.field-0) count
          (subst (λ (l : LaneValue). IsFirstTicket l low c.args.blocks.now c.args.frame.now c.len-block.result c.in_ok-first_ticket.field-0) (at.0 ∙ ap (new_lane c.args.cells.now) (sym count)) ticket))
          c.in_ok-push.ensures.items);
    }

pub returns : goal.returns
returns c =
    let inv = c.loop-lane.invariant in
    let none : c.loop-lane.lane-iterator.rest.items ≡ [] = no-rest c.loop-lane.lane-iterator.rest.len c.loop-lane.lane-iterator.rest.items c.in-None.ensures.steps.0 inv.len in
    let all : c.loop-lane.yielded ≡ c.args.lanes.items = sym (sym c.into_iter-lane-iterator.ensures.into_iter_gives.0 ∙ (inv.left ∙ (ap (λ (x : List LaneValue). c.loop-lane.yielded ++ x) none ∙ append-nil c.loop-lane.yielded))) in
    let count : length c.loop-lane.yielded ≡ length c.args.blocks.now = ap length (all ∙ c.requires.lanes) ∙ length-new c.args.cells.now 0 (length c.args.blocks.now) in
    let low : to_z w64 (of_z w64 c.args.low) ≡ c.args.low = to_z-of_z w64 c.args.low c.ranges.low in
    subst (λ n. AreFirstTickets c.args.cells.now c.args.low c.args.blocks.now c.args.frame.now n c.loop-lane.tickets.items) count
    (subst (λ l. AreFirstTickets c.args.cells.now l c.args.blocks.now c.args.frame.now (length c.loop-lane.yielded) c.loop-lane.tickets.items) low inv.made)
