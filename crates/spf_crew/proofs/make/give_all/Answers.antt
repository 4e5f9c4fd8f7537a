use Rattle.std.proofs.Common.{◌≡◌, ℕ, ◌+◌, ◌<◌, List, [], ◌∷◌, ◌++◌, length, length-append, length-set, append_assoc, get_or, get_or-set_same, refl, sym, ap, ◌∙◌, subst, arith}
use Rattle.std.specs.List.{All}
use Rattle.std.proofs.lemmas.List.{append-nil}
use Rattle.spf_pool.specs.Hands.{HandValue, after_giving}
use Rattle.spf_ticket.specs.declared.ticket.Ticket.{Ticket}
use Rattle.spf_crew.specs.declared.view.CrewSetting.{CrewSetting}
use Rattle.spf_crew.specs.Tickets.{IsFreshOf}
use Rattle.spf_crew.proofs.make.give_all.Goals as goal

no-rest : {A : Type 0} (n : ℕ) (l : List A) → n ≡ 0 → n ≡ length l → l ≡ []
no-rest n [] z e = refl
no-rest n (x ∷ xs) z e = absurd (omega (arith, z, e))

all-left : {A : Type 0} (all start before left rest : List A) (a : A) → start ≡ all → start ≡ before ++ left → left ≡ a ∷ rest → all ≡ before ++ a ∷ rest
all-left all start before left rest a is split next = sym is ∙ (split ∙ ap (λ l. before ++ l) next)

all-done : {A : Type 0} (all start before left : List A) → start ≡ all → start ≡ before ++ left → left ≡ [] → before ≡ all
all-done all start before left is split none = sym (append-nil before) ∙ (ap (λ l. before ++ l) (sym none) ∙ (sym split ∙ is))

next-at : {A : Type 0} (before rest : List A) (a d : A) → get_or (before ++ a ∷ rest) (length before) d ≡ a
next-at [] rest a d = refl
next-at (x ∷ before) rest a d = next-at before rest a d

-- the ticket that comes next, of all of them
record Next (P : Ticket → Type 0) (tickets before : List Ticket) (t : Ticket) : Type 0 where
  holds : P t
  more : length before < length tickets

next-of : (P : Ticket → Type 0) (tickets before rest : List Ticket) (t : Ticket) → All P tickets → tickets ≡ before ++ t ∷ rest → Next P tickets before t
next-of P tickets before rest t all is =
    let size = ap length is in
    let sum = length-append before (t ∷ rest) in
    record {
      holds = subst P (ap (λ l. get_or l (length before) t) is ∙ next-at before rest t t) (all (length before) t (omega (arith, size, sum)));
      more = omega (arith, size, sum);
    }

pub give_one-requires : goal.give_one-requires
give_one-requires c =
    let i = c.loop-ticket.invariant in
    let n = next-of (IsFreshOf c.args.hand.now.key) c.args.tickets.items c.loop-ticket.yielded c.next.new.self.rest.items c.in-Some.ticket c.requires.fresh
    (all-left _ _ _ _ _ _ c.into_iter-ticket-iterator.ensures.into_iter_gives.0 i.left c.in-Some.ensures.steps.0) in
    let more = n.more in
    let given = i.given in
    let room = i.capacity ∙ c.requires.room in
    record { fresh = subst (λ k. IsFreshOf k c.in-Some.ticket) (sym i.key) n.holds; room = omega (arith, more, given, room) }

pub loop-ticket-init : goal.loop-ticket-init
loop-ticket-init c = record {
  can = tt;
  ends = tt;
  left = refl;
  len = omega (arith, c.into_iter-ticket-iterator.ensures.into_iter_gives.1, c.args.tickets.ok.0, ap length c.into_iter-ticket-iterator.ensures.into_iter_gives.0);
  key = refl;
  capacity = refl;
  own = c.requires.own.0;
  given = c.requires.own.1;
}

-- the hand after it gave one more ticket
record GaveOne (h g : HandValue CrewSetting) (n : ℕ) : Type 0 where
  own : g.own < length g.given
  given : get_or g.given g.own 0 ≡ n + 1

gave-one : (h g : HandValue CrewSetting) (n : ℕ) → g ≡ after_giving h → h.own < length h.given → get_or h.given h.own 0 ≡ n → GaveOne h g n
gave-one h g n is low count = subst (λ (x : HandValue CrewSetting). GaveOne h x n) (sym is) (record {
  own = (let size = length-set h.given h.own (get_or h.given h.own 0 + 1) in omega (arith, size, low));
  given = get_or-set_same h.given h.own (get_or h.given h.own 0 + 1) 0 low ∙ ap (λ m. m + 1) count;
})

pub loop-ticket-preserved : goal.loop-ticket-preserved
loop-ticket-preserved c =
    let i = c.loop-ticket.invariant in
    let steps = c.in-Some.ensures.steps in
    let len = i.len in
    let one = steps.1 in
    let size = ap length steps.0 in
    let more : length (c.loop-ticket.yielded ++ c.in-Some.ticket ∷ []) ≡ length c.loop-ticket.yielded + 1 = length-append c.loop-ticket.yielded (c.in-Some.ticket ∷ []) in
    let g = gave-one c.loop-ticket.hand c.give_one.new.hand (length c.loop-ticket.yielded) c.give_one.ensures i.own i.given in
    record {
      can = tt;
      ends = tt;
      left = i.left ∙ (ap (λ (x : List Ticket). c.loop-ticket.yielded ++ x) steps.0 ∙ sym (append_assoc c.loop-ticket.yielded (c.in-Some.ticket ∷ []) c.next.new.self.rest.items));
      len = omega (arith, one, len, size);
      key = ap (λ (x : HandValue CrewSetting). x.key) c.give_one.ensures ∙ i.key;
      capacity = ap (λ (x : HandValue CrewSetting). x.capacity) c.give_one.ensures ∙ i.capacity;
      own = g.own;
      given = g.given ∙ sym more;
    }

pub returns : goal.returns
returns c =
    let i = c.loop-ticket.invariant in
    let none : c.loop-ticket.ticket-iterator.rest.items ≡ [] = no-rest c.loop-ticket.ticket-iterator.rest.len c.loop-ticket.ticket-iterator.rest.items c.in-None.ensures.steps.0 i.len in
    let all : c.loop-ticket.yielded ≡ c.args.tickets.items = all-done _ _ _ _ c.into_iter-ticket-iterator.ensures.into_iter_gives.0 i.left none in
    record { key = i.key; given = i.given ∙ ap length all }
