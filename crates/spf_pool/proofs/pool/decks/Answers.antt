use Rattle.std.proofs.Common.{◌≡◌, ℕ, ◌+◌, ◌<◌, ◌∙◌, ap, sym, true, false, List, [], ◌∷◌, ◌++◌, length, get_or, take}
use Rattle.std.proofs.lemmas.List.{map-append, take_more}
use lib.ListN.{get_elem?}
use Rattle.spf_pool.specs.Ends.{EndValue}
use Rattle.spf_pool.specs.Made.{new_end, capacities_of}
use Rattle.spf_pool.proofs.Made.{each-snoc}
use Rattle.spf_pool.proofs.pool.decks.Goals as goal

-- one more deck, for the next capacity
one-more : {K : Type 0} (capacities : List ℕ) (i : ℕ) (before after : List (EndValue K)) (e : EndValue K) → i < length capacities → capacities_of before ≡ take i capacities → after ≡ before ++ e ∷ [] → e.capacity ≡ get_or capacities i 0 → capacities_of after ≡ take (i + 1) capacities
one-more {K = K} capacities i before after e less are grown is =
    ap capacities_of grown ∙ (map-append (λ (y : EndValue K). y.capacity) before (e ∷ []) ∙ ((λ t. are t ++ is t ∷ []) ∙ sym (take_more capacities i 0 less)))

-- a new deck after it was opened
opened-deck : {K : Type 0} (key : K) (capacity : ℕ) (o e : EndValue K) → o ≡ new_end key o.deque capacity true true → e ≡ record o { solo = false } → (e.capacity ≡ capacity) × (e ≡ new_end key e.deque e.capacity true false)
opened-deck {K = K} key capacity o e new is =
    let deque : e.deque ≡ o.deque = ap (λ (y : EndValue K). y.deque) is in
    let same : e.capacity ≡ capacity = ap (λ (y : EndValue K). y.capacity) is ∙ ap (λ (y : EndValue K). y.capacity) new in (
      same,
      is ∙ (ap (λ (y : EndValue K). let z : EndValue K = record y { solo = false } in z) new ∙ (λ t. new_end key (sym deque t) (sym same t) true false)),
    )

pub loop-capacity-preserved : goal.loop-capacity-preserved
loop-capacity-preserved g c =
    let K = g.row.K.Denot in
    let e : EndValue K = c.open.new.self in
    let d = opened-deck c.args.key.now.value (get_or c.args.capacities.now c.loop-capacity.capacity-index 0) c.in_ok-owner.owner e c.in_ok-owner.ensures c.open.ensures in
    let grown : c.push.new.self.items ≡ c.loop-capacity.owners.items ++ e ∷ [] = c.in_ok-push.ensures.items in (
      one-more c.args.capacities.now c.loop-capacity.capacity-index c.loop-capacity.owners.items c.push.new.self.items e c.loop-capacity-test.true c.loop-capacity.invariant.0 grown d.0,
      λ i x at. each-snoc (λ (y : EndValue K). y ≡ new_end c.args.key.now.value y.deque y.capacity true false) c.loop-capacity.owners.items e c.loop-capacity.invariant.1 d.1 i x (ap (λ (l : List (EndValue K)). get_elem? l i) (sym grown) ∙ at),
    )
