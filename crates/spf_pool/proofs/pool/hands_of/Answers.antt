use Rattle.std.proofs.Common.{◌≡◌, ℕ, ◌+◌, ◌<◌, false, List, [], ◌∷◌, ◌++◌, length, length-append, append_assoc, map, get_or, refl, sym, ap, ◌∙◌, subst, arith, option_to_list}
use Rattle.std.proofs.lemmas.List.{append-nil}
use mathlib.Core.Option.{some}
use lib.ListN.{get_elem?, length-map}
use Rattle.atomic_table.proofs.Lists.{at_last, at_longer}
use Rattle.spf_pool.specs.Ends.{EndValue}
use Rattle.spf_pool.specs.Hands.{HandValue}
use Rattle.spf_pool.specs.Made.{new_hand, as_guest, AreNewEnds, capacities_of}
use Rattle.spf_pool.proofs.Hands.{deques_of}
use Rattle.spf_pool.proofs.Made.{at_next, numbered-snoc, guests_of, same_deque, guest_deques, capacity_at, capacity_low}
use Rattle.spf_pool.proofs.pool.hands_of.Goals as goal

no-rest : {A : Type 0} (n : ℕ) (l : List A) → n ≡ 0 → n ≡ length l → l ≡ []
no-rest n [] z e = refl
no-rest n (x ∷ xs) z e = absurd (omega (arith, z, e))

all-left : {A : Type 0} (all start before left rest : List A) (a : A) → start ≡ all → start ≡ before ++ left → left ≡ a ∷ rest → all ≡ before ++ a ∷ rest
all-left all start before left rest a is split next = sym is ∙ (split ∙ ap (λ l. before ++ l) next)

-- the own end that comes next, of all of them
record NextOwner {K : Type 0} (owners before : List (EndValue K)) (o : EndValue K) (left : ℕ) : Type 0 where
  at : get_elem? owners (length before) ≡ some o
  count : length owners ≡ length before + 1 + left

next-owner : {K : Type 0} (owners before rest : List (EndValue K)) (o : EndValue K) → owners ≡ before ++ o ∷ rest → NextOwner owners before o (length rest)
next-owner owners before rest o is = record {
  at = ap (λ l. get_elem? l (length before)) is ∙ at_next before rest o;
  count = omega (arith, ap length is, length-append before (o ∷ rest));
}

pub unwrap-ends-requires : goal.unwrap-ends-requires
unwrap-ends-requires g c =
    let i = c.loop-owner.invariant in
    let all : c.args.owners.items ≡ c.loop-owner.yielded ++ c.in-Some.owner ∷ c.next.new.self.rest.items = all-left _ _ _ _ _ _ c.into_iter-owner-iterator.ensures.into_iter_gives.0 i.left c.in-Some.ensures.steps.0 in
    let n = next-owner c.args.owners.items c.loop-owner.yielded c.next.new.self.rest.items c.in-Some.owner all in
    let size = n.count in
    let count = i.count in
    let ok = c.loop-owner.rows.ok.0 in
    c.pop.ensures.variant.1 (omega (arith, size, count, ok))

pub hand_of-requires : goal.hand_of-requires
hand_of-requires g c =
    let i = c.loop-owner.invariant in
    let K = g.row.K.Denot in
    let owners : List (EndValue K) = c.args.owners.items in
    let row : List (EndValue K) = c.unwrap-ends.result.items in
    let all : owners ≡ c.loop-owner.yielded ++ c.in-Some.owner ∷ c.next.new.self.rest.items = all-left _ _ _ _ _ _ c.into_iter-owner-iterator.ensures.into_iter_gives.0 i.left c.in-Some.ensures.steps.0 in
    let n = next-owner owners c.loop-owner.yielded c.next.new.self.rest.items c.in-Some.owner all in
    let rows : c.loop-owner.rows.items ≡ c.pop.new.self.items ++ c.unwrap-ends.result ∷ [] = c.pop.ensures.items ∙ ap (λ x. c.pop.new.self.items ++ option_to_list x) c.unwrap-ends.ensures in
    let at : get_elem? c.loop-owner.rows.items (length c.pop.new.self.items) ≡ some c.unwrap-ends.result = ap (λ l. get_elem? l (length c.pop.new.self.items)) rows ∙ at_last c.pop.new.self.items c.unwrap-ends.result (length c.pop.new.self.items) refl in
    let is : row ≡ map as_guest owners = i.rows (length c.pop.new.self.items) c.unwrap-ends.result at in
    let long : length row ≡ length owners = ap length is ∙ length-map owners as_guest in
    let own : c.len-own.result ≡ length c.loop-owner.yielded = c.len-own.ensures ∙ (c.loop-owner.hands.ok.0 ∙ i.made) in
    let size = n.count in
    let two = c.requires.size.0 in
    let here : get_elem? owners c.len-own.result ≡ some c.in-Some.owner = ap (get_elem? owners) own ∙ n.at in
    record {
      size = (omega (arith, long, own, size), omega (arith, long, two), capacity_low owners c.len-own.result c.in-Some.owner c.requires.capacities here (omega (arith, own, size)));
      owner = c.requires.owners c.len-own.result c.in-Some.owner here;
      ends = subst (AreNewEnds c.args.key.now.value false) (sym is) (guests_of c.args.key.now.value owners c.requires.owners);
      same = λ e there. same_deque c.args.key.now.value c.len-own.result owners c.in-Some.owner e c.requires.owners here (ap (λ l. get_elem? l c.len-own.result) (sym is) ∙ there);
    }

pub loop-owner-init : goal.loop-owner-init
loop-owner-init g c = record {
  can = tt;
  ends = tt;
  left = refl;
  len = omega (arith, c.into_iter-owner-iterator.ensures.into_iter_gives.1, c.args.owners.ok.0, ap length c.into_iter-owner-iterator.ensures.into_iter_gives.0);
  rows = c.requires.rows;
  count = omega (arith, c.requires.size.1);
  made = ap length c.new-hands.ensures.items;
  hands = λ i h at. absurd (let e : get_elem? [] i ≡ some h = ap (λ (l : List (HandValue g.row.K.Denot)). get_elem? l i) (sym c.new-hands.ensures.items) ∙ at in cc);
}

pub loop-owner-preserved : goal.loop-owner-preserved
loop-owner-preserved g c =
    let i = c.loop-owner.invariant in
    let K = g.row.K.Denot in
    let owners : List (EndValue K) = c.args.owners.items in
    let steps = c.in-Some.ensures.steps in
    let len = i.len in
    let one = steps.1 in
    let size = ap length steps.0 in
    let rows : c.loop-owner.rows.items ≡ c.pop.new.self.items ++ c.unwrap-ends.result ∷ [] = c.pop.ensures.items ∙ ap (λ x. c.pop.new.self.items ++ option_to_list x) c.unwrap-ends.ensures in
    let at : get_elem? c.loop-owner.rows.items (length c.pop.new.self.items) ≡ some c.unwrap-ends.result = ap (λ l. get_elem? l (length c.pop.new.self.items)) rows ∙ at_last c.pop.new.self.items c.unwrap-ends.result (length c.pop.new.self.items) refl in
    let is : c.unwrap-ends.result.items ≡ map as_guest owners = i.rows (length c.pop.new.self.items) c.unwrap-ends.result at in
    let fewer : length c.loop-owner.rows.items ≡ length c.pop.new.self.items + 1 = ap length rows ∙ length-append c.pop.new.self.items (c.unwrap-ends.result ∷ []) in
    let h : HandValue K = c.hand_of.result in
    let own : c.len-own.result ≡ length c.loop-owner.hands.items = c.len-own.ensures ∙ c.loop-owner.hands.ok.0 in
    let all : owners ≡ c.loop-owner.yielded ++ c.in-Some.owner ∷ c.next.new.self.rest.items = all-left _ _ _ _ _ _ c.into_iter-owner-iterator.ensures.into_iter_gives.0 i.left steps.0 in
    let here : get_elem? owners (length c.loop-owner.hands.items) ≡ some c.in-Some.owner = ap (get_elem? owners) i.made ∙ (next-owner owners c.loop-owner.yielded c.next.new.self.rest.items c.in-Some.owner all).at in
    let made : h ≡ new_hand c.args.key.now.value (get_or (capacities_of owners) (length c.loop-owner.hands.items) 0) (deques_of owners) (length c.loop-owner.hands.items) =
    c.hand_of.ensures ∙ (λ t. new_hand c.args.key.now.value (sym (capacity_at owners (length c.loop-owner.hands.items) c.in-Some.owner here) t) ((ap deques_of is ∙ guest_deques owners) t) (own t)) in
    let grown : c.push.new.self.items ≡ c.loop-owner.hands.items ++ h ∷ [] = c.in_ok-push.ensures.items in
    let longer : length c.push.new.self.items ≡ length c.loop-owner.hands.items + 1 = ap length grown ∙ length-append c.loop-owner.hands.items (h ∷ []) in
    let more : length (c.loop-owner.yielded ++ c.in-Some.owner ∷ []) ≡ length c.loop-owner.yielded + 1 = length-append c.loop-owner.yielded (c.in-Some.owner ∷ []) in
    let count = i.count in
    let same = i.made in
    record {
      can = tt;
      ends = tt;
      left = i.left ∙ (ap (λ (x : List (EndValue K)). c.loop-owner.yielded ++ x) steps.0 ∙ sym (append_assoc c.loop-owner.yielded (c.in-Some.owner ∷ []) c.next.new.self.rest.items));
      len = omega (arith, one, len, size);
      rows = λ j v e. i.rows j v (ap (λ l. get_elem? l j) rows ∙ at_longer c.pop.new.self.items (c.unwrap-ends.result ∷ []) j v e);
      count = omega (arith, fewer, more, count);
      made = omega (arith, longer, more, same);
      hands = λ j x e. numbered-snoc (λ n (y : HandValue K). y ≡ new_hand c.args.key.now.value (get_or (capacities_of owners) n 0) (deques_of owners) n) c.loop-owner.hands.items h i.hands made j x (ap (λ (l : List (HandValue K)). get_elem? l j) (sym grown) ∙ e);
    }

pub returns : goal.returns
returns g c =
    let i = c.loop-owner.invariant in
    let K = g.row.K.Denot in
    let owners : List (EndValue K) = c.args.owners.items in
    let none : c.loop-owner.owner-iterator.rest.items ≡ [] = no-rest c.loop-owner.owner-iterator.rest.len c.loop-owner.owner-iterator.rest.items c.in-None.ensures.steps.0 i.len in
    let all : c.loop-owner.yielded ≡ owners = sym (sym c.into_iter-owner-iterator.ensures.into_iter_gives.0 ∙ (i.left ∙ (ap (λ (x : List (EndValue K)). c.loop-owner.yielded ++ x) none ∙ append-nil c.loop-owner.yielded))) in
    record {
      deques = deques_of owners;
      size = length-map owners (λ (e : EndValue K). e.deque) ∙ sym (length-map owners (λ (e : EndValue K). e.capacity));
      count = i.made ∙ (ap length all ∙ sym (length-map owners (λ (e : EndValue K). e.capacity)));
      each = i.hands;
    }
