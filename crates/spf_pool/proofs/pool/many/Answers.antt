use Rattle.std.proofs.Common.{◌≡◌, ◌<◌, ◌≤◌, ◌∙◌, ℕ, sym, ap, true, subst, arith, List, ◌++◌, length, take, drop, map}
use Rattle.std.specs.Prelude.{IfOk}
use Rattle.std.specs.List.{All}
use Rattle.std.proofs.Math.Seq.{take-append_seam}
use mathlib.Core.Option.{some}
use lib.ListN.{get_elem?, length-map}
use Rattle.spf_pool.specs.Ends.{EndValue}
use Rattle.spf_pool.specs.Made.{as_guest, AreNewEnds, AreNewHands, capacities_of}
use Rattle.spf_pool.proofs.Made.{open_decks}
use Rattle.spf_pool.proofs.pool.many.Goals as goal

pub rows-requires : goal.rows-requires
rows-requires g c = open_decks c.args.key.now.value c.as_mut_slice.result.now (subst (AreNewEnds c.args.key.now.value true) (sym c.as_mut_slice.ensures.value) c.in_ok-owners.ensures.1)

-- the own ends after rows were made of them
full : {K : Type 0} (n : ℕ) (old new : List (EndValue K)) → n ≡ length old → new ≡ old → take n (new ++ drop (length new) old) ≡ old
full n old new count is = ap (λ k. take k (new ++ drop (length new) old)) (count ∙ sym (ap length is)) ∙ (take-append_seam new (drop (length new) old) ∙ is)

sized : {K : Type 0} (capacities : List ℕ) (rows : ℕ) (all owners : List (EndValue K)) → 1 < length capacities → capacities_of owners ≡ capacities → rows ≡ length capacities → all ≡ owners → (1 < length all) × (rows ≡ length all)
sized capacities rows all owners two are same is =
    let n = ap length is in
    let count = ap length are in
    let size = length-map owners (λ e. e.capacity) in
    (omega (arith, two, count, size, n), omega (arith, same, count, size, n))

pub hands_of-requires-clause-size : goal.hands_of-requires-clause-size
hands_of-requires-clause-size g c =
    let o = c.in_ok-owners.owners in
    sized c.args.capacities.now (length c.in_ok-rows.rows.items) _ o.items c.requires.size c.in_ok-owners.ensures.0 c.in_ok-rows.ensures.rows.0
    (full o.len o.items c.rows.new.owners o.ok.0 (c.rows.ensures.same ∙ c.as_mut_slice.ensures.value))

pub hands_of-requires-clause-capacities : goal.hands_of-requires-clause-capacities
hands_of-requires-clause-capacities g c =
    let o = c.in_ok-owners.owners in
    subst (All (λ c. c ≤ 8192)) (sym (ap capacities_of (full o.len o.items c.rows.new.owners o.ok.0 (c.rows.ensures.same ∙ c.as_mut_slice.ensures.value)) ∙ c.in_ok-owners.ensures.0)) c.requires.capacities

pub hands_of-requires-clause-owners : goal.hands_of-requires-clause-owners
hands_of-requires-clause-owners g c =
    let o = c.in_ok-owners.owners in
    subst (AreNewEnds c.args.key.now.value true) (sym (full o.len o.items c.rows.new.owners o.ok.0 (c.rows.ensures.same ∙ c.as_mut_slice.ensures.value))) c.in_ok-owners.ensures.1

pub hands_of-requires-clause-rows : goal.hands_of-requires-clause-rows
hands_of-requires-clause-rows g c =
    let o = c.in_ok-owners.owners in
    let is : c.as_mut_slice.result.now ≡ take o.len (c.rows.new.owners ++ drop (length c.rows.new.owners) o.items) =
    c.as_mut_slice.ensures.value ∙ sym (full o.len o.items c.rows.new.owners o.ok.0 (c.rows.ensures.same ∙ c.as_mut_slice.ensures.value)) in
    λ i v at. c.in_ok-rows.ensures.rows.1 i v at ∙ ap (map as_guest) is

pub returns : goal.returns
returns g c =
    let o = c.in_ok-owners.owners in
    let are : capacities_of (take o.len (c.rows.new.owners ++ drop (length c.rows.new.owners) o.items)) ≡ c.args.capacities.now =
    ap capacities_of (full o.len o.items c.rows.new.owners o.ok.0 (c.rows.ensures.same ∙ c.as_mut_slice.ensures.value)) ∙ c.in_ok-owners.ensures.0 in
    subst (λ l. IfOk c.hands_of.result (λ v. AreNewHands c.args.key.now.value l v.items)) are c.hands_of.ensures
