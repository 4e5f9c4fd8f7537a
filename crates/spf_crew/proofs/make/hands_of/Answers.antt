use Rattle.std.proofs.Common.{rules, ◌≡◌, ℕ, ◌<◌, ◌≤◌, ◌∙◌, List, length, set, replicate, sym, ap, subst, arith}
use Rattle.std.specs.Prelude.{IfOk}
use Rattle.std.specs.List.{All}
use Rattle.spf_pool.specs.Made.{AreNewHands}
use Rattle.spf_crew.specs.declared.view.CrewSetting.{CrewSetting}
use Rattle.spf_crew.specs.Crews.{capacities_for}
use Rattle.spf_crew.proofs.Crews.{capacities-count, capacities-low}
use Rattle.spf_crew.proofs.make.hands_of.Goals as goal

-- the list that was filled is the one of the definition
filled : (workers capacity : ℕ) (zeros all : List ℕ) → zeros ≡ replicate workers 0 → all ≡ set zeros 0 capacity → all ≡ capacities_for workers capacity
filled workers capacity zeros all are is = is ∙ ap (λ l. set l 0 capacity) are

-- there is one for each worker
sized : (workers capacity : ℕ) (all : List ℕ) → (0 < workers) × (workers ≤ 64) → all ≡ capacities_for workers capacity → (0 < length all) × (length all ≤ 64)
sized workers capacity all few is =
    let n = ap length is ∙ capacities-count workers capacity in
    let low = few.0 in
    let high = few.1 in
    (omega (arith, n, low), omega (arith, n, high))

pub make-requires-clause-workers : goal.make-requires-clause-workers
make-requires-clause-workers c =
    let zeros : c.in_ok-capacities.capacities.items ≡ replicate c.args.workers 0 = search rules in
    sized c.args.workers c.args.capacity c.as_slice.result.now c.requires.workers (filled c.args.workers c.args.capacity c.in_ok-capacities.capacities.items c.as_slice.result.now zeros c.as_slice.ensures.value)

pub make-requires-clause-capacities : goal.make-requires-clause-capacities
make-requires-clause-capacities c =
    let zeros : c.in_ok-capacities.capacities.items ≡ replicate c.args.workers 0 = search rules in
    subst (All (λ n. n ≤ 8192)) (sym (filled c.args.workers c.args.capacity c.in_ok-capacities.capacities.items c.as_slice.result.now zeros c.as_slice.ensures.value)) (capacities-low c.args.workers c.args.capacity c.requires.capacity)

pub returns : goal.returns
returns c =
    let zeros : c.in_ok-capacities.capacities.items ≡ replicate c.args.workers 0 = search rules in
    let are = filled c.args.workers c.args.capacity c.in_ok-capacities.capacities.items c.as_slice.result.now zeros c.as_slice.ensures.value in
    subst (λ (x : CrewSetting × List ℕ). IfOk c.make.result (λ v. AreNewHands x.0 x.1 v.items)) (λ t. (c.key_of-key.ensures t, are t)) c.make.ensures.made
