use Rattle.std.proofs.Common.{◌≡◌, ℕ, Bool, false, ℤ, refl, sym, subst, ◌∙◌, rules, w64, FitsSigned}
use Rattle.std.specs.Prelude.{◌+ℤ◌, ◌&&◌, Option, Some, None, if◌then◌else◌, OnOk}
use Rattle.std.specs.Int.{w128}
use Rattle.std.proofs.lemmas.Int.{to_z-of_z}
use Rattle.spf_region.specs.Bounds.{is_small}
use Rattle.spf_region.specs.Ranges.{Offsets, joined}
use Rattle.spf_region.specs.declared.range.Range.TheVariants.{Affine}
use Rattle.spf_effects_findings.specs.Extends.{Lists, IsSwept}
use Rattle.spf_effects_findings.specs.Found.{sweep_joined}
use Rattle.spf_effects_findings.proofs.Between.{none_there, some_there}
use Rattle.spf_effects_walk.proofs.Sweeping.{not_swept}
use Rattle.spf_effects_walk.proofs.sweeps.sweep_one.Goals as goal

-- the number, where it is small
abbrev when_small : ℤ → Option ℤ
when_small n = if is_small n then Some n else None

-- both offsets are small
kept : (array : ℕ) (f a b d from to : ℤ) → Some from ≡ when_small (a +ℤ d) → Some to ≡ when_small (b +ℤ d) → (w : Offsets) → joined (Affine array f from to) w ≡ sweep_joined f a b (record { array = array; distance = d }) w
kept array f a b d from to p q w =
    let s = some_there (is_small (a +ℤ d)) (a +ℤ d) from (sym p) in
    let t = some_there (is_small (b +ℤ d)) (b +ℤ d) to (sym q) in
    rw (s.0, t.0, s.1, t.1) refl

-- one of them isn't
lost : (array : ℕ) (f a b d : ℤ) (lists : Lists) → (is_small (a +ℤ d) && is_small (b +ℤ d)) ≡ false → IsSwept (sweep_joined f a b (record { array = array; distance = d })) lists lists
lost array f a b d lists e =
    subst (λ (t : Bool). IsSwept (λ w. if t then joined (Affine array f (a +ℤ d) (b +ℤ d)) w else w) lists lists) (sym e) (not_swept lists)

lost_first : (array : ℕ) (f a b d : ℤ) (lists : Lists) → None ≡ when_small (a +ℤ d) → IsSwept (sweep_joined f a b (record { array = array; distance = d })) lists lists
lost_first array f a b d lists p =
    lost array f a b d lists (rw (none_there (is_small (a +ℤ d)) (a +ℤ d) (sym p)) refl)

lost_last : (array : ℕ) (f a b d from : ℤ) (lists : Lists) → Some from ≡ when_small (a +ℤ d) → None ≡ when_small (b +ℤ d) → IsSwept (sweep_joined f a b (record { array = array; distance = d })) lists lists
lost_last array f a b d from lists p q =
    lost array f a b d lists (rw ((some_there (is_small (a +ℤ d)) (a +ℤ d) from (sym p)).0, none_there (is_small (b +ℤ d)) (b +ℤ d) (sym q)) refl)

pub returns-in-Some-Some : goal.returns-in-Some-Some
returns-in-Some-Some c =
    let t = c.args.turns in
    let f : FitsSigned w64 t.factor = search rules in
    let a : FitsSigned w64 t.first = search rules in
    let b : FitsSigned w64 t.last = search rules in
    let l : FitsSigned w64 c.in-Some-Some.from = search rules in
    let m : FitsSigned w64 c.in-Some-Some.to = search rules in
    let first = rw (to_z-of_z w64 t.first a, to_z-of_z w128 c.args.distance c.ranges.distance) at (c.in-Some-Some.ensures {u = tt}) in
    let last = rw (to_z-of_z w64 t.last b, to_z-of_z w128 c.args.distance c.ranges.distance) at (c.in-Some-Some.ensures' {u = tt}) in
    subst (λ more. OnOk c.surely_write.result (IsSwept more c.args.found.now c.surely_write.new.self))
    (λ i w. kept c.args.array t.factor t.first t.last c.args.distance c.in-Some-Some.from c.in-Some-Some.to first last w i)
    (rw (to_z-of_z w64 t.factor f, to_z-of_z w64 c.in-Some-Some.from l, to_z-of_z w64 c.in-Some-Some.to m) at c.surely_write.ensures)

pub returns-in_default : goal.returns-in_default
returns-in_default c =
    let t = c.args.turns in
    let a : FitsSigned w64 t.first = search rules in
    let b : FitsSigned w64 t.last = search rules in
    let first = rw (to_z-of_z w64 t.first a, to_z-of_z w128 c.args.distance c.ranges.distance) at (c.in_default.ensures {u = tt}) in
    let last = rw (to_z-of_z w64 t.last b, to_z-of_z w128 c.args.distance c.ranges.distance) at (c.in_default.ensures' {u = tt}) in
    lost_last c.args.array t.factor t.first t.last c.args.distance c.in_default.field-0-0 c.args.found.now first last

pub returns-in_default-2 : goal.returns-in_default-2
returns-in_default-2 c =
    let t = c.args.turns in
    let a : FitsSigned w64 t.first = search rules in
    let first = rw (to_z-of_z w64 t.first a, to_z-of_z w128 c.args.distance c.ranges.distance) at (sym c.in_default.is-0 ∙ c.small_sum.ensures) in
    lost_first c.args.array t.factor t.first t.last c.args.distance c.args.found.now first
