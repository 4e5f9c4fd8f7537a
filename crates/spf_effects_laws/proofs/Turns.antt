-- The turns of loops, and the stores that each of them makes.
use Rattle.std.proofs.Common.{◌≡◌, ◌⊎◌, inl, inr, ℕ, zero, suc, Bool, true, false, List, [], ◌∷◌, ℤ, pos, negsuc, refl, subst, arith}
use Rattle.std.specs.Prelude.{◌+ℤ◌, ◌-ℤ◌, ◌≤ℤ◌, ◌<ℤ◌, if◌then◌else◌, ◌&&◌, slice_set, int_lt}
use Rattle.std.specs.Ordering.{int_eq}
use Rattle.std.specs.Int.{int_gap}
use Rattle.std.proofs.lemmas.Int.{ints}
use Rattle.std.proofs.lemmas.Bool.Decides.{Decides-int_eq}
use Rattle.spf_ast.specs.Interaction.{Flow, Onward, Broken, State, Meaning, unless_ended}
use Rattle.spf_ast.specs.Meaning.{Extent, for_turns}
use Rattle.spf_region.specs.declared.bound.Bound.{Bound}
use Rattle.spf_region.specs.declared.bound.Bound.TheVariants.{Known, Unknown}
use Rattle.spf_region.specs.declared.range.Range.TheVariants.{Affine}
use Rattle.spf_region.specs.Bounds.{is_small, kept}
use Rattle.spf_region.specs.Ranges.{Offsets, joined}
use Rattle.spf_region.specs.Cells.{at_block}
use Rattle.spf_region.proofs.Bools.{and-left, and-right, int-le-is}
use Rattle.spf_effects_findings.specs.Found.{Finds, perhaps, Sweep, turn_bound, has_no_turn, sweep_joined, sweeps_joined, swept}
use Rattle.spf_effects_laws.proofs.Ways.{Grows}
use Rattle.spf_effects_laws.proofs.Meeting.{IsWithin, AreStored, Meets, AreSwept}
use Rattle.spf_effects_laws.proofs.Meets.{meets-post, meets-perhaps-nothing, meets-value, meets-again, meets-turn}
use Rattle.spf_effects_laws.proofs.Leaves.{ByFlow}
use Rattle.spf_effects_laws.proofs.Within.{kept-within}
use Rattle.spf_effects_laws.proofs.Stores.{stored-joined}

-- how a turn is left: it keeps what holds between turns, and brings what its number promises, or what any number does where it broke off
abbrev pub TurnEnds : (between : State → Type 0) (brings : ℤ → List ℕ → Type 0) → ℤ → Flow → State → List ℕ → Type 0
TurnEnds between brings z = ByFlow (λ e d. between e × brings z d) (λ e d. between e × ((y : ℤ) (d' : List ℕ) → brings y d'))

-- n turns from i upward, of which each is left so
pub turns-meet : (g : List Extent) (k : ℤ) (f : Finds) (x : ℕ) (body : Meaning Flow) (between : State → Type 0) (brings : ℤ → List ℕ → Type 0) → ((z : ℤ) (d e : List ℕ) → Grows d e → brings z d → brings z e) → (n : ℕ) (i : ℤ) → ((z : ℤ) (s : State) → i ≤ℤ z → z <ℤ (i +ℤ pos n) → between s → Meets g k (perhaps f) (TurnEnds between brings z) (body (record s { slots = slice_set s.slots x z }))) → (s : State) → between s → Meets g k (perhaps f) (λ u e d. between e × ((z : ℤ) → i ≤ℤ z → z <ℤ (i +ℤ pos n) → brings z d)) (for_turns n i x body s)
turns-meet g k f x body between brings grow zero i one s p =
    meets-perhaps-nothing f (meets-value (λ d. (p, λ z low high. absurd (omega (arith, ints)))))
turns-meet g k f x body between brings grow (suc n) i one s p =
    meets-turn (meets-again f (one i s (omega (arith, ints)) (omega (arith, ints)) p)
    (after (turns-meet g k f x body between brings grow n (i +ℤ pos 1) (λ z s' low high q. one z s' (omega (arith, ints)) (omega (arith, ints)) q))))
  where
    lowest : (z : ℤ) → i ≤ℤ z → (i ≡ z) ⊎ ((i +ℤ pos 1) ≤ℤ z)
    lowest z low = grind (arith, ints)

    earlier : (d' : List ℕ) (z : ℤ) → brings i d' → ((y : ℤ) → (i +ℤ pos 1) ≤ℤ y → y <ℤ ((i +ℤ pos 1) +ℤ pos n) → brings y d') → (i ≡ z) ⊎ ((i +ℤ pos 1) ≤ℤ z) → z <ℤ (i +ℤ pos (suc n)) → brings z d'
    earlier d' z first rest (inl e) high = subst (λ y. brings y d') e first
    earlier d' z first rest (inr le) high = rest z le (omega (arith, ints))

    after : ((e : State) → between e → Meets g k (perhaps f) (λ u e' d. between e' × ((z : ℤ) → (i +ℤ pos 1) ≤ℤ z → z <ℤ ((i +ℤ pos 1) +ℤ pos n) → brings z d)) (for_turns n (i +ℤ pos 1) x body e)) → (flow : Flow) (e : State) (d : List ℕ) → TurnEnds between brings i flow e d → Meets g k (perhaps f) (λ u e' d'. Grows d d' → between e' × ((z : ℤ) → i ≤ℤ z → z <ℤ (i +ℤ pos (suc n)) → brings z d')) (unless_ended (for_turns n (i +ℤ pos 1) x body) flow e)
    after others Onward e d h =
        meets-post (λ u e' d' r grows. (r.0, λ z low high. earlier d' z (grow i d d' grows h.1) r.1 (lowest z low) high)) (others e h.0)
    after others Broken e d h = meets-perhaps-nothing f (meets-value (λ d' grows. (h.0, λ z low high. h.1 z d')))

-- how far one number is above another
pub far : (x y : ℤ) → x ≤ℤ y → (j : ℕ) × (y ≡ x +ℤ pos j) × (int_gap x y ≡ j)
far (pos a) (pos b) h = (int_gap (pos a) (pos b), omega (arith, ints), refl)
far (pos a) (negsuc b) h = absurd (omega (arith, ints))
far (negsuc a) (pos b) h = (int_gap (negsuc a) (pos b), omega (arith, ints), refl)
far (negsuc a) (negsuc b) h = (int_gap (negsuc a) (negsuc b), omega (arith, ints), refl)

-- no number lies from one up to a lower one
no-gap : (x y : ℤ) → y ≤ℤ x → int_gap x y ≡ 0
no-gap (pos a) (pos b) h = omega (arith, ints)
no-gap (pos a) (negsuc b) h = refl
no-gap (negsuc a) (pos b) h = absurd (omega (arith, ints))
no-gap (negsuc a) (negsuc b) h = omega (arith, ints)

le-cases : (x y : ℤ) → (x ≤ℤ y) ⊎ (y ≤ℤ x)
le-cases x y = grind (arith, ints)

-- a turn's number is below the loop's end
pub below-end : (i j z : ℤ) → i ≤ℤ z → z <ℤ (i +ℤ pos (int_gap i j)) → (z +ℤ pos 1) ≤ℤ j
below-end i j z low high = go (le-cases i j)
  where
    go : (i ≤ℤ j) ⊎ (j ≤ℤ i) → (z +ℤ pos 1) ≤ℤ j
    go (inl le) = let f = far i j le in omega (arith, ints, f.1, f.2)
    go (inr le) = let e = no-gap i j le in absurd (omega (arith, ints))

pub turn-within : (k : ℤ) (b c : Bound) (i j z : ℤ) → IsWithin k b i → IsWithin k c j → i ≤ℤ z → (z +ℤ pos 1) ≤ℤ j → IsWithin k (turn_bound b c) z
turn-within k Unknown c i j z p q low high = tt
turn-within k (Known f l h) Unknown i j z p q low high = tt
turn-within k (Known f l h) (Known f' m t) i j z p q low high = go (int_eq f f') refl
  where
    go : (b : Bool) → int_eq f f' ≡ b → IsWithin k (if b then kept f l (t -ℤ pos 1) else Unknown) z
    go false e = tt
    go true e =
        let ff : f ≡ f' = (Decides-int_eq f f').0 e in
        let q' : j ≤ℤ at_block k f t = rw ff q.1 in
        kept-within k f l (t -ℤ pos 1) z (omega (arith, ints, p.0), omega (arith, ints))

pub never-turns : (k : ℤ) (b c : Bound) (i j : ℤ) → IsWithin k b i → IsWithin k c j → has_no_turn b c ≡ true → int_gap i j ≡ 0
never-turns k Unknown c i j p q e = cc
never-turns k (Known f l h) Unknown i j p q e = cc
never-turns k (Known f l h) (Known f' m t) i j p q e =
    let ff : f ≡ f' = (Decides-int_eq f f').0 (and-left _ _ e) in
    let q' : j ≤ℤ at_block k f t = rw ff q.1 in
    let below : t ≤ℤ l = int-le-is t l (and-right (int_eq f f') _ e) in
    no-gap i j (omega (arith, ints, p.0))

-- ---- sweeps

swept-each : (g : List Extent) (k f l m : ℤ) (sweeps : List Sweep) (w : Offsets) (d : List ℕ) → ((z : ℤ) → at_block k f l ≤ℤ z → (z +ℤ pos 1) ≤ℤ at_block k f m → AreSwept g sweeps z d) → AreStored g k w d → AreStored g k (sweeps_joined f l (m -ℤ pos 1) sweeps w) d
swept-each g k f l m [] w d all stored = stored
swept-each g k f l m (s ∷ rest) w d all stored =
    swept-each g k f l m rest (sweep_joined f l (m -ℤ pos 1) s w) d (λ z low high. (all z low high).1) (go (is_small (l +ℤ s.distance) && is_small ((m -ℤ pos 1) +ℤ s.distance)))
  where
    go : (b : Bool) → AreStored g k (if b then joined (Affine s.array f (l +ℤ s.distance) ((m -ℤ pos 1) +ℤ s.distance)) w else w) d
    go false = stored
    go true =
        stored-joined g k s.array f (l +ℤ s.distance) ((m -ℤ pos 1) +ℤ s.distance) w d
        (λ o cell index low high el spot.
        let z = pos index -ℤ s.distance in
        (all z (omega (arith, ints)) (omega (arith, ints))).0 cell index el (omega (arith, ints)))
        stored

pub swept-stored : (g : List Extent) (k : ℤ) (b c : Bound) (i j : ℤ) (sweeps : List Sweep) (w : Offsets) (d : List ℕ) → IsWithin k b i → IsWithin k c j → ((z : ℤ) → i ≤ℤ z → (z +ℤ pos 1) ≤ℤ j → AreSwept g sweeps z d) → AreStored g k w d → AreStored g k (swept b c sweeps w) d
swept-stored g k Unknown c i j sweeps w d p q all stored = stored
swept-stored g k (Known f l h) Unknown i j sweeps w d p q all stored = stored
swept-stored g k (Known f l h) (Known f' m t) i j sweeps w d p q all stored = go (int_eq f f' && (int_eq l h && (int_eq m t && int_lt l m))) refl
  where
    go : (b : Bool) → (int_eq f f' && (int_eq l h && (int_eq m t && int_lt l m))) ≡ b → AreStored g k (if b then sweeps_joined f l (m -ℤ pos 1) sweeps w else w) d
    go false e = stored
    go true e =
        let ff : f ≡ f' = (Decides-int_eq f f').0 (and-left _ _ e) in
        let e1 = and-right (int_eq f f') _ e in
        let lh : l ≡ h = (Decides-int_eq l h).0 (and-left _ _ e1) in
        let e2 = and-right (int_eq l h) _ e1 in
        let mt : m ≡ t = (Decides-int_eq m t).0 (and-left _ _ e2) in
        let q0 : at_block k f m ≤ℤ j = rw ff q.0 in
        swept-each g k f l m sweeps w d (λ z low high. all z (omega (arith, ints, p.1)) (omega (arith, ints))) stored

pub swept-grows : (g : List Extent) (sweeps : List Sweep) (z : ℤ) (d e : List ℕ) → Grows d e → AreSwept g sweeps z d → AreSwept g sweeps z e
swept-grows g [] z d e grows p = tt
swept-grows g (s ∷ rest) z d e grows p = ((λ cell index el spot. grows cell (p.0 cell index el spot)), swept-grows g rest z d e grows p.1)
