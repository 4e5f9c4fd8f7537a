-- Loops do no more than is found in them, where their bodies do.
use Rattle.std.proofs.Common.{◌≡◌, inl, ℕ, zero, suc, ◌<◌, ◌≤◌, Bool, true, false, List, [], ◌∷◌, ◌++◌, length, ℤ, pos, ◌∙◌, subst, arith}
use Rattle.std.specs.Prelude.{◌+ℤ◌, ◌≤ℤ◌, ◌<ℤ◌, if◌then◌else◌, slice_index_or, slice_set}
use Rattle.std.specs.Int.{int_gap}
use Rattle.std.proofs.lemmas.Int.{ints}
use Rattle.std.specs.List.{Contains}
use Rattle.std.proofs.lemmas.List.{get_or-set_same, length-set}
use Rattle.std.proofs.lemmas.List.Elements.{Contains-append_right}
use Rattle.spf_ast.specs.Carried.{Carried, with_carried}
use Rattle.spf_ast.specs.declared.outcome.TrapKind.TheVariants as trap
use Rattle.spf_ast.specs.Interaction.{Flow, Onward, Broken, State, Ending, Value, Trapped, Meaning, after_ending, unless_ended, ◌>>=◌, ◌>>◌}
use Rattle.spf_ast.specs.Meaning.{Extent, traps, while_turns, for_turns, fold_blocks}
use Rattle.spf_ast.specs.Meaning as means
use Rattle.spf_region.specs.declared.bound.Bound.{Bound}
use Rattle.spf_region.specs.declared.bound.Bound.TheVariants.{Unknown}
use Rattle.spf_region.specs.Ranges.{Offsets}
use Rattle.spf_effects_findings.specs.Found.{Finds, ◌then◌, finds_nothing, perhaps, Sweep, turn_bound, has_no_turn, swept, turns}
use Rattle.spf_effects_findings.specs.Forms.{Setting, declared}
use Rattle.spf_effects_laws.specs.Ways.{Keeps}
use Rattle.spf_effects_laws.proofs.Ways.{in-rest, Grows, keeps-bind, keeps-mono}
use Rattle.spf_effects_laws.proofs.Meeting.{IsWithin, bound_at, IsAmong, AreStored, EndsWith, Meets, AreWithin, AreSwept}
use Rattle.spf_effects_laws.proofs.Meets.{among-left, among-right, meets-if, writing, meets-writing, meets-post, meets-perhaps, meets-perhaps-nothing, meets-value, meets-again, meets-turn}
use Rattle.spf_effects_laws.proofs.Leaves.{ByFlow, by-flow}
use Rattle.spf_effects_laws.proofs.Slots.{IsScope, IsSame, keep-len, within-row, same-row, within-declared, within-back, same-refl, same-trans, same-set, declared-other}
use Rattle.spf_effects_laws.proofs.Stores.{stored-grows}
use Rattle.spf_effects_laws.proofs.Turns.{far, TurnEnds, turns-meet, below-end, turn-within, never-turns, swept-stored, swept-grows}

-- ---- the turns of a `for`

-- between turns: the bounds before the loop, and the slots before it
abbrev pub Between : Setting → ℤ → List ℕ → ℕ → List Bound → State → State → Type 0
Between v k fixed n env s e = AreWithin k env e.slots × IsSame v fixed n s.slots e.slots

-- where a loop stands that goes from i up to j, with bounds b and c: its name's slot is after the n slots before it and below m, and all are there
pub record StandsAt (v : Setting) (k : ℤ) (n m size x : ℕ) (env : List Bound) (b c : Bound) (i j : ℤ) (s : State) : Type 0 where
  pub scope : IsScope v n env
  pub behind : n ≤ x
  pub before : x < m
  pub fits : m ≤ size
  pub there : size ≤ length s.slots
  pub within : AreWithin k env s.slots
  pub low : IsWithin k b i
  pub high : IsWithin k c j

-- how a body is left that stands between m slots: it sets no spared one, and brings the sweeps of its number, or those of any where it broke off
abbrev pub BodyEnds : List Extent → Setting → List ℕ → ℕ → ℕ → List Sweep → State → Flow → State → List ℕ → Type 0
BodyEnds g v fixed m x sweeps t =
    ByFlow (λ e d. IsSame v (x ∷ fixed) m t.slots e.slots × AreSwept g sweeps (slice_index_or t.slots x (pos 0)) d)
    (λ e d. IsSame v (x ∷ fixed) m t.slots e.slots × ((y : ℤ) (d' : List ℕ) → AreSwept g sweeps y d'))

-- each turn is left so
abbrev pub TurnMeets : List Extent → Setting → ℤ → List ℕ → ℕ → ℕ → ℕ → List Bound → List Sweep → Finds → Meaning Flow → Type 0
TurnMeets g v k fixed m size x inside sweeps f body =
    (t : State) → size ≤ length t.slots → AreWithin k inside t.slots → Meets g k (perhaps f) (BodyEnds g v fixed m x sweeps t) (body t)

pub for-meets : (g : List Extent) (v : Setting) (k : ℤ) (fixed : List ℕ) (n m size x : ℕ) (env : List Bound) (b c : Bound) (i j : ℤ) (sweeps : List Sweep) (f : Finds) (body : Meaning Flow) (s : State) → StandsAt v k n m size x env b c i j s → TurnMeets g v k fixed m size x (declared v x (turn_bound b c) env) sweeps f body → Meets g k (turns b c sweeps f) (λ u e d. Between v k fixed n env s e) (for_turns (int_gap i j) i x body s)
for-meets g v k fixed n m size x env b c i j sweeps f body s at one =
    meets-if (has_no_turn b c) none some
  where
    turn : (z : ℤ) (t : State) → i ≤ℤ z → z <ℤ (i +ℤ pos (int_gap i j)) → Between v k fixed n env s t → Meets g k (perhaps f) (TurnEnds (Between v k fixed n env s) (AreSwept g sweeps) z) (body (record t { slots = slice_set t.slots x z }))
    turn z t low high q =
        let inside : x < length t.slots = omega (arith, q.1.size, at.before, at.fits, at.there) in
        let len' : size ≤ length (slice_set t.slots x z) = keep-len (length-set t.slots x z ∙ q.1.size) at.there in
        let bound = turn-within k b c i j z at.low at.high low (below-end i j z low high) in
        let within = within-declared v k n env t.slots x (turn_bound b c) z at.scope inside q.0 bound in
        let here : slice_index_or (slice_set t.slots x z) x (pos 0) ≡ z = get_or-set_same t.slots x z (pos 0) inside in
        let before : IsSame v fixed n s.slots (slice_set t.slots x z) = same-set v fixed n s.slots t.slots x z q.1 (inl at.behind) in
        meets-post
        (by-flow
        (λ e d h. (kept (slice_set t.slots x z) e before h.0, subst (λ y. AreSwept g sweeps y d) here h.1))
        (λ e d h. (kept (slice_set t.slots x z) e before h.0, h.1)))
        (one (record t { slots = slice_set t.slots x z }) len' within)
      where
        kept : (mid : List ℤ) (e : State) → IsSame v fixed n s.slots mid → IsSame v (x ∷ fixed) m mid e.slots → Between v k fixed n env s e
        kept mid e before h =
            let same : IsSame v fixed n s.slots e.slots = same-trans v fixed (x ∷ fixed) n m s.slots mid e.slots (omega (arith, at.behind, at.before)) (λ y r. in-rest y x fixed r) before h in
            (within-back v fixed k n env s.slots e.slots at.scope at.within same, same)

    below-turns : (z : ℤ) → i ≤ℤ z → (z +ℤ pos 1) ≤ℤ j → z <ℤ (i +ℤ pos (int_gap i j))
    below-turns z low high = let h = far i j (omega (arith, ints)) in omega (arith, ints, h.1, h.2)

    none : has_no_turn b c ≡ true → Meets g k finds_nothing (λ u e d. Between v k fixed n env s e) (for_turns (int_gap i j) i x body s)
    none e = rw (never-turns k b c i j at.low at.high e) (meets-value (λ d. (at.within, same-refl v fixed n s.slots)))

    some : has_no_turn b c ≡ false → Meets g k (writing (swept b c sweeps) f) (λ u e d. Between v k fixed n env s e) (for_turns (int_gap i j) i x body s)
    some e =
        meets-writing (swept b c sweeps) f
        (λ w u e' d stored h. (swept-stored g k b c i j sweeps w d at.low at.high (λ z low high. h.1 z low (below-turns z low high)) stored, h.0))
        (turns-meet g k f x body (Between v k fixed n env s) (AreSwept g sweeps) (swept-grows g sweeps) (int_gap i j) i turn s (at.within, same-refl v fixed n s.slots))

-- ---- the turns of a `while`

pub while-meets : (g : List Extent) (k : ℤ) (c b : Finds) (line : ℕ) (test : Meaning Bool) (body : Meaning Flow) (between : State → Type 0) → ((s : State) → between s → Meets g k c (λ t e d. between e) (test s)) → ((s : State) → between s → Meets g k (perhaps b) (λ u e d. between e) (body s)) → (n : ℕ) (s : State) → between s → Meets g k (c then perhaps b) (λ u e d. between e) (while_turns line n test body s)
while-meets g k c b line test body between one two n s p = record { holds = λ w done stored. round w n s done stored p }
  where
    may : Offsets → ℕ → Type 0
    may w = IsAmong g k ((c w).may ++ (b (c w).written).may)

    bare : Offsets → ℕ → Type 0
    bare w = IsAmong g k ((c w).uncovered ++ (b (c w).written).uncovered)

    ends : Offsets → Ending Flow → List ℕ → Type 0
    ends w = EndsWith g k (c w).written (λ u e d. between e)

    tested : (w : Offsets) (s : State) (done : List ℕ) → AreStored g k w done → between s → Keeps (may w) (bare w) (EndsWith g k (c w).written (λ t e d. between e × AreStored g k w d)) done (test s)
    tested w s done stored p =
        keeps-mono (IsAmong g k (c w).may) (IsAmong g k (c w).uncovered) (may w) (bare w) (EndsWith g k (c w).written (λ t e d. between e)) (EndsWith g k (c w).written (λ t e d. between e × AreStored g k w d)) done (among-left g k (c w).may (b (c w).written).may) (among-left g k (c w).uncovered (b (c w).written).uncovered) ending (test s) done (λ x i. i) ((one s p).holds w done stored)
      where
        ending : (e : Ending Bool) (d : List ℕ) → Grows done d → EndsWith g k (c w).written (λ t e d. between e) e d → EndsWith g k (c w).written (λ t e d. between e × AreStored g k w d) e d
        ending (Value t e) d grows h = (h.0, (h.1, stored-grows g k w done d grows stored))
        ending (Trapped t out) d grows h = tt

    -- after the body, what the condition surely wrote is still stored
    after_body : Offsets → Ending Flow → List ℕ → Type 0
    after_body w = EndsWith g k w (λ u e d. between e × AreStored g k (c w).written d)

    turned : (w : Offsets) (s : State) (done : List ℕ) → AreStored g k w done → AreStored g k (c w).written done → between s → Keeps (may w) (bare w) (after_body w) done (body s)
    turned w s done stored more p =
        keeps-mono (IsAmong g k (b (c w).written).may) (IsAmong g k (b (c w).written).uncovered) (may w) (bare w) (EndsWith g k (c w).written (λ t e d. between e)) (after_body w) done (among-right g k (c w).may (b (c w).written).may) (among-right g k (c w).uncovered (b (c w).written).uncovered) ending (body s) done (λ x i. i) ((two s p).holds (c w).written done more)
      where
        ending : (e : Ending Flow) (d : List ℕ) → Grows done d → EndsWith g k (c w).written (λ t e d. between e) e d → after_body w e d
        ending (Value t e) d grows h = (stored-grows g k w done d grows stored, (h.1, h.0))
        ending (Trapped t out) d grows h = tt

    resumed : (w : Offsets) (rest : Meaning Flow) → ((e : State) (d : List ℕ) → AreStored g k w d → between e → Keeps (may w) (bare w) (ends w) d (rest e)) → (e : Ending Flow) (d : List ℕ) → after_body w e d → Keeps (may w) (bare w) (ends w) d (after_ending (unless_ended rest) e)
    resumed w rest more (Value Onward e) d h = more e d h.0 h.1.0
    resumed w rest more (Value Broken e) d h = (h.1.1, h.1.0)
    resumed w rest more (Trapped t out) d h = tt

    after_test : (w : Offsets) (rest : Meaning Flow) → ((e : State) (d : List ℕ) → AreStored g k w d → between e → Keeps (may w) (bare w) (ends w) d (rest e)) → (e : Ending Bool) (d : List ℕ) → EndsWith g k (c w).written (λ t e d. between e × AreStored g k w d) e d → Keeps (may w) (bare w) (ends w) d (after_ending (λ goes_on. if goes_on then (means.turns >> (body >>= unless_ended rest)) else means.done) e)
    after_test w rest more (Value true e) d h =
        keeps-bind (may w) (bare w) (after_body w) (ends w) (after_ending (unless_ended rest)) (resumed w rest more) (body e) d (turned w e d h.1.1 h.0 h.1.0)
    after_test w rest more (Value false e) d h = (h.0, h.1.0)
    after_test w rest more (Trapped t out) d h = tt

    last_test : (w : Offsets) (e : Ending Bool) (d : List ℕ) → EndsWith g k (c w).written (λ t e d. between e × AreStored g k w d) e d → Keeps (may w) (bare w) (ends w) d (after_ending (λ goes_on. if goes_on then traps trap.Turns line else means.done) e)
    last_test w (Value true e) d h = tt
    last_test w (Value false e) d h = (h.0, h.1.0)
    last_test w (Trapped t out) d h = tt

    round : (w : Offsets) (n : ℕ) (s : State) (done : List ℕ) → AreStored g k w done → between s → Keeps (may w) (bare w) (ends w) done (while_turns line n test body s)
    round w zero s ds stored p =
        keeps-bind (may w) (bare w) (EndsWith g k (c w).written (λ t e d. between e × AreStored g k w d)) (ends w) (after_ending (λ goes_on. if goes_on then traps trap.Turns line else means.done)) (last_test w) (test s) ds (tested w s ds stored p)
    round w (suc n) s ds stored p =
        keeps-bind (may w) (bare w) (EndsWith g k (c w).written (λ t e d. between e × AreStored g k w d)) (ends w) (after_ending (λ goes_on. if goes_on then (means.turns >> (body >>= unless_ended (while_turns line n test body))) else means.done)) (after_test w (while_turns line n test body) (λ e d st q. round w n e d st q)) (test s) ds (tested w s ds stored p)

-- ---- the blocks of a fold

blocks-turn : (g : List Extent) (k : ℤ) (f : Finds) (block : ℕ) (carried : List ℕ) (body : Meaning Carried) (between : State → Type 0) → (n : ℕ) (i : ℤ) → ((z : ℤ) (row : Carried) (s : State) → i ≤ℤ z → z <ℤ (i +ℤ pos n) → between s → Meets g k (perhaps f) (λ y e d. between e) (body (record s { slots = with_carried carried row (slice_set s.slots block z) }))) → (row : Carried) (s : State) → between s → Meets g k (perhaps f) (λ y e d. between e) (fold_blocks n i block carried row body s)
blocks-turn g k f block carried body between zero i one row s p = meets-perhaps-nothing f (meets-value (λ d. p))
blocks-turn g k f block carried body between (suc n) i one row s p =
    meets-turn (meets-again f (one i row s (omega (arith, ints)) (omega (arith, ints)) p)
    (λ y e d h. meets-post (λ y' e' d' r grows. r)
    (blocks-turn g k f block carried body between n (i +ℤ pos 1) (λ z row' s' low high q. one z row' s' (omega (arith, ints)) (omega (arith, ints)) q) y e h)))

-- a block sets no spared slot
abbrev pub BlockTurnMeets : List Extent → Setting → ℤ → List ℕ → ℕ → ℕ → ℕ → List ℕ → List Bound → Finds → Meaning Carried → Type 0
BlockTurnMeets g v k fixed m size block carried inside f body =
    (t : State) → size ≤ length t.slots → AreWithin k inside t.slots
    → Meets g k f (λ y e d. IsSame v (block ∷ carried ++ fixed) m t.slots e.slots) (body t)

pub blocks-meet : (g : List Extent) (v : Setting) (k : ℤ) (fixed : List ℕ) (n m size block : ℕ) (carried : List ℕ) (env : List Bound) (b c : Bound) (i j : ℤ) (row : Carried) (f : Finds) (body : Meaning Carried) (s : State) → StandsAt v k n m size block env b c i j s → ((y : ℕ) → Contains carried y → (n ≤ y) × (y < block)) → BlockTurnMeets g v k fixed m size block carried (declared v block (turn_bound b c) env) f body → Meets g k (turns b c [] f) (λ y e d. Between v k fixed n env s e) (fold_blocks (int_gap i j) i block carried row body s)
blocks-meet g v k fixed n m size block carried env b c i j row f body s at lies one =
    meets-if (has_no_turn b c) none some
  where
    turn : (z : ℤ) (y : Carried) (t : State) → i ≤ℤ z → z <ℤ (i +ℤ pos (int_gap i j)) → Between v k fixed n env s t → Meets g k (perhaps f) (λ y e d. Between v k fixed n env s e) (body (record t { slots = with_carried carried y (slice_set t.slots block z) }))
    turn z y t low high q =
        let inside : block < length t.slots = omega (arith, q.1.size, at.before, at.fits, at.there) in
        let first = slice_set t.slots block z in
        let new = with_carried carried y first in
        let before : IsSame v fixed n s.slots new = same-row v fixed n s.slots first carried y (same-set v fixed n s.slots t.slots block z q.1 (inl at.behind)) (λ x r. (lies x r).0) in
        let len' : size ≤ length new = keep-len before.size at.there in
        let bound = turn-within k b c i j z at.low at.high low (below-end i j z low high) in
        let known = within-declared v k n env t.slots block (turn_bound b c) z at.scope inside q.0 bound in
        let within = within-row k (declared v block (turn_bound b c) env) first carried y known (λ x r. unknown x (lies x r)) in
        meets-perhaps (meets-post
        (λ u e d h.
        let kept : IsSame v fixed n s.slots e.slots = same-trans v fixed (block ∷ carried ++ fixed) n m s.slots new e.slots (omega (arith, at.behind, at.before)) (λ x r. in-rest x block (carried ++ fixed) (Contains-append_right carried fixed x r)) before h in
        (within-back v fixed k n env s.slots e.slots at.scope at.within kept, kept))
        (one (record t { slots = new }) len' within))
      where
        unknown : (x : ℕ) → (n ≤ x) × (x < block) → bound_at (declared v block (turn_bound b c) env) x ≡ Unknown
        unknown x l = declared-other v block x (turn_bound b c) env (λ e. absurd (omega (arith, l.1, e))) ∙ at.scope.fresh x l.0

    none : has_no_turn b c ≡ true → Meets g k finds_nothing (λ y e d. Between v k fixed n env s e) (fold_blocks (int_gap i j) i block carried row body s)
    none e = rw (never-turns k b c i j at.low at.high e) (meets-value (λ d. (at.within, same-refl v fixed n s.slots)))

    some : has_no_turn b c ≡ false → Meets g k (writing (swept b c []) f) (λ y e d. Between v k fixed n env s e) (fold_blocks (int_gap i j) i block carried row body s)
    some e =
        meets-writing (swept b c []) f
        (λ w' u e' d stored h. (swept-stored g k b c i j [] w' d at.low at.high (λ z low high. tt) stored, h))
        (blocks-turn g k f block carried body (Between v k fixed n env s) (int_gap i j) i turn row s (at.within, same-refl v fixed n s.slots))
