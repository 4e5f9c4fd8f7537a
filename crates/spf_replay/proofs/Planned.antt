-- The spans of a plan are the cells of the blocks.
use Rattle.std.proofs.Common.{◌≡◌, ℕ, zero, suc, ◌<◌, Bool, true, false, List, [], ◌∷◌, Some, length, ℤ, refl, sym, ap, ◌∙◌, arith}
use Rattle.std.specs.Prelude.{◌||◌, ◌==◌, if◌then◌else◌, slice_get}
use Rattle.spf_ast_lemmas.proofs.Members.{cases}
use Rattle.spf_ast.specs.Event.{Event, Load, Store, Turn, IsConsistent}
use Rattle.spf_region.specs.declared.span.Span.{Span}
use Rattle.spf_region.specs.Cells.{in_spans}
use Rattle.spf_speculation_entry.specs.Entry.{Entry, own}
use Rattle.spf_speculation.specs.Steps.{Step, events_of, log_of, AreBelow}
use Rattle.spf_speculation.proofs.Within.{AreWithin, AgreeOn, true-or-false, within-consistent}
use Rattle.spf_replay.specs.Copying.{in_plan, HasOwnSpans}

-- a block of a plan, with its spans
record At (blocks : List (List Span)) (cell : ℕ) : Type 0 where
  n : ℕ
  spans : List Span
  at : slice_get blocks n ≡ Some spans
  inside : in_spans spans cell ≡ true

or-else : (a b : Bool) → a ≡ false → (a || b) ≡ true → b ≡ true
or-else true b out h = cc
or-else false b out h = h

or-here : (a b : Bool) → a ≡ true → (a || b) ≡ true
or-here true b h = refl
or-here false b h = cc

or-later : (a b : Bool) → b ≡ true → (a || b) ≡ true
or-later true b h = refl
or-later false b h = h

planned-at : (blocks : List (List Span)) (cell : ℕ) → in_plan blocks cell ≡ true → At blocks cell
planned-at [] cell h = cc
planned-at (s ∷ rest) cell h = cases (true-or-false (in_spans s cell))
    (λ here. record { n = 0; spans = s; at = refl; inside = here })
    (λ out. let later = planned-at rest cell (or-else (in_spans s cell) (in_plan rest cell) out h) in
    record { n = suc later.n; spans = later.spans; at = later.at; inside = later.inside })

at-planned : (blocks : List (List Span)) (n : ℕ) (spans : List Span) (cell : ℕ) → slice_get blocks n ≡ Some spans → in_spans spans cell ≡ true → in_plan blocks cell ≡ true
at-planned [] n spans cell at h = cc
at-planned (s ∷ rest) zero spans cell at h = or-here (in_spans s cell) (in_plan rest cell) (ap (λ l. in_spans l cell) (same-some s spans at) ∙ h)
  where
    same-some : (a b : List Span) → Some a ≡ Some b → a ≡ b
    same-some a b e = cc
at-planned (s ∷ rest) (suc n) spans cell at h = or-later (in_spans s cell) (in_plan rest cell) (at-planned rest n spans cell at h)

-- each block has its spans
spans-at : (blocks : List (List Span)) (n : ℕ) → n < length blocks → (spans : List Span) × (slice_get blocks n ≡ Some spans)
spans-at [] n low = absurd (omega (arith, low))
spans-at (s ∷ rest) zero low = (s, refl)
spans-at (s ∷ rest) (suc n) low = spans-at rest n (omega (arith, low))

below-length : (blocks : List (List Span)) (n : ℕ) (spans : List Span) → slice_get blocks n ≡ Some spans → n < length blocks
below-length [] n spans at = cc
below-length (s ∷ rest) zero spans at = omega arith
below-length (s ∷ rest) (suc n) spans at = let low = below-length rest n spans at in omega (arith, low)

-- a cell of the plan is one of a block's
pub record OfBlock (e : Entry) (cell : ℕ) : Type 0 where
  pub n : ℕ
  pub low : n < e.header.blocks
  pub mine : own e n cell ≡ true

pub planned-own : (e : Entry) (blocks : List (List Span)) (cell : ℕ) → HasOwnSpans e blocks → in_plan blocks cell ≡ true → OfBlock e cell
planned-own e blocks cell plan h =
    let at = planned-at blocks cell h in
    let low = below-length blocks at.n at.spans at.at in
    let size = plan.count in
    record { n = at.n; low = omega (arith, low, size); mine = sym (plan.spans at.n at.spans cell at.at) ∙ at.inside }

-- and the other way round
pub own-planned : (e : Entry) (blocks : List (List Span)) (n cell : ℕ) → HasOwnSpans e blocks → n < e.header.blocks → own e n cell ≡ true → in_plan blocks cell ≡ true
own-planned e blocks n cell plan low mine =
    let size = plan.count in
    let at = spans-at blocks n (omega (arith, low, size)) in
    at-planned blocks n at.0 cell at.1 (plan.spans n at.0 cell at.1 ∙ mine)

-- a cell that isn't in the plan is no block's
pub unplanned : (e : Entry) (blocks : List (List Span)) (n cell : ℕ) → HasOwnSpans e blocks → n < e.header.blocks → in_plan blocks cell ≡ false → own e n cell ≡ false
unplanned e blocks n cell plan low out = cases (true-or-false (own e n cell))
    (λ mine. absurd (never (in_plan blocks cell) (own-planned e blocks n cell plan low mine) out))
    (λ f. f)
  where
    never : (b : Bool) → b ≡ true → b ≡ false → ⊥
    never true h k = cc
    never false h k = cc

-- ---- steps of blocks that keep to their cells

-- what is asked of one event
event-within : (cells : ℕ → Bool) (e : Event) (es : List Event) → AreWithin cells (e ∷ es) → AreWithin cells (e ∷ []) × AreWithin cells es
event-within cells (Load c w) es h = ((h.0, tt), h.1)
event-within cells (Store c w) es h = ((h.0, tt), h.1)
event-within cells (Turn k) es h = (tt, h)

and-within : (cells : ℕ → Bool) (e : Event) (es : List Event) → AreWithin cells (e ∷ []) → AreWithin cells es → AreWithin cells (e ∷ es)
and-within cells (Load c w) es h k = (h.0, k)
and-within cells (Store c w) es h k = (h.0, k)
and-within cells (Turn n) es h k = k

more-cells : (cells more : ℕ → Bool) (e : Event) → ((c : ℕ) → cells c ≡ true → more c ≡ true) → AreWithin cells (e ∷ []) → AreWithin more (e ∷ [])
more-cells cells more (Load c w) h k = (h c k.0, tt)
more-cells cells more (Store c w) h k = (h c k.0, tt)
more-cells cells more (Turn n) h k = tt

log-rest : (cells : ℕ → Bool) (b : Bool) (e : Event) (es : List Event) → AreWithin cells (if b then e ∷ es else es) → AreWithin cells es
log-rest cells true e es h = (event-within cells e es h).1
log-rest cells false e es h = h

log-first : (cells : ℕ → Bool) (b : Bool) (e : Event) (es : List Event) → b ≡ true → AreWithin cells (if b then e ∷ es else es) → AreWithin cells (e ∷ [])
log-first cells true e es is h = (event-within cells e es h).0
log-first cells false e es is h = cc

itself : (n : ℕ) → (n == n) ≡ true
itself n = grind arith

steps-within : (own : ℕ → ℕ → Bool) (cells : ℕ → Bool) (count : ℕ) (steps : List Step) → ((n c : ℕ) → n < count → own n c ≡ true → cells c ≡ true)
    → AreBelow count steps → ((n : ℕ) → n < count → AreWithin (own n) (log_of n steps)) → AreWithin cells (events_of steps)
steps-within own cells count [] h below logs = tt
steps-within own cells count (s ∷ rest) h below logs =
    and-within cells s.event (events_of rest)
    (more-cells (own s.block) cells s.event (λ c. h s.block c below.0) (log-first (own s.block) (s.block == s.block) s.event (log_of s.block rest) (itself s.block) (logs s.block below.0)))
    (steps-within own cells count rest h below.1 (λ n low. log-rest (own n) (s.block == n) s.event (log_of n rest) (logs n low)))

-- such steps are consistent with one memory where they are with another that has the same words in the cells of the blocks
pub steps-alike : (e : Entry) (blocks : List (List Span)) (steps : List Step) (m other : List ℤ)
    → HasOwnSpans e blocks → AreBelow e.header.blocks steps → ((n : ℕ) → n < e.header.blocks → AreWithin (own e n) (log_of n steps))
    → AgreeOn (in_plan blocks) m other → IsConsistent (events_of steps) m → IsConsistent (events_of steps) other
steps-alike e blocks steps m other plan below logs agree is =
    within-consistent (in_plan blocks) (events_of steps) m other
    (steps-within (own e) (in_plan blocks) e.header.blocks steps (λ n c low mine. own-planned e blocks n c plan low mine) below logs) agree is
