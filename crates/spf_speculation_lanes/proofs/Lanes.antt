-- What lanes hold is what the laws of speculative runs ask for.
use Rattle.std.proofs.Common.{◌≡◌, ℕ, zero, suc, ◌<◌, Bool, true, false, List, [], ◌∷◌, length, ℤ, refl, sym, ap, ◌∙◌, subst, arith}
use Rattle.std.specs.Prelude.{slice_get, slice_index_or, Some, Ok}
use mathlib.Core.Option.{some, some-injective, some-ne-none}
use lib.ListN.{get_elem?}
use Rattle.spf_ast_lemmas.proofs.Members.{cases}
use Rattle.spf_ast.specs.Carried.{Carried}
use Rattle.spf_ast.specs.Event.{word_at, after, IsConsistent}
use Rattle.spf_region.specs.declared.span.Span.{Span}
use Rattle.spf_cells.specs.declared.view.Setting.{Setting}
use Rattle.spf_cells.specs.declared.view.LogEntry.{LogEntry}
use Rattle.spf_cells.specs.declared.view.LogEntry.TheVariants.{Load, Store, Turn}
use Rattle.spf_cells.specs.Log.{events, IsLogOf, ArePossibleTurns}
use Rattle.spf_cells.specs.Laws.{SpansCoverTheirCells}
use Rattle.spf_cells.specs.Spans.{Covers}
use Rattle.spf_cells.specs.Values.{LaneValue, CellsValue, spans_of}
use Rattle.spf_cells.specs.Finish.{AreAllLanes, IsFinish}
use Rattle.spf_speculation_entry.specs.Entry.{Entry, IsEntry, own, plain_blocks}
use Rattle.spf_speculation_entry.specs.Attempts.{TurnsAreBelow}
use Rattle.spf_speculation_entry.specs.Sites.{AreMadeFor}
use Rattle.spf_speculation.specs.Runs.{LogsComeTo}
use Rattle.spf_speculation.specs.Laws.{IsLeftBy, AreThePlainRun, LogsMeanThePlainRun}
use Rattle.spf_speculation_lanes.specs.Lanes.{trace_of, logs_in, AreLanesFor}
use Rattle.spf_speculation_lanes.proofs.Memories.{same-memory, one-or-none}

-- the lane of a block that is there
lane-at : (lanes : List LaneValue) (n : ℕ) → n < length lanes → (lane : LaneValue) × (get_elem? lanes n ≡ some lane)
lane-at [] n low = absurd (omega (arith, low))
lane-at (lane ∷ lanes) zero low = (lane, refl)
lane-at (lane ∷ lanes) (suc n) low = lane-at lanes n (omega (arith, low))

lane-low : (lanes : List LaneValue) (n : ℕ) (lane : LaneValue) → get_elem? lanes n ≡ some lane → n < length lanes
lane-low [] n lane at = absurd (some-ne-none lane (sym at))
lane-low (l ∷ lanes) zero lane at = omega arith
lane-low (l ∷ lanes) (suc n) lane at = let h = lane-low lanes n lane at in omega (arith, h)

log-at : (lanes : List LaneValue) (n : ℕ) (lane : LaneValue) → get_elem? lanes n ≡ some lane → slice_index_or (trace_of lanes) n [] ≡ lane.log
log-at [] n lane at = absurd (some-ne-none lane (sym at))
log-at (l ∷ lanes) zero lane at = ap (λ (x : LaneValue). x.log) (some-injective l lane at)
log-at (l ∷ lanes) (suc n) lane at = log-at lanes n lane at

log-get : (lanes : List LaneValue) (n : ℕ) (lane : LaneValue) → get_elem? lanes n ≡ some lane → slice_get (trace_of lanes) n ≡ Some lane.log
log-get [] n lane at = absurd (some-ne-none lane (sym at))
log-get (l ∷ lanes) zero lane at = ap (λ (x : LaneValue). Some x.log) (some-injective l lane at)
log-get (l ∷ lanes) (suc n) lane at = log-get lanes n lane at

-- the logs that `finish` left are consistent
pub finished-lanes : (e : Entry) (cells : CellsValue) (lanes : List LaneValue) (trace : List (List LogEntry)) (before after : List ℤ) → AreMadeFor e cells.setting → AreAllLanes cells lanes → IsFinish cells lanes trace before after → AreLanesFor e cells lanes
finished-lanes e cells lanes trace before after made all is = record {
  made = made;
  all = all;
  consistent = λ n lane at.
      let log : IsLogOf cells.setting n lane.log = is.kept n lane.log (ap (λ (t : List (List LogEntry)). slice_get t n) is.logs ∙ log-get lanes n lane at) in
      let of = all.1 n lane at in
      subst (λ (k : Setting). IsConsistent (events lane.log) k.entry) (sym of.0.1) log.consistent;
}

-- the spans of a block that is there
get-there : (plan : List (List Span)) (n : ℕ) → n < length plan → slice_get plan n ≡ Some (slice_index_or plan n [])
get-there [] n low = absurd (omega (arith, low))
get-there (x ∷ plan) zero low = refl
get-there (x ∷ plan) (suc n) low = get-there plan n (omega (arith, low))

own-covered : SpansCoverTheirCells → (e : Entry) (setting : Setting) → AreMadeFor e setting → (n cell : ℕ) → n < e.header.blocks → own e n cell ≡ true → Covers (slice_index_or setting.plan n []) cell
own-covered covers e setting made n cell low mine =
    let many = made.blocks in
    (covers (slice_index_or setting.plan n []) cell).1 (made.spans n (slice_index_or setting.plan n []) cell (get-there setting.plan n (omega (arith, low, many))) ∙ mine)

covered-is-own : SpansCoverTheirCells → (e : Entry) (setting : Setting) → AreMadeFor e setting → (n cell : ℕ) → n < e.header.blocks → Covers (slice_index_or setting.plan n []) cell → own e n cell ≡ true
covered-is-own covers e setting made n cell low cov =
    let many = made.blocks in
    sym (made.spans n (slice_index_or setting.plan n []) cell (get-there setting.plan n (omega (arith, low, many)))) ∙ (covers (slice_index_or setting.plan n []) cell).0 cov

-- the lane of a block, with its log and its cells
record IsOfBlock (e : Entry) (lanes : List LaneValue) (n : ℕ) : Type 0 where
  lane : LaneValue
  at : get_elem? lanes n ≡ some lane
  entry : lane.setting.entry ≡ e.memory
  log : logs_in (trace_of lanes) n ≡ events lane.log
  spans : (cell : ℕ) → own e n cell ≡ true → Covers (spans_of lane) cell

spans-at : (cells : CellsValue) (lane : LaneValue) (n : ℕ) → lane.setting ≡ cells.setting → lane.block ≡ n → slice_index_or cells.setting.plan n [] ≡ spans_of lane
spans-at cells lane n same block =
    ap (λ k. slice_index_or cells.setting.plan k []) (sym block) ∙ ap (λ (k : Setting). slice_index_or k.plan lane.block []) (sym same)

lane-of : SpansCoverTheirCells → (e : Entry) (cells : CellsValue) (lanes : List LaneValue) → AreLanesFor e cells lanes → (n : ℕ) → n < e.header.blocks → IsOfBlock e lanes n
lane-of covers e cells lanes h n low =
    let many = h.all.0 in
    let plan = h.made.blocks in
    let l = lane-at lanes n (omega (arith, low, many, plan)) in
    let is = h.all.1 n l.0 l.1 in
    record {
      lane = l.0;
      at = l.1;
      entry = ap (λ (k : Setting). k.entry) is.0.1 ∙ h.made.memory;
      log = ap events (log-at lanes n l.0 l.1);
      spans = λ cell mine. subst (λ s. Covers s cell) (spans-at cells l.0 n is.0.1 is.1) (own-covered covers e cells.setting h.made n cell low mine);
    }

pub lanes-consistent : SpansCoverTheirCells → (e : Entry) (cells : CellsValue) (lanes : List LaneValue) → AreLanesFor e cells lanes → (n : ℕ) → n < e.header.blocks → IsConsistent (logs_in (trace_of lanes) n) e.memory
lanes-consistent covers e cells lanes h n low =
    let o = lane-of covers e cells lanes h n low in
    subst (λ l. IsConsistent l e.memory) (sym o.log) (subst (IsConsistent (events o.lane.log)) o.entry (h.consistent n o.lane o.at))

-- a cell of a lane is one of its block
covered-own : SpansCoverTheirCells → (e : Entry) (cells : CellsValue) (lanes : List LaneValue) → AreLanesFor e cells lanes → (n cell : ℕ) (lane : LaneValue) → get_elem? lanes n ≡ some lane → Covers (spans_of lane) cell → (n < e.header.blocks) × (own e n cell ≡ true)
covered-own covers e cells lanes h n cell lane at cov =
    let is = h.all.1 n lane at in
    let many = h.all.0 in
    let plan = h.made.blocks in
    let l = lane-low lanes n lane at in
    let low : n < e.header.blocks = omega (arith, l, many, plan) in
    (low, covered-is-own covers e cells.setting h.made n cell low (subst (λ s. Covers s cell) (sym (spans-at cells lane n is.0.1 is.1)) cov))

not-both : (b : Bool) → b ≡ true → b ≡ false → ⊥
not-both true h k = cc
not-both false h k = cc

pub lanes-give : SpansCoverTheirCells → LogsMeanThePlainRun → (e : Entry) (guess : ℕ → Carried) (cells : CellsValue) (lanes : List LaneValue) (trace : List (List LogEntry)) (values : List Carried) (value : Carried) (memory : List ℤ) → IsEntry e → AreLanesFor e cells lanes → LogsComeTo e guess (logs_in (trace_of lanes)) 0 e.header.start values (Ok value) → IsFinish cells lanes trace e.memory memory → memory ≡ (plain_blocks e).memory
lanes-give covers mean e guess cells lanes trace values value memory h are come back =
    let p : AreThePlainRun e (logs_in (trace_of lanes)) values (Ok value) = mean e guess (logs_in (trace_of lanes)) values (Ok value) h come (lanes-consistent covers e cells lanes are) in
    let left : IsLeftBy e (logs_in (trace_of lanes)) e.header.blocks (plain_blocks e).memory = p.left value refl in
    same-memory memory (plain_blocks e).memory (back.size ∙ sym left.size) (λ c. cases (one-or-none e.header.blocks (λ n. own e n c))
    (λ mine. let o = lane-of covers e cells lanes are mine.0 mine.1 in
    back.own mine.0 c o.lane o.at (o.spans c mine.2)
    ∙ ap (λ m. word_at (after (events o.lane.log) m) c) o.entry
    ∙ ap (λ l. word_at (after l e.memory) c) (sym o.log)
    ∙ sym (left.inside mine.0 c mine.1 mine.2))
    (λ none. back.others c (λ n lane at cov. let o = covered-own covers e cells lanes are n c lane at cov in not-both (own e n c) o.1 (none n o.0))
    ∙ sym (left.outside c none)))

pub turns-below : (setting : Setting) (block : ℕ) (log : List LogEntry) → ArePossibleTurns setting block log → TurnsAreBelow 2 (events log)
turns-below setting block [] h = tt
turns-below setting block (Load c w ∷ log) h = turns-below setting block log h.1
turns-below setting block (Store c w ∷ log) h = turns-below setting block log h.1
turns-below setting block (Turn n ∷ log) h = let small = h.0.0 in (omega (arith, small), turns-below setting block log h.1)
