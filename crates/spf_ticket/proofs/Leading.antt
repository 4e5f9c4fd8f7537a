-- Each call of a lane's memory leads on by its one event.
use Rattle.std.proofs.Common.{◌≡◌, ℕ, Bool, true, false, List, [], ◌∷◌, ◌++◌, ℤ, refl, sym, ap, ◌∙◌}
use Rattle.std.specs.Prelude.{if◌then◌else◌}
use Rattle.spf_ast.specs.Event.{Event, word_at}
use Rattle.spf_ast.specs.Event as event
use Rattle.spf_cells.specs.declared.view.LogEntry.{LogEntry}
use Rattle.spf_cells.specs.declared.view.LogEntry.TheVariants.{Load, Store}
use Rattle.spf_cells.specs.Log.{events, event_of}
use Rattle.spf_cells.specs.Values.{LaneValue, IsSameLane, logged}
use Rattle.spf_ticket.specs.InLane.{own_events, is_in, in_lane, LeadsInLane}
use Rattle.spf_ticket.specs.LaneLaws.{empty-lane}

events-more : (log more : List LogEntry) → events (log ++ more) ≡ events log ++ events more
events-more [] more = refl
events-more (x ∷ log) more = ap (λ l. event_of x ∷ l) (events-more log more)

pub chosen : {A : Type 0} (c : Bool) (x y : A) → c ≡ true → x ≡ (if c then x else y)
chosen true x y h = refl
chosen false x y h = absurd cc

passed : {A : Type 0} (c : Bool) (x y : A) → c ≡ false → y ≡ (if c then x else y)
passed true x y h = absurd cc
passed false x y h = refl

not-both : (c : Bool) → c ≡ true → c ≡ false → ⊥
not-both true t f = cc
not-both false t f = cc

-- a lane that logged one more event
logged-one : (lane new : LaneValue) (x : LogEntry) (es : List Event) → new ≡ logged lane x → (event_of x ∷ []) ≡ own_events (is_in lane) es → events new.log ≡ events lane.log ++ own_events (is_in lane) es
logged-one lane new x es is own =
    ap (λ (l : LaneValue). events l.log) is ∙ events-more lane.log (x ∷ []) ∙ ap (λ l. events lane.log ++ l) own

same-lane : (lane new : LaneValue) (x : LogEntry) → new ≡ logged lane x → IsSameLane lane new
same-lane lane new x is = (ap (λ (l : LaneValue). l.table) is, ap (λ (l : LaneValue). l.setting) is, ap (λ (l : LaneValue). l.block) is)

pub load-own : (lane new : LaneValue) (entry : List ℤ) (attempt cell : ℕ) (word : ℤ) → is_in lane cell ≡ true → new ≡ logged lane (Load cell word)
    → LeadsInLane (event.Load cell word ∷ []) (in_lane lane entry attempt) (in_lane new entry attempt)
load-own lane new entry attempt cell word mine is = record {
  entry = refl;
  attempt = refl;
  lane = same-lane lane new (Load cell word) is;
  logged = logged-one lane new (Load cell word) (event.Load cell word ∷ []) is (chosen (is_in lane cell) (event.Load cell word ∷ []) [] mine);
  others = (λ out. absurd (not-both (is_in lane cell) mine out), tt);
}

-- the lane as it was, where an event is none of its own
unlogged : (lane new : LaneValue) (es : List Event) → new ≡ lane → [] ≡ own_events (is_in lane) es → events new.log ≡ events lane.log ++ own_events (is_in lane) es
unlogged lane new es is none =
    ap (λ (l : LaneValue). events l.log) is ∙ (empty-lane (in_lane lane [] 0)).logged ∙ ap (λ l. events lane.log ++ l) none

unchanged : (lane new : LaneValue) → new ≡ lane → IsSameLane lane new
unchanged lane new is = (ap (λ (l : LaneValue). l.table) is, ap (λ (l : LaneValue). l.setting) is, ap (λ (l : LaneValue). l.block) is)

pub load-other : (lane new : LaneValue) (entry : List ℤ) (attempt cell : ℕ) (word : ℤ) → is_in lane cell ≡ false → new ≡ lane → word ≡ word_at entry cell
    → LeadsInLane (event.Load cell word ∷ []) (in_lane lane entry attempt) (in_lane new entry attempt)
load-other lane new entry attempt cell word out same is = record {
  entry = refl;
  attempt = refl;
  lane = unchanged lane new same;
  logged = unlogged lane new (event.Load cell word ∷ []) same (passed (is_in lane cell) (event.Load cell word ∷ []) [] out);
  others = (λ o. is, tt);
}

-- a store to a cell of the lane is logged, and one to another cell changes nothing
pub store-leads : (lane new : LaneValue) (entry : List ℤ) (attempt cell : ℕ) (word : ℤ) (mine : Bool) → mine ≡ is_in lane cell → new ≡ (if mine then logged lane (Store cell word) else lane)
    → LeadsInLane (event.Store cell word ∷ []) (in_lane lane entry attempt) (in_lane new entry attempt)
store-leads lane new entry attempt cell word true mine is = record {
  entry = refl;
  attempt = refl;
  lane = same-lane lane new (Store cell word) is;
  logged = logged-one lane new (Store cell word) (event.Store cell word ∷ []) is (chosen (is_in lane cell) (event.Store cell word ∷ []) [] (sym mine));
  others = tt;
}
store-leads lane new entry attempt cell word false mine is = record {
  entry = refl;
  attempt = refl;
  lane = unchanged lane new is;
  logged = unlogged lane new (event.Store cell word ∷ []) is (passed (is_in lane cell) (event.Store cell word ∷ []) [] (sym mine));
  others = tt;
}
