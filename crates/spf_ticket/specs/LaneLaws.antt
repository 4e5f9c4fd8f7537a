-- A lane beside an entry keeps the laws of memories.
use Rattle.std.specs.Prelude.{◌≡◌, ℕ, Bool, true, false, if◌then◌else◌, List, [], ◌∷◌, ◌++◌, Some, ℤ, refl}
use Rattle.std.proofs.Common.{sym, ap, ◌∙◌, subst, append_assoc}
use Rattle.std.proofs.lemmas.List.{append-nil}
use Rattle.spf_ast.specs.Event.{Event, Load, Store, Turn}
use Rattle.spf_region.specs.Cells.{in_spans}
use Rattle.spf_cells.specs.Log.{events}
use Rattle.spf_cells.specs.Values.{LaneValue, IsSameLane, spans_of}
use Rattle.spf_speculation_entry.specs.Attempts.{OthersAreOf}
use Rattle.spf_exec_memory.specs.MemoryLaws.{Laws}
use Rattle.spf_ticket.specs.InLane.{own_events, is_in, InLane, LeadsInLane}

own-choice : (c : Bool) (x : Event) (es fs : List Event) → (if c then x ∷ (es ++ fs) else (es ++ fs)) ≡ (if c then x ∷ es else es) ++ fs
own-choice true x es fs = refl
own-choice false x es fs = refl

own-append : (cells : ℕ → Bool) (es fs : List Event) → own_events cells (es ++ fs) ≡ own_events cells es ++ own_events cells fs
own-append cells [] fs = refl
own-append cells (Load c w ∷ es) fs =
    ap (λ l. if cells c then Load c w ∷ l else l) (own-append cells es fs) ∙ own-choice (cells c) (Load c w) (own_events cells es) (own_events cells fs)
own-append cells (Store c w ∷ es) fs =
    ap (λ l. if cells c then Store c w ∷ l else l) (own-append cells es fs) ∙ own-choice (cells c) (Store c w) (own_events cells es) (own_events cells fs)
own-append cells (Turn n ∷ es) fs = ap (λ l. Turn n ∷ l) (own-append cells es fs)

others-append : (m : List ℤ) (cells : ℕ → Bool) (es fs : List Event) → OthersAreOf m cells es → OthersAreOf m cells fs → OthersAreOf m cells (es ++ fs)
others-append m cells [] fs p q = q
others-append m cells (Load c w ∷ es) fs p q = (p.0, others-append m cells es fs p.1 q)
others-append m cells (Store c w ∷ es) fs p q = others-append m cells es fs p q
others-append m cells (Turn n ∷ es) fs p q = others-append m cells es fs p q

-- the same lane has the same spans
same-cells : (a b : LaneValue) → IsSameLane a b → is_in b ≡ is_in a
same-cells a b h = λ t cell. in_spans (spans_of (record { table = b.table; setting = h.1 t; block = h.2 t; log = b.log })) cell

pub empty-lane : (a : InLane) → LeadsInLane [] a a
empty-lane a = record {
  entry = refl;
  attempt = refl;
  lane = (refl, refl, refl);
  logged = sym (append-nil (events a.lane.log));
  others = tt;
}

joined-lane : (es fs : List Event) (a b c : InLane) → LeadsInLane es a b → LeadsInLane fs b c → LeadsInLane (es ++ fs) a c
joined-lane es fs a b c p q =
    let same : is_in b.lane ≡ is_in a.lane = same-cells a.lane b.lane p.lane in record {
      entry = q.entry ∙ p.entry;
      attempt = q.attempt ∙ p.attempt;
      lane = (q.lane.0 ∙ p.lane.0, q.lane.1 ∙ p.lane.1, q.lane.2 ∙ p.lane.2);
      logged = q.logged ∙ ap (λ l. l ++ own_events (is_in b.lane) fs) p.logged ∙ ap
          (λ f. (events a.lane.log ++ own_events (is_in a.lane) es) ++ own_events f fs) same
          ∙ append_assoc (events a.lane.log) (own_events (is_in a.lane) es) (own_events (is_in a.lane) fs)
          ∙ ap (λ l. events a.lane.log ++ l) (sym (own-append (is_in a.lane) es fs));
      others = others-append a.entry (is_in a.lane) es fs p.others
          (subst (λ m. OthersAreOf m (is_in a.lane) fs) p.entry
          (subst (λ f. OthersAreOf b.entry f fs) same q.others));
    }

pub lane_laws : {S : Type 0} (at : S → InLane) → Laws {M = S} (λ es a b. LeadsInLane es (at a) (at b)) (λ s. Some (at s).attempt)
lane_laws at = record {
  empty = λ m. empty-lane (at m);
  joined = λ es fs a b c p q. joined-lane es fs (at a) (at b) (at c) p q;
  keeps_stop = λ es a b p. ap (λ n. Some n) p.attempt;
}
