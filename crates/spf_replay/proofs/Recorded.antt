-- One event that is recorded.
use Rattle.std.proofs.Common.{◌≡◌, ℕ, Bool, true, false, List, [], ◌∷◌, ◌++◌, length, ℤ, pos, refl, sym, ap, ◌∙◌, subst, append-nil}
use Rattle.std.specs.Prelude.{MatchBool, slice_set, if◌then◌else◌}
use Rattle.spf_ast.specs.Event.{Event, Load, Store, Turn, word_at, IsUnpolled}
use Rattle.spf_region.specs.declared.span.Span.{Span}
use Rattle.spf_region.specs.Cells.{in_spans}
use Rattle.std.proofs.lemmas.List.{get_or-set_other, length-set}
use Rattle.spf_speculation_entry.specs.Attempts.{on_cells}
use Rattle.spf_speculation.proofs.Kept.{off-load}
use Rattle.spf_speculation.proofs.Within.{not-both, agree-set}
use Rattle.spf_replay_log.specs.declared.log.Event as logged
use Rattle.spf_replay.specs.Recording.{InRecord, in_record, recorded, IsRecorded, FillsAt, RecordsAll, Shows, LeadsInRecord, Adds}

one-record : (cells : ℕ → Bool) (room : ℕ) (f g : Bool) (a b : List Event) (x y : Event) → IsRecorded cells y
    → (g ≡ false → (on_cells cells (y ∷ []) ≡ x ∷ []) × IsUnpolled (y ∷ []))
    → Adds x room f a g b → MatchBool f ((g ≡ true) × (b ≡ a)) (MatchBool g (FillsAt cells room a (y ∷ []) b) (RecordsAll cells a (y ∷ []) b))
one-record cells room true g a b x y is same h = h
one-record cells room false true a b x y is same h =
    record { before = []; event = y; later = []; split = refl; all = h.0 ∙ sym (append-nil a); unpolled = tt; is = is; size = h.1 }
one-record cells room false false a b x y is same h = record { all = h ∙ ap (λ l. a ++ l) (sym (same refl).0); unpolled = (same refl).1 }

chosen : {A : Type 0} (c : Bool) (x y : A) → c ≡ true → (if c then x else y) ≡ x
chosen true x y h = refl
chosen false x y h = cc

-- a state with the same words shows the same memory
pub shows-same : (a b : InRecord) (m : List ℤ) → b.spans ≡ a.spans → b.cells ≡ a.cells → b.entry ≡ a.entry → Shows a m → Shows b m
shows-same a b m p q e s = record {
  size = ap length q ∙ s.size;
  inside = λ c own. ap (λ l. word_at l c) q ∙ s.inside c (subst (λ x. in_spans x c ≡ true) p own);
  outside = λ c out. ap (λ l. word_at l c) e ∙ s.outside c (subst (λ x. in_spans x c ≡ false) p out);
}

-- a load of one of the cells
pub load-leads : (spans : List Span) (cells entry : List ℤ) (room : List logged.Event) (count : ℕ) (full : Bool) (b : InRecord) (c : ℕ) (w : ℤ)
    → in_spans spans c ≡ true → w ≡ word_at cells c → b.spans ≡ spans → b.cells ≡ cells → b.entry ≡ entry → length b.room ≡ length room
    → Adds (Load c w) (length room) full (recorded (in_record spans cells entry room count full)) b.full (recorded b)
    → LeadsInRecord (Load c w ∷ []) (in_record spans cells entry room count full) b
load-leads spans cells entry room count full b c w own word p q e r h = record {
  spans = p;
  entry = e;
  room = r;
  size = ap length q;
  kept = λ d out within. ap (λ l. word_at l d) q;
  made = λ m within shows. (shows-same (in_record spans cells entry room count full) b m p q e shows, (word ∙ shows.inside c own, tt));
  record_is = one-record (in_spans spans) (length room) full b.full (recorded (in_record spans cells entry room count full)) (recorded b) (Load c w) (Load c w) own
      (λ on. (chosen (in_spans spans c) (Load c w ∷ []) [] own, tt)) h;
}

not-recorded : (cells : ℕ → Bool) (room : ℕ) (full : Bool) (a : List Event) (c : ℕ) (w : ℤ) → cells c ≡ false
    → MatchBool full ((full ≡ true) × (a ≡ a)) (MatchBool full (FillsAt cells room a (Load c w ∷ []) a) (RecordsAll cells a (Load c w ∷ []) a))
not-recorded cells room true a c w out = (refl, refl)
not-recorded cells room false a c w out = record { all = sym (append-nil a) ∙ ap (λ l. a ++ l) (sym (off-load cells c w [] out)); unpolled = tt }

-- a load of another cell
pub load-apart : (spans : List Span) (cells entry : List ℤ) (room : List logged.Event) (count : ℕ) (full : Bool) (c : ℕ) (w : ℤ)
    → in_spans spans c ≡ false → w ≡ word_at entry c
    → LeadsInRecord (Load c w ∷ []) (in_record spans cells entry room count full) (in_record spans cells entry room count full)
load-apart spans cells entry room count full c w out word = record {
  spans = refl;
  entry = refl;
  room = refl;
  size = refl;
  kept = λ d other within. refl;
  made = λ m within shows. (shows, (word ∙ shows.outside c out, tt));
  record_is = not-recorded (in_spans spans) (length room) full (recorded (in_record spans cells entry room count full)) c w out;
}

pub store-leads : (spans : List Span) (cells entry : List ℤ) (room : List logged.Event) (count : ℕ) (full : Bool) (b : InRecord) (c : ℕ) (w : ℤ)
    → b.spans ≡ spans → b.cells ≡ slice_set cells c w → b.entry ≡ entry → length b.room ≡ length room
    → Adds (Store c w) (length room) full (recorded (in_record spans cells entry room count full)) b.full (recorded b)
    → LeadsInRecord (Store c w ∷ []) (in_record spans cells entry room count full) b
store-leads spans cells entry room count full b c w p q e r h = record {
  spans = p;
  entry = e;
  room = r;
  size = ap length q ∙ length-set cells c w;
  kept = λ d out within. ap (λ l. word_at l d) q ∙ get_or-set_other cells c d w (pos 0) (λ same. not-both (in_spans spans c) within.0 (subst (λ x. in_spans spans x ≡ false) same out));
  made = λ m within shows. (
    record {
      size = ap length q ∙ length-set cells c w ∙ shows.size ∙ sym (length-set m c w);
      inside = λ d own. ap (λ l. word_at l d) q
          ∙ (agree-set (in_spans spans) cells m c w (record { size = shows.size; words = shows.inside })).words d (subst (λ x. in_spans x d ≡ true) p own);
      outside = λ d out. ap (λ l. word_at l d) e ∙ shows.outside d (subst (λ x. in_spans x d ≡ false) p out)
          ∙ sym (get_or-set_other m c d w (pos 0) (λ same. not-both (in_spans spans c) within.0 (subst (λ x. in_spans spans x ≡ false) same (subst (λ x. in_spans x d ≡ false) p out))));
    },
    tt,
  );
  record_is = one-record (in_spans spans) (length room) full b.full (recorded (in_record spans cells entry room count full)) (recorded b) (Store c w) (Store c w) tt
      (λ on. (refl, tt)) h;
}

-- a turn that polls 0
pub turn-leads-on : (spans : List Span) (cells entry : List ℤ) (room : List logged.Event) (count : ℕ) (full : Bool) (b : InRecord)
    → b.spans ≡ spans → b.cells ≡ cells → b.entry ≡ entry → length b.room ≡ length room
    → Adds (Turn 0) (length room) full (recorded (in_record spans cells entry room count full)) b.full (recorded b)
    → LeadsInRecord (Turn 0 ∷ []) (in_record spans cells entry room count full) b
turn-leads-on spans cells entry room count full b p q e r h = record {
  spans = p;
  entry = e;
  room = r;
  size = ap length q;
  kept = λ d out within. ap (λ l. word_at l d) q;
  made = λ m within shows. (shows-same (in_record spans cells entry room count full) b m p q e shows, tt);
  record_is = one-record (in_spans spans) (length room) full b.full (recorded (in_record spans cells entry room count full)) (recorded b) (Turn 0) (Turn 0) tt
      (λ on. (refl, (refl, tt))) h;
}

-- a turn when the record is full
pub turn-leads : (spans : List Span) (cells entry : List ℤ) (room : List logged.Event) (count : ℕ) (full : Bool) (b : InRecord)
    → b.full ≡ true → b.spans ≡ spans → b.cells ≡ cells → b.entry ≡ entry → length b.room ≡ length room
    → Adds (Turn 0) (length room) full (recorded (in_record spans cells entry room count full)) b.full (recorded b)
    → LeadsInRecord (Turn 1 ∷ []) (in_record spans cells entry room count full) b
turn-leads spans cells entry room count full b is p q e r h = record {
  spans = p;
  entry = e;
  room = r;
  size = ap length q;
  kept = λ d out within. ap (λ l. word_at l d) q;
  made = λ m within shows. (shows-same (in_record spans cells entry room count full) b m p q e shows, tt);
  record_is = one-record (in_spans spans) (length room) full b.full (recorded (in_record spans cells entry room count full)) (recorded b) (Turn 0) (Turn 1) tt
      (λ on. absurd (never b.full is on)) h;
}
  where
    never : (f : Bool) → f ≡ true → f ≡ false → ⊥
    never true p q = cc
    never false p q = cc
