-- A memory that records keeps the laws of memories.
use Rattle.std.specs.Prelude.{◌≡◌, ℕ, Bool, true, false, MatchBool, List, [], ◌∷◌, ◌++◌, length, Some, refl, if◌then◌else◌}
use Rattle.std.proofs.Common.{sym, ap, ◌∙◌, subst, append_assoc, append-nil}
use Rattle.spf_ast.specs.Event.{Event, Load, Store, Turn, after}
use Rattle.spf_ast.proofs.PlainRuns.{consistent_on, after_on, unpolled_on}
use Rattle.spf_speculation_entry.specs.Attempts.{on_cells}
use Rattle.spf_region.specs.declared.span.Span.{Span}
use Rattle.spf_region.specs.Cells.{in_spans}
use Rattle.spf_exec_memory.specs.MemoryLaws.{Laws}
use Rattle.spf_replay.specs.Recording.{InRecord, recorded, FillsAt, RecordsAll, Shows, StoresWithin, LeadsInRecord}

choice-append : (c : Bool) (x : Event) (es fs : List Event) → (if c then x ∷ (es ++ fs) else (es ++ fs)) ≡ (if c then x ∷ es else es) ++ fs
choice-append true x es fs = refl
choice-append false x es fs = refl

on-append : (cells : ℕ → Bool) (es fs : List Event) → on_cells cells (es ++ fs) ≡ on_cells cells es ++ on_cells cells fs
on-append cells [] fs = refl
on-append cells (Load c w ∷ es) fs =
    ap (λ l. if cells c then Load c w ∷ l else l) (on-append cells es fs) ∙ choice-append (cells c) (Load c w) (on_cells cells es) (on_cells cells fs)
on-append cells (Store c w ∷ es) fs = ap (λ l. Store c w ∷ l) (on-append cells es fs)
on-append cells (Turn n ∷ es) fs = ap (λ l. Turn n ∷ l) (on-append cells es fs)

all-on : (cells : ℕ → Bool) (a b c : List Event) (es fs : List Event) → RecordsAll cells a es b → RecordsAll cells b fs c → RecordsAll cells a (es ++ fs) c
all-on cells a b c es fs p q = record {
  all = q.all ∙ ap (λ l. l ++ on_cells cells fs) p.all ∙ append_assoc a (on_cells cells es) (on_cells cells fs) ∙ ap (λ l. a ++ l) (sym (on-append cells es fs));
  unpolled = unpolled_on es fs p.unpolled q.unpolled;
}

fills-first : (cells : ℕ → Bool) (room : ℕ) (a b c : List Event) (es fs : List Event) → c ≡ b → FillsAt cells room a es b → FillsAt cells room a (es ++ fs) c
fills-first cells room a b c es fs same p = record {
  before = p.before;
  event = p.event;
  later = p.later ++ fs;
  split = ap (λ l. l ++ fs) p.split ∙ append_assoc p.before (p.event ∷ p.later) fs;
  all = same ∙ p.all;
  unpolled = p.unpolled;
  is = p.is;
  size = ap length same ∙ p.size;
}

fills-later : (cells : ℕ → Bool) (room : ℕ) (a b c : List Event) (es fs : List Event) → RecordsAll cells a es b → FillsAt cells room b fs c → FillsAt cells room a (es ++ fs) c
fills-later cells room a b c es fs p q = record {
  before = es ++ q.before;
  event = q.event;
  later = q.later;
  split = ap (λ l. es ++ l) q.split ∙ sym (append_assoc es q.before (q.event ∷ q.later));
  all = q.all ∙ ap (λ l. l ++ on_cells cells q.before) p.all ∙ append_assoc a (on_cells cells es) (on_cells cells q.before) ∙ ap (λ l. a ++ l) (sym (on-append cells es q.before));
  unpolled = unpolled_on es q.before p.unpolled q.unpolled;
  is = q.is;
  size = q.size;
}

pub same_count : (es : List Event) (a b : InRecord) → LeadsInRecord es a b → length b.cells ≡ length a.cells
same_count es a b p = p.size

-- each part of a list stores only these cells
split-stores : (cells : ℕ → Bool) (es fs : List Event) → StoresWithin cells (es ++ fs) → StoresWithin cells es × StoresWithin cells fs
split-stores cells [] fs h = (tt, h)
split-stores cells (Load c w ∷ es) fs h = split-stores cells es fs h
split-stores cells (Store c w ∷ es) fs h = let p = split-stores cells es fs h.1 in ((h.0, p.0), p.1)
split-stores cells (Turn n ∷ es) fs h = split-stores cells es fs h

-- one after the other
records-on : (cells : ℕ → Bool) (room : ℕ) (f g h : Bool) (a b c : List Event) (es fs : List Event)
    → MatchBool f ((g ≡ true) × (b ≡ a)) (MatchBool g (FillsAt cells room a es b) (RecordsAll cells a es b))
    → MatchBool g ((h ≡ true) × (c ≡ b)) (MatchBool h (FillsAt cells room b fs c) (RecordsAll cells b fs c))
    → MatchBool f ((h ≡ true) × (c ≡ a)) (MatchBool h (FillsAt cells room a (es ++ fs) c) (RecordsAll cells a (es ++ fs) c))
records-on cells room true true h a b c es fs p q = (q.0, q.1 ∙ p.1)
records-on cells room true false h a b c es fs p q = absurd (never p.0)
  where
    never : false ≡ true → ⊥
    never e = cc
records-on cells room false true true a b c es fs p q = fills-first cells room a b c es fs q.1 p
records-on cells room false true false a b c es fs p q = absurd (never q.0)
  where
    never : false ≡ true → ⊥
    never e = cc
records-on cells room false false true a b c es fs p q = fills-later cells room a b c es fs p q
records-on cells room false false false a b c es fs p q = all-on cells a b c es fs p q

nothing-recorded : (cells : ℕ → Bool) (room : ℕ) (f : Bool) (a : List Event) → MatchBool f ((f ≡ true) × (a ≡ a)) (MatchBool f (FillsAt cells room a [] a) (RecordsAll cells a [] a))
nothing-recorded cells room true a = (refl, refl)
nothing-recorded cells room false a = record { all = sym (append-nil a); unpolled = tt }

joined-record : (es fs : List Event) (a b c : InRecord) → LeadsInRecord es a b → LeadsInRecord fs b c → LeadsInRecord (es ++ fs) a c
joined-record es fs a b c p q = record {
  spans = q.spans ∙ p.spans;
  entry = q.entry ∙ p.entry;
  room = q.room ∙ p.room;
  size = q.size ∙ p.size;
  kept = λ cell out within.
      let parts = split-stores (in_spans a.spans) es fs within in
      q.kept cell (subst (λ s. in_spans s cell ≡ false) (sym p.spans) out) (subst (λ s. StoresWithin (in_spans s) fs) (sym p.spans) parts.1) ∙ p.kept cell out parts.0;
  made = λ m within shows.
      let parts = split-stores (in_spans a.spans) es fs within in
      let first = p.made m parts.0 shows in
      let second = q.made (after es m) (subst (λ s. StoresWithin (in_spans s) fs) (sym p.spans) parts.1) first.0 in
      (subst (Shows c) (sym (after_on es fs m)) second.0, consistent_on es fs m first.1 second.1);
  record_is = records-on (in_spans a.spans) (length a.room) a.full b.full c.full (recorded a) (recorded b) (recorded c) es fs p.record_is
      (subst (λ (x : List Span × ℕ). MatchBool b.full ((c.full ≡ true) × (recorded c ≡ recorded b)) (MatchBool c.full (FillsAt (in_spans x.0) x.1 (recorded b) fs (recorded c)) (RecordsAll (in_spans x.0) (recorded b) fs (recorded c))))
      (λ i. (p.spans i, p.room i)) q.record_is);
}

pub record_laws : {S : Type 0} (at : S → InRecord) → Laws {M = S} (λ es a b. LeadsInRecord es (at a) (at b)) (λ s. Some 1)
record_laws at = record {
  empty = λ m. record { spans = refl; entry = refl; room = refl; size = refl; kept = λ cell out within. refl; made = λ memory within shows. (shows, tt); record_is = nothing-recorded (in_spans (at m).spans) (length (at m).room) (at m).full (recorded (at m)) };
  joined = λ es fs a b c p q. joined-record es fs (at a) (at b) (at c) p q;
  keeps_stop = λ es a b p. refl;
}
