-- What a record has of the events of an attempt.
use Rattle.std.proofs.Common.{◌≡◌, ℕ, zero, suc, Bool, true, false, List, [], ◌∷◌, ◌++◌, Option, Some, None, ℤ, refl, sym, ap, ◌∙◌, subst}
use Rattle.std.specs.Prelude.{if◌then◌else◌, ◌==◌, ◌&&◌, nat_le, slice_set}
use Rattle.std.specs.Ordering.{int_eq}
use Rattle.std.proofs.lemmas.Bool.Decides.{Decides-eqb, Decides-int_eq}
use Rattle.spf_ast_lemmas.proofs.Members.{cases}
use Rattle.spf_ast.specs.Event.{Event, Load, Store, Turn, word_at, IsConsistent, IsUnpolled}
use Rattle.spf_ast.specs.Interaction.{Interaction, Answer, AskLoad, AskStore, AskTurn, Performed, HasReadAll, Ended, Misfit, perform, every_cell}
use Rattle.spf_ast.specs.Plain.{plain_events, plain_answer}
use Rattle.spf_speculation_entry.specs.Attempts.{on_cells}
use Rattle.spf_speculation.proofs.Within.{true-or-false}
use Rattle.spf_speculation.proofs.Kept.{on-load, off-load}
use Rattle.std.specs.Prelude.{MatchBool, length}
use Rattle.std.proofs.lemmas.List.{append-nil}
use Rattle.spf_ast.specs.Carried.{Carried}
use Rattle.spf_ast.specs.Interaction.{Ending}
use Rattle.spf_exec.specs.declared.stop.Stop.{Stop}
use Rattle.spf_exec_memory.specs.Performs.{performed_as, IsDecided, state}
use Rattle.spf_exec.specs.BlockRuns.{stop_result}
use Rattle.spf_region.specs.declared.span.Span.{Span}
use Rattle.spf_region.specs.Cells.{in_spans}
use Rattle.spf_replay_log.specs.declared.log.Event as logged
use Rattle.spf_replay.proofs.Performing.{is-decided, reads-all}
use Rattle.spf_replay.specs.Recording.{InRecord, in_record, recorded, IsRecorded, FillsAt, RecordsAll, Shows, StoresWithin, LeadsInRecord, IsFrontOf, AreEventsOf, IsRecordOf}
use Rattle.spf_replay.specs.Schedule.{piece, after_piece}

-- the test was passed
passed : {A : Type 0} (b : Bool) (x : Performed A) → HasReadAll (if b then x else Misfit) → (b ≡ true) × HasReadAll x × ((if b then x else Misfit) ≡ x)
passed true x h = (refl, h, refl)
passed false x h = absurd h

both-parts : (x y : Bool) → (x && y) ≡ true → (x ≡ true) × (y ≡ true)
both-parts true y e = (refl, e)
both-parts false y e = cc

-- a turn that polled 0 doesn't stop
turned : {A : Type 0} (n : ℕ) (x y : Performed A) → n ≡ 0 → (if nat_le 1 n then x else y) ≡ y
turned zero x y e = refl
turned (suc n) x y e = cc

no-events : {A B : Type 0} (before later : List A) (e : A) → before ++ e ∷ later ≡ [] → B
no-events [] later e h = cc
no-events (x ∷ before) later e h = cc

same-head : {A : Type 0} (x y : A) (xs ys : List A) → x ∷ xs ≡ y ∷ ys → (x ≡ y) × (xs ≡ ys)
same-head x y xs ys e = (cc, cc)

-- the first event of a tree that goes on
first-front : {A : Type 0} (cells : ℕ → Bool) (t : Interaction A) (m : List ℤ) (x : Event) (es : List Event) → plain_events t m ≡ x ∷ es → IsRecorded cells x → IsFrontOf cells t m []
first-front cells t m x es split is = record { next = x; later = es; split = split; is = is }

pub front-of : {A : Type 0} (cells : ℕ → Bool) (t : Interaction A) (m : List ℤ) (before later : List Event) (e : Event)
    → HasReadAll (perform every_cell [] (Some 1) t (before ++ e ∷ later)) → IsConsistent (before ++ e ∷ later) m → IsUnpolled before → IsRecorded cells e
    → IsFrontOf cells t m before
front-of cells (Answer a) m before later e h con un is = no-events before later e h
front-of cells (AskLoad c k) m [] later (Load d w) h con un is =
    let p = passed (c == d) _ h in
    first-front cells (AskLoad c k) m (Load c (word_at m c)) (plain_events (k (word_at m c)) m) refl (subst (λ x. cells x ≡ true) (sym ((Decides-eqb c d).0 p.0)) is)
front-of cells (AskLoad c k) m [] later (Store d w) h con un is = absurd h
front-of cells (AskLoad c k) m [] later (Turn n) h con un is = absurd h
front-of cells (AskLoad c k) m (Load d w ∷ before) later e h con un is =
    let p = passed (c == d) _ h in
    let same = (Decides-eqb c d).0 p.0 in
    let f = front-of cells (k w) m before later e p.1 con.1 un is in
    let word = con.0 ∙ ap (word_at m) (sym same) in
    record {
      next = f.next;
      later = f.later;
      split = ap (λ x. Load c x ∷ plain_events (k x) m) (sym word) ∙ ap (λ x. Load x w ∷ plain_events (k w) m) same ∙ ap (λ l. Load d w ∷ l) f.split;
      is = f.is;
    }
front-of cells (AskLoad c k) m (Store d w ∷ before) later e h con un is = absurd h
front-of cells (AskLoad c k) m (Turn n ∷ before) later e h con un is = absurd h
front-of cells (AskStore c v t) m [] later (Store d w) h con un is = first-front cells (AskStore c v t) m (Store c v) (plain_events t (slice_set m c v)) refl tt
front-of cells (AskStore c v t) m [] later (Load d w) h con un is = absurd h
front-of cells (AskStore c v t) m [] later (Turn n) h con un is = absurd h
front-of cells (AskStore c v t) m (Load d w ∷ before) later e h con un is = absurd h
front-of cells (AskStore c v t) m (Store d w ∷ before) later e h con un is =
    let p = passed ((c == d) && int_eq v w) _ h in
    let two = both-parts (c == d) (int_eq v w) p.0 in
    let cell = (Decides-eqb c d).0 two.0 in
    let word = (Decides-int_eq v w).0 two.1 in
    let f = front-of cells t (slice_set m d w) before later e p.1 con un is in
    record {
      next = f.next;
      later = f.later;
      split = ap (λ (x : ℕ × ℤ). Store x.0 x.1 ∷ plain_events t (slice_set m x.0 x.1)) (λ i. (cell i, word i)) ∙ ap (λ l. Store d w ∷ l) f.split;
      is = f.is;
    }
front-of cells (AskStore c v t) m (Turn n ∷ before) later e h con un is = absurd h
front-of cells (AskTurn t) m [] later e h con un is = first-front cells (AskTurn t) m (Turn 0) (plain_events t m) refl tt
front-of cells (AskTurn t) m (Load d w ∷ before) later e h con un is = absurd h
front-of cells (AskTurn t) m (Store d w ∷ before) later e h con un is = absurd h
front-of cells (AskTurn t) m (Turn n ∷ before) later e h con un is =
    let f = front-of cells t m before later e (subst HasReadAll (turned n _ _ un.0) h) con un.1 is in
    record { next = f.next; later = f.later; split = ap (λ x. Turn x ∷ plain_events t m) (sym un.0) ∙ ap (λ l. Turn n ∷ l) f.split; is = f.is }

pub events-of : {A : Type 0} (t : Interaction A) (m : List ℤ) (es : List Event)
    → HasReadAll (perform every_cell [] (Some 1) t es) → IsConsistent es m → IsUnpolled es → AreEventsOf t m es (perform every_cell [] (Some 1) t es)
events-of (Answer a) m es h con un = record { answer_is = ap (Ended a) h; events_are = h }
events-of (AskLoad c k) m [] h con un = absurd h
events-of (AskLoad c k) m (Load d w ∷ es) h con un =
    let p = passed (c == d) _ h in
    let same = (Decides-eqb c d).0 p.0 in
    let f = events-of (k w) m es p.1 con.1 un in
    let word = con.0 ∙ ap (word_at m) (sym same) in
    record {
      answer_is = p.2 ∙ f.answer_is ∙ ap (λ x. Ended (plain_answer (k x) m) []) word;
      events_are = ap (λ l. Load d w ∷ l) f.events_are ∙ ap (λ x. Load x w ∷ plain_events (k w) m) (sym same) ∙ ap (λ x. Load c x ∷ plain_events (k x) m) word;
    }
events-of (AskLoad c k) m (Store d w ∷ es) h con un = absurd h
events-of (AskLoad c k) m (Turn n ∷ es) h con un = absurd h
events-of (AskStore c v t) m [] h con un = absurd h
events-of (AskStore c v t) m (Load d w ∷ es) h con un = absurd h
events-of (AskStore c v t) m (Store d w ∷ es) h con un =
    let p = passed ((c == d) && int_eq v w) _ h in
    let two = both-parts (c == d) (int_eq v w) p.0 in
    let cell = (Decides-eqb c d).0 two.0 in
    let word = (Decides-int_eq v w).0 two.1 in
    let f = events-of t (slice_set m d w) es p.1 con un in
    record {
      answer_is = p.2 ∙ f.answer_is ∙ ap (λ (x : ℕ × ℤ). Ended (plain_answer t (slice_set m x.0 x.1)) []) (λ i. (sym cell i, sym word i));
      events_are = ap (λ l. Store d w ∷ l) f.events_are ∙ ap (λ (x : ℕ × ℤ). Store x.0 x.1 ∷ plain_events t (slice_set m x.0 x.1)) (λ i. (sym cell i, sym word i));
    }
events-of (AskStore c v t) m (Turn n ∷ es) h con un = absurd h
events-of (AskTurn t) m [] h con un = absurd h
events-of (AskTurn t) m (Load d w ∷ es) h con un = absurd h
events-of (AskTurn t) m (Store d w ∷ es) h con un = absurd h
events-of (AskTurn t) m (Turn n ∷ es) h con un =
    let f = events-of t m es (subst HasReadAll (turned n _ _ un.0) h) con un.1 in
    record { answer_is = turned n _ _ un.0 ∙ f.answer_is; events_are = ap (λ l. Turn n ∷ l) f.events_are ∙ ap (λ x. Turn x ∷ plain_events t m) un.0 }

-- ---- on some cells

on-append : (cells : ℕ → Bool) (es fs : List Event) → on_cells cells (es ++ fs) ≡ on_cells cells es ++ on_cells cells fs
on-append cells [] fs = refl
on-append cells (Load c w ∷ es) fs = cases (true-or-false (cells c))
    (λ own. on-load cells c w (es ++ fs) own ∙ ap (λ l. Load c w ∷ l) (on-append cells es fs) ∙ ap (λ l. l ++ on_cells cells fs) (sym (on-load cells c w es own)))
    (λ out. off-load cells c w (es ++ fs) out ∙ on-append cells es fs ∙ ap (λ l. l ++ on_cells cells fs) (sym (off-load cells c w es out)))
on-append cells (Store c w ∷ es) fs = ap (λ l. Store c w ∷ l) (on-append cells es fs)
on-append cells (Turn n ∷ es) fs = ap (λ l. Turn n ∷ l) (on-append cells es fs)

on-recorded : (cells : ℕ → Bool) (x : Event) (es : List Event) → IsRecorded cells x → on_cells cells (x ∷ es) ≡ x ∷ on_cells cells es
on-recorded cells (Load c w) es is = on-load cells c w es is
on-recorded cells (Store c w) es is = refl
on-recorded cells (Turn n) es is = refl

-- a record that is full has the front of an attempt's events, which go on after it
pub front-recorded : {A : Type 0} (cells : ℕ → Bool) (room : ℕ) (t : Interaction A) (m : List ℤ) (es now : List Event)
    → HasReadAll (perform every_cell [] (Some 1) t es) → IsConsistent es m → FillsAt cells room [] es now
    → (next : Event) × (later : List Event) × (on_cells cells (plain_events t m) ≡ now ++ next ∷ later)
front-recorded cells room t m es now h con fills =
    let f = front-of cells t m fills.before fills.later fills.event (subst (λ l. HasReadAll (perform every_cell [] (Some 1) t l)) fills.split h)
    (subst (λ l. IsConsistent l m) fills.split con) fills.unpolled fills.is in (
      f.next,
      on_cells cells f.later,
      ap (on_cells cells) f.split ∙ on-append cells fills.before (f.next ∷ f.later) ∙ ap (λ l. on_cells cells fills.before ++ l) (on-recorded cells f.next f.later f.is)
          ∙ ap (λ l. l ++ f.next ∷ on_cells cells f.later) (sym fills.all),
    )

-- a record that isn't has them all, and the attempt ended as the plain run does
pub all-recorded : {A : Type 0} (cells : ℕ → Bool) (t : Interaction A) (m : List ℤ) (es now : List Event)
    → HasReadAll (perform every_cell [] (Some 1) t es) → IsConsistent es m → RecordsAll cells [] es now
    → (perform every_cell [] (Some 1) t es ≡ Ended (plain_answer t m) []) × (now ≡ on_cells cells (plain_events t m))
all-recorded cells t m es now h con all =
    let f = events-of t m es h con all.unpolled in
    (f.answer_is, all.all ∙ ap (on_cells cells) f.events_are)

-- ---- pieces of a front

pub piece-of-front : (k : ℕ) (es more rest : List Event) → after_piece es ≡ Some rest → (piece k (es ++ more) ≡ piece k es) × (after_piece (es ++ more) ≡ Some (rest ++ more))
piece-of-front k [] more rest h = cc
piece-of-front k (Load c w ∷ es) more rest h = let p = piece-of-front k es more rest h in (ap (λ l. Load c w ∷ l) p.0, p.1)
piece-of-front k (Store c w ∷ es) more rest h = let p = piece-of-front k es more rest h in (ap (λ l. Store c w ∷ l) p.0, p.1)
piece-of-front k (Turn n ∷ es) more rest h = (refl, ap (λ o. grown o more) h)
  where
    grown : Option (List Event) → List Event → Option (List Event)
    grown None more = None
    grown (Some l) more = Some (l ++ more)

-- ---- a block run over a record

fills-or-all : {A : Type 0} (cells : ℕ → Bool) (room : ℕ) (t : Interaction A) (m : List ℤ) (es now : List Event) (full : Bool)
    → HasReadAll (perform every_cell [] (Some 1) t es) → IsConsistent es m
    → MatchBool full (FillsAt cells room [] es now) (RecordsAll cells [] es now)
    → IsRecordOf (on_cells cells (plain_events t m)) room full now
fills-or-all cells room t m es now true h con fills = (fills.size, front-recorded cells room t m es now h con fills)
fills-or-all cells room t m es now false h con all = (all-recorded cells t m es now h con all).1

pub recorded-so : (spans : List Span) (cells entry : List ℤ) (room : List logged.Event) (m : List ℤ) (t : Interaction (Ending Carried)) (s : Stop) (es : List Event) (slots : List ℤ) (b : InRecord)
    → (IsDecided (stop_result s) → (rest : List Event) → perform every_cell [] (Some 1) t (es ++ rest) ≡ performed_as (stop_result s) (state slots []) rest)
    → LeadsInRecord es (in_record spans cells entry room 0 false) b
    → StoresWithin (in_spans spans) es → Shows (in_record spans cells entry room 0 false) m
    → IsRecordOf (on_cells (in_spans spans) (plain_events t m)) (length room) b.full (recorded b)
recorded-so spans cells entry room m t s es slots b performed led within shows =
    let ends : perform every_cell [] (Some 1) t es ≡ performed_as (stop_result s) (state slots []) [] =
    ap (perform every_cell [] (Some 1) t) (sym (append-nil es)) ∙ performed (is-decided s) [] in
    fills-or-all (in_spans spans) (length room) t m es (recorded b) b.full (subst HasReadAll (sym ends) (reads-all s slots)) (led.made m within shows).1 led.record_is
