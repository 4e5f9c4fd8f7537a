-- Records of attempts that are made anew, with more room.
use Rattle.std.proofs.Common.{◌≡◌, ℕ, ◌+◌, ◌<◌, ◌≤◌, Bool, true, false, List, [], ◌∷◌, ◌++◌, None, length, length-append, drop, refl, sym, ap, ◌∙◌, arith}
use Rattle.std.proofs.lemmas.List.{length-drop}
use Rattle.spf_ast.specs.Event.{Event, Load, Store, Turn}
use Rattle.spf_speculation_entry.specs.Entry.{Entry}
use Rattle.spf_replay.specs.declared.runner.Runner.{Runner}
use Rattle.spf_replay.specs.Recording.{IsRecordOf}
use Rattle.spf_replay.specs.Runners.{HasSeen, seen_by, with_record_of, IsRunner}
use Rattle.spf_replay.specs.Schedule.{attempt_events, piece, after_piece}
use Rattle.spf_replay.proofs.Pieces.{later-of, left-of, seen-length}

seen-anew : (events : List Event) (room : ℕ) (full : Bool) (seen : List Event) → IsRecordOf events room full seen → HasSeen events full seen
seen-anew events room true seen h = (h.1.0 ∷ h.1.1, h.1.2)
seen-anew events room false seen h = sym h

-- no fewer events are recorded
no-fewer : (events old seen : List Event) (was full : Bool) (room : ℕ) → HasSeen events was old → IsRecordOf events room full seen → length old ≤ room → length old ≤ length seen
no-fewer events old seen was true room h k low = let size = k.0 in omega (arith, size, low)
no-fewer events old seen was false room h k low =
    let l = later-of events old was h in
    let size : length seen ≡ length old + length l.later = ap length k ∙ ap length l.split ∙ length-append old l.later in
    omega (arith, size)

pub record-grows : (e : Entry) (n : ℕ) (r other : Runner) (room : ℕ) → IsRunner e n r → r.count ≤ room → other.count ≤ length other.room.items
    → IsRecordOf (attempt_events e n r.row []) room other.full (seen_by other) → IsRunner e n (with_record_of other r)
record-grows e n r other room h low inside k =
    let before = seen-length r h.inside in
    let now = seen-length other inside in
    let taken = h.taken in
    let more = no-fewer (attempt_events e n r.row []) (seen_by r) (seen_by other) r.full other.full room h.seen k (omega (arith, low, before)) in
    record {
      inside = inside;
      taken = omega (arith, before, now, taken, more);
      seen = seen-anew (attempt_events e n r.row []) room other.full (seen_by other) k;
    }

-- a record that is full has as many events as it has room
full-size : (events : List Event) (room : ℕ) (full : Bool) (seen : List Event) → IsRecordOf events room full seen → full ≡ true → length seen ≡ room
full-size events room true seen h is = h.0
full-size events room false seen h is = cc

pub full-count : (events : List Event) (room : ℕ) (r : Runner) → r.count ≤ length r.room.items → IsRecordOf events room r.full (seen_by r) → r.full ≡ true → r.count ≡ room
full-count events room r inside k is = sym (seen-length r inside) ∙ full-size events room r.full (seen_by r) k is

-- ---- a piece that is longer than its record

over : (number : ℕ) (front later : List Event) → after_piece front ≡ None → piece number (front ++ later) ≡ front ++ piece number later
over number [] later h = refl
over number (Load c w ∷ front) later h = ap (λ l. Load c w ∷ l) (over number front later h)
over number (Store c w ∷ front) later h = ap (λ l. Store c w ∷ l) (over number front later h)
over number (Turn k ∷ front) later h = cc

pub long-piece : (e : Entry) (n : ℕ) (r : Runner) (most : ℕ) → IsRunner e n r → after_piece (drop r.taken (seen_by r)) ≡ None → r.taken + most + 1 ≤ r.count
    → (number : ℕ) → most < length (piece number (drop r.taken (attempt_events e n r.row [])))
long-piece e n r most h none long number =
    let taken = h.taken in
    let size = seen-length r h.inside in
    let l = later-of (attempt_events e n r.row []) (seen_by r) r.full h.seen in
    let left = left-of (attempt_events e n r.row []) (seen_by r) l.later r.taken l.split (omega (arith, taken, size)) in
    let cut = length-drop r.taken (seen_by r) in
    let whole : length (piece number (drop r.taken (attempt_events e n r.row []))) ≡ length (drop r.taken (seen_by r)) + length (piece number l.later) =
    ap (λ x. length (piece number x)) left ∙ ap length (over number (drop r.taken (seen_by r)) l.later none)
    ∙ length-append (drop r.taken (seen_by r)) (piece number l.later) in
    omega (arith, whole, cut, size, long)

-- what is left to a block doesn't depend on its record
pub same-left : (e : Entry) (n : ℕ) (r other : Runner) → r ≡ with_record_of r other → drop r.taken (attempt_events e n r.row []) ≡ drop other.taken (attempt_events e n other.row [])
same-left e n r other same = ap (λ (x : Runner). drop x.taken (attempt_events e n x.row [])) same
