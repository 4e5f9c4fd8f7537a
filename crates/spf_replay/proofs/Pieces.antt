-- Pieces of a record, and of the events that it is of.
use Rattle.std.proofs.Common.{◌≡◌, ◌≢◌, ℕ, suc, ◌-◌, ◌<◌, ◌≤◌, Bool, true, false, List, [], ◌∷◌, ◌++◌, Some, None, length, map, take, drop, refl, sym, ap, ◌∙◌, append-nil, arith}
use Rattle.std.specs.Prelude.{Option, nat_le, if◌then◌else◌}
use Rattle.std.proofs.lemmas.Bool.Decides.{nat_tests}
use Rattle.std.proofs.lemmas.List.{drop-append-le, drop-map, length-take, length-drop, take_all}
use Rattle.spf_ast.specs.Carried.{Carried}
use Rattle.spf_speculation_entry.specs.Entry.{Entry}
use Rattle.spf_replay.specs.declared.runner.Runner.{Runner}
use Rattle.spf_ast.specs.Event.{Event}
use Rattle.spf_replay_log.specs.declared.log.Event as logged
use Rattle.spf_replay.specs.Reading.{event_of}
use Rattle.spf_replay.specs.Runners.{HasSeen, seen_by, IsRunner, HasPiece, next_status}
use Rattle.spf_replay.specs.Schedule.{Running, Filed, attempt_events, piece, after_piece}
use Rattle.spf_replay.proofs.Prefixes.{piece-of-front}

-- what follows what was seen
pub record Later (events seen : List Event) : Type 0 where
  pub later : List Event
  pub split : events ≡ seen ++ later

pub later-of : (events seen : List Event) (full : Bool) → HasSeen events full seen → Later events seen
later-of events seen true h = record { later = h.0; split = h.1 }
later-of events seen false h = record { later = []; split = h ∙ sym (append-nil seen) }

pub left-of : (events seen later : List Event) (taken : ℕ) → events ≡ seen ++ later → taken ≤ length seen → drop taken events ≡ drop taken seen ++ later
left-of events seen later taken split inside = ap (drop taken) split ∙ drop-append-le taken seen later inside

-- where the record has a turn left, the piece is the record's
pub piece-to-turn : (events seen : List Event) (full : Bool) (taken end k : ℕ) → HasSeen events full seen → taken ≤ length seen → end ≤ length seen
    → after_piece (drop taken seen) ≡ Some (drop end seen)
    → (piece k (drop taken events) ≡ piece k (drop taken seen)) × (after_piece (drop taken events) ≡ Some (drop end events))
piece-to-turn events seen full taken end k h inside last turn =
    let l = later-of events seen full h in
    let left = left-of events seen l.later taken l.split inside in
    let p = piece-of-front k (drop taken seen) l.later (drop end seen) turn in
    (ap (piece k) left ∙ p.0, ap after_piece left ∙ p.1 ∙ ap (λ r. Some r) (sym (left-of events seen l.later end l.split last)))

-- where it has none, and is whole, the piece is all that is left
pub piece-to-end : (events seen : List Event) (full : Bool) (taken k : ℕ) → HasSeen events full seen → after_piece (drop taken seen) ≡ None
    → (full ≡ true → after_piece (drop taken seen) ≢ None)
    → (piece k (drop taken events) ≡ piece k (drop taken seen)) × (after_piece (drop taken events) ≡ None)
piece-to-end events seen true taken k h none whole = absurd (whole refl none)
piece-to-end events seen false taken k h none whole = (ap (λ l. piece k (drop taken l)) h, ap (λ l. after_piece (drop taken l)) h ∙ none)

-- ---- what the code finds in a record, which it has as a slice

-- what is left of a list from an index on, as a slice
slice-from : {X : Type 0} (p : ℕ) (l : List X) → take (length l - p) (drop p l) ≡ drop p l
slice-from p l = take_all (length l - p) (drop p l) (omega (arith, length-drop p l))

-- what was seen, from an index on
seen-from : (r : Runner) (room : List logged.Event) (k : ℕ) → room ≡ r.room.items → map event_of (drop k (take r.count room)) ≡ drop k (seen_by r)
seen-from r room k is = ap (λ l. map event_of (drop k (take r.count l))) is ∙ sym (drop-map event_of k (take r.count r.room.items))

mapped : (l : List logged.Event) → length (map event_of l) ≡ length l
mapped [] = refl
mapped (x ∷ l) = ap suc (mapped l)

pub seen-length : (r : Runner) → r.count ≤ length r.room.items → length (seen_by r) ≡ r.count
seen-length r inside = mapped (take r.count r.room.items) ∙ omega (arith, inside, length-take r.count r.room.items)

slice-length : (r : Runner) (room : List logged.Event) → room ≡ r.room.items → r.count ≤ length r.room.items → length (take r.count room) ≡ r.count
slice-length r room is inside = ap (λ l. length (take r.count l)) is ∙ omega (arith, inside, length-take r.count r.room.items)

-- the events that become steps are these
abbrev pub next_slice : Runner → List logged.Event → List Event
next_slice r room = map event_of (take (length (take r.count room) - r.taken) (drop r.taken (take r.count room)))

pub turn-found : (e : Entry) (n : ℕ) (r : Runner) (room : List logged.Event) (end k : ℕ) → IsRunner e n r → room ≡ r.room.items → end ≤ length (take r.count room)
    → after_piece (map event_of (drop r.taken (take r.count room))) ≡ Some (map event_of (drop end (take r.count room)))
    → (piece k (next_slice r room) ≡ piece k (drop r.taken (attempt_events e n r.row [])))
    × (after_piece (drop r.taken (attempt_events e n r.row [])) ≡ Some (drop end (attempt_events e n r.row [])))
turn-found e n r room end k h is last turn =
    let inside = h.inside in
    let taken = h.taken in
    let size = seen-length r h.inside in
    let whole = slice-length r room is h.inside in
    let p = piece-to-turn (attempt_events e n r.row []) (seen_by r) r.full r.taken end k h.seen (omega (arith, taken, size)) (omega (arith, last, size, whole))
    (sym (ap after_piece (seen-from r room r.taken is)) ∙ turn ∙ ap (λ l. Some l) (seen-from r room end is)) in
    (ap (λ l. piece k (map event_of l)) (slice-from r.taken (take r.count room)) ∙ ap (piece k) (seen-from r room r.taken is) ∙ sym p.0, p.1)

pub end-found : (e : Entry) (n : ℕ) (r : Runner) (room : List logged.Event) (k : ℕ) → IsRunner e n r → HasPiece r → room ≡ r.room.items
    → after_piece (map event_of (drop r.taken (take r.count room))) ≡ None
    → (piece k (next_slice r room) ≡ piece k (drop r.taken (attempt_events e n r.row [])))
    × (after_piece (drop r.taken (attempt_events e n r.row [])) ≡ None)
end-found e n r room k h whole is none =
    let p = piece-to-end (attempt_events e n r.row []) (seen_by r) r.full r.taken k h.seen (sym (ap after_piece (seen-from r room r.taken is)) ∙ none) whole in
    (ap (λ l. piece k (map event_of l)) (slice-from r.taken (take r.count room)) ∙ ap (piece k) (seen-from r room r.taken is) ∙ sym p.0, p.1)

-- whether there is a turn
pub none-found : (r : Runner) (room : List logged.Event) → room ≡ r.room.items → after_piece (map event_of (drop r.taken (take r.count room))) ≡ None
    → after_piece (drop r.taken (seen_by r)) ≡ None
none-found r room is none = sym (ap after_piece (seen-from r room r.taken is)) ∙ none

pub some-found : (r : Runner) (room : List logged.Event) (rest : List Event) → room ≡ r.room.items → after_piece (map event_of (drop r.taken (take r.count room))) ≡ Some rest
    → after_piece (drop r.taken (seen_by r)) ≢ None
some-found r room rest is some none = clash rest (sym some ∙ ap after_piece (seen-from r room r.taken is) ∙ none)
  where
    clash : (rest : List Event) → Some rest ≡ None → ⊥
    clash rest e = cc

-- ---- how a block stands then

pub stands-on : (e : Entry) (n : ℕ) (r : Runner) (end : ℕ) (on : Bool) → on ≡ true → r.flag < r.attempt
    → after_piece (drop r.taken (attempt_events e n r.row [])) ≡ Some (drop end (attempt_events e n r.row []))
    → (if on then Running r.attempt r.row (drop end (attempt_events e n r.row [])) else Filed r.row r.ended)
    ≡ next_status r.flag r.attempt r.row (after_piece (drop r.taken (attempt_events e n r.row [])))
stands-on e n r end on running low turn =
    ap (λ b. if b then Running r.attempt r.row (drop end (attempt_events e n r.row [])) else Filed r.row r.ended) running
    ∙ sym (ap (next_status r.flag r.attempt r.row) turn
    ∙ ap (λ b. if b then Filed r.row false else Running r.attempt r.row (drop end (attempt_events e n r.row []))) (not-reached r.attempt r.flag low))
  where
    not-reached : (a f : ℕ) → f < a → nat_le a f ≡ false
    not-reached a f h = grind (arith, nat_tests, h)

pub stands-stopped : (flag attempt : ℕ) (row : Carried) (o : Option (List Event)) (rest : List Event) → attempt ≤ flag → o ≡ Some rest
    → Filed row false ≡ next_status flag attempt row o
stands-stopped flag attempt row o rest high turn =
    sym (ap (next_status flag attempt row) turn ∙ ap (λ b. if b then Filed row false else Running attempt row rest) (reached attempt flag high))
  where
    reached : (a f : ℕ) → a ≤ f → nat_le a f ≡ true
    reached a f h = grind (arith, nat_tests, h)
