-- What becomes of the blocks when an attempt is filed.
use Rattle.std.proofs.Common.{◌≡◌, ◌≢◌, ◌⊎◌, inl, inr, ℕ, zero, suc, ◌+◌, ◌-◌, ◌<◌, ◌≤◌, Bool, true, false, List, [], ◌∷◌, ◌++◌, Option, Some, None, length, map, get_or, take, drop, refl, append-nil, sym, ap, ◌∙◌, subst, arith}
use Rattle.std.specs.Prelude.{if◌then◌else◌, ◌==◌, slice_get, slice_set}
use Rattle.std.proofs.lemmas.Bool.Decides.{Decides-eqb}
use Rattle.std.proofs.lemmas.Option.{slice_get-get_or, slice_get_within}
use Rattle.spf_ast_lemmas.proofs.Members.{cases, some_is}
use Rattle.spf_ast.specs.Carried.{Carried, same_carried}
use Rattle.spf_ast.specs.Event.{Event}
use Rattle.spf_speculation_entry.specs.Entry.{Entry, begins_at}
use Rattle.spf_speculation.proofs.Within.{alike, true-or-false}
use Rattle.spf_speculation.proofs.Trees.{chose-true, chose-false}
use Rattle.spf_replay.specs.declared.runner.Runner.{Runner}
use Rattle.spf_replay.specs.Reading.{event_of}
use Rattle.spf_replay.specs.Runners.{HasSeen, seen_by, status_of, IsRunner, IsBlockOf, AreBlocksOf, RunsAgainOnEntry, after_going_on}
use Rattle.spf_replay.specs.Schedule.{attempt_events, Running, Filed, Situation, is_running, leading, front, is_to_raise, rerun, status_after, after_filing, beginning, running_blocks}
use Rattle.spf_replay.proofs.Scheduled.{real, status_after-front, status_after-else}

-- ---- lists of blocks

get-set-here : {A : Type 0} (xs : List A) (n : ℕ) (x : A) → n < length xs → slice_get (slice_set xs n x) n ≡ Some x
get-set-here [] n x h = absurd (omega (arith, h))
get-set-here (y ∷ xs) zero x h = refl
get-set-here (y ∷ xs) (suc n) x h = get-set-here xs n x (omega (arith, h))

get-set-else : {A : Type 0} (xs : List A) (n k : ℕ) (x : A) → k ≢ n → slice_get (slice_set xs n x) k ≡ slice_get xs k
get-set-else [] n k x ne = refl
get-set-else (y ∷ xs) zero zero x ne = absurd (ne refl)
get-set-else (y ∷ xs) zero (suc k) x ne = refl
get-set-else (y ∷ xs) (suc n) zero x ne = refl
get-set-else (y ∷ xs) (suc n) (suc k) x ne = get-set-else xs n k x (λ e. ne (ap suc e))

-- an element of a list that was changed at one index is the new one, or was there before
pub set-or-kept : {A : Type 0} (xs : List A) (n k : ℕ) (x y : A) → slice_get (slice_set xs n x) k ≡ Some y → ((k ≡ n) × (x ≡ y)) ⊎ ((k ≢ n) × (slice_get xs k ≡ Some y))
set-or-kept xs n k x y h = cases (alike k n)
    (λ same. inl (same, some_is x y (sym (get-set-here xs n x (low xs n x y (subst (λ z. slice_get (slice_set xs n x) z ≡ Some y) same h))) ∙ subst (λ z. slice_get (slice_set xs n x) z ≡ Some y) same h)))
    (λ ne. inr (ne, sym (get-set-else xs n k x ne) ∙ h))
  where
    low : {A : Type 0} (xs : List A) (n : ℕ) (x y : A) → slice_get (slice_set xs n x) n ≡ Some y → n < length xs
    low [] n x y h = cc
    low (z ∷ xs) zero x y h = omega arith
    low (z ∷ xs) (suc n) x y h = let l = low xs n x y h in omega (arith, l)

-- an element of a list that grew is the new one, or was there before
pub last-or-kept : {A : Type 0} (xs : List A) (k : ℕ) (x y : A) → slice_get (xs ++ x ∷ []) k ≡ Some y → ((k ≡ length xs) × (x ≡ y)) ⊎ (slice_get xs k ≡ Some y)
last-or-kept [] zero x y h = inl (refl, some_is x y h)
last-or-kept [] (suc k) x y h = cc
last-or-kept (z ∷ xs) zero x y h = inr h
last-or-kept (z ∷ xs) (suc k) x y h = cases (last-or-kept xs k x y h) (λ l. inl (ap suc l.0, l.1)) (λ i. inr i)

pub at-index : (runners : List Runner) (n : ℕ) (d r : Runner) → n < length runners → r ≡ get_or runners n d → slice_get runners n ≡ Some r
at-index runners n d r low is = slice_get-get_or runners n d low ∙ ap (λ x. Some x) (sym is)

-- ---- one block

pub running-is : (e : Entry) (n : ℕ) (r : Runner) → is_running (status_of e n r) ≡ r.running
running-is e n r = of r.running r.attempt r.row (drop r.taken (attempt_events e n r.row [])) r.ended
  where
    of : (b : Bool) (a : ℕ) (v : Carried) (left : List Event) (ended : Bool) → is_running (if b then Running a v left else Filed v ended) ≡ b
    of true a v left ended = refl
    of false a v left ended = refl

pub runs-so : (e : Entry) (n : ℕ) (r : Runner) → r.running ≡ true → status_of e n r ≡ Running r.attempt r.row (drop r.taken (attempt_events e n r.row []))
runs-so e n r h = chose-true r.running (Running r.attempt r.row (drop r.taken (attempt_events e n r.row []))) (Filed r.row r.ended) h

pub filed-so : (e : Entry) (n : ℕ) (r : Runner) → r.running ≡ false → status_of e n r ≡ Filed r.row r.ended
filed-so e n r h = chose-false r.running (Running r.attempt r.row (drop r.taken (attempt_events e n r.row []))) (Filed r.row r.ended) h

-- a block of which nothing is recorded yet
pub unrecorded : (e : Entry) (n : ℕ) (r : Runner) → r.count ≡ 0 → r.taken ≡ 0 → r.full ≡ true → IsRunner e n r
unrecorded e n r count taken full =
    let none : seen_by r ≡ [] = ap (λ k. map event_of (take k r.room.items)) count ∙ ap (map event_of) (take-none r.room.items) in
    record {
      inside = omega (arith, count);
      taken = omega (arith, count, taken);
      seen = subst (λ (x : Bool × List Event). HasSeen (attempt_events e n r.row []) x.0 x.1) (λ i. (sym full i, sym none i)) (attempt_events e n r.row [], refl);
    }
  where
    take-none : {A : Type 0} (l : List A) → take 0 l ≡ []
    take-none [] = refl
    take-none (x ∷ l) = refl

-- ---- running again

pub runs-anew : (e : Entry) (n : ℕ) (r : Runner) (v : Carried) → r.running ≡ false → same_carried r.row v ≡ false
    → Running 2 v (attempt_events e n v []) ≡ rerun e [] n (Some v) (status_of e n r)
runs-anew e n r v off differ =
    sym (ap (rerun e [] n (Some v)) (filed-so e n r off) ∙ chose-false (same_carried r.row v) (Filed r.row r.ended) (Running 2 v (attempt_events e n v [])) differ)

pub stays-running : (e : Entry) (n : ℕ) (r : Runner) (real_row : Option Carried) → r.running ≡ true → status_of e n r ≡ rerun e [] n real_row (status_of e n r)
stays-running e n r None on = refl
stays-running e n r (Some v) on = runs-so e n r on ∙ sym (ap (rerun e [] n (Some v)) (runs-so e n r on))

pub stays-filed : (e : Entry) (n : ℕ) (r : Runner) (v : Carried) → r.running ≡ false → same_carried r.row v ≡ true → status_of e n r ≡ rerun e [] n (Some v) (status_of e n r)
stays-filed e n r v off same =
    filed-so e n r off
    ∙ sym (ap (rerun e [] n (Some v)) (filed-so e n r off) ∙ chose-true (same_carried r.row v) (Filed r.row r.ended) (Running 2 v (attempt_events e n v [])) same)

-- a block that runs, or is filed at its real row, stays so
pub stays : (e : Entry) (n : ℕ) (r : Runner) (v : Carried) → (r.running ≡ true) ⊎ (same_carried r.row v ≡ true) → status_of e n r ≡ rerun e [] n (Some v) (status_of e n r)
stays e n r v (inl on) = stays-running e n r (Some v) on
stays e n r v (inr same) = cases (true-or-false r.running) (λ on. stays-running e n r (Some v) on) (λ off. stays-filed e n r v off same)

-- ---- the front

-- the front is not among the first n blocks
pub front-begins : (test : ℕ → Bool) (count : ℕ) → 0 + leading test 0 (count - 0) ≡ leading test 0 count
front-begins test count =
    let all : count - 0 ≡ count = omega arith in
    let same : leading test 0 (count - 0) ≡ leading test 0 count = ap (leading test 0) all in
    omega (arith, same)

pub front-on : (test : ℕ → Bool) (n next count front : ℕ) → next ≡ suc n → n < count → test n ≡ true → n + leading test n (count - n) ≡ front → next + leading test next (count - next) ≡ front
front-on test n next count front up low t h = subst (λ x. x + leading test x (count - x) ≡ front) (sym up) (
    let more : count - n ≡ suc (count - suc n) = omega (arith, low) in
    let on : leading test n (count - n) ≡ suc (leading test (suc n) (count - suc n)) = ap (leading test n) more ∙ chose-true (test n) (suc (leading test (suc n) (count - suc n))) 0 t in
    omega (arith, on, h))

pub front-found : (test : ℕ → Bool) (n count front : ℕ) → n < count → test n ≡ false → n + leading test n (count - n) ≡ front → n ≡ front
front-found test n count front low f h =
    let more : count - n ≡ suc (count - suc n) = omega (arith, low) in
    let none : leading test n (count - n) ≡ 0 = ap (leading test n) more ∙ chose-false (test n) (suc (leading test (suc n) (count - suc n))) 0 f in
    omega (arith, none, h)

pub front-past : (test : ℕ → Bool) (n count front : ℕ) → n ≡ count → n + leading test n (count - n) ≡ front → count ≡ front
front-past test n count front same h =
    let less : count - n ≡ 0 = omega (arith, same) in
    let none : leading test n (count - n) ≡ 0 = ap (leading test n) less in
    omega (arith, none, h, same)

-- ---- what is filed

-- what has become of block n, where this is the front block, with this real row
record HasSettled (e : Entry) (n block : ℕ) (real_row : Option Carried) (r q : Runner) : Type 0 where
  runner : IsRunner e n r → IsRunner e n q
  status : status_of e n q ≡ (if n == block then rerun e [] n real_row (status_of e n r) else status_of e n r)
  flag : q.flag ≡ (if is_to_raise block n real_row (status_of e n r) then 1 else r.flag)

settled-block : (e : Entry) (s : Situation) (n block : ℕ) (r q : Runner) (real_row : Option Carried) → IsBlockOf e s n r → RunsAgainOnEntry e s → n < e.header.blocks
    → block ≡ front e s.status → real_row ≡ real e (front e s.status) → HasSettled e n block real_row r q → IsBlockOf e (after_filing e s) n q
settled-block e s n block r q real_row h again low here row has = record {
  runner = has.runner h.runner;
  status = has.status ∙ (λ i. if n == here i then rerun e [] n (row i) (h.status i) else h.status i) ∙ cases (alike n (front e s.status))
      (λ same.
      chose-true (n == front e s.status) (rerun e [] n (real e (front e s.status)) (s.status n)) (s.status n) ((Decides-eqb n (front e s.status)).1 same)
      ∙ ap (λ x. rerun e [] x (real e (front e s.status)) (s.status x)) same
      ∙ sym (again (subst (λ x. x < e.header.blocks) same low))
      ∙ sym (status_after-front e s)
      ∙ ap (status_after e s) (sym same))
      (λ ne.
      chose-false (n == front e s.status) (rerun e [] n (real e (front e s.status)) (s.status n)) (s.status n) (not-true (n == front e s.status) (λ t. ne ((Decides-eqb n (front e s.status)).0 t)))
      ∙ sym (status_after-else e s n ne));
  flag = has.flag ∙ (λ i. if is_to_raise (here i) n (row i) (h.status i) then 1 else h.flag i);
}
  where
    not-true : (b : Bool) → (b ≡ true → ⊥) → b ≡ false
    not-true true h = absurd (h refl)
    not-true false h = refl

-- blocks that are settled one by one
pub settled-on : (e : Entry) (s : Situation) (runners : List Runner) (n next block : ℕ) (r q : Runner) (real_row : Option Carried)
    → next ≡ suc n → RunsAgainOnEntry e s → n < e.header.blocks → slice_get runners n ≡ Some r
    → block ≡ front e s.status → real_row ≡ real e (front e s.status)
    → (IsRunner e n r → IsRunner e n q)
    → status_of e n q ≡ (if n == block then rerun e [] n real_row (status_of e n r) else status_of e n r)
    → q.flag ≡ (if is_to_raise block n real_row (status_of e n r) then 1 else r.flag)
    → ((k : ℕ) (x : Runner) → slice_get runners k ≡ Some x → n ≤ k → IsBlockOf e s k x)
    × ((k : ℕ) (x : Runner) → slice_get runners k ≡ Some x → k < n → IsBlockOf e (after_filing e s) k x)
    → ((k : ℕ) (x : Runner) → slice_get (slice_set runners n q) k ≡ Some x → next ≤ k → IsBlockOf e s k x)
    × ((k : ℕ) (x : Runner) → slice_get (slice_set runners n q) k ≡ Some x → k < next → IsBlockOf e (after_filing e s) k x)
settled-on e s runners n next block r q real_row up again low at here row runner status flag h = (
  λ k x found from. cases (set-or-kept runners n k q x found)
      (λ same. let eq = same.0 in absurd (omega (arith, eq, from, up)))
      (λ kept. h.0 k x kept.1 (omega (arith, from, up))),
  λ k x found below. cases (set-or-kept runners n k q x found)
      (λ same.
      subst (λ (y : ℕ × Runner). IsBlockOf e (after_filing e s) y.0 y.1) (λ i. (sym same.0 i, same.1 i))
      (settled-block e s n block r q real_row (h.0 n r at (omega arith)) again low here row (record { runner = runner; status = status; flag = flag })))
      (λ kept. let ne = kept.0 in h.1 k x kept.1 (omega (arith, below, up, ne))),
)

-- once all are settled
pub all-settled : (e : Entry) (s : Situation) (runners : List Runner) (n : ℕ) → length runners ≡ e.header.blocks → length runners ≤ n
    → ((k : ℕ) (x : Runner) → slice_get runners k ≡ Some x → k < n → IsBlockOf e (after_filing e s) k x) → AreBlocksOf e (after_filing e s) runners
all-settled e s runners n size past done = record {
  count = size;
  each = λ k x at. let inside = slice_get_within runners k x at in done k x at (omega (arith, inside, past));
}

-- what follows once block n has gone on
pub follows-nothing : (e : Entry) (s : Situation) (runners : List Runner) (n : ℕ) (r : Runner) → AreBlocksOf e s runners → slice_get runners n ≡ Some r → r.running ≡ true
    → after_going_on e n s ≡ s
follows-nothing e s runners n r are at on =
    chose-true (is_running (s.status n)) s (after_filing e s) (sym (ap is_running (are.each n r at).status) ∙ running-is e n r ∙ on)

pub follows-filing : (e : Entry) (s : Situation) (runners : List Runner) (n : ℕ) (r : Runner) → AreBlocksOf e s runners → slice_get runners n ≡ Some r → r.running ≡ false
    → after_going_on e n s ≡ after_filing e s
follows-filing e s runners n r are at off =
    chose-false (is_running (s.status n)) s (after_filing e s) (sym (ap is_running (are.each n r at).status) ∙ running-is e n r ∙ off)

-- ---- the blocks that run

pub more-running : (e : Entry) (s : Situation) (n next : ℕ) (r : Runner) (running : List ℕ) → next ≡ suc n → IsBlockOf e s n r → r.running ≡ true
    → running ≡ running_blocks s.status n → running ++ n ∷ [] ≡ running_blocks s.status next
more-running e s n next r running up h on is =
    let runs : is_running (s.status n) ≡ true = sym (ap is_running h.status) ∙ running-is e n r ∙ on in
    ap (λ l. l ++ n ∷ []) is ∙ ap (λ l. running_blocks s.status n ++ l) (sym (chose-true (is_running (s.status n)) (n ∷ []) [] runs)) ∙ ap (running_blocks s.status) (sym up)

pub no-more-running : (e : Entry) (s : Situation) (n next : ℕ) (r : Runner) (running : List ℕ) → next ≡ suc n → IsBlockOf e s n r → r.running ≡ false
    → running ≡ running_blocks s.status n → running ≡ running_blocks s.status next
no-more-running e s n next r running up h off is =
    let stands : is_running (s.status n) ≡ false = sym (ap is_running h.status) ∙ running-is e n r ∙ off in
    is ∙ sym (append-nil (running_blocks s.status n)) ∙ ap (λ l. running_blocks s.status n ++ l) (sym (chose-false (is_running (s.status n)) (n ∷ []) [] stands)) ∙ ap (running_blocks s.status) (sym up)

-- ---- the start

pub first-block : (e : Entry) (guess : ℕ → Carried) (state n : ℕ) (r : Runner) → r.count ≡ 0 → r.taken ≡ 0 → r.full ≡ true → r.running ≡ true → r.attempt ≡ 1 → r.flag ≡ 0
    → r.row ≡ begins_at e guess n → IsBlockOf e (beginning e guess state) n r
first-block e guess state n r count taken full on attempt flag row = record {
  runner = unrecorded e n r count taken full;
  status = runs-so e n r on ∙ (λ i. Running (attempt i) (row i) (drop (taken i) (attempt_events e n (row i) [])));
  flag = flag;
}
