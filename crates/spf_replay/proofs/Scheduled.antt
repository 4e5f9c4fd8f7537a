-- The steps of a schedule are a speculative run.
use Rattle.std.proofs.Common.{◌≡◌, ◌≢◌, ◌⊎◌, inl, inr, ℕ, zero, suc, ◌+◌, ◌<◌, ◌≤◌, Bool, true, false, List, [], ◌∷◌, ◌++◌, Option, Some, None, length, get_or, refl, sym, ap, ◌∙◌, subst, arith}
use Rattle.std.specs.Prelude.{if◌then◌else◌, ◌==◌, ◌&&◌, not, nat_le, slice_get}
use Rattle.std.proofs.lemmas.Bool.Decides.{Decides-eqb}
use Rattle.spf_speculation_entry.proofs.Rows.{Decides-same_carried}
use Rattle.std.proofs.lemmas.List.{append_assoc, append-nil}
use Rattle.std.proofs.lemmas.Option.{slice_get_past, slice_get-get_or}
use Rattle.spf_ast_lemmas.proofs.Members.{cases}
use Rattle.spf_ast.specs.Carried.{Carried, same_carried}
use Rattle.spf_ast.specs.Event.{Event, after, IsConsistent}
use Rattle.spf_ast.specs.Interaction.{Ending}
use Rattle.spf_apps_formats.specs.Draws.{next_state}
use Rattle.spf_speculation_entry.specs.Entry.{Entry, IsEntry, own, plain_blocks, begins_at}
use Rattle.spf_speculation_entry.specs.Attempts.{IsAttempt, IsWhole}
use Rattle.spf_speculation.specs.Steps.{Step, log_of, AreBelow, steps_of}
use Rattle.spf_speculation.specs.Runs.{IsRealLog, at_once, again}
use Rattle.spf_speculation.proofs.Within.{alike, true-or-false, outside-after, consistent-both}
use Rattle.spf_speculation.proofs.Merging.{log-own, log-other, merge-consistent}
use Rattle.spf_speculation.proofs.Trees.{IsOutside, chose-true, chose-false}
use Rattle.spf_speculation.proofs.Blocks.{BlockLaws, blocks-apart, attempt-within, whole-attempt}
use Rattle.spf_replay.specs.Deciding.{IsLogAt, HasItsLogs}
use Rattle.spf_replay.specs.Schedule.{attempt_events, piece, after_piece, Status, Running, Filed, Situation, is_running, is_valid, is_valid_in, leading, front, is_useless, is_to_raise, flag_after, status_after, after_filing, replace_at, arrive, advance, running_below, IsPicked, RunsTo, none_running, one_more, beginning, IsScheduled}
use Rattle.spf_replay.specs.Schedule as schedule
use Rattle.spf_replay.proofs.Decided.{log-within}
use Rattle.spf_replay.proofs.Polled.{IsPolled}
use Rattle.spf_replay.proofs.Following.{Follows, follows-on, follows-polled, follows-below, last-piece, turn-piece, polled-attempt, unstopped-whole}

-- the real values of the plain run
abbrev pub real : Entry → ℕ → Option Carried
real e n = slice_get (plain_blocks e).values n

-- ---- logs of steps

log-append : (n : ℕ) (one other : List Step) → log_of n (one ++ other) ≡ log_of n one ++ log_of n other
log-append n [] other = refl
log-append n (s ∷ one) other = cases (alike s.block n)
    (λ same. log-own n s (one ++ other) same ∙ ap (λ l. s.event ∷ l) (log-append n one other) ∙ sym (ap (λ l. l ++ log_of n other) (log-own n s one same)))
    (λ ne. log-other n s (one ++ other) ne ∙ log-append n one other ∙ sym (ap (λ l. l ++ log_of n other) (log-other n s one ne)))

own-steps : (n : ℕ) (log : List Event) → log_of n (steps_of n log) ≡ log
own-steps n [] = refl
own-steps n (e ∷ log) = log-own n (record { block = n; event = e }) (steps_of n log) refl ∙ ap (λ l. e ∷ l) (own-steps n log)

other-steps : (n k : ℕ) (log : List Event) → k ≢ n → log_of n (steps_of k log) ≡ []
other-steps n k [] ne = refl
other-steps n k (e ∷ log) ne = log-other n (record { block = k; event = e }) (steps_of k log) ne ∙ other-steps n k log ne

log-here : (n : ℕ) (steps : List Step) (es : List Event) → log_of n (steps ++ steps_of n es) ≡ log_of n steps ++ es
log-here n steps es = log-append n steps (steps_of n es) ∙ ap (λ l. log_of n steps ++ l) (own-steps n es)

log-else : (n k : ℕ) (steps : List Step) (es : List Event) → n ≢ k → log_of k (steps ++ steps_of n es) ≡ log_of k steps
log-else n k steps es ne =
    log-append k steps (steps_of n es) ∙ ap (λ l. log_of k steps ++ l) (other-steps k n es ne) ∙ append-nil (log_of k steps)

below-append : (count : ℕ) (one other : List Step) → AreBelow count one → AreBelow count other → AreBelow count (one ++ other)
below-append count [] other h k = k
below-append count (s ∷ one) other h k = (h.0, below-append count one other h.1 k)

below-steps : (count n : ℕ) (log : List Event) → n < count → AreBelow count (steps_of n log)
below-steps count n [] h = tt
below-steps count n (e ∷ log) h = (h, below-steps count n log h)

-- ---- a function with another value for one number

pub replace_at-here : {A : Type 0} (n : ℕ) (x : A) (f : ℕ → A) → replace_at n x f n ≡ x
replace_at-here n x f = chose-true (n == n) x (f n) ((Decides-eqb n n).1 refl)

pub replace_at-else : {A : Type 0} (n : ℕ) (x : A) (f : ℕ → A) (k : ℕ) → k ≢ n → replace_at n x f k ≡ f k
replace_at-else n x f k ne = cases (true-or-false (k == n)) (λ t. absurd (ne ((Decides-eqb k n).0 t))) (λ c. chose-false (k == n) x (f k) c)

-- ---- the front

first-true : (b : Bool) (l : ℕ) → 0 < (if b then suc l else 0) → b ≡ true
first-true true l h = refl
first-true false l h = absurd (omega arith)

rest-below : (b : Bool) (l d : ℕ) → suc d < (if b then suc l else 0) → d < l
rest-below true l d h = omega arith
rest-below false l d h = absurd (omega arith)

-- the numbers before the first that fails pass
leading-below : (test : ℕ → Bool) (n count d : ℕ) → d < leading test n count → test (n + d) ≡ true
leading-below test n zero d h = absurd (omega arith)
leading-below test n (suc count) zero h =
    let here : n ≡ n + 0 = omega arith in
    subst (λ x. test x ≡ true) here (first-true (test n) (leading test (suc n) count) h)
leading-below test n (suc count) (suc d) h =
    let here : suc n + d ≡ n + suc d = omega arith in
    subst (λ x. test x ≡ true) here (leading-below test (suc n) count d (rest-below (test n) (leading test (suc n) count) d h))

-- and the first that fails does
leading-at : (test : ℕ → Bool) (n count : ℕ) → leading test n count < count → test (n + leading test n count) ≡ false
leading-at test n zero h = absurd (omega arith)
leading-at test n (suc count) h = cases (true-or-false (test n))
    (λ t.
    let eq : leading test n (suc count) ≡ suc (leading test (suc n) count) = chose-true (test n) (suc (leading test (suc n) count)) 0 t in
    let low : leading test (suc n) count < count = omega (arith, h, eq) in
    let here : suc n + leading test (suc n) count ≡ n + leading test n (suc count) = omega (arith, eq) in
    subst (λ x. test x ≡ false) here (leading-at test (suc n) count low))
    (λ f.
    let eq : leading test n (suc count) ≡ 0 = chose-false (test n) (suc (leading test (suc n) count)) 0 f in
    let here : n ≡ n + leading test n (suc count) = omega (arith, eq) in
    subst (λ x. test x ≡ false) here f)

leading-same : (test other : ℕ → Bool) (n count : ℕ) → ((k : ℕ) → n ≤ k → k < n + count → test k ≡ other k) → leading test n count ≡ leading other n count
leading-same test other n zero same = refl
leading-same test other n (suc count) same = λ i. if same n (omega arith) (omega arith) i then suc (leading-same test other (suc n) count (λ k from low. same k (omega (arith, from)) (omega (arith, low))) i) else 0

leading-most : (test : ℕ → Bool) (n count : ℕ) → leading test n count ≤ count
leading-most test n zero = omega arith
leading-most test n (suc count) = cases (true-or-false (test n))
    (λ t.
    let eq : leading test n (suc count) ≡ suc (leading test (suc n) count) = chose-true (test n) (suc (leading test (suc n) count)) 0 t in
    let most = leading-most test (suc n) count in
    omega (arith, eq, most))
    (λ f.
    let eq : leading test n (suc count) ≡ 0 = chose-false (test n) (suc (leading test (suc n) count)) 0 f in
    omega (arith, eq))

-- ---- options

some-same : (v w : Carried) → Some v ≡ Some w → v ≡ w
some-same v w e = cc

none-some : {B : Type 0} (v : Carried) → None ≡ Some v → B
none-some v e = cc

-- past an index where a list has nothing it has nothing
past : (e : Entry) (f n : ℕ) → real e f ≡ None → f ≤ n → real e n ≡ None
past e f n none from = slice_get_past (plain_blocks e).values n (cases (inside-or-past f (length (plain_blocks e).values))
    (λ inside. absurd (not-none (slice_get (plain_blocks e).values f) (get_or (plain_blocks e).values f []) (slice_get-get_or (plain_blocks e).values f [] inside) none))
    (λ out. omega (arith, out, from)))
  where
    inside-or-past : (c l : ℕ) → (c < l) ⊎ (l ≤ c)
    inside-or-past c l = grind arith

    not-none : (x : Option Carried) (v : Carried) → x ≡ Some v → x ≡ None → ⊥
    not-none x v a b = cc

-- ---- where a block stands

-- its first attempt runs
pub record FirstRuns (e : Entry) (guess : ℕ → Carried) (n : ℕ) (v : Carried) (log left : List Event) : Type 0 where
  pub value : v ≡ begins_at e guess n
  pub done : List Event
  pub split : attempt_events e n v [] ≡ done ++ left
  pub follows : Follows 1 done log

-- its second attempt runs
pub record SecondRuns (e : Entry) (guess : ℕ → Carried) (n : ℕ) (v : Carried) (log left : List Event) : Type 0 where
  pub first : List Event
  pub second : List Event
  pub parts : log ≡ first ++ second
  pub attempt : IsAttempt e n (begins_at e guess n) 1 first
  pub is : IsConsistent first e.memory
  pub wrong : begins_at e guess n ≢ v
  pub real_value : real e n ≡ Some v
  pub done : List Event
  pub split : attempt_events e n v first ≡ done ++ left
  pub follows : Follows 2 done second

-- its first attempt is filed, which ended
pub record FirstEnded (e : Entry) (guess : ℕ → Carried) (n : ℕ) (v : Carried) (log : List Event) : Type 0 where
  pub value : v ≡ begins_at e guess n
  pub answer : Ending Carried
  pub whole : IsWhole e n v 1 log answer
  pub is : IsConsistent log e.memory

-- its second attempt is filed
pub record SecondEnded (e : Entry) (guess : ℕ → Carried) (n : ℕ) (v : Carried) (log : List Event) : Type 0 where
  pub real_value : real e n ≡ Some v
  pub answer : Ending Carried
  pub real_log : IsRealLog e guess n v log answer
  pub is : IsConsistent log e.memory

-- its first attempt is filed, which was useless and stopped
pub record FirstStopped (e : Entry) (guess : ℕ → Carried) (n : ℕ) (v : Carried) (log : List Event) : Type 0 where
  pub value : v ≡ begins_at e guess n
  pub attempt : IsAttempt e n v 1 log
  pub is : IsConsistent log e.memory
  pub vain : real e n ≢ Some v

abbrev pub Stands : Entry → (ℕ → Carried) → ℕ → Status → List Event → Type 0
Stands e guess n (Running attempt v left) log = ((attempt ≡ 1) × FirstRuns e guess n v log left) ⊎ ((attempt ≡ 2) × SecondRuns e guess n v log left)
Stands e guess n (Filed v true) log = FirstEnded e guess n v log ⊎ SecondEnded e guess n v log
Stands e guess n (Filed v false) log = FirstStopped e guess n v log

-- a flag is down, or is raised for a useless first attempt
abbrev pub IsFlag : Entry → (ℕ → Carried) → ℕ → ℕ → Type 0
IsFlag e guess n flag = (flag ≡ 0) ⊎ ((flag ≡ 1) × (real e n ≢ Some (begins_at e guess n)))

-- the front block's attempt isn't filed at another row than the real one
abbrev pub IsSettledAt : Option Carried → Status → Type 0
IsSettledAt None status = Unit {0}
IsSettledAt (Some v) (Running attempt w left) = Unit {0}
IsSettledAt (Some v) (Filed w ended) = w ≡ v

pub record Loose (e : Entry) (guess : ℕ → Carried) (s : Situation) : Type 0 where
  pub below : AreBelow e.header.blocks s.steps
  pub at : (n : ℕ) → n < e.header.blocks → Stands e guess n (s.status n) (log_of n s.steps)
  pub flags : (n : ℕ) → n < e.header.blocks → IsFlag e guess n (s.flag n)

pub record Kept (e : Entry) (guess : ℕ → Carried) (s : Situation) : Type 0 where
  pub loose : Loose e guess s
  pub settled : IsSettledAt (real e (front e s.status)) (s.status (front e s.status))

-- ---- filing

same-or-not : (v w : Carried) → (v ≡ w) ⊎ (v ≢ w)
same-or-not v w = cases (true-or-false (same_carried v w)) (λ t. inl ((Decides-same_carried v w).0 t)) (λ f. inr (λ e. wrong (same_carried v w) ((Decides-same_carried v w).1 e) f))
  where
    wrong : (b : Bool) → b ≡ true → b ≡ false → ⊥
    wrong b h k = cc

-- a block whose attempt is filed at another row than its real one can run again
goes-again : (e : Entry) (guess : ℕ → Carried) (n : ℕ) (v w : Carried) (ended : Bool) (log : List Event) → real e n ≡ Some v → w ≢ v
    → Stands e guess n (Filed w ended) log → Stands e guess n (Running 2 v (attempt_events e n v log)) log
goes-again e guess n v w true log is ne (inl h) = inr (
  refl,
  record {
    first = log;
    second = [];
    parts = sym (append-nil log);
    attempt = subst (λ x. IsAttempt e n x 1 log) h.value (whole-attempt e n w 1 log h.answer h.whole);
    is = h.is;
    wrong = λ same. ne (h.value ∙ same);
    real_value = is;
    done = [];
    split = refl;
    follows = tt;
  },
)
goes-again e guess n v w true log is ne (inr h) = absurd (ne (some-same w v (sym h.real_value ∙ is)))
goes-again e guess n v w false log is ne h = inr (
  refl,
  record {
    first = log;
    second = [];
    parts = sym (append-nil log);
    attempt = subst (λ x. IsAttempt e n x 1 log) h.value h.attempt;
    is = h.is;
    wrong = λ same. ne (h.value ∙ same);
    real_value = is;
    done = [];
    split = refl;
    follows = tt;
  },
)

-- what runs again
again-stands : (e : Entry) (guess : ℕ → Carried) (n : ℕ) (steps : List Step) (r : Option Carried) (status : Status) → real e n ≡ r
    → Stands e guess n status (log_of n steps) → Stands e guess n (schedule.rerun e steps n r status) (log_of n steps)
again-stands e guess n steps None status is h = h
again-stands e guess n steps (Some v) (Running attempt w left) is h = h
again-stands e guess n steps (Some v) (Filed w ended) is h = cases (true-or-false (same_carried w v))
    (λ t. subst (λ x. Stands e guess n x (log_of n steps)) (sym (chose-true (same_carried w v) (Filed w ended) (Running 2 v (attempt_events e n v (log_of n steps))) t)) h)
    (λ f. subst (λ x. Stands e guess n x (log_of n steps)) (sym (chose-false (same_carried w v) (Filed w ended) (Running 2 v (attempt_events e n v (log_of n steps))) f))
    (goes-again e guess n v w ended (log_of n steps) is (differ w v f) h))
  where
    wrong : (b : Bool) → b ≡ true → b ≡ false → ⊥
    wrong b h k = cc

    differ : (w v : Carried) → same_carried w v ≡ false → w ≢ v
    differ w v f same = wrong (same_carried w v) ((Decides-same_carried w v).1 same) f

-- whether it is valid stays
again-valid : (e : Entry) (n : ℕ) (steps : List Step) (r : Option Carried) (status : Status) → is_valid r status ≡ false → is_valid r (schedule.rerun e steps n r status) ≡ false
again-valid e n steps None status h = h
again-valid e n steps (Some v) (Running attempt w left) h = h
again-valid e n steps (Some v) (Filed w ended) h = cases (true-or-false (same_carried w v))
    (λ t. subst (λ x. is_valid (Some v) x ≡ false) (sym (chose-true (same_carried w v) (Filed w ended) (Running 2 v (attempt_events e n v (log_of n steps))) t)) h)
    (λ f. subst (λ x. is_valid (Some v) x ≡ false) (sym (chose-false (same_carried w v) (Filed w ended) (Running 2 v (attempt_events e n v (log_of n steps))) f)) refl)

-- and it is settled
again-settled : (e : Entry) (n : ℕ) (steps : List Step) (r : Option Carried) (status : Status) → IsSettledAt r (schedule.rerun e steps n r status)
again-settled e n steps None status = tt
again-settled e n steps (Some v) (Running attempt w left) = tt
again-settled e n steps (Some v) (Filed w ended) = cases (true-or-false (same_carried w v))
    (λ t. subst (IsSettledAt (Some v)) (sym (chose-true (same_carried w v) (Filed w ended) (Running 2 v (attempt_events e n v (log_of n steps))) t)) ((Decides-same_carried w v).0 t))
    (λ f. subst (IsSettledAt (Some v)) (sym (chose-false (same_carried w v) (Filed w ended) (Running 2 v (attempt_events e n v (log_of n steps))) f)) tt)

both-parts : (x y : Bool) → (x && y) ≡ true → (x ≡ true) × (y ≡ true)
both-parts true y e = (refl, e)
both-parts false y e = cc

pub clash : {B : Type 0} (b : Bool) → b ≡ true → b ≡ false → B
clash b h k = absurd (both b h k)
  where
    both : (b : Bool) → b ≡ true → b ≡ false → ⊥
    both true h k = cc
    both false h k = cc

not-true : (b : Bool) → not b ≡ true → b ≡ false
not-true true h = cc
not-true false h = refl

out-invalid : (r : Option Carried) (attempt : ℕ) (v : Carried) (left : List Event) → is_valid r (Running attempt v left) ≡ false
out-invalid None attempt v left = refl
out-invalid (Some w) attempt v left = refl

out-settled : (r : Option Carried) (attempt : ℕ) (v : Carried) (left : List Event) → IsSettledAt r (Running attempt v left)
out-settled None attempt v left = tt
out-settled (Some w) attempt v left = tt

front-below : (e : Entry) (status : ℕ → Status) (n : ℕ) → n < front e status → is_valid_in e status n ≡ true
front-below e status n low =
    let here : 0 + n ≡ n = omega arith in
    subst (λ x. is_valid_in e status x ≡ true) here (leading-below (is_valid_in e status) 0 e.header.blocks n low)

front-at : (e : Entry) (status : ℕ → Status) → front e status < e.header.blocks → is_valid_in e status (front e status) ≡ false
front-at e status low =
    let here : 0 + front e status ≡ front e status = omega arith in
    subst (λ x. is_valid_in e status x ≡ false) here (leading-at (is_valid_in e status) 0 e.header.blocks low)

-- what isn't valid isn't before the front
front-before : (e : Entry) (status : ℕ → Status) (n : ℕ) → is_valid_in e status n ≡ false → front e status ≤ n
front-before e status n invalid = cases (inside-or-past n (front e status))
    (λ inside. clash (is_valid_in e status n) (front-below e status n inside) invalid)
    (λ from. from)
  where
    inside-or-past : (c l : ℕ) → (c < l) ⊎ (l ≤ c)
    inside-or-past c l = grind arith

-- a flag is raised for a useless first attempt
flag_after-vain : (e : Entry) (guess : ℕ → Carried) (f n : ℕ) (r : Option Carried) (status : Status) (log : List Event) → real e f ≡ r → (is_running status ≡ true → f ≤ n)
    → Stands e guess n status log → is_to_raise f n r status ≡ true → real e n ≢ Some (begins_at e guess n)
flag_after-vain e guess f n r (Filed w ended) log is from h t same = cc
flag_after-vain e guess f n None (Running attempt v left) log is from h t same = none-some (begins_at e guess n) (sym (past e f n is (from refl)) ∙ same)
flag_after-vain e guess f n (Some r) (Running attempt v left) log is from (inr h) t same =
    clash (attempt == 1) (both-parts (attempt == 1) ((n == f) && not (same_carried v r)) t).0 (subst (λ (a : ℕ). (a == 1) ≡ false) (sym h.0) refl)
flag_after-vain e guess f n (Some r) (Running attempt v left) log is from (inl h) t same =
    let two = both-parts (n == f) (not (same_carried v r)) (both-parts (attempt == 1) ((n == f) && not (same_carried v r)) t).1 in
    let here : n ≡ f = (Decides-eqb n f).0 two.0 in
    let real_value : real e n ≡ Some r = ap (real e) here ∙ is in
    clash (same_carried v r) ((Decides-same_carried v r).1 (h.1.value ∙ sym (some-same r (begins_at e guess n) (sym real_value ∙ same)))) (not-true (same_carried v r) two.1)

is-out-invalid : (r : Option Carried) (status : Status) → is_running status ≡ true → is_valid r status ≡ false
is-out-invalid r (Running attempt v left) h = out-invalid r attempt v left
is-out-invalid r (Filed w ended) h = cc

-- the statuses after filing
pub status_after-front : (e : Entry) (s : Situation) → status_after e s (front e s.status) ≡ schedule.rerun e s.steps (front e s.status) (real e (front e s.status)) (s.status (front e s.status))
status_after-front e s = chose-true (front e s.status == front e s.status) _ (s.status (front e s.status)) ((Decides-eqb (front e s.status) (front e s.status)).1 refl)

pub status_after-else : (e : Entry) (s : Situation) (n : ℕ) → n ≢ front e s.status → status_after e s n ≡ s.status n
status_after-else e s n ne = cases (true-or-false (n == front e s.status)) (λ t. absurd (ne ((Decides-eqb n (front e s.status)).0 t))) (λ f. chose-false (n == front e s.status) _ (s.status n) f)

front-stays : (e : Entry) (s : Situation) → front e (status_after e s) ≡ front e s.status
front-stays e s = leading-same (is_valid_in e (status_after e s)) (is_valid_in e s.status) 0 e.header.blocks (λ k from low. cases (alike k (front e s.status))
    (λ same.
    let inside : front e s.status < e.header.blocks = omega (arith, same, low) in
    let invalid : is_valid_in e s.status (front e s.status) ≡ false = front-at e s.status inside in
    subst (λ (x : ℕ). is_valid_in e (status_after e s) x ≡ is_valid_in e s.status x) (sym same)
    (ap (is_valid (real e (front e s.status))) (status_after-front e s) ∙ again-valid e (front e s.status) s.steps (real e (front e s.status)) (s.status (front e s.status)) invalid ∙ sym invalid))
    (λ ne. ap (is_valid (real e k)) (status_after-else e s k ne)))

after_filing-keeps : (e : Entry) (guess : ℕ → Carried) (s : Situation) → Loose e guess s → Kept e guess (after_filing e s)
after_filing-keeps e guess s h = record {
  loose = record {
    below = h.below;
    at = λ n low. cases (alike n (front e s.status))
        (λ same. subst (λ (x : ℕ). Stands e guess x (status_after e s x) (log_of x s.steps)) (sym same)
        (subst (λ x. Stands e guess (front e s.status) x (log_of (front e s.status) s.steps)) (sym (status_after-front e s))
        (again-stands e guess (front e s.status) s.steps (real e (front e s.status)) (s.status (front e s.status)) refl (h.at (front e s.status) (omega (arith, same, low))))))
        (λ ne. subst (λ x. Stands e guess n x (log_of n s.steps)) (sym (status_after-else e s n ne)) (h.at n low));
    flags = λ n low. cases (true-or-false (is_to_raise (front e s.status) n (real e (front e s.status)) (s.status n)))
        (λ t. inr (
          chose-true (is_to_raise (front e s.status) n (real e (front e s.status)) (s.status n)) 1 (s.flag n) t,
          flag_after-vain e guess (front e s.status) n (real e (front e s.status)) (s.status n) (log_of n s.steps) refl
              (λ out. front-before e s.status n (is-out-invalid (real e n) (s.status n) out)) (h.at n low) t,
        ))
        (λ f. subst (IsFlag e guess n) (sym (chose-false (is_to_raise (front e s.status) n (real e (front e s.status)) (s.status n)) 1 (s.flag n) f)) (h.flags n low));
  };
  settled = subst (λ (x : ℕ). IsSettledAt (real e x) (status_after e s x)) (sym (front-stays e s))
      (subst (IsSettledAt (real e (front e s.status))) (sym (status_after-front e s)) (again-settled e (front e s.status) s.steps (real e (front e s.status)) (s.status (front e s.status))));
}

-- ---- a block goes on

follows-all : (stop : ℕ) (es fs : List Event) → Follows stop es fs → IsPolled stop es fs
follows-all stop es fs h = subst (λ (x : List Event × List Event). IsPolled stop x.0 x.1) (λ i. (append-nil es i, append-nil fs i)) (follows-polled stop es fs [] [] h tt)

outside-none : (e : Entry) (n : ℕ) → IsOutside (own e n) e.memory e.memory
outside-none e n c out = refl

outside-first : (e : Entry) → IsEntry e → (guess : ℕ → Carried) (n : ℕ) (first : List Event) → IsAttempt e n (begins_at e guess n) 1 first → IsOutside (own e n) (after first e.memory) e.memory
outside-first e h guess n first is c out = outside-after (own e n) first e.memory c (attempt-within e h n (begins_at e guess n) 1 first is) out

-- to its end
pub end-stands : BlockLaws → (e : Entry) → IsEntry e → (guess : ℕ → Carried) (n a : ℕ) (v : Carried) (left log : List Event) (k : ℕ) → after_piece left ≡ None
    → Stands e guess n (Running a v left) log → Stands e guess n (Filed v true) (log ++ piece k left)
end-stands laws e h guess n a v left log k last (inl o) =
    let all : Follows 1 (attempt_events e n v []) (log ++ piece k left) =
    subst (λ l. Follows 1 l (log ++ piece k left)) (sym o.1.split) (follows-on 1 o.1.done log left (piece k left) o.1.follows (last-piece 1 k left last)) in
    let made = polled-attempt laws e h n v 1 [] (log ++ piece k left) (outside-none e n) (follows-all 1 (attempt_events e n v []) (log ++ piece k left) all) in
    let whole = unstopped-whole e n v 1 (log ++ piece k left) made.attempt (follows-below 1 (attempt_events e n v []) (log ++ piece k left) all) in
    inl (record { value = o.1.value; answer = whole.0; whole = whole.1; is = made.is })
end-stands laws e h guess n a v left log k last (inr o) =
    let b = o.1 in
    let all : Follows 2 (attempt_events e n v b.first) (b.second ++ piece k left) =
    subst (λ l. Follows 2 l (b.second ++ piece k left)) (sym b.split) (follows-on 2 b.done b.second left (piece k left) b.follows (last-piece 2 k left last)) in
    let made = polled-attempt laws e h n v 2 b.first (b.second ++ piece k left) (outside-first e h guess n b.first b.attempt) (follows-all 2 (attempt_events e n v b.first) (b.second ++ piece k left) all) in
    let whole = unstopped-whole e n v 2 (b.second ++ piece k left) made.attempt (follows-below 2 (attempt_events e n v b.first) (b.second ++ piece k left) all) in
    let parts : log ++ piece k left ≡ b.first ++ (b.second ++ piece k left) = ap (λ l. l ++ piece k left) b.parts ∙ append_assoc b.first b.second (piece k left) in
    inr (record {
      real_value = b.real_value;
      answer = whole.0;
      real_log = again b.first (b.second ++ piece k left) parts b.wrong b.attempt whole.1;
      is = subst (λ l. IsConsistent l e.memory) (sym parts) (consistent-both b.first (b.second ++ piece k left) e.memory b.is made.is);
    })

one-stops : (k : ℕ) → k ≡ 0 → nat_le 1 k ≡ true → ⊥
one-stops k z t = grind (arith, z, t)

two-stops : (k : ℕ) → k ≤ 1 → nat_le 2 k ≡ true → ⊥
two-stops k z t = grind (arith, z, t)

flag-most : (e : Entry) (guess : ℕ → Carried) (n k : ℕ) → IsFlag e guess n k → k ≤ 1
flag-most e guess n k (inl z) = omega arith
flag-most e guess n k (inr o) = let one = o.0 in omega (arith, one)

-- up to a turn that stops it
pub stop-stands : BlockLaws → (e : Entry) → IsEntry e → (guess : ℕ → Carried) (n a : ℕ) (v : Carried) (left rest log : List Event) (k : ℕ) → after_piece left ≡ Some rest
    → nat_le a k ≡ true → IsFlag e guess n k → Stands e guess n (Running a v left) log → Stands e guess n (Filed v false) (log ++ piece k left)
stop-stands laws e h guess n a v left rest log k turn stops flag (inr o) =
    absurd (two-stops k (flag-most e guess n k flag) (subst (λ (x : ℕ). nat_le x k ≡ true) o.0 stops))
stop-stands laws e h guess n a v left rest log k turn stops (inl z) (inl o) = absurd (one-stops k z (subst (λ (x : ℕ). nat_le x k ≡ true) o.0 stops))
stop-stands laws e h guess n a v left rest log k turn stops (inr f) (inl o) =
    let b = o.1 in
    let all : IsPolled 1 (attempt_events e n v []) (log ++ piece k left) =
    subst (λ l. IsPolled 1 l (log ++ piece k left)) (sym b.split)
    (follows-polled 1 b.done log left (piece k left) b.follows ((turn-piece 1 k left rest turn).end (subst (λ (x : ℕ). nat_le x k ≡ true) o.0 stops))) in
    let made = polled-attempt laws e h n v 1 [] (log ++ piece k left) (outside-none e n) all in
    record { value = b.value; attempt = made.attempt; is = made.is; vain = λ same. f.1 (same ∙ ap (λ x. Some x) b.value) }

-- up to a turn that doesn't
pub on-stands : (e : Entry) (guess : ℕ → Carried) (n a : ℕ) (v : Carried) (left rest log : List Event) (k : ℕ) → after_piece left ≡ Some rest
    → nat_le a k ≡ false → Stands e guess n (Running a v left) log → Stands e guess n (Running a v rest) (log ++ piece k left)
on-stands e guess n a v left rest log k turn on (inl o) =
    let t = turn-piece 1 k left rest turn in
    inl (
      o.0,
      record {
        value = o.1.value;
        done = o.1.done ++ t.taken;
        split = o.1.split ∙ ap (λ l. o.1.done ++ l) t.split ∙ sym (append_assoc o.1.done t.taken rest);
        follows = follows-on 1 o.1.done log t.taken (piece k left) o.1.follows (t.on (subst (λ (x : ℕ). nat_le x k ≡ false) o.0 on));
      },
    )
on-stands e guess n a v left rest log k turn on (inr o) =
    let b = o.1 in
    let t = turn-piece 2 k left rest turn in
    inr (
      o.0,
      record {
        first = b.first;
        second = b.second ++ piece k left;
        parts = ap (λ l. l ++ piece k left) b.parts ∙ append_assoc b.first b.second (piece k left);
        attempt = b.attempt;
        is = b.is;
        wrong = b.wrong;
        real_value = b.real_value;
        done = b.done ++ t.taken;
        split = b.split ∙ ap (λ l. b.done ++ l) t.split ∙ sym (append_assoc b.done t.taken rest);
        follows = follows-on 2 b.done b.second t.taken (piece k left) b.follows (t.on (subst (λ (x : ℕ). nat_le x k ≡ false) o.0 on));
      },
    )

-- ---- one turn of the schedule

pub placed : BlockLaws → (e : Entry) (guess : ℕ → Carried) (s : Situation) (n : ℕ) (status : Status) (es : List Event) → n < e.header.blocks → Loose e guess s
    → Stands e guess n status (log_of n s.steps ++ es) → Loose e guess (record s { status = replace_at n status s.status; steps = s.steps ++ steps_of n es })
placed laws e guess s n status es low h here = record {
  below = below-append e.header.blocks s.steps (steps_of n es) h.below (below-steps e.header.blocks n es low);
  at = λ k k-low. cases (alike k n)
      (λ same. subst (λ (x : ℕ). Stands e guess x (replace_at n status s.status x) (log_of x (s.steps ++ steps_of n es))) (sym same)
      (subst (λ (x : Status × List Event). Stands e guess n x.0 x.1) (λ i. (sym (replace_at-here n status s.status) i, sym (log-here n s.steps es) i)) here))
      (λ ne. subst (λ (x : Status × List Event). Stands e guess k x.0 x.1) (λ i. (sym (replace_at-else n status s.status k ne) i, sym (log-else n k s.steps es (λ eq. ne (sym eq))) i)) (h.at k k-low));
  flags = h.flags;
}

-- the front stays where a block that runs runs on
front-goes-on : (e : Entry) (s : Situation) (n a b : ℕ) (v w : Carried) (left rest : List Event) → s.status n ≡ Running a v left → front e (replace_at n (Running b w rest) s.status) ≡ front e s.status
front-goes-on e s n a b v w left rest is =
    leading-same (is_valid_in e (replace_at n (Running b w rest) s.status)) (is_valid_in e s.status) 0 e.header.blocks (λ k from low. cases (alike k n)
    (λ same. subst (λ (x : ℕ). is_valid_in e (replace_at n (Running b w rest) s.status) x ≡ is_valid_in e s.status x) (sym same)
    (ap (is_valid (real e n)) (replace_at-here n (Running b w rest) s.status) ∙ out-invalid (real e n) b w rest ∙ sym (ap (is_valid (real e n)) is ∙ out-invalid (real e n) a v left)))
    (λ ne. ap (is_valid (real e k)) (replace_at-else n (Running b w rest) s.status k ne)))

settled-on : (e : Entry) (s : Situation) (n b : ℕ) (w : Carried) (rest : List Event) (f : ℕ) → IsSettledAt (real e f) (s.status f) → IsSettledAt (real e f) (replace_at n (Running b w rest) s.status f)
settled-on e s n b w rest f h = cases (alike f n)
    (λ same. subst (λ (x : ℕ). IsSettledAt (real e x) (replace_at n (Running b w rest) s.status x)) (sym same)
    (subst (IsSettledAt (real e n)) (sym (replace_at-here n (Running b w rest) s.status)) (out-settled (real e n) b w rest)))
    (λ ne. subst (IsSettledAt (real e f)) (sym (replace_at-else n (Running b w rest) s.status f ne)) h)

turned-keeps : BlockLaws → (e : Entry) → IsEntry e → (guess : ℕ → Carried) (s : Situation) (n a : ℕ) (v : Carried) (left : List Event) (next : Option (List Event)) → after_piece left ≡ next
    → n < e.header.blocks → s.status n ≡ Running a v left → Kept e guess s
    → Kept e guess (arrive e n a v next (record s { steps = s.steps ++ steps_of n (piece (s.flag n) left) }))
turned-keeps laws e h guess s n a v left None next low is k =
    let stands : Stands e guess n (Running a v left) (log_of n s.steps) = subst (λ x. Stands e guess n x (log_of n s.steps)) is (k.loose.at n low) in
    after_filing-keeps e guess _ (placed laws e guess s n (Filed v true) (piece (s.flag n) left) low k.loose (end-stands laws e h guess n a v left (log_of n s.steps) (s.flag n) next stands))
turned-keeps laws e h guess s n a v left (Some rest) next low is k =
    let stands : Stands e guess n (Running a v left) (log_of n s.steps) = subst (λ x. Stands e guess n x (log_of n s.steps)) is (k.loose.at n low) in
    let es : List Event = piece (s.flag n) left in
    let stopped : Situation = after_filing e (record s { status = replace_at n (Filed v false) s.status; steps = s.steps ++ steps_of n es }) in
    let on : Situation = record s { status = replace_at n (Running a v rest) s.status; steps = s.steps ++ steps_of n es } in
    cases (true-or-false (nat_le a (s.flag n)))
    (λ t. subst (Kept e guess) (sym (chose-true (nat_le a (s.flag n)) stopped on t))
    (after_filing-keeps e guess _ (placed laws e guess s n (Filed v false) es low k.loose (stop-stands laws e h guess n a v left rest (log_of n s.steps) (s.flag n) next t (k.loose.flags n low) stands))))
    (λ f. subst (Kept e guess) (sym (chose-false (nat_le a (s.flag n)) stopped on f))
    (record {
      loose = placed laws e guess s n (Running a v rest) es low k.loose (on-stands e guess n a v left rest (log_of n s.steps) (s.flag n) next f stands);
      settled = subst (λ (x : ℕ). IsSettledAt (real e x) (replace_at n (Running a v rest) s.status x)) (sym (front-goes-on e s n a a v v left rest is))
          (settled-on e s n a v rest (front e s.status) k.settled);
    }))

pub advance-keeps : BlockLaws → (e : Entry) → IsEntry e → (guess : ℕ → Carried) (s : Situation) (n : ℕ) (status : Status) → s.status n ≡ status → n < e.header.blocks → Kept e guess s
    → Kept e guess (advance e n status s)
advance-keeps laws e h guess s n (Filed v ended) is low k = k
advance-keeps laws e h guess s n (Running a v left) is low k = turned-keeps laws e h guess s n a v left (after_piece left) refl low is k

-- it doesn't depend on the generator's state
pub any-state : (e : Entry) (guess : ℕ → Carried) (s : Situation) (state : ℕ) → Kept e guess s → Kept e guess (record s { state = state })
any-state e guess s state k = record { loose = record { below = k.loose.below; at = k.loose.at; flags = k.loose.flags }; settled = k.settled }

-- ---- the end

zero-first : (b : Bool) (l : ℕ) → (if b then 1 else 0) + l ≡ 0 → (b ≡ false) × (l ≡ 0)
zero-first true l h = absurd (omega (arith, h))
zero-first false l h = (refl, omega (arith, h))

pub none-out : (status : ℕ → Status) (count n : ℕ) → running_below status count ≡ 0 → n < count → is_running (status n) ≡ false
none-out status zero n h low = absurd (omega arith)
none-out status (suc count) n h low =
    let two = zero-first (is_running (status count)) (running_below status count) h in
    cases (alike n count)
    (λ same. subst (λ (x : ℕ). is_running (status x) ≡ false) (sym same) two.0)
    (λ ne. none-out status count n two.1 (omega (arith, low, ne)))

-- each block's log is consistent with the entry's memory, and a log of the block at its real value
home-consistent : (e : Entry) (guess : ℕ → Carried) (n : ℕ) (status : Status) (log : List Event) → is_running status ≡ false → Stands e guess n status log → IsConsistent log e.memory
home-consistent e guess n (Running a v left) log home h = cc
home-consistent e guess n (Filed v true) log home (inl h) = h.is
home-consistent e guess n (Filed v true) log home (inr h) = h.is
home-consistent e guess n (Filed v false) log home h = h.is

valid-log : (e : Entry) (guess : ℕ → Carried) (n : ℕ) (r : Option Carried) (status : Status) (log : List Event) → is_valid r status ≡ true → Stands e guess n status log → IsLogAt e guess r n log
valid-log e guess n None status log valid h = cc
valid-log e guess n (Some v) (Running a w left) log valid h = cc
valid-log e guess n (Some v) (Filed w false) log valid h = cc
valid-log e guess n (Some v) (Filed w true) log valid (inl h) =
    let same : w ≡ v = (Decides-same_carried w v).0 valid in
    (h.answer, at_once (sym h.value ∙ same) (subst (λ x. IsWhole e n x 1 log h.answer) same h.whole))
valid-log e guess n (Some v) (Filed w true) log valid (inr h) =
    let same : w ≡ v = (Decides-same_carried w v).0 valid in
    (h.answer, subst (λ x. IsRealLog e guess n x log h.answer) same h.real_log)

guessed-log : (e : Entry) (guess : ℕ → Carried) (n : ℕ) (status : Status) (log : List Event) → is_running status ≡ false → real e n ≡ None → Stands e guess n status log → IsAttempt e n (begins_at e guess n) 1 log
guessed-log e guess n (Running a v left) log home none h = cc
guessed-log e guess n (Filed v true) log home none (inl h) = subst (λ x. IsAttempt e n x 1 log) h.value (whole-attempt e n v 1 log h.answer h.whole)
guessed-log e guess n (Filed v true) log home none (inr h) = none-some v (sym none ∙ h.real_value)
guessed-log e guess n (Filed v false) log home none h = subst (λ x. IsAttempt e n x 1 log) h.value h.attempt

-- the front has no real row when all are filed
front-unreal : (e : Entry) (guess : ℕ → Carried) (f : ℕ) (r : Option Carried) (status : Status) (log : List Event) → real e f ≡ r → is_running status ≡ false → is_valid r status ≡ false → IsSettledAt r status
    → Stands e guess f status log → real e f ≡ None
front-unreal e guess f None status log is home invalid settled h = is
front-unreal e guess f (Some v) (Running a w left) log is home invalid settled h = cc
front-unreal e guess f (Some v) (Filed w true) log is home invalid settled h = clash (same_carried w v) ((Decides-same_carried w v).1 settled) invalid
front-unreal e guess f (Some v) (Filed w false) log is home invalid settled h = absurd (h.vain (is ∙ ap (λ x. Some x) (sym settled)))

ended-logs : BlockLaws → (e : Entry) → IsEntry e → (guess : ℕ → Carried) (s : Situation) → running_below s.status e.header.blocks ≡ 0 → Kept e guess s → HasItsLogs e guess s.steps
ended-logs laws e h guess s none k =
    let f : ℕ = front e s.status in
    let home : (n : ℕ) → n < e.header.blocks → is_running (s.status n) ≡ false = λ n low. none-out s.status e.header.blocks n none low in
    let logs : (n : ℕ) → n < e.header.blocks → IsLogAt e guess (real e n) n (log_of n s.steps) =
    λ n low. cases (inside-or-past n f)
    (λ inside. valid-log e guess n (real e n) (s.status n) (log_of n s.steps) (front-below e s.status n inside) (k.loose.at n low))
    (λ from.
    let room : f < e.header.blocks = omega (arith, from, low) in
    let unreal : real e f ≡ None = front-unreal e guess f (real e f) (s.status f) (log_of f s.steps) refl (home f room) (front-at e s.status room) k.settled (k.loose.at f room) in
    let gone : real e n ≡ None = past e f n unreal from in
    subst (λ x. IsLogAt e guess x n (log_of n s.steps)) (sym gone) (guessed-log e guess n (s.status n) (log_of n s.steps) (home n low) gone (k.loose.at n low)))
    in
    record {
      below = k.loose.below;
      consistent = merge-consistent e.header.blocks (own e) (blocks-apart e h) s.steps e.memory k.loose.below
          (λ n low. log-within e h guess (real e n) n (log_of n s.steps) (logs n low))
          (λ n low. home-consistent e guess n (s.status n) (log_of n s.steps) (home n low) (k.loose.at n low));
      logs = logs;
    }
  where
    inside-or-past : (c l : ℕ) → (c < l) ⊎ (l ≤ c)
    inside-or-past c l = grind arith

goes-runs : BlockLaws → (e : Entry) → IsEntry e → (guess : ℕ → Carried) {s : Situation} {steps : List Step} {last : ℕ} → RunsTo e s steps last → Kept e guess s → HasItsLogs e guess steps
goes-runs laws e h guess {s} (none_running none) k = ended-logs laws e h guess s none k
goes-runs laws e h guess {s} (one_more n picked rest) k =
    goes-runs laws e h guess rest (advance-keeps laws e h guess (record s { state = next_state s.state }) n (s.status n) refl picked.inside (any-state e guess s (next_state s.state) k))

pub begins-kept : (e : Entry) (guess : ℕ → Carried) (state : ℕ) → Kept e guess (beginning e guess state)
begins-kept e guess state = record {
  loose = record {
    below = tt;
    at = λ n low. inl (refl, record { value = refl; done = []; split = refl; follows = tt });
    flags = λ n low. inl refl;
  };
  settled = out-settled (real e (front e (beginning e guess state).status)) 1 (begins_at e guess (front e (beginning e guess state).status)) _;
}

pub scheduled-logs : BlockLaws → (e : Entry) (guess : ℕ → Carried) (state last : ℕ) (steps : List Step) → IsEntry e → IsScheduled e guess state steps last → HasItsLogs e guess steps
scheduled-logs laws e guess state last steps h goes = goes-runs laws e h guess goes (begins-kept e guess state)
