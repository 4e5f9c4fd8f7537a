-- There is exactly one schedule.
use Rattle.std.proofs.Common.{◌≡◌, ◌≢◌, ◌⊎◌, inl, inr, ℕ, zero, suc, ◌+◌, ◌%◌, ◌<◌, ◌≤◌, Bool, true, false, List, [], ◌∷◌, ◌++◌, Option, Some, None, length, refl, sym, ap, ◌∙◌, subst, arith}
use Rattle.std.specs.Prelude.{if◌then◌else◌, nat_le, slice_get}
use Rattle.spf_speculation_entry.proofs.Rows.{Decides-same_carried}
use Rattle.spf_ast_lemmas.proofs.Members.{cases}
use Rattle.spf_apps_formats.specs.Draws.{next_state, given_by}
use Rattle.spf_ast.specs.Carried.{Carried, same_carried}
use Rattle.spf_ast.specs.Event.{Event, Load, Store, Turn}
use Rattle.spf_speculation_entry.specs.Entry.{Entry, plain_blocks}
use Rattle.spf_speculation.specs.Steps.{Step, steps_of, log_of}
use Rattle.spf_speculation.proofs.Within.{alike, true-or-false}
use Rattle.spf_replay.specs.Schedule.{attempt_events, piece, after_piece, Status, Running, Filed, Situation, is_running, front, status_after, after_filing, replace_at, arrive, advance, running_below, IsPicked, RunsTo, none_running, one_more, beginning, IsScheduled}
use Rattle.spf_replay.specs.Schedule as schedule
use Rattle.spf_replay.proofs.Scheduled.{replace_at-here, replace_at-else, none-out, clash, status_after-front, status_after-else}

-- ---- one schedule

one-out : (b : Bool) (l : ℕ) → b ≡ true → (if b then 1 else 0) + l ≡ suc l
one-out true l h = omega arith
one-out false l h = cc

out-grows : (status : ℕ → Status) (n k : ℕ) → n < k → is_running (status n) ≡ true → running_below status n < running_below status k
out-grows status n zero h out = absurd (omega (arith, h))
out-grows status n (suc k) h out = cases (alike n k)
    (λ same. subst (λ x. running_below status n < x) (sym (one-out (is_running (status k)) (running_below status k) (subst (λ x. is_running (status x) ≡ true) same out)))
    (subst (λ x. running_below status n < suc (running_below status x)) same (below-suc (running_below status n))))
    (λ ne. more (if is_running (status k) then 1 else 0) (running_below status n) (running_below status k) (out-grows status n k (omega (arith, h, ne)) out))
  where
    below-suc : (x : ℕ) → x < suc x
    below-suc x = omega arith

    more : (a x y : ℕ) → x < y → x < a + y
    more a x y h = omega (arith, h)

picked-once : (status : ℕ → Status) (n k : ℕ) → is_running (status n) ≡ true → is_running (status k) ≡ true → running_below status n ≡ running_below status k → n ≡ k
picked-once status n k one other same = cases (alike n k) (λ e. e) (λ ne. cases (less n k ne)
    (λ h. absurd (unlike (running_below status n) (running_below status k) same (out-grows status n k h one)))
    (λ h. absurd (unlike (running_below status k) (running_below status n) (sym same) (out-grows status k n h other))))
  where
    less : (n k : ℕ) → n ≢ k → (n < k) ⊎ (k < n)
    less n k ne = grind (arith, ne)

    unlike : (x y : ℕ) → x ≡ y → x < y → ⊥
    unlike x y e h = omega (arith, e, h)

pub goes-once : (e : Entry) {s : Situation} {steps others : List Step} {last other : ℕ} → RunsTo e s steps last → RunsTo e s others other → (steps ≡ others) × (last ≡ other)
goes-once e (none_running none) (none_running same) = (refl, refl)
goes-once e {s} (none_running none) (one_more n picked rest) = absurd (clash (is_running (s.status n)) picked.running (none-out s.status e.header.blocks n none picked.inside))
goes-once e {s} (one_more n picked rest) (none_running none) = absurd (clash (is_running (s.status n)) picked.running (none-out s.status e.header.blocks n none picked.inside))
goes-once e {s} {steps} {others} {last} {other} (one_more n picked rest) (one_more k again later) =
    let same = picked-once s.status n k picked.running again.running (picked.before ∙ sym again.before) in
    goes-once e rest (subst (λ x. RunsTo e (advance e x (s.status x) (record s { state = next_state s.state })) others other) (sym same) later)

-- ---- sums over blocks

abbrev pub sum : (ℕ → Status → ℕ) → (ℕ → Status) → ℕ → ℕ
sum weight status zero = 0
sum weight status (suc n) = weight n (status n) + sum weight status n

pub sum-same : (weight : ℕ → Status → ℕ) (status other : ℕ → Status) (count : ℕ) → ((n : ℕ) → n < count → status n ≡ other n) → sum weight status count ≡ sum weight other count
sum-same weight status other zero h = refl
sum-same weight status other (suc n) h =
    ap (λ p. weight n p + sum weight status n) (h n (omega arith)) ∙ ap (λ x. weight n (other n) + x) (sum-same weight status other n (λ k low. h k (omega (arith, low))))

-- all but one are the same
pub sum-one : (weight : ℕ → Status → ℕ) (status other : ℕ → Status) (n count : ℕ) → n < count → ((k : ℕ) → k ≢ n → other k ≡ status k)
    → sum weight other count + weight n (status n) ≡ sum weight status count + weight n (other n)
sum-one weight status other n zero low h = absurd (omega (arith, low))
sum-one weight status other n (suc count) low h = cases (alike n count)
    (λ same. subst (λ x. sum weight other (suc x) + weight n (status n) ≡ sum weight status (suc x) + weight n (other n)) same
    (here (weight n (other n)) (weight n (status n)) (sum weight other n) (sum weight status n) (sum-same weight other status n (λ k less. h k (λ e. omega (arith, e, less))))))
    (λ ne. there (weight count (other count)) (weight count (status count)) (sum weight other count) (sum weight status count) (weight n (status n)) (weight n (other n))
    (ap (weight count) (h count (λ e. ne (sym e)))) (sum-one weight status other n count (omega (arith, low, ne)) h))
  where
    here : (a b x y : ℕ) → x ≡ y → (a + x) + b ≡ (b + y) + a
    here a b x y e = omega (arith, e)

    there : (a b x y p q : ℕ) → a ≡ b → x + p ≡ y + q → (a + x) + p ≡ (b + y) + q
    there a b x y p q e h = omega (arith, e, h)

-- ---- what is still to come

-- events that are left
abbrev size : ℕ → Status → ℕ
size n (Running attempt value left) = suc (length left)
size n (Filed value ended) = 0

-- a block isn't at its real value
abbrev pub off : Option Carried → Status → ℕ
off None status = 0
off (Some v) (Running attempt value left) = if same_carried value v then 0 else 1
off (Some v) (Filed value ended) = if same_carried value v then 0 else 1

abbrev off-at : Entry → ℕ → Status → ℕ
off-at e n status = off (slice_get (plain_blocks e).values n) status

pub out-home : (r : Option Carried) (a : ℕ) (v : Carried) (left : List Event) (ended : Bool) → off r (Filed v ended) ≡ off r (Running a v left)
out-home None a v left ended = refl
out-home (Some w) a v left ended = refl

pub out-out : (r : Option Carried) (a b : ℕ) (v : Carried) (left rest : List Event) → off r (Running b v rest) ≡ off r (Running a v left)
out-out None a b v left rest = refl
out-out (Some w) a b v left rest = refl

pub same-self : (v : Carried) → same_carried v v ≡ true
same-self v = (Decides-same_carried v v).1 refl

-- a block that runs again is at its real row then
again-off : (e : Entry) (n : ℕ) (steps : List Step) (r : Option Carried) (status : Status)
    → (schedule.rerun e steps n r status ≡ status) ⊎ (off r (schedule.rerun e steps n r status) < off r status)
again-off e n steps None status = inl refl
again-off e n steps (Some v) (Running attempt value left) = inl refl
again-off e n steps (Some v) (Filed value ended) = one-of (same_carried value v) (Filed value ended) v (attempt_events e n v (log_of n steps))
  where
    one-of : (b : Bool) (status : Status) (v : Carried) (left : List Event)
        → ((if b then status else Running 2 v left) ≡ status) ⊎ (off (Some v) (if b then status else Running 2 v left) < (if b then 0 else 1))
    one-of true status v left = inl refl
    one-of false status v left = inr (subst (λ (x : Bool). (if x then 0 else 1) < 1) (sym (same-self v)) (omega arith))

after-shorter : (left rest : List Event) → after_piece left ≡ Some rest → length rest < length left
after-shorter [] rest h = cc
after-shorter (Load c w ∷ left) rest h = shorter (length rest) (length left) (after-shorter left rest h)
  where
    shorter : (a b : ℕ) → a < b → a < suc b
    shorter a b h = omega (arith, h)
after-shorter (Store c w ∷ left) rest h = shorter (length rest) (length left) (after-shorter left rest h)
  where
    shorter : (a b : ℕ) → a < b → a < suc b
    shorter a b h = omega (arith, h)
after-shorter (Turn n ∷ left) rest h = subst (λ l. length l < suc (length left)) (same left rest h) (omega arith)
  where
    same : (a b : List Event) → Some a ≡ Some b → a ≡ b
    same a b e = cc

-- ---- one turn of the schedule leaves less to come

abbrev wrong : Entry → (ℕ → Status) → ℕ
wrong e status = sum (off-at e) status e.header.blocks

abbrev total : Entry → (ℕ → Status) → ℕ
total e status = sum size status e.header.blocks

-- another block is at its real value, or fewer events are left
abbrev Lowers : Entry → (one other : ℕ → Status) → Type 0
Lowers e one other = (wrong e other < wrong e one) ⊎ ((wrong e other ≡ wrong e one) × (total e other < total e one))

replace_at-lowers : (e : Entry) (status : ℕ → Status) (n : ℕ) (x : Status) → n < e.header.blocks → off-at e n x ≡ off-at e n (status n) → size n x < size n (status n)
    → (wrong e (replace_at n x status) ≡ wrong e status) × (total e (replace_at n x status) < total e status)
replace_at-lowers e status n x low same less =
    let here = replace_at-here n x status in
    let one = sum-one (off-at e) status (replace_at n x status) n e.header.blocks low (replace_at-else n x status) in
    let two = sum-one size status (replace_at n x status) n e.header.blocks low (replace_at-else n x status) in (
      equal (wrong e (replace_at n x status)) (wrong e status) (off-at e n (status n)) (off-at e n (replace_at n x status n)) one (ap (off-at e n) here ∙ same),
      lower (total e (replace_at n x status)) (total e status) (size n (status n)) (size n (replace_at n x status n)) two (subst (λ y. size n y < size n (status n)) (sym here) less),
    )
  where
    equal : (a b p q : ℕ) → a + p ≡ b + q → q ≡ p → a ≡ b
    equal a b p q h e = omega (arith, h, e)

    lower : (a b p q : ℕ) → a + p ≡ b + q → q < p → a < b
    lower a b p q h l = omega (arith, h, l)

pub inside-or-not : (n k : ℕ) → (n < k) ⊎ (k ≤ n)
inside-or-not n k = grind arith

status_after-same : (e : Entry) (t : Situation) → status_after e t (front e t.status) ≡ t.status (front e t.status) → (n : ℕ) → status_after e t n ≡ t.status n
status_after-same e t h n = cases (alike n (front e t.status))
    (λ same. subst (λ x. status_after e t x ≡ t.status x) (sym same) h)
    (λ ne. status_after-else e t n ne)

after_filing-lowers : (e : Entry) (t : Situation) → (wrong e (after_filing e t).status < wrong e t.status) ⊎ ((wrong e (after_filing e t).status ≡ wrong e t.status) × (total e (after_filing e t).status ≡ total e t.status))
after_filing-lowers e t = cases (inside-or-not (front e t.status) e.header.blocks)
    (λ low. cases (again-off e (front e t.status) t.steps (slice_get (plain_blocks e).values (front e t.status)) (t.status (front e t.status)))
    (λ same. let all = status_after-same e t (status_after-front e t ∙ same) in
    inr (sum-same (off-at e) (status_after e t) t.status e.header.blocks (λ n l. all n), sum-same size (status_after e t) t.status e.header.blocks (λ n l. all n)))
    (λ less. inl (lower (wrong e (status_after e t)) (wrong e t.status) _ _ (sum-one (off-at e) t.status (status_after e t) (front e t.status) e.header.blocks low (λ k ne. status_after-else e t k ne))
    (subst (λ y. off-at e (front e t.status) y < off-at e (front e t.status) (t.status (front e t.status))) (sym (status_after-front e t)) less))))
    (λ past. inr (
      sum-same (off-at e) (status_after e t) t.status e.header.blocks (λ n l. status_after-else e t n (not-front n (front e t.status) e.header.blocks l past)),
      sum-same size (status_after e t) t.status e.header.blocks (λ n l. status_after-else e t n (not-front n (front e t.status) e.header.blocks l past)),
    ))
  where
    lower : (a b p q : ℕ) → a + p ≡ b + q → q < p → a < b
    lower a b p q h l = omega (arith, h, l)

    not-front : (n f c : ℕ) → n < c → c ≤ f → n ≢ f
    not-front n f c h k e = omega (arith, h, k, e)

then-after_filing : (e : Entry) (status : ℕ → Status) (t : Situation) → (wrong e t.status ≡ wrong e status) × (total e t.status < total e status) → Lowers e status (after_filing e t).status
then-after_filing e status t h = cases (after_filing-lowers e t)
    (λ less. inl (subst (λ x. wrong e (after_filing e t).status < x) h.0 less))
    (λ same. inr (same.0 ∙ h.0, subst (λ x. x < total e status) (sym same.1) h.1))

one-lowers : (e : Entry) (status : ℕ → Status) (b : Bool) (x y : Situation) → Lowers e status x.status → Lowers e status y.status → Lowers e status (if b then x else y).status
one-lowers e status true x y h k = h
one-lowers e status false x y h k = k

goes-lower : (e : Entry) (s : Situation) (n a : ℕ) (v : Carried) (left : List Event) (o : Option (List Event)) → n < e.header.blocks → s.status n ≡ Running a v left → after_piece left ≡ o
    → Lowers e s.status (arrive e n a v o s).status
goes-lower e s n a v left None low is after =
    then-after_filing e s.status (record s { status = replace_at n (Filed v true) s.status })
    (replace_at-lowers e s.status n (Filed v true) low (out-home (slice_get (plain_blocks e).values n) a v left true ∙ ap (off-at e n) (sym is)) (subst (λ y. 0 < size n y) (sym is) (omega arith)))
goes-lower e s n a v left (Some rest) low is after =
    one-lowers e s.status (nat_le a (s.flag n)) (after_filing e (record s { status = replace_at n (Filed v false) s.status })) (record s { status = replace_at n (Running a v rest) s.status })
    (then-after_filing e s.status (record s { status = replace_at n (Filed v false) s.status })
    (replace_at-lowers e s.status n (Filed v false) low (out-home (slice_get (plain_blocks e).values n) a v left false ∙ ap (off-at e n) (sym is)) (subst (λ y. 0 < size n y) (sym is) (omega arith))))
    (inr (replace_at-lowers e s.status n (Running a v rest) low (out-out (slice_get (plain_blocks e).values n) a a v left rest ∙ ap (off-at e n) (sym is))
    (subst (λ y. size n (Running a v rest) < size n y) (sym is) (more (length rest) (length left) (after-shorter left rest after)))))
  where
    more : (x y : ℕ) → x < y → suc x < suc y
    more x y h = omega (arith, h)

advance-lowers : (e : Entry) (s : Situation) (n : ℕ) (p : Status) → n < e.header.blocks → s.status n ≡ p → is_running p ≡ true → Lowers e s.status (advance e n p s).status
advance-lowers e s n (Filed v ended) low is out = cc
advance-lowers e s n (Running a v left) low is out =
    goes-lower e (record s { steps = s.steps ++ steps_of n (piece (s.flag n) left) }) n a v left (after_piece left) low is refl

-- ---- a schedule

pick-out : (status : ℕ → Status) (count k : ℕ) → k < running_below status count → (n : ℕ) × (n < count) × (is_running (status n) ≡ true) × (running_below status n ≡ k)
pick-out status zero k h = absurd (omega (arith, h))
pick-out status (suc count) k h = cases (true-or-false (is_running (status count)))
    (λ out. cases (below-or-at k (running_below status count) (subst (λ x. k < x) (one-out (is_running (status count)) (running_below status count) out) h))
    (λ less. let p = pick-out status count k less in (p.0, later p.0 count p.1, p.2, p.3))
    (λ same. (count, omega arith, out, sym same)))
    (λ home. let p = pick-out status count k (subst (λ x. k < x) (none-more (is_running (status count)) (running_below status count) home) h) in (p.0, later p.0 count p.1, p.2, p.3))
  where
    below-or-at : (a b : ℕ) → a < suc b → (a < b) ⊎ (a ≡ b)
    below-or-at a b h = grind (arith, h)

    later : (a b : ℕ) → a < b → a < suc b
    later a b h = omega (arith, h)

    none-more : (b : Bool) (l : ℕ) → b ≡ false → (if b then 1 else 0) + l ≡ l
    none-more true l h = cc
    none-more false l h = omega arith

abbrev Exists : Entry → Situation → Type 0
Exists e s = (steps : List Step) × (last : ℕ) × RunsTo e s steps last

zero-or-more : (n : ℕ) → (n ≡ 0) ⊎ (0 < n)
zero-or-more n = grind arith

rest-less : (x m : ℕ) → 0 < m → x % m < m
rest-less x m h = omega (arith, h)

goes-on : (e : Entry) (c : ℕ) → ((s : Situation) → wrong e s.status < c → Exists e s) → (f : ℕ) (s : Situation) → wrong e s.status ≤ c → total e s.status < f → Exists e s
goes-on e c less zero s h k = absurd (omega (arith, k))
goes-on e c less (suc f) s h k = cases (zero-or-more (running_below s.status e.header.blocks))
    (λ none. (s.steps, s.state, none_running none))
    (λ some.
    let p = pick-out s.status e.header.blocks (given_by (next_state s.state) % running_below s.status e.header.blocks) (rest-less (given_by (next_state s.state)) (running_below s.status e.header.blocks) some) in
    let next = advance e p.0 (s.status p.0) (record s { state = next_state s.state }) in
    let on = cases (advance-lowers e (record s { state = next_state s.state }) p.0 (s.status p.0) p.1 refl p.2)
    (λ fewer. less next (first (wrong e next.status) (wrong e s.status) c fewer h))
    (λ same. goes-on e c less f next (subst (λ x. x ≤ c) (sym same.0) h) (second (total e next.status) (total e s.status) f same.1 k)) in
    (on.0, on.1, one_more p.0 (record { inside = p.1; running = p.2; before = p.3 }) on.2))
  where
    first : (a b c : ℕ) → a < b → b ≤ c → a < c
    first a b c h k = omega (arith, h, k)

    second : (a b c : ℕ) → a < b → b < suc c → a < c
    second a b c h k = omega (arith, h, k)

goes-far : (e : Entry) (c : ℕ) (s : Situation) → wrong e s.status < c → Exists e s
goes-far e zero s h = absurd (omega (arith, h))
goes-far e (suc c) s h = goes-on e c (goes-far e c) (suc (total e s.status)) s (at-most (wrong e s.status) c h) (omega arith)
  where
    at-most : (a b : ℕ) → a < suc b → a ≤ b
    at-most a b h = omega (arith, h)

pub goes : (e : Entry) (s : Situation) → Exists e s
goes e s = goes-far e (suc (wrong e s.status)) s (omega arith)
