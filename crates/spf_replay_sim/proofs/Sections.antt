-- Schedules of constructs, one after another.
use Rattle.std.proofs.Common.{◌≡◌, ℕ, true, false, zero, suc, ◌+◌, ◌<◌, ◌≤◌, List, [], ◌∷◌, ◌++◌, length, map, refl, sym, ap, ◌∙◌, subst, arith}
use Rattle.std.specs.List.{All}
use Rattle.std.proofs.lemmas.List.{length-map}
use Rattle.spf_speculation.specs.Steps.{Step, AreBelow}
use Rattle.spf_speculation_entry.specs.Entry.{Entry, IsEntry}
use Rattle.spf_engine_laws.specs.Passed.{PassedConstruct}
use Rattle.spf_replay_log.specs.declared.log.Step as logged
use Rattle.spf_replay_log.specs.Log.{sections_of}
use Rattle.spf_replay.specs.SeenSteps.{seen_step, seen_steps}
use Rattle.spf_replay.specs.Deciding.{IsRun}
use Rattle.spf_replay.specs.Laws.{SchedulesAreOne, SchedulesAreRuns}
use Rattle.spf_replay.specs.Limits.{max_steps}
use Rattle.spf_replay.specs.Schedule.{IsScheduled}
use Rattle.spf_replay.specs.Verdicts.{Expected, SectionFits}
use Rattle.spf_replay.specs.Expecting.{AreScheduled}
use Rattle.spf_replay_walk.specs.Judging.{seen_log, expected_of, expected_of_all}
use Rattle.spf_replay_sim.specs.declared.drawn.Drawn.{Drawn}
use Rattle.spf_replay_sim.specs.Drawing.{step_count, AreOfFewBlocks, AreScheduledTo, AreDrawn, AreTooLong, AreDrawnSo, HasDrawn}

-- ---- schedules to a state

-- they are schedules
pub are-scheduled : (xs : List Expected) (state last : ℕ) (log : List (List Step)) → AreScheduledTo xs state log last → AreScheduled xs state log
are-scheduled [] state last [] h = tt
are-scheduled [] state last (steps ∷ log) h = elim h [ ]
are-scheduled (x ∷ xs) state last [] h = elim h [ ]
are-scheduled (x ∷ xs) state last (steps ∷ log) h = (h.0, h.1, are-scheduled xs h.0 last log h.2)

-- and schedules leave some state
pub come-to : (xs : List Expected) (state : ℕ) (log : List (List Step)) → AreScheduled xs state log → (last : ℕ) × AreScheduledTo xs state log last
come-to [] state [] h = (state, refl)
come-to [] state (steps ∷ log) h = elim h [ ]
come-to (x ∷ xs) state [] h = elim h [ ]
come-to (x ∷ xs) state (steps ∷ log) h = let rest = come-to xs h.0 log h.2 in (rest.0, (h.0, h.1, rest.1))

-- one more construct
pub one-more-scheduled : (xs : List Expected) (x : Expected) (state mid last : ℕ) (log : List (List Step)) (steps : List Step)
    → AreScheduledTo xs state log mid → IsScheduled x.entry x.guess mid steps last → AreScheduledTo (xs ++ x ∷ []) state (log ++ steps ∷ []) last
one-more-scheduled [] x state mid last [] steps h k = (last, subst (λ s. IsScheduled x.entry x.guess s steps last) (sym h) k, refl)
one-more-scheduled [] x state mid last (other ∷ log) steps h k = elim h [ ]
one-more-scheduled (y ∷ xs) x state mid last [] steps h k = elim h [ ]
one-more-scheduled (y ∷ xs) x state mid last (other ∷ log) steps h k = (h.0, h.1, one-more-scheduled xs x h.0 mid last log steps h.2 k)

-- the schedules of constructs, the last of which is this one
record EndsIn (xs : List Expected) (x : Expected) (state : ℕ) (log : List (List Step)) : Type 0 where
  earlier : List (List Step)
  steps : List Step
  mid : ℕ
  last : ℕ
  scheduled : AreScheduledTo xs state earlier mid
  ends : IsScheduled x.entry x.guess mid steps last
  is : log ≡ earlier ++ steps ∷ []

ends-in : (xs : List Expected) (x : Expected) (state : ℕ) (log : List (List Step)) → AreScheduled (xs ++ x ∷ []) state log → EndsIn xs x state log
ends-in [] x state [] h = elim h [ ]
ends-in [] x state (steps ∷ []) h = record { earlier = []; steps = steps; mid = state; last = h.0; scheduled = refl; ends = h.1; is = refl }
ends-in [] x state (steps ∷ more ∷ log) h = elim h.2 [ ]
ends-in (y ∷ xs) x state [] h = elim h [ ]
ends-in (y ∷ xs) x state (first ∷ log) h =
    let e = ends-in xs x h.0 log h.2 in
    record {
      earlier = first ∷ e.earlier;
      steps = e.steps;
      mid = e.mid;
      last = e.last;
      scheduled = (h.0, h.1, e.scheduled);
      ends = e.ends;
      is = ap (λ l. first ∷ l) e.is;
    }

-- they are one, and so is the state that they leave
scheduled-once : SchedulesAreOne → (xs : List Expected) (state a b : ℕ) (one other : List (List Step)) → AreScheduledTo xs state one a → AreScheduledTo xs state other b → (one ≡ other) × (a ≡ b)
scheduled-once law [] state a b [] [] h k = (refl, sym h ∙ k)
scheduled-once law [] state a b [] (y ∷ ys) h k = elim k [ ]
scheduled-once law [] state a b (x ∷ xs) other h k = elim h [ ]
scheduled-once law (x ∷ xs) state a b [] other h k = elim h [ ]
scheduled-once law (x ∷ xs) state a b (steps ∷ one) [] h k = elim k [ ]
scheduled-once law (x ∷ xs) state a b (steps ∷ one) (also ∷ other) h k =
    let first = law x.entry x.guess state h.0 k.0 steps also h.1 k.1 in
    let later = scheduled-once law xs k.0 a b one other (subst (λ s. AreScheduledTo xs s one a) first.1 h.2) k.2 in
    ((λ i. first.0 i ∷ later.0 i), later.1)

-- ---- how many steps

pub more-steps : (log : List (List Step)) (steps : List Step) → step_count (log ++ steps ∷ []) ≡ step_count log + length steps
more-steps [] steps = omega arith
more-steps (first ∷ log) steps = let rest = more-steps log steps in omega (arith, rest)

-- what is expected with one more construct
expected-more : (xs : List PassedConstruct) (x : PassedConstruct) → expected_of_all (xs ++ x ∷ []) ≡ expected_of_all xs ++ expected_of x ∷ []
expected-more [] x = refl
expected-more (y ∷ ys) x = ap (λ l. expected_of y ∷ l) (expected-more ys x)

-- where there are too many, there are with one more construct
pub still-too-long : (seed : ℕ) (passed : List PassedConstruct) (x : PassedConstruct) → AreTooLong seed passed → AreTooLong seed (passed ++ x ∷ [])
still-too-long seed passed x h log scheduled =
    let e = ends-in (expected_of_all passed) (expected_of x) seed log (subst (λ xs. AreScheduled xs seed log) (expected-more passed x) scheduled) in
    let many = h e.earlier (are-scheduled (expected_of_all passed) seed e.mid e.earlier e.scheduled) in
    let count = ap step_count e.is ∙ more-steps e.earlier e.steps in
    omega (arith, many, count)

-- where the next schedule is too long beside those that were drawn, there are too many
pub now-too-long : SchedulesAreOne → (seed mid counted : ℕ) (passed : List PassedConstruct) (x : PassedConstruct) (log : List (List Step))
    → AreScheduledTo (expected_of_all passed) seed log mid → counted ≡ step_count log
    → ((steps : List Step) (last : ℕ) → IsScheduled x.entry x.guess mid steps last → max_steps < counted + length steps) → AreTooLong seed (passed ++ x ∷ [])
now-too-long law seed mid counted passed x log drawn counts long others scheduled =
    let e = ends-in (expected_of_all passed) (expected_of x) seed others (subst (λ xs. AreScheduled xs seed others) (expected-more passed x) scheduled) in
    let same = scheduled-once law (expected_of_all passed) seed e.mid mid e.earlier log e.scheduled drawn in
    let many = long e.steps e.last (subst (λ s. IsScheduled x.entry x.guess s e.steps e.last) same.1 e.ends) in
    let count = ap step_count e.is ∙ more-steps e.earlier e.steps in
    let so_many = ap step_count same.0 in
    omega (arith, many, count, so_many, counts)

-- ---- runs

-- one more section that is a run
pub one-more-run : (xs : List Expected) (x : Expected) (state last : ℕ) (log : List (List Step)) (steps : List Step) → AreScheduledTo xs state log last
    → ((n : ℕ) → SectionFits xs log n) → IsRun x.entry x.guess steps → (n : ℕ) → SectionFits (xs ++ x ∷ []) (log ++ steps ∷ []) n
one-more-run [] x state last [] steps h runs run zero = run
one-more-run [] x state last [] steps h runs run (suc n) = tt
one-more-run [] x state last (first ∷ log) steps h runs run n = elim h [ ]
one-more-run (y ∷ xs) x state last [] steps h runs run n = elim h [ ]
one-more-run (y ∷ xs) x state last (first ∷ log) steps h runs run zero = runs zero
one-more-run (y ∷ xs) x state last (first ∷ log) steps h runs run (suc n) = one-more-run xs x h.0 last log steps h.2 (λ k. runs (suc k)) run n

-- ---- blocks

few-none : AreOfFewBlocks []
few-none n d below = absurd (omega (arith, below))

-- what holds for all elements and for one more
all-more : {A : Type 0} (P : A → Type 0) (xs : List A) (x : A) → All P xs → P x → All P (xs ++ x ∷ [])
all-more P [] x h p zero d below = p
all-more P [] x h p (suc n) d below = absurd (omega (arith, below))
all-more P (y ∷ ys) x h p zero d below = h 0 d (omega arith)
all-more P (y ∷ ys) x h p (suc n) d below = all-more P ys x (λ k e l. h (suc k) e (omega (arith, l))) p n d (omega (arith, below))

few-blocks : (count : ℕ) (steps : List logged.Step) → count ≤ 4096 → AreBelow count (seen_steps steps) → All (λ (s : logged.Step). s.block < 4096) steps
few-blocks count [] few h n d below = absurd (omega (arith, below))
few-blocks count (s ∷ steps) few h zero d below = let less = h.0 in omega (arith, less, few)
few-blocks count (s ∷ steps) few h (suc n) d below = few-blocks count steps few h.1 n d (omega (arith, below))

-- ---- what was drawn

-- nothing yet
pub none-drawn : (seed : ℕ) (drawn : Drawn) → sections_of drawn.log.items ≡ [] → drawn.state ≡ seed → drawn.counted ≡ 0 → drawn.over ≡ false → HasDrawn seed [] drawn
none-drawn seed drawn none from zero_steps within =
    let seen : seen_log drawn.log.items ≡ [] = ap (map seen_steps) none in
    subst (λ b. AreDrawnSo b seed [] drawn) (sym within) (record {
      scheduled = subst (λ log. AreScheduledTo [] seed log drawn.state) (sym seen) (sym from);
      runs = λ n. subst (λ log. SectionFits [] log n) (sym seen) tt;
      counted = zero_steps ∙ ap step_count (sym seen);
      blocks = subst AreOfFewBlocks (sym none) few-none;
    })

-- where there are too many steps, there are with one more construct
pub drawn-over : (seed : ℕ) (passed : List PassedConstruct) (x : PassedConstruct) (drawn : Drawn) → drawn.over ≡ true → HasDrawn seed passed drawn → HasDrawn seed (passed ++ x ∷ []) drawn
drawn-over seed passed x drawn over h =
    subst (λ b. AreDrawnSo b seed (passed ++ x ∷ []) drawn) (sym over) (still-too-long seed passed x (subst (λ b. AreDrawnSo b seed passed drawn) over h))

-- the next schedule is too long
pub drawn-too-long : SchedulesAreOne → (seed : ℕ) (passed : List PassedConstruct) (x : PassedConstruct) (e : Entry) (old : Drawn) → old.over ≡ false → HasDrawn seed passed old → x.entry ≡ e
    → ((steps : List Step) (last : ℕ) → IsScheduled e x.guess old.state steps last → max_steps < old.counted + length steps) → AreTooLong seed (passed ++ x ∷ [])
drawn-too-long law seed passed x e old within h same long =
    let was : AreDrawn seed passed old = subst (λ b. AreDrawnSo b seed passed old) within h in
    now-too-long law seed old.state old.counted passed x (seen_log old.log.items) was.scheduled was.counted
    (λ steps last is. long steps last (subst (λ (f : Entry). IsScheduled f x.guess old.state steps last) same is))

-- the next schedule is drawn
pub drawn-next : SchedulesAreRuns → (seed : ℕ) (passed : List PassedConstruct) (x : PassedConstruct) (e : Entry) (old new : Drawn) (steps : List logged.Step) (last : ℕ)
    → old.over ≡ false → new.over ≡ old.over → HasDrawn seed passed old → x.entry ≡ e → IsEntry e → e.header.blocks ≤ 4096 → IsScheduled e x.guess old.state (seen_steps steps) last
    → sections_of new.log.items ≡ sections_of old.log.items ++ steps ∷ [] → new.state ≡ last → new.counted ≡ old.counted + length steps → HasDrawn seed (passed ++ x ∷ []) new
drawn-next law seed passed x e old new steps last within kept h same is_entry few scheduled log state counted =
    let was : AreDrawn seed passed old = subst (λ b. AreDrawnSo b seed passed old) within h in
    let seen : seen_log new.log.items ≡ seen_log old.log.items ++ seen_steps steps ∷ [] = ap (map seen_steps) log ∙ map-more (sections_of old.log.items) steps in
    let run : IsRun e x.guess (seen_steps steps) = law e x.guess old.state last (seen_steps steps) is_entry scheduled in
    let here : IsScheduled x.entry x.guess old.state (seen_steps steps) last = subst (λ (f : Entry). IsScheduled f x.guess old.state (seen_steps steps) last) (sym same) scheduled in
    let size : length (seen_steps steps) ≡ length steps = length-map steps seen_step in
    subst (λ b. AreDrawnSo b seed (passed ++ x ∷ []) new) (sym (kept ∙ within)) (record {
      scheduled = subst (λ xs. AreScheduledTo xs seed (seen_log new.log.items) new.state) (sym (expected-more passed x))
          (subst (λ l. AreScheduledTo (expected_of_all passed ++ expected_of x ∷ []) seed l new.state) (sym seen)
          (subst (λ s. AreScheduledTo (expected_of_all passed ++ expected_of x ∷ []) seed (seen_log old.log.items ++ seen_steps steps ∷ []) s) (sym state)
          (one-more-scheduled (expected_of_all passed) (expected_of x) seed old.state last (seen_log old.log.items) (seen_steps steps) was.scheduled here)));
      runs = λ n. subst (λ xs. SectionFits xs (seen_log new.log.items) n) (sym (expected-more passed x))
          (subst (λ l. SectionFits (expected_of_all passed ++ expected_of x ∷ []) l n) (sym seen)
          (one-more-run (expected_of_all passed) (expected_of x) seed old.state (seen_log old.log.items) (seen_steps steps) was.scheduled was.runs
          (subst (λ (f : Entry). IsRun f x.guess (seen_steps steps)) (sym same) run) n));
      counted =
          let before = was.counted in
          let more = more-steps (seen_log old.log.items) (seen_steps steps) in
          let now = ap step_count seen in
          omega (arith, counted, before, more, now, size);
      blocks = subst AreOfFewBlocks (sym log) (all-more (λ section. All (λ (s : logged.Step). s.block < 4096) section) (sections_of old.log.items) steps was.blocks (few-blocks e.header.blocks steps few run.run.below));
    })
  where
    map-more : (xs : List (List logged.Step)) (y : List logged.Step) → map seen_steps (xs ++ y ∷ []) ≡ map seen_steps xs ++ seen_steps y ∷ []
    map-more [] y = refl
    map-more (z ∷ zs) y = ap (λ l. seen_steps z ∷ l) (map-more zs y)
