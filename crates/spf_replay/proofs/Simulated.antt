-- A schedule as it is made, block by block.
use Rattle.std.proofs.Common.{◌≡◌, ◌≢◌, ◌⊎◌, inl, inr, ℕ, zero, suc, ◌+◌, ◌-◌, ◌%◌, ◌<◌, ◌≤◌, Bool, true, false, List, [], ◌∷◌, ◌++◌, Option, Some, None, length, length-append, get_or, drop, refl, sym, ap, ◌∙◌, subst, arith}
use Rattle.std.specs.Prelude.{if◌then◌else◌, nat_le, slice_get, slice_set}
use Rattle.std.proofs.lemmas.List.{length-set}
use Rattle.spf_ast_lemmas.proofs.Members.{cases}
use Rattle.spf_apps_formats.specs.Draws.{next_state, given_by}
use Rattle.spf_ast.specs.Carried.{Carried, same_carried}
use Rattle.spf_ast.specs.Event.{Event, Load, Store, Turn}
use Rattle.spf_speculation_entry.specs.Entry.{Entry, IsEntry}
use Rattle.spf_speculation.specs.Steps.{Step, steps_of, log_of}
use Rattle.spf_speculation.proofs.Within.{true-or-false}
use Rattle.spf_speculation.proofs.Trees.{chose-true, chose-false}
use Rattle.spf_speculation.proofs.Blocks.{BlockLaws}
use Rattle.spf_replay_log.specs.declared.log.Step as logged
use Rattle.spf_guess_statistics.specs.declared.guess.Guess.{Guess}
use Rattle.spf_replay.specs.declared.entered.EnteredConstruct.{EnteredConstruct}
use Rattle.spf_replay.specs.declared.runner.Runner.{Runner}
use Rattle.spf_replay.specs.Entered.{HasGuesses}
use Rattle.spf_replay.specs.Runners.{status_of, next_status, IsRunner, IsBlockOf, AreBlocksOf, RunsAgainOnEntry, after_going_on}
use Rattle.spf_replay.specs.SeenSteps.{seen_steps}
use Rattle.spf_replay.specs.Schedule.{attempt_events, piece, after_piece, Status, Running, Filed, Situation, is_running, front, rerun, status_after, after_filing, replace_at, arrive, advance, running_below, IsPicked, RunsTo, none_running, one_more, beginning, IsScheduled, running_blocks}
use Rattle.spf_replay.proofs.Scheduled.{real, Stands, Loose, Kept, begins-kept, end-stands, stop-stands, on-stands, placed, advance-keeps, any-state, replace_at-here, replace_at-else, status_after-front, status_after-else}
use Rattle.spf_replay.proofs.Going.{goes, goes-once, sum, sum-same, sum-one, off, out-home, out-out, same-self, inside-or-not}
use Rattle.spf_replay.proofs.Again.{runs-again}
use Rattle.spf_replay.proofs.Picking.{outs-counted, outs-picked}
use Rattle.spf_replay.proofs.Settled.{at-index, set-or-kept, running-is, runs-so}

-- ---- a block goes on

-- block n has this status
abbrev pub with_status : Situation → ℕ → Status → Situation
with_status s n status = record s { status = replace_at n status s.status }

filed-follows : (e : Entry) (n : ℕ) (s : Situation) (v : Carried) (ended : Bool) → after_filing e (with_status s n (Filed v ended)) ≡ after_going_on e n (with_status s n (Filed v ended))
filed-follows e n s v ended =
    sym (chose-false (is_running (replace_at n (Filed v ended) s.status n)) (with_status s n (Filed v ended)) (after_filing e (with_status s n (Filed v ended)))
    (ap is_running (replace_at-here n (Filed v ended) s.status)))

runs-follows : (e : Entry) (n a : ℕ) (s : Situation) (v : Carried) (rest : List Event) → with_status s n (Running a v rest) ≡ after_going_on e n (with_status s n (Running a v rest))
runs-follows e n a s v rest =
    sym (chose-true (is_running (replace_at n (Running a v rest) s.status n)) (with_status s n (Running a v rest)) (after_filing e (with_status s n (Running a v rest)))
    (ap is_running (replace_at-here n (Running a v rest) s.status)))

arrives : (e : Entry) (n a : ℕ) (v : Carried) (o : Option (List Event)) (s : Situation) → arrive e n a v o s ≡ after_going_on e n (with_status s n (next_status (s.flag n) a v o))
arrives e n a v None s = filed-follows e n s v true
arrives e n a v (Some rest) s = stopped (nat_le a (s.flag n))
  where
    stopped : (b : Bool) → (if b then after_filing e (with_status s n (Filed v false)) else with_status s n (Running a v rest))
        ≡ after_going_on e n (with_status s n (if b then Filed v false else Running a v rest))
    stopped true = filed-follows e n s v false
    stopped false = runs-follows e n a s v rest

-- the situation once block n has gone on by this piece, before anything follows
abbrev pub gone_on : Situation → ℕ → (attempt : ℕ) → Carried → List Event → Situation
gone_on s n a v left = record {
  status = replace_at n (next_status (s.flag n) a v (after_piece left)) s.status;
  flag = s.flag;
  steps = s.steps ++ steps_of n (piece (s.flag n) left);
  state = next_state s.state;
}

advances : (e : Entry) (n a : ℕ) (v : Carried) (left : List Event) (s : Situation) → s.status n ≡ Running a v left
    → advance e n (s.status n) (record s { state = next_state s.state }) ≡ after_going_on e n (gone_on s n a v left)
advances e n a v left s is =
    ap (λ x. advance e n x (record s { state = next_state s.state })) is
    ∙ arrives e n a v (after_piece left) (record s { steps = s.steps ++ steps_of n (piece (s.flag n) left); state = next_state s.state })

-- what is kept
next-stands : BlockLaws → (e : Entry) → IsEntry e → (guess : ℕ → Carried) (s : Situation) (n a : ℕ) (v : Carried) (left : List Event) (o : Option (List Event)) → after_piece left ≡ o
    → n < e.header.blocks → Loose e guess s → Stands e guess n (Running a v left) (log_of n s.steps)
    → Stands e guess n (next_status (s.flag n) a v o) (log_of n s.steps ++ piece (s.flag n) left)
next-stands laws e h guess s n a v left None is low k stands = end-stands laws e h guess n a v left (log_of n s.steps) (s.flag n) is stands
next-stands laws e h guess s n a v left (Some rest) is low k stands = cases (true-or-false (nat_le a (s.flag n)))
    (λ t. subst (λ x. Stands e guess n x (log_of n s.steps ++ piece (s.flag n) left)) (sym (chose-true (nat_le a (s.flag n)) (Filed v false) (Running a v rest) t))
    (stop-stands laws e h guess n a v left rest (log_of n s.steps) (s.flag n) is t (k.flags n low) stands))
    (λ f. subst (λ x. Stands e guess n x (log_of n s.steps ++ piece (s.flag n) left)) (sym (chose-false (nat_le a (s.flag n)) (Filed v false) (Running a v rest) f))
    (on-stands e guess n a v left rest (log_of n s.steps) (s.flag n) is f stands))

next-loose : BlockLaws → (e : Entry) → IsEntry e → (guess : ℕ → Carried) (s : Situation) (n a : ℕ) (v : Carried) (left : List Event) → s.status n ≡ Running a v left
    → n < e.header.blocks → Loose e guess s → Loose e guess (gone_on s n a v left)
next-loose laws e h guess s n a v left is low k =
    let stands = subst (λ x. Stands e guess n x (log_of n s.steps)) is (k.at n low) in
    let l = placed laws e guess s n (next_status (s.flag n) a v (after_piece left)) (piece (s.flag n) left) low k (next-stands laws e h guess s n a v left (after_piece left) refl low k stands) in
    record { below = l.below; at = l.at; flags = l.flags }

-- ---- how a schedule in the making stands

-- the blocks, those that run, the steps and the generator are those of a situation from which the schedule from the first state goes on
pub record IsMade (e : Entry) (guess : ℕ → Carried) (first : ℕ) (runners : List Runner) (running : List ℕ) (steps : List Step) (state : ℕ) : Type 0 where
  pub now : Situation
  pub blocks : AreBlocksOf e now runners
  pub running_are : running ≡ running_blocks now.status e.header.blocks
  pub steps_are : steps ≡ now.steps
  pub state_is : state ≡ now.state
  pub kept : Kept e guess now
  pub goes_on : (all : List Step) (last : ℕ) → RunsTo e now all last → IsScheduled e guess first all last

pub made-begins : (e : Entry) (guess : ℕ → Carried) (state : ℕ) (runners : List Runner) (running : List ℕ) (steps : List Step) → AreBlocksOf e (beginning e guess state) runners
    → running ≡ running_blocks (beginning e guess state).status e.header.blocks → steps ≡ [] → IsMade e guess state runners running steps state
made-begins e guess state runners running steps blocks are none = record {
  now = beginning e guess state;
  blocks = blocks;
  running_are = are;
  steps_are = none;
  state_is = refl;
  kept = begins-kept e guess state;
  goes_on = λ all last runs. runs;
}

pub made-whole : (e : Entry) (guess : ℕ → Carried) (first : ℕ) (runners : List Runner) (running : List ℕ) (steps : List Step) (state : ℕ) → IsMade e guess first runners running steps state
    → length running ≡ 0 → IsScheduled e guess first steps state
made-whole e guess first runners running steps state m none =
    let zero : running_below m.now.status e.header.blocks ≡ 0 = sym (outs-counted m.now.status e.header.blocks) ∙ sym (ap length m.running_are) ∙ none in
    m.goes_on steps state (subst (λ (x : List Step × ℕ). RunsTo e m.now x.0 x.1) (λ i. (sym m.steps_are i, sym m.state_is i)) (none_running zero))

-- the picked block is n, and this is its runner
pub record IsNext (e : Entry) (s : Situation) (n : ℕ) (r : Runner) : Type 0 where
  pub picked : IsPicked e s n
  pub block : IsBlockOf e s n r
  pub runs : r.running ≡ true
  pub status : s.status n ≡ Running r.attempt r.row (drop r.taken (attempt_events e n r.row []))

pub next-is : (e : Entry) (guess : ℕ → Carried) (first : ℕ) (runners : List Runner) (running : List ℕ) (steps : List Step) (state : ℕ) (m : IsMade e guess first runners running steps state)
    (n : ℕ) (r : Runner) → slice_get running (given_by (next_state state) % length running) ≡ Some n → slice_get runners n ≡ Some r → IsNext e m.now n r
next-is e guess first runners running steps state m n r pick at =
    let s = m.now in
    let count : length running ≡ running_below s.status e.header.blocks = ap length m.running_are ∙ outs-counted s.status e.header.blocks in
    let p = outs-picked s.status e.header.blocks (given_by (next_state state) % length running) n (subst (λ (l : List ℕ). slice_get l (given_by (next_state state) % length running) ≡ Some n) m.running_are pick) in
    let block = m.blocks.each n r at in
    let runs : r.running ≡ true = sym (running-is e n r) ∙ ap is_running block.status ∙ p.1 in
    record {
      picked = record { inside = p.0; running = p.1; before = p.2 ∙ (λ i. given_by (next_state (m.state_is i)) % count i) };
      block = block;
      runs = runs;
      status = sym block.status ∙ runs-so e n r runs;
    }

-- the block that was picked is one of the blocks
pub picked-inside : (e : Entry) (guess : ℕ → Carried) (first : ℕ) (runners : List Runner) (running : List ℕ) (steps : List Step) (state : ℕ) → IsMade e guess first runners running steps state
    → (n k : ℕ) → slice_get running k ≡ Some n → n < length runners
picked-inside e guess first runners running steps state m n k pick =
    let p = outs-picked m.now.status e.header.blocks k n (subst (λ (l : List ℕ). slice_get l k ≡ Some n) m.running_are pick) in
    let inside = p.0 in
    let count = m.blocks.count in
    omega (arith, inside, count)

-- the same of a draw among these running blocks
pub found-inside : (e : Entry) (guess : ℕ → Carried) (first : ℕ) (runners : List Runner) (running : List ℕ) (steps : List Step) (state : ℕ) → IsMade e guess first runners running steps state
    → (n k : ℕ) (seen : List ℕ) → seen ≡ running → slice_get seen k ≡ Some n → n < length runners
found-inside e guess first runners running steps state m n k seen is pick =
    picked-inside e guess first runners running steps state m n k (subst (λ (l : List ℕ). slice_get l k ≡ Some n) is pick)

pub found-next : (e : Entry) (guess : ℕ → Carried) (first : ℕ) (runners : List Runner) (running : List ℕ) (steps : List Step) (state : ℕ) (m : IsMade e guess first runners running steps state)
    (n draw : ℕ) (seen : List ℕ) (d r : Runner) → seen ≡ running → draw ≡ given_by (next_state state) → slice_get seen (draw % length seen) ≡ Some n → r ≡ get_or runners n d → IsNext e m.now n r
found-next e guess first runners running steps state m n draw seen d r is drawn pick at =
    next-is e guess first runners running steps state m n r
    (subst (λ (x : List ℕ × ℕ). slice_get x.0 (x.1 % length x.0) ≡ Some n) (λ i. (is i, drawn i)) pick)
    (at-index runners n d r (found-inside e guess first runners running steps state m n (draw % length seen) seen is pick) at)

-- ---- one block goes on

-- the runner's situation
abbrev pub next_situation : Situation → Entry → ℕ → Runner → Situation
next_situation s e n r = gone_on s n r.attempt r.row (drop r.taken (attempt_events e n r.row []))

pub next-blocks : (e : Entry) (s : Situation) (n : ℕ) (r q : Runner) (runners : List Runner) → AreBlocksOf e s runners → IsNext e s n r
    → IsRunner e n q → q.flag ≡ r.flag → status_of e n q ≡ next_status r.flag r.attempt r.row (after_piece (drop r.taken (attempt_events e n r.row [])))
    → AreBlocksOf e (next_situation s e n r) (slice_set runners n q)
next-blocks e s n r q runners are h runner flag status = record {
  count = length-set runners n q ∙ are.count;
  each = λ k x at. cases (set-or-kept runners n k q x at)
      (λ here. subst (λ (y : ℕ × Runner). IsBlockOf e (next_situation s e n r) y.0 y.1) (λ i. (sym here.0 i, here.1 i)) (record {
        runner = runner;
        status = status ∙ ap (λ f. next_status f r.attempt r.row (after_piece (drop r.taken (attempt_events e n r.row [])))) h.block.flag
            ∙ sym (replace_at-here n (next_status (s.flag n) r.attempt r.row (after_piece (drop r.taken (attempt_events e n r.row [])))) s.status);
        flag = flag ∙ h.block.flag;
      }))
      (λ kept.
      let b = are.each k x kept.1 in
      record {
        runner = b.runner;
        status = b.status ∙ sym (replace_at-else n (next_status (s.flag n) r.attempt r.row (after_piece (drop r.taken (attempt_events e n r.row [])))) s.status k kept.0);
        flag = b.flag;
      });
}

pub next-again : BlockLaws → (e : Entry) → IsEntry e → (guess : ℕ → Carried) (s : Situation) (n : ℕ) (r : Runner) → Kept e guess s → IsNext e s n r → RunsAgainOnEntry e (next_situation s e n r)
next-again laws e h guess s n r k next =
    runs-again laws e h guess (next_situation s e n r)
    (next-loose laws e h guess s n r.attempt r.row (drop r.taken (attempt_events e n r.row [])) next.status next.picked.inside k.loose)

-- those that run are the same where the block runs on
running-same : (one other : ℕ → Status) (count : ℕ) → ((k : ℕ) → is_running (one k) ≡ is_running (other k)) → running_blocks one count ≡ running_blocks other count
running-same one other zero same = refl
running-same one other (suc n) same = λ i. running-same one other n same i ++ (if same n i then n ∷ [] else [])

pub next-running : (e : Entry) (s : Situation) (n : ℕ) (r : Runner) (running : List ℕ) → running ≡ running_blocks s.status e.header.blocks → IsNext e s n r
    → is_running ((next_situation s e n r).status n) ≡ true → running ≡ running_blocks (next_situation s e n r).status e.header.blocks
next-running e s n r running are next on = are ∙ running-same s.status (next_situation s e n r).status e.header.blocks (λ k. cases (alike k n)
    (λ same. subst (λ x. is_running (s.status x) ≡ is_running ((next_situation s e n r).status x)) (sym same) (next.picked.running ∙ sym on))
    (λ ne. ap is_running (sym (replace_at-else n (next_status (s.flag n) r.attempt r.row (after_piece (drop r.taken (attempt_events e n r.row [])))) s.status k ne))))
  where
    alike : (a b : ℕ) → (a ≡ b) ⊎ (a ≢ b)
    alike a b = grind arith

-- what follows changes neither steps nor generator
follows-steps : (e : Entry) (n : ℕ) (t : Situation) → (after_going_on e n t).steps ≡ t.steps
follows-steps e n t = one-of (is_running (t.status n))
  where
    one-of : (b : Bool) → (if b then t else after_filing e t).steps ≡ t.steps
    one-of true = refl
    one-of false = refl

follows-state : (e : Entry) (n : ℕ) (t : Situation) → (after_going_on e n t).state ≡ t.state
follows-state e n t = one-of (is_running (t.status n))
  where
    one-of : (b : Bool) → (if b then t else after_filing e t).state ≡ t.state
    one-of true = refl
    one-of false = refl

runs-on : (e : Entry) (s : Situation) (n : ℕ) (r : Runner) (all : List Step) (last : ℕ) → IsNext e s n r → RunsTo e (after_going_on e n (next_situation s e n r)) all last → RunsTo e s all last
runs-on e s n r all last next runs =
    one_more n next.picked (subst (λ t. RunsTo e t all last) (sym (advances e n r.attempt r.row (drop r.taken (attempt_events e n r.row [])) s next.status)) runs)

pub made-more : BlockLaws → (e : Entry) → IsEntry e → (guess : ℕ → Carried) (first : ℕ) (runners others : List Runner) (running now_running : List ℕ) (steps more : List Step) (state next : ℕ)
    (m : IsMade e guess first runners running steps state) (n : ℕ) (r : Runner) → IsNext e m.now n r
    → AreBlocksOf e (after_going_on e n (next_situation m.now e n r)) others
    → now_running ≡ running_blocks (after_going_on e n (next_situation m.now e n r)).status e.header.blocks
    → more ≡ steps ++ steps_of n (piece r.flag (drop r.taken (attempt_events e n r.row []))) → next ≡ next_state state
    → IsMade e guess first others now_running more next
made-more laws e h guess first runners others running now_running steps more state next m n r is blocks are grown goes = record {
  now = after_going_on e n (next_situation m.now e n r);
  blocks = blocks;
  running_are = are;
  steps_are = grown ∙ (λ i. m.steps_are i ++ steps_of n (piece (is.block.flag i) (drop r.taken (attempt_events e n r.row [])))) ∙ sym (follows-steps e n (next_situation m.now e n r));
  state_is = goes ∙ ap next_state m.state_is ∙ sym (follows-state e n (next_situation m.now e n r));
  kept = subst (Kept e guess) (advances e n r.attempt r.row (drop r.taken (attempt_events e n r.row [])) m.now is.status)
      (advance-keeps laws e h guess (record m.now { state = next_state m.now.state }) n (m.now.status n) refl is.picked.inside (any-state e guess m.now (next_state m.now.state) m.kept));
  goes_on = λ all last runs. m.goes_on all last (runs-on e m.now n r all last is runs);
}

-- the blocks once what follows was done, where block n has become q
pub turn-blocks : BlockLaws → (e : Entry) → IsEntry e → (guess : ℕ → Carried) (first : ℕ) (runners slice after : List Runner) (running : List ℕ) (steps : List Step) (state : ℕ)
    (m : IsMade e guess first runners running steps state) (n : ℕ) (r q : Runner) → IsNext e m.now n r → slice ≡ slice_set runners n q
    → IsRunner e n q → q.flag ≡ r.flag → status_of e n q ≡ next_status r.flag r.attempt r.row (after_piece (drop r.taken (attempt_events e n r.row [])))
    → ((s : Situation) → AreBlocksOf e s slice → RunsAgainOnEntry e s → AreBlocksOf e (after_going_on e n s) after)
    → AreBlocksOf e (after_going_on e n (next_situation m.now e n r)) after
turn-blocks laws e h guess first runners slice after running steps state m n r q is set runner flag status follow =
    follow (next_situation m.now e n r)
    (subst (AreBlocksOf e (next_situation m.now e n r)) (sym set) (next-blocks e m.now n r q runners m.blocks is runner flag status))
    (next-again laws e h guess m.now n r m.kept is)

pub turn-made : BlockLaws → (e : Entry) → IsEntry e → (guess : ℕ → Carried) (first : ℕ) (runners slice after : List Runner) (running now_running : List ℕ) (steps more : List Step) (state next : ℕ)
    (m : IsMade e guess first runners running steps state) (n : ℕ) (r q : Runner) → IsNext e m.now n r → slice ≡ slice_set runners n q
    → IsRunner e n q → q.flag ≡ r.flag → status_of e n q ≡ next_status r.flag r.attempt r.row (after_piece (drop r.taken (attempt_events e n r.row [])))
    → ((s : Situation) → AreBlocksOf e s slice → RunsAgainOnEntry e s → AreBlocksOf e (after_going_on e n s) after)
    → ((s : Situation) → AreBlocksOf e s slice → RunsAgainOnEntry e s → (is_running (s.status n) ≡ true → running ≡ running_blocks s.status e.header.blocks)
    → now_running ≡ running_blocks (after_going_on e n s).status e.header.blocks)
    → more ≡ steps ++ steps_of n (piece r.flag (drop r.taken (attempt_events e n r.row []))) → next ≡ next_state state
    → IsMade e guess first after now_running more next
turn-made laws e h guess first runners slice after running now_running steps more state next m n r q is set runner flag status follow follows grown goes =
    made-more laws e h guess first runners after running now_running steps more state next m n r is
    (turn-blocks laws e h guess first runners slice after running steps state m n r q is set runner flag status follow)
    (follows (next_situation m.now e n r)
    (subst (AreBlocksOf e (next_situation m.now e n r)) (sym set) (next-blocks e m.now n r q runners m.blocks is runner flag status))
    (next-again laws e h guess m.now n r m.kept is) (next-running e m.now n r running m.running_are is))
    grown goes

-- ---- too many steps

more-steps : (one other : List Step) → length one ≤ length (one ++ other)
more-steps one other = let size = length-append one other in omega (arith, size)

arrive-steps : (e : Entry) (n a : ℕ) (v : Carried) (o : Option (List Event)) (s : Situation) → (arrive e n a v o s).steps ≡ s.steps
arrive-steps e n a v None s = refl
arrive-steps e n a v (Some rest) s = one-of (nat_le a (s.flag n))
  where
    one-of : (b : Bool) → (if b then after_filing e (with_status s n (Filed v false)) else with_status s n (Running a v rest)).steps ≡ s.steps
    one-of true = refl
    one-of false = refl

advance-steps : (e : Entry) (n : ℕ) (status : Status) (s : Situation) → length s.steps ≤ length (advance e n status s).steps
advance-steps e n (Filed v ended) s = omega arith
advance-steps e n (Running a v left) s =
    subst (λ l. length s.steps ≤ length l) (sym (arrive-steps e n a v (after_piece left) (record s { steps = s.steps ++ steps_of n (piece (s.flag n) left) })))
    (more-steps s.steps (steps_of n (piece (s.flag n) left)))

no-fewer-steps : (e : Entry) {s : Situation} {steps : List Step} {last : ℕ} → RunsTo e s steps last → length s.steps ≤ length steps
no-fewer-steps e {s} (none_running none) = omega arith
no-fewer-steps e {s} (one_more n picked rest) =
    let one = advance-steps e n (s.status n) (record s { state = next_state s.state }) in
    let more = no-fewer-steps e rest in
    omega (arith, one, more)

pub steps-size : (n : ℕ) (events : List Event) → length (steps_of n events) ≡ length events
steps-size n [] = refl
steps-size n (x ∷ events) = ap suc (steps-size n events)

seen-size : (steps : List logged.Step) → length (seen_steps steps) ≡ length steps
seen-size [] = refl
seen-size (s ∷ steps) = ap suc (seen-size steps)

-- how many steps there are, once a piece was taken
pub steps-more : (steps more : List logged.Step) (n : ℕ) (events : List Event) → seen_steps more ≡ seen_steps steps ++ steps_of n events → length more ≡ length steps + length events
steps-more steps more n events is =
    let all : length (seen_steps more) ≡ length (seen_steps steps) + length (steps_of n events) = ap length is ∙ length-append (seen_steps steps) (steps_of n events) in
    let a = seen-size steps in
    let b = seen-size more in
    let c = steps-size n events in
    omega (arith, all, a, b, c)

pub too-many : (e : Entry) (guess : ℕ → Carried) (first : ℕ) (runners : List Runner) (running : List ℕ) (steps : List logged.Step) (state limit : ℕ)
    (m : IsMade e guess first runners running (seen_steps steps) state) (n : ℕ) (r : Runner) → IsNext e m.now n r
    → limit < length steps + length (piece r.flag (drop r.taken (attempt_events e n r.row [])))
    → (all : List Step) (last : ℕ) → IsScheduled e guess first all last → limit < length all
too-many e guess first runners running steps state limit m n r is over all last made =
    let left : List Event = drop r.taken (attempt_events e n r.row []) in
    let t : Situation = after_going_on e n (next_situation m.now e n r) in
    let on = goes e t in
    let one = goes-once e (m.goes_on on.0 on.1 (runs-on e m.now n r on.0 on.1 is on.2)) made in
    let enough : length t.steps ≤ length all = subst (λ l. length t.steps ≤ length l) one.0 (no-fewer-steps e on.2) in
    let size : length t.steps ≡ length (seen_steps steps) + length (steps_of n (piece r.flag left)) =
    ap length (follows-steps e n (next_situation m.now e n r)) ∙ (λ i. length (sym m.steps_are i ++ steps_of n (piece (sym is.block.flag i) left)))
    ∙ length-append (seen_steps steps) (steps_of n (piece r.flag left)) in
    let a = seen-size steps in
    let b = steps-size n (piece r.flag left) in
    omega (arith, over, enough, size, a, b)

-- ---- that it ends

-- a block has this much to do: to run to its end, and to get to its real row
abbrev pub weight : Entry → ℕ → Status → ℕ
weight e n status = (if is_running status then 1 else 0) + off (real e n) status

abbrev pub weights : Entry → (n : ℕ) → List Runner → ℕ
weights e n [] = 0
weights e n (r ∷ runners) = weight e n (status_of e n r) + weights e (suc n) runners

-- sums from an index on
abbrev sum-from : (ℕ → Status → ℕ) → (ℕ → Status) → (n count : ℕ) → ℕ
sum-from f status n zero = 0
sum-from f status n (suc count) = f n (status n) + sum-from f status (suc n) count

sum-from-up : (f : ℕ → Status → ℕ) (status : ℕ → Status) (n count : ℕ) → sum f status n + sum-from f status n count ≡ sum f status (n + count)
sum-from-up f status n zero = none (sum f status n) (sum f status (n + 0)) (ap (sum f status) (here n))
  where
    here : (n : ℕ) → n ≡ n + 0
    here n = omega arith

    none : (a b : ℕ) → a ≡ b → a + 0 ≡ b
    none a b e = omega (arith, e)
sum-from-up f status n (suc count) =
    shifted (f n (status n)) (sum f status n) (sum-from f status (suc n) count) (sum f status (suc n + count)) (sum f status (n + suc count)) (sum-from-up f status (suc n) count)
    (ap (sum f status) (here n count))
  where
    here : (n count : ℕ) → suc n + count ≡ n + suc count
    here n count = omega arith

    shifted : (a b c x y : ℕ) → (a + b) + c ≡ x → x ≡ y → b + (a + c) ≡ y
    shifted a b c x y h e = omega (arith, h, e)

weights-from : (e : Entry) (s : Situation) (n : ℕ) (runners : List Runner) → ((k : ℕ) (r : Runner) → slice_get runners k ≡ Some r → status_of e (n + k) r ≡ s.status (n + k))
    → weights e n runners ≡ sum-from (weight e) s.status n (length runners)
weights-from e s n [] h = refl
weights-from e s n (r ∷ runners) h =
    let first : status_of e n r ≡ s.status n = subst (λ k. status_of e k r ≡ s.status k) (here n) (h 0 r refl) in
    let rest : weights e (suc n) runners ≡ sum-from (weight e) s.status (suc n) (length runners) =
    weights-from e s (suc n) runners (λ k x at. subst (λ j. status_of e j x ≡ s.status j) (shifted n k) (h (suc k) x at)) in
    λ i. weight e n (first i) + rest i
  where
    here : (n : ℕ) → n + 0 ≡ n
    here n = omega arith

    shifted : (n k : ℕ) → n + suc k ≡ suc n + k
    shifted n k = omega arith

weights-are : (e : Entry) (s : Situation) (runners : List Runner) → AreBlocksOf e s runners → weights e 0 runners ≡ sum (weight e) s.status e.header.blocks
weights-are e s runners h =
    weights-from e s 0 runners (λ k r at. subst (λ j. status_of e j r ≡ s.status j) (up k) (h.each k r at).status)
    ∙ all (sum-from (weight e) s.status 0 (length runners)) (sum (weight e) s.status (0 + length runners)) (sum-from-up (weight e) s.status 0 (length runners))
    ∙ ap (sum (weight e) s.status) (sym (up (length runners)) ∙ h.count)
  where
    up : (k : ℕ) → k ≡ 0 + k
    up k = omega arith

    all : (a b : ℕ) → 0 + a ≡ b → a ≡ b
    all a b h = omega (arith, h)

rerun-weight : (e : Entry) (n : ℕ) (steps : List Step) (r : Option Carried) (status : Status)
    → (if is_running (rerun e steps n r status) then 1 else 0) + off r (rerun e steps n r status) ≤ (if is_running status then 1 else 0) + off r status
rerun-weight e n steps None status = omega arith
rerun-weight e n steps (Some v) (Running a w left) = omega arith
rerun-weight e n steps (Some v) (Filed w ended) = one-of (same_carried w v) w v ended (attempt_events e n v (log_of n steps)) refl
  where
    one-of : (b : Bool) (w v : Carried) (ended : Bool) (left : List Event) → same_carried w v ≡ b
        → (if is_running (if b then Filed w ended else Running 2 v left) then 1 else 0) + off (Some v) (if b then Filed w ended else Running 2 v left) ≤ 0 + (if b then 0 else 1)
    one-of true w v ended left is = subst (λ (x : Bool). 0 + (if x then 0 else 1) ≤ 0 + 0) (sym is) (omega arith)
    one-of false w v ended left is = subst (λ (x : Bool). 1 + (if x then 0 else 1) ≤ 0 + 1) (sym (same-self v)) (omega arith)

filing-weight : (e : Entry) (t : Situation) → sum (weight e) (after_filing e t).status e.header.blocks ≤ sum (weight e) t.status e.header.blocks
filing-weight e t = cases (inside-or-not (front e t.status) e.header.blocks)
    (λ low. no-more (sum (weight e) (status_after e t) e.header.blocks) (sum (weight e) t.status e.header.blocks) _ _
    (sum-one (weight e) t.status (status_after e t) (front e t.status) e.header.blocks low (λ k ne. status_after-else e t k ne))
    (subst (λ x. weight e (front e t.status) x ≤ weight e (front e t.status) (t.status (front e t.status))) (sym (status_after-front e t))
    (rerun-weight e (front e t.status) t.steps (real e (front e t.status)) (t.status (front e t.status)))))
    (λ past.
    let same = sum-same (weight e) (status_after e t) t.status e.header.blocks (λ n l. status_after-else e t n (not-front n (front e t.status) e.header.blocks l past)) in
    omega (arith, same))
  where
    no-more : (a b p q : ℕ) → a + p ≡ b + q → q ≤ p → a ≤ b
    no-more a b p q h l = omega (arith, h, l)

    not-front : (n f c : ℕ) → n < c → c ≤ f → n ≢ f
    not-front n f c h k e = omega (arith, h, k, e)

-- less to do, or as much and one more step
abbrev IsLess : (now next : ℕ) → (steps : ℕ) → Type 0
IsLess now next steps = (next < now) ⊎ ((next ≡ now) × (0 < steps))

piece-some : (k : ℕ) (left rest : List Event) → after_piece left ≡ Some rest → 0 < length (piece k left)
piece-some k [] rest h = cc
piece-some k (Load c w ∷ left) rest h = omega arith
piece-some k (Store c w ∷ left) rest h = omega arith
piece-some k (Turn n ∷ left) rest h = omega arith

drops : (now filing moved t before w x a b : ℕ) → now ≡ filing → filing ≤ t → t ≡ moved → moved + w ≡ before + x → w ≡ 1 + a → x ≡ 0 + b → b ≡ a → now < before
drops now filing moved t before w x a b p q r h k l m = omega (arith, p, q, r, h, k, l, m)

filed-less : (e : Entry) (s : Situation) (n a : ℕ) (v : Carried) (left : List Event) (ended : Bool) → n < e.header.blocks → s.status n ≡ Running a v left
    → (t : Situation) → t.status ≡ replace_at n (Filed v ended) s.status
    → sum (weight e) (after_going_on e n t).status e.header.blocks < sum (weight e) s.status e.header.blocks
filed-less e s n a v left ended low is t same =
    let stands : is_running (t.status n) ≡ false = ap is_running (ap (λ (f : ℕ → Status). f n) same ∙ replace_at-here n (Filed v ended) s.status) in
    drops _ _ _ _ _ _ _ (off (real e n) (Running a v left)) (off (real e n) (Filed v ended))
    (ap (λ (x : Situation). sum (weight e) x.status e.header.blocks) (chose-false (is_running (t.status n)) t (after_filing e t) stands))
    (filing-weight e t)
    (ap (λ (f : ℕ → Status). sum (weight e) f e.header.blocks) same)
    (sum-one (weight e) s.status (replace_at n (Filed v ended) s.status) n e.header.blocks low (replace_at-else n (Filed v ended) s.status))
    (ap (weight e n) is)
    (ap (weight e n) (replace_at-here n (Filed v ended) s.status))
    (out-home (real e n) a v left ended)

stays : (now moved t before w x a b : ℕ) → now ≡ t → t ≡ moved → moved + w ≡ before + x → w ≡ 1 + a → x ≡ 1 + b → b ≡ a → now ≡ before
stays now moved t before w x a b p r h k l m = omega (arith, p, r, h, k, l, m)

on-same : (e : Entry) (s : Situation) (n a : ℕ) (v : Carried) (left rest : List Event) → n < e.header.blocks → s.status n ≡ Running a v left
    → (t : Situation) → t.status ≡ replace_at n (Running a v rest) s.status
    → sum (weight e) (after_going_on e n t).status e.header.blocks ≡ sum (weight e) s.status e.header.blocks
on-same e s n a v left rest low is t same =
    let runs : is_running (t.status n) ≡ true = ap is_running (ap (λ (f : ℕ → Status). f n) same ∙ replace_at-here n (Running a v rest) s.status) in
    stays _ _ _ _ _ _ (off (real e n) (Running a v left)) (off (real e n) (Running a v rest))
    (ap (λ (x : Situation). sum (weight e) x.status e.header.blocks) (chose-true (is_running (t.status n)) t (after_filing e t) runs))
    (ap (λ (f : ℕ → Status). sum (weight e) f e.header.blocks) same)
    (sum-one (weight e) s.status (replace_at n (Running a v rest) s.status) n e.header.blocks low (replace_at-else n (Running a v rest) s.status))
    (ap (weight e n) is)
    (ap (weight e n) (replace_at-here n (Running a v rest) s.status))
    (out-out (real e n) a a v left rest)

goes-less : (e : Entry) (s : Situation) (n a : ℕ) (v : Carried) (left : List Event) (k : ℕ) (o : Option (List Event)) → n < e.header.blocks → s.status n ≡ Running a v left → after_piece left ≡ o
    → (t : Situation) → t.status ≡ replace_at n (next_status (s.flag n) a v o) s.status
    → IsLess (sum (weight e) s.status e.header.blocks) (sum (weight e) (after_going_on e n t).status e.header.blocks) (length (piece k left))
goes-less e s n a v left k None low is after t same = inl (filed-less e s n a v left true low is t same)
goes-less e s n a v left k (Some rest) low is after t same = cases (true-or-false (nat_le a (s.flag n)))
    (λ stops. inl (filed-less e s n a v left false low is t (same ∙ ap (λ x. replace_at n x s.status) (chose-true (nat_le a (s.flag n)) (Filed v false) (Running a v rest) stops))))
    (λ on. inr (
      on-same e s n a v left rest low is t (same ∙ ap (λ x. replace_at n x s.status) (chose-false (nat_le a (s.flag n)) (Filed v false) (Running a v rest) on)),
      piece-some k left rest after,
    ))

less-left : (limit steps more taken before after runners others : ℕ) → runners ≡ before → others ≡ after → more ≡ steps + taken → more ≤ limit → IsLess before after taken
    → (limit - more) + others < (limit - steps) + runners
less-left limit steps more taken before after runners others p q grown most (inl less) = omega (arith, p, q, grown, most, less)
less-left limit steps more taken before after runners others p q grown most (inr same) =
    let equal = same.0 in
    let some = same.1 in
    omega (arith, p, q, grown, most, equal, some)

-- what is left of the limit, and of what blocks have to do, gets less
pub made-less : (e : Entry) (s : Situation) (runners others : List Runner) (n : ℕ) (r : Runner) (limit steps more : ℕ) → AreBlocksOf e s runners → IsNext e s n r
    → AreBlocksOf e (after_going_on e n (next_situation s e n r)) others → more ≡ steps + length (piece r.flag (drop r.taken (attempt_events e n r.row []))) → more ≤ limit
    → (limit - more) + weights e 0 others < (limit - steps) + weights e 0 runners
made-less e s runners others n r limit steps more are next blocks grown most =
    let left : List Event = drop r.taken (attempt_events e n r.row []) in
    less-left limit steps more (length (piece r.flag left)) (sum (weight e) s.status e.header.blocks)
    (sum (weight e) (after_going_on e n (next_situation s e n r)).status e.header.blocks) (weights e 0 runners) (weights e 0 others)
    (weights-are e s runners are) (weights-are e (after_going_on e n (next_situation s e n r)) others blocks) grown most
    (goes-less e s n r.attempt r.row left r.flag (after_piece left) next.picked.inside next.status refl (next_situation s e n r) refl)

-- ---- some guesses

abbrev pub row_of : Option Guess → Carried
row_of None = []
row_of (Some g) = g.value

-- guesses that the construct has
abbrev pub guess_of : EnteredConstruct → ℕ → Carried
guess_of c zero = []
guess_of c (suc n) = row_of (slice_get c.guesses.now n)

pub has-guesses : (c : EnteredConstruct) → HasGuesses c (guess_of c)
has-guesses c n g at = sym (ap row_of at)
