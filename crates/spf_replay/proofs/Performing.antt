-- A performance over a log: it comes to what performing the log comes to.
use Rattle.std.proofs.Common.{◌≡◌, ℕ, Bool, true, false, List, [], ◌∷◌, ◌++◌, Option, Some, None, ℤ, refl, sym, ap, ◌∙◌, subst}
use Rattle.std.specs.Prelude.{if◌then◌else◌, ◌==◌, ◌&&◌, MatchBool, MatchOption, map, drop, length, ◌≤◌}
use Rattle.std.specs.Ordering.{int_eq}
use Rattle.std.proofs.lemmas.Bool.Decides.{Decides-eqb, Decides-int_eq}
use Rattle.spf_ast.specs.Event.{Event, Load, Store, Turn}
use Rattle.spf_ast.specs.Interaction.{Interaction, Answer, AskLoad, AskStore, AskTurn, Performed, HasReadAll, Ended, Stopped, Misfit, take_load, take_store, take_turn, perform, every_cell, reaches}
use Rattle.std.proofs.lemmas.List.{append-nil}
use Rattle.spf_ast.specs.Carried.{Carried}
use Rattle.spf_ast.specs.Interaction.{Ending}
use Rattle.spf_exec.specs.declared.stop.Stop.{Stop}
use Rattle.spf_exec.specs.declared.stop.Stop.TheVariants as stop
use Rattle.spf_exec_memory.specs.Performs.{performed_as, IsDecided, state}
use Rattle.spf_exec.specs.BlockRuns.{stop_result}
use Rattle.spf_region.specs.declared.span.Span.{Span}
use Rattle.spf_region.specs.Cells.{in_spans}
use Rattle.spf_replay_log.specs.declared.log.Event as logged
use Rattle.spf_replay.specs.Reading.{event_of, next_load, next_store, next_turn, Reads, ReadsOn, InLog, in_log, left_at, left_of, LeadsInLog}
use Rattle.spf_replay.specs.Attempts.{EndsBefore, ComesTo}

-- what a performance that read all comes to before what is left, where the log fits
abbrev pub came : {A : Type 0} → Option (List Event) → Performed A → Performed A
came None r = Misfit
came (Some rest) (Ended a end) = Ended a rest
came (Some rest) (Stopped n end) = Stopped n rest
came (Some rest) Misfit = Misfit

-- ---- what stands next, as a performance takes it

goes_on : {A B : Type 0} → (B → Performed A) → Option B → Performed A
goes_on next None = Misfit
goes_on next (Some x) = next x

choice-of : {A B : Type 0} (b : Bool) (x : B) (next : B → Performed A) → (if b then next x else Misfit) ≡ goes_on next (if b then Some x else None)
unfolding goes_on
choice-of true x next = refl
choice-of false x next = refl

take-load : {A : Type 0} (c : ℕ) (next : ℤ → List Event → Performed A) (left : List Event) → take_load c next left ≡ goes_on (λ (x : ℤ × List Event). next x.0 x.1) (next_load c left)
unfolding goes_on
take-load c next [] = refl
take-load c next (Load at word ∷ rest) = choice-of (c == at) (word, rest) (λ (x : ℤ × List Event). next x.0 x.1)
take-load c next (Store at word ∷ rest) = refl
take-load c next (Turn n ∷ rest) = refl

take-store : {A : Type 0} (c : ℕ) (v : ℤ) (next : List Event → Performed A) (left : List Event) → take_store c v next left ≡ goes_on next (next_store c v left)
unfolding goes_on
take-store c v next [] = refl
take-store c v next (Load at word ∷ rest) = refl
take-store c v next (Store at word ∷ rest) = choice-of ((c == at) && int_eq v word) rest next
take-store c v next (Turn n ∷ rest) = refl

take-turn : {A : Type 0} (stop : Option ℕ) (next : List Event → Performed A) (left : List Event) → take_turn stop next left ≡ goes_on (λ (x : ℕ × List Event). if reaches stop x.0 then Stopped x.0 x.1 else next x.1) (next_turn left)
unfolding goes_on
take-turn stop next [] = refl
take-turn stop next (Load at word ∷ rest) = refl
take-turn stop next (Store at word ∷ rest) = refl
take-turn stop next (Turn n ∷ rest) = refl

-- ---- choices

chosen : {A : Type 0} (b : Bool) (x : Performed A) → HasReadAll (if b then x else Misfit) → (b ≡ true) × ((if b then x else Misfit) ≡ x)
chosen true x h = (refl, refl)
chosen false x h = absurd h

both-parts : (x y : Bool) → (x && y) ≡ true → (x ≡ true) × (y ≡ true)
both-parts true y e = (refl, e)
both-parts false y e = cc

-- ---- one event of the performance

-- where the next event of the log is the one that is asked for, the rest goes on; where it isn't, the log fits no longer
read-next : {A B : Type 0} (o : Option B) (next : B → Performed A) (now : Option (List Event)) (Q : B → Type 0) (r : Performed A)
    → ((x : B) → Q x → next x ≡ came now r) → MatchOption o (now ≡ None) Q → goes_on next o ≡ came now r
unfolding goes_on
read-next None next now Q r go h = sym (ap (λ x. came x r) h)
read-next (Some x) next now Q r go h = go x h

read-cell : {A : Type 0} (b : Bool) (x y r : Performed A) (P Q : Type 0) → (P → x ≡ r) → (Q → y ≡ r) → MatchBool b P Q → (if b then x else y) ≡ r
read-cell true x y r P Q f g h = f h
read-cell false x y r P Q f g h = g h

-- a turn stops both or none
read-stop : {A : Type 0} (b : Bool) (n : ℕ) (es : List Event) (rest : List Event) (x y : Performed A) (now : Option (List Event))
    → HasReadAll (if b then Stopped n es else x) → (b ≡ true → es ≡ [] → now ≡ Some rest) → (b ≡ false → HasReadAll x → y ≡ came now x)
    → (if b then Stopped n rest else y) ≡ came now (if b then Stopped n es else x)
read-stop true n es rest x y now all end on = sym (ap (λ o. came o (Stopped n es)) (end refl all))
read-stop false n es rest x y now all end on = on refl all

-- ---- the law

-- a performance that reads all its events, over a log, comes to what performing the log comes to
pub performed-log : {A : Type 0} (shared : ℕ → Bool) (m : List ℤ) (stop : Option ℕ) (t : Interaction A) (es left : List Event) (now : Option (List Event))
    → HasReadAll (perform every_cell [] stop t es) → Reads shared m es left now
    → perform shared m stop t left ≡ came now (perform every_cell [] stop t es)
performed-log shared m stop (Answer a) [] left now all h = sym (ap (λ o. came o (Ended a [])) h)
performed-log shared m stop (Answer a) (Load d w ∷ es) left now all h = cc
performed-log shared m stop (Answer a) (Store d w ∷ es) left now all h = cc
performed-log shared m stop (Answer a) (Turn n ∷ es) left now all h = cc
performed-log shared m stop (AskLoad c k) [] left now all h = absurd all
performed-log shared m stop (AskLoad c k) (Load d w ∷ es) left now all h =
    let i = chosen (c == d) (perform every_cell [] stop (k w) es) all in
    let same : c ≡ d = (Decides-eqb c d).0 i.0 in
    let rest : HasReadAll (perform every_cell [] stop (k w) es) = subst HasReadAll i.1 all in
    read-cell (shared c) _ _ _ _ _
    (λ r. take-load c (λ word left. perform shared m stop (k word) left) left
    ∙ read-next (next_load c left) (λ (x : ℤ × List Event). perform shared m stop (k x.0) x.1) now _ _
    (λ x q. ap (λ word. perform shared m stop (k word) x.1) (sym q.0) ∙ performed-log shared m stop (k w) es x.1 now rest q.1 ∙ ap (came now) (sym i.1)) r)
    (λ r. ap (λ word. perform shared m stop (k word) left) (sym r.0) ∙ performed-log shared m stop (k w) es left now rest r.1 ∙ ap (came now) (sym i.1))
    (subst (λ x. Reads shared m (Load x w ∷ es) left now) (sym same) h)
performed-log shared m stop (AskLoad c k) (Store d w ∷ es) left now all h = absurd all
performed-log shared m stop (AskLoad c k) (Turn n ∷ es) left now all h = absurd all
performed-log shared m stop (AskStore c v t) [] left now all h = absurd all
performed-log shared m stop (AskStore c v t) (Load d w ∷ es) left now all h = absurd all
performed-log shared m stop (AskStore c v t) (Store d w ∷ es) left now all h =
    let i = chosen ((c == d) && int_eq v w) (perform every_cell [] stop t es) all in
    let both = both-parts (c == d) (int_eq v w) i.0 in
    let rest : HasReadAll (perform every_cell [] stop t es) = subst HasReadAll i.1 all in
    take-store c v (λ left. perform shared m stop t left) left
    ∙ read-next (next_store c v left) (λ left. perform shared m stop t left) now _ _
    (λ x q. performed-log shared m stop t es x now rest q ∙ ap (came now) (sym i.1))
    (subst (λ (x : ℕ × ℤ). Reads shared m (Store x.0 x.1 ∷ es) left now) (λ j. (sym ((Decides-eqb c d).0 both.0) j, sym ((Decides-int_eq v w).0 both.1) j)) h)
performed-log shared m stop (AskStore c v t) (Turn n ∷ es) left now all h = absurd all
performed-log shared m stop (AskTurn t) [] left now all h = absurd all
performed-log shared m stop (AskTurn t) (Load d w ∷ es) left now all h = absurd all
performed-log shared m stop (AskTurn t) (Store d w ∷ es) left now all h = absurd all
performed-log shared m stop (AskTurn t) (Turn n ∷ es) left now all h =
    take-turn stop (λ left. perform shared m stop t left) left
    ∙ read-next (next_turn left) (λ (x : ℕ × List Event). if reaches stop x.0 then Stopped x.0 x.1 else perform shared m stop t x.1) now _ _
    (λ x q. ap (λ j. if reaches stop j then Stopped j x.1 else perform shared m stop t x.1) (sym q.0)
    ∙ read-stop (reaches stop n) n es x.1 (perform every_cell [] stop t es) (perform shared m stop t x.1) now all
    (λ stops none. subst (λ l. Reads shared m l x.1 now) none q.1)
    (λ on rest. performed-log shared m stop t es x.1 now rest q.1)) h

-- ---- how a performance ended

pub is-decided : (s : Stop) → IsDecided (stop_result s)
is-decided (stop.Ended v) = tt
is-decided (stop.Trapped t) = tt
is-decided (stop.Cancelled seen) = tt

pub reads-all : (s : Stop) (slots : List ℤ) → HasReadAll (performed_as (stop_result s) (state slots []) [])
reads-all (stop.Ended v) slots = refl
reads-all (stop.Trapped t) slots = refl
reads-all (stop.Cancelled seen) slots = refl

ends-so : (s : Stop) (slots : List ℤ) (rest : List Event) → EndsBefore (came (Some rest) (performed_as (stop_result s) (state slots []) [])) s rest
ends-so (stop.Ended v) slots rest = (state slots [], refl)
ends-so (stop.Trapped t) slots rest = ([], refl)
ends-so (stop.Cancelled seen) slots rest = refl

-- what a block run over a log comes to, which is performed so
pub run-of-log : (shared : ℕ → Bool) (m : List ℤ) (a : ℕ) (t : Interaction (Ending Carried)) (s : Stop) (es left : List Event) (now : Option (List Event)) (slots : List ℤ)
    → (IsDecided (stop_result s) → (rest : List Event) → perform every_cell [] (Some a) t (es ++ rest) ≡ performed_as (stop_result s) (state slots []) rest)
    → Reads shared m es left now
    → perform shared m (Some a) t left ≡ came now (performed_as (stop_result s) (state slots []) [])
run-of-log shared m a t s es left now slots performed read =
    let ends : perform every_cell [] (Some a) t es ≡ performed_as (stop_result s) (state slots []) [] =
    ap (perform every_cell [] (Some a) t) (sym (append-nil es)) ∙ performed (is-decided s) [] in
    performed-log shared m (Some a) t es left now (subst HasReadAll (sym ends) (reads-all s slots)) read ∙ ap (came now) ends

-- where the log fits, the block run ends as it is performed, before what is left
pub run-fits : (shared : ℕ → Bool) (m : List ℤ) (a : ℕ) (t : Interaction (Ending Carried)) (s : Stop) (es left rest : List Event) (slots : List ℤ)
    → (IsDecided (stop_result s) → (rest : List Event) → perform every_cell [] (Some a) t (es ++ rest) ≡ performed_as (stop_result s) (state slots []) rest)
    → Reads shared m es left (Some rest) → EndsBefore (perform shared m (Some a) t left) s rest
run-fits shared m a t s es left rest slots performed read =
    subst (λ x. EndsBefore x s rest) (sym (run-of-log shared m a t s es left (Some rest) slots performed read)) (ends-so s slots rest)

-- where it doesn't, neither does performing it
pub run-misfits : (shared : ℕ → Bool) (m : List ℤ) (a : ℕ) (t : Interaction (Ending Carried)) (s : Stop) (es left : List Event) (slots : List ℤ)
    → (IsDecided (stop_result s) → (rest : List Event) → perform every_cell [] (Some a) t (es ++ rest) ≡ performed_as (stop_result s) (state slots []) rest)
    → Reads shared m es left None → perform shared m (Some a) t left ≡ Misfit
run-misfits shared m a t s es left slots performed read = run-of-log shared m a t s es left None slots performed read

-- ---- from state to state

same-left : (a b : InLog) (es : List Event) (rest : Option (List Event)) → left_of b ≡ rest → LeadsInLog es a b → ReadsOn (in_spans a.spans) a.entry es (left_of a) rest
same-left a b es rest is led = subst (ReadsOn (in_spans a.spans) a.entry es (left_of a)) is led.read

left-fits : (log : List logged.Event) (b : InLog) → b.log ≡ log → b.fits ≡ true → left_of b ≡ Some (map event_of (drop b.at log))
left-fits log b same fits = λ i. left_at (same i) b.at (fits i)

left-unfit : (b : InLog) → b.fits ≡ false → left_of b ≡ None
left-unfit b unfit = λ i. left_at b.log b.at (unfit i)

-- an attempt that was read from an index of a log to the state b, where it fits
pub read-so : (spans : List Span) (entry : List ℤ) (a : ℕ) (log : List logged.Event) (at : ℕ) (t : Interaction (Ending Carried)) (s : Stop) (es : List Event) (slots : List ℤ) (b : InLog)
    → (IsDecided (stop_result s) → (rest : List Event) → perform every_cell [] (Some a) t (es ++ rest) ≡ performed_as (stop_result s) (state slots []) rest)
    → LeadsInLog es (in_log spans entry a log at true) b → b.fits ≡ true → b.at ≤ length b.log
    → ComesTo (perform (in_spans spans) entry (Some a) t (map event_of (drop at log))) log (Some (s, b.at))
read-so spans entry a log at t s es slots b performed led fits inside = (
  subst (λ l. b.at ≤ length l) led.log inside,
  run-fits (in_spans spans) entry a t s es (map event_of (drop at log)) (map event_of (drop b.at log)) slots performed
      (same-left (in_log spans entry a log at true) b es (Some (map event_of (drop b.at log))) (left-fits log b led.log fits) led),
)

-- and where it doesn't
pub unread-so : (spans : List Span) (entry : List ℤ) (a : ℕ) (log : List logged.Event) (at : ℕ) (t : Interaction (Ending Carried)) (s : Stop) (es : List Event) (slots : List ℤ) (b : InLog)
    → (IsDecided (stop_result s) → (rest : List Event) → perform every_cell [] (Some a) t (es ++ rest) ≡ performed_as (stop_result s) (state slots []) rest)
    → LeadsInLog es (in_log spans entry a log at true) b → b.fits ≡ false
    → perform (in_spans spans) entry (Some a) t (map event_of (drop at log)) ≡ Misfit
unread-so spans entry a log at t s es slots b performed led unfit =
    run-misfits (in_spans spans) entry a t s es (map event_of (drop at log)) slots performed
    (same-left (in_log spans entry a log at true) b es None (left-unfit b unfit) led)
