-- What the ends of attempts that were read from a log say of the log.
use Rattle.std.proofs.Common.{◌≡◌, ◌≢◌, ◌≤◌, ◌↔◌, ℕ, List, [], ◌∷◌, Option, Some, None, length, drop, refl, sym, ap, ◌∙◌, subst, arith}
use Rattle.std.specs.Prelude.{map, slice_get}
use Rattle.std.proofs.lemmas.List.{length-drop, drop_all}
use Rattle.spf_ast.specs.Carried.{Carried}
use Rattle.spf_ast.specs.Event.{Event}
use Rattle.spf_ast.specs.Interaction.{Performed, HasReadAll, Ended, Stopped, Misfit, Ending, Value, Trapped, perform}
use Rattle.spf_ast.specs.BlockRun.{block_setup, part_asks}
use Rattle.spf_ast.specs.ConstructView.{construct as seen_construct}
use Rattle.spf_ast.specs.Construct.{constructs_in}
use Rattle.spf_ast.specs.Silence.{PartIsSilent}
use Rattle.spf_ast.specs.declared.construct.TopConstruct.{TopConstruct}
use Rattle.spf_ast.specs.declared.syntax.Part.{Part}
use Rattle.spf_region.specs.Cells.{in_spans}
use Rattle.spf_exec.specs.declared.stop.Stop.{Stop}
use Rattle.spf_exec.specs.declared.stop.Stop.TheVariants as stop
use Rattle.spf_exec_instance.specs.Frame.{main_slots}
use Rattle.spf_exec_instance.specs.Instance.{program_of}
use Rattle.spf_replay_log.specs.declared.log.Event as logged
use Rattle.spf_speculation_entry.specs.Entry.{Entry, own, asks_at, begins_at}
use Rattle.spf_speculation_entry.specs.Attempts.{attempted}
use Rattle.spf_speculation.specs.Runs.{IsRealLog, at_once, again}
use Rattle.spf_exec.specs.declared.block_run.BlockRun.{BlockRun}
use Rattle.spf_replay.specs.declared.context.BlockContext.{BlockContext}
use Rattle.spf_replay.specs.Reading.{event_of}
use Rattle.spf_replay.specs.Attempts.{ComesTo}
use Rattle.spf_replay.specs.Deciding.{IsWholeEnd, IsReadEnd}
use Rattle.spf_replay.specs.Contexts.{CanRun, IsContextOf}
use Rattle.spf_replay.proofs.Performing.{came}
use Rattle.spf_replay.proofs.Cutting.{left_by, grown, cut}

-- ---- contexts

-- an attempt at a context is one of the entry's block
pub attempt-at : (e : Entry) (n : ℕ) (context : BlockContext) (block : BlockRun) (value : Carried) (a : ℕ) (es : List Event) → IsContextOf e n context block
    → perform (in_spans context.spans.now) context.entry.now (Some a)
    (part_asks (program_of context.instance.now) (seen_construct block.construct) block.part
    (block_setup context.instance.now.input (main_slots (program_of context.instance.now) context.frame.now) block.number value)) es
    ≡ attempted e n value a es
attempt-at e n context block value a es s = λ t. perform (λ cell. s.cells cell t) (s.memory t) (Some a)
    (part_asks (s.program t) (s.same_construct t) (s.part t) (block_setup (s.input t) (s.slots t) (s.number t) value)) es

-- ---- nothing left

none-mapped : (xs : List logged.Event) → map event_of xs ≡ [] → xs ≡ []
none-mapped [] e = refl
none-mapped (x ∷ xs) e = cc

at-end : (log : List logged.Event) (at : ℕ) → at ≤ length log → map event_of (drop at log) ≡ [] → at ≡ length log
at-end log at inside none =
    let size : length (drop at log) ≡ 0 = ap length (none-mapped (drop at log) none) in
    let all = length-drop at log in
    omega (arith, size, all)

end-left : (log : List logged.Event) (at : ℕ) → at ≡ length log → map event_of (drop at log) ≡ []
end-left log at here = ap (map event_of) (drop_all at log (omega (arith, here)))

-- ---- whole attempts

ended-rest : {A : Type 0} (a b : A) (es fs : List Event) → Ended a es ≡ Ended b fs → es ≡ fs
ended-rest a b es fs e = cc

stopped-rest : {A : Type 0} (n m : ℕ) (es fs : List Event) → ◌≡◌ {A = Performed A} (Stopped n es) (Stopped m fs) → es ≡ fs
stopped-rest n m es fs e = cc

not-misfit : {A B : Type 0} (a : A) (es : List Event) → Misfit ≡ Ended a es → B
not-misfit a es e = cc

not-stopped : {A B : Type 0} (a : A) (n : ℕ) (es fs : List Event) → Stopped n es ≡ Ended a fs → B
not-stopped a n es fs e = cc

-- it is whole at its end exactly where it ended at the end of the log
pub whole-end : (came : Performed (Ending Carried)) (log : List logged.Event) (end : Option (Stop × ℕ)) → ComesTo came log end
    → IsWholeEnd end (length log) ↔ ((answer : Ending Carried) × (came ≡ Ended answer []))
whole-end came log None h = ((λ w. absurd w), (λ w. not-misfit w.0 [] (sym h ∙ w.1)))
whole-end came log (Some (stop.Ended value, at)) h = (
  (λ here. (Value value h.1.0, h.1.1 ∙ ap (λ l. Ended (Value value h.1.0) l) (end-left log at here))),
  (λ w. at-end log at h.0 (ended-rest (Value value h.1.0) w.0 (map event_of (drop at log)) [] (sym h.1.1 ∙ w.1))),
)
whole-end came log (Some (stop.Trapped trap, at)) h = (
  (λ here. (Trapped trap h.1.0, h.1.1 ∙ ap (λ l. Ended (Trapped trap h.1.0) l) (end-left log at here))),
  (λ w. at-end log at h.0 (ended-rest (Trapped trap h.1.0) w.0 (map event_of (drop at log)) [] (sym h.1.1 ∙ w.1))),
)
whole-end came log (Some (stop.Cancelled seen, at)) h = ((λ w. absurd w), (λ w. not-stopped w.0 seen (map event_of (drop at log)) [] (sym h.1 ∙ w.1)))

-- it is read to the end exactly where its end is that of the log
pub read-end : (came : Performed (Ending Carried)) (log : List logged.Event) (end : Option (Stop × ℕ)) → ComesTo came log end
    → IsReadEnd end (length log) ↔ HasReadAll came
read-end came log None h = ((λ w. absurd w), (λ w. subst HasReadAll h w))
read-end came log (Some (stop.Ended value, at)) h = (
  (λ here. subst HasReadAll (sym h.1.1) (end-left log at here)),
  (λ w. at-end log at h.0 (subst HasReadAll h.1.1 w)),
)
read-end came log (Some (stop.Trapped trap, at)) h = (
  (λ here. subst HasReadAll (sym h.1.1) (end-left log at here)),
  (λ w. at-end log at h.0 (subst HasReadAll h.1.1 w)),
)
read-end came log (Some (stop.Cancelled seen, at)) h = (
  (λ here. subst HasReadAll (sym h.1) (end-left log at here)),
  (λ w. at-end log at h.0 (subst HasReadAll h.1 w)),
)

-- ---- real logs

pub real-at-once : (e : Entry) (guess : ℕ → Carried) (n : ℕ) (v : Carried) (log : List Event) → begins_at e guess n ≡ v
    → ((answer : Ending Carried) × IsRealLog e guess n v log answer) ↔ ((answer : Ending Carried) × (attempted e n (begins_at e guess n) 1 log ≡ Ended answer []))
real-at-once e guess n v log same = (
  (λ r. one r.0 r.1),
  (λ w. (w.0, at_once same (subst (λ x. attempted e n x 1 log ≡ Ended w.0 []) same w.1))),
)
  where
    one : (answer : Ending Carried) → IsRealLog e guess n v log answer → (other : Ending Carried) × (attempted e n (begins_at e guess n) 1 log ≡ Ended other [])
    one answer (at_once is w) = (answer, subst (λ x. attempted e n x 1 log ≡ Ended answer []) (sym is) w)
    one answer (again first second split ne a w) = absurd (ne same)

-- what a first attempt left of a log is what a second one is
left-after : (t : Performed (Ending Carried)) (first second : List Event) → HasReadAll t → left_by (came (Some second) t) ≡ Some second
left-after (Ended a rest) first second all = refl
left-after (Stopped n rest) first second all = refl
left-after Misfit first second all = absurd all

-- where the first attempt left this, the log is a real one, at another value, exactly where this is a whole second attempt
pub real-again : (e : Entry) (guess : ℕ → Carried) (n : ℕ) (v : Carried) (log rest : List Event) → begins_at e guess n ≢ v
    → left_by (attempted e n (begins_at e guess n) 1 log) ≡ Some rest
    → ((answer : Ending Carried) × IsRealLog e guess n v log answer) ↔ ((answer : Ending Carried) × (attempted e n v 2 rest ≡ Ended answer []))
real-again e guess n v log rest ne left = (
  (λ r. two r.0 r.1),
  (λ w. let c = cut (own e n) e.memory (Some 1) (asks_at e n (begins_at e guess n)) log rest left in (w.0, again c.first rest c.split ne c.all w.1)),
)
  where
    some-same : (a b : List Event) → Some a ≡ Some b → a ≡ b
    some-same a b h = cc

    two : (answer : Ending Carried) → IsRealLog e guess n v log answer → (other : Ending Carried) × (attempted e n v 2 rest ≡ Ended other [])
    two answer (at_once same w) = absurd (ne same)
    two answer (again first second split other a w) =
        let whole : attempted e n (begins_at e guess n) 1 log ≡ came (Some second) (attempted e n (begins_at e guess n) 1 first) =
        ap (attempted e n (begins_at e guess n) 1) split ∙ grown (own e n) e.memory (Some 1) (asks_at e n (begins_at e guess n)) first second a in
        let same : second ≡ rest = some-same second rest (sym (left-after (attempted e n (begins_at e guess n) 1 first) first second a) ∙ sym (ap left_by whole) ∙ left) in
        (answer, subst (λ l. attempted e n v 2 l ≡ Ended answer []) same w)

-- a log on which no first attempt fits is no real one
pub real-misfit : (e : Entry) (guess : ℕ → Carried) (n : ℕ) (v : Carried) (log : List Event) (answer : Ending Carried)
    → attempted e n (begins_at e guess n) 1 log ≡ Misfit → IsRealLog e guess n v log answer → ⊥
real-misfit e guess n v log answer none (at_once same w) =
    not-misfit answer [] (sym none ∙ subst (λ x. attempted e n x 1 log ≡ Ended answer []) (sym same) w)
real-misfit e guess n v log answer none (again first second split ne a w) =
    fits (attempted e n (begins_at e guess n) 1 first) a
    (sym none ∙ ap (attempted e n (begins_at e guess n) 1) split ∙ grown (own e n) e.memory (Some 1) (asks_at e n (begins_at e guess n)) first second a)
  where
    fits : (t : Performed (Ending Carried)) → HasReadAll t → Misfit ≡ came (Some second) t → ⊥
    fits (Ended x rest) all h = cc
    fits (Stopped k rest) all h = cc
    fits Misfit all h = absurd all

-- what the end of an attempt left
pub left-at : (came : Performed (Ending Carried)) (log : List logged.Event) (s : Stop) (at : ℕ) → ComesTo came log (Some (s, at)) → left_by came ≡ Some (map event_of (drop at log))
left-at came log (stop.Ended value) at h = ap left_by h.1.1
left-at came log (stop.Trapped trap) at h = ap left_by h.1.1
left-at came log (stop.Cancelled seen) at h = ap left_by h.1

-- ---- what the code finds

-- an attempt that was read in a context, as one of the entry's block
pub comes-at : (e : Entry) (n : ℕ) (context : BlockContext) (block : BlockRun) (other : Carried) (a : ℕ) (log : List logged.Event) (at : ℕ) (end : Option (Stop × ℕ)) → IsContextOf e n context block
    → block.value ≡ other
    → ComesTo (perform (in_spans context.spans.now) context.entry.now (Some a)
    (part_asks (program_of context.instance.now) (seen_construct block.construct) block.part
    (block_setup context.instance.now.input (main_slots (program_of context.instance.now) context.frame.now) block.number block.value)) (map event_of (drop at log))) log end
    → ComesTo (attempted e n other a (map event_of (drop at log))) log end
comes-at e n context block other a log at end s same h =
    subst (λ x. ComesTo x log end) (attempt-at e n context block block.value a (map event_of (drop at log)) s ∙ ap (λ v. attempted e n v a (map event_of (drop at log))) same) h

-- a block that differs from another one in its row alone
pub moved : (e : Entry) (n : ℕ) (context : BlockContext) (block other : BlockRun) → other.construct ≡ block.construct → other.part ≡ block.part → other.number ≡ block.number
    → IsContextOf e n context block → IsContextOf e n context other
moved e n context block other same part number h = record {
  program = h.program;
  input = h.input;
  slots = h.slots;
  memory = h.memory;
  cells = h.cells;
  same_construct = ap seen_construct same ∙ h.same_construct;
  part = part ∙ h.part;
  number = number ∙ h.number;
}

pub still-runs : (context : BlockContext) (block other : BlockRun) → other.construct ≡ block.construct → other.index ≡ block.index → other.part ≡ block.part
    → CanRun context block → CanRun context other
still-runs context block other same index part h = record {
  top = ap (slice_get (constructs_in (program_of context.instance.now).main)) index ∙ h.top ∙ ap (λ k. Some (seen_construct k)) (sym same);
  cells = h.cells;
  frame = h.frame;
  silent = subst (λ (x : TopConstruct × Part). PartIsSilent (seen_construct x.0) x.1) (λ i. (sym same i, sym part i)) h.silent;
  functions_silent = h.functions_silent;
  run = λ is. h.run (sym part ∙ is);
}

-- one statement for another on both sides
pub both-ways : {P Q R : Type 0} → P ↔ Q → Q ↔ R → P ↔ R
both-ways p q = ((λ x. q.0 (p.0 x)), (λ y. p.1 (q.1 y)))

pub back : {P Q : Type 0} → P ↔ Q → Q ↔ P
back p = (p.1, p.0)
