-- A run of a ticket is an attempt.
use Rattle.std.proofs.Common.{◌≡◌, ℕ, ◌<◌, Bool, true, false, List, [], ◌∷◌, ◌++◌, length, ℤ, refl, sym, ap, ◌∙◌, subst, Some, arith, Contains, min}
use Rattle.std.specs.Prelude.{if◌then◌else◌, slice_get, slice_index_or}
use Rattle.std.proofs.lemmas.List.{append-nil, length-take}
use Rattle.std.proofs.lemmas.Option.{slice_get-get_or}
use Rattle.spf_ast_lemmas.proofs.Members.{first-in, later-in}
use Rattle.spf_ast.specs.declared.syntax.Part.{Part}
use Rattle.spf_ast.specs.Carried.{Carried}
use Rattle.spf_ast.specs.Event.{Event, Load, Store, Turn}
use Rattle.spf_ast.specs.Interaction.{Interaction, Performed, Ended, Stopped, Misfit, HasReadAll, State, Ending, Value, Trapped, perform, every_cell}
use Rattle.spf_ast.specs.Syntax.{Program}
use Rattle.spf_ast.specs.Construct.{Construct, constructs_in, part_of, statements_of}
use Rattle.spf_ast.specs.BlockRun.{block_setup, part_asks}
use Rattle.spf_ast.specs.Lawful.{IsLawful}
use Rattle.spf_ast.specs.Slots.{assigns_outer, LeavesOtherSlots}
use Rattle.spf_ast_laws.specs.Agreement.{GoAlike, HaveOneOutput, AgreeOutside, PartsDeclareAnew}
use Rattle.spf_ast_laws.specs.Keeping.{PartsAssignWhatTheyDeclare}
use Rattle.spf_exec.specs.declared.stop.Stop.{Stop}
use Rattle.spf_exec.specs.declared.stop.Stop.TheVariants as stop
use Rattle.spf_exec_instance.specs.Frame.{main_slots}
use Rattle.spf_exec.specs.BlockRuns.{stop_result}
use Rattle.spf_exec_memory.specs.Performs.{performed_as, IsDecided, state}
use Rattle.spf_region.specs.declared.span.Span.{Span}
use Rattle.spf_region.specs.Cells.{in_spans}
use Rattle.spf_cells.specs.Log.{events}
use Rattle.spf_cells.specs.declared.view.Setting.{Setting}
use Rattle.spf_cells.specs.Values.{LaneValue, CellsValue, IsLaneOf, spans_of}
use Rattle.spf_check_rules.specs.Performances.{IsPerformance}
use Rattle.spf_speculation_entry.specs.Entry.{Entry, IsEntry, number_of, own, asks_at}
use Rattle.spf_speculation_entry.specs.Attempts.{attempted, on_cells, OthersAreOf}
use Rattle.spf_speculation_entry.specs.Sites.{AreMadeFor}
use Rattle.spf_speculation.specs.Laws.{BlockRunsAreAttempts}
use Rattle.spf_ticket.specs.InLane.{own_events, is_in, InLane, in_lane, LeadsInLane}
use Rattle.spf_ticket.specs.Tickets.{EndsAs, Ran, CanBeAttempted, IsFresh, IsLawfulReport, IsTicketAt, IsSameTicket}
use Rattle.spf_ticket.specs.declared.ticket.Ticket.{Ticket}
use Rattle.spf_ticket.specs.declared.ticket.Report.{Report}
use Rattle.spf_ticket.proofs.Leading.{chosen}

-- ---- cells

get-there : (plan : List (List Span)) (n : ℕ) → n < length plan → slice_get plan n ≡ Some (slice_index_or plan n [])
get-there plan n low = slice_get-get_or plan n [] low

-- a block's lane has the cells of the block's spans
pub lane-cells : (e : Entry) (c : CellsValue) (lane : LaneValue) (n : ℕ) → AreMadeFor e c.setting → IsLaneOf c lane → lane.block ≡ n → n < e.header.blocks → is_in lane ≡ own e n
lane-cells e c lane n made of block low =
    let many = made.blocks in
    let at : slice_get c.setting.plan n ≡ Some (slice_index_or c.setting.plan n []) = get-there c.setting.plan n (omega (arith, low, many)) in
    let spans : spans_of lane ≡ slice_index_or c.setting.plan n [] =
    ap (λ (k : Setting). slice_index_or k.plan lane.block []) of.1 ∙ ap (λ k. slice_index_or c.setting.plan k []) block in
    λ t cell. (ap (λ l. in_spans l cell) spans ∙ made.spans n (slice_index_or c.setting.plan n []) cell at) t

-- where all that is stored is in the cells, nothing but loads is left out
own-is-on : (cells : ℕ → Bool) (es : List Event) → ((cell : ℕ) (word : ℤ) → Contains es (Store cell word) → cells cell ≡ true) → own_events cells es ≡ on_cells cells es
own-is-on cells [] h = refl
own-is-on cells (Load c w ∷ es) h =
    ap (λ l. if cells c then Load c w ∷ l else l) (own-is-on cells es (λ d x i. h d x (later-in (Load c w) (Store d x) es i)))
own-is-on cells (Store c w ∷ es) h =
    sym (chosen (cells c) (Store c w ∷ own_events cells es) (own_events cells es) (h c w (first-in (Store c w) es)))
    ∙ ap (λ l. Store c w ∷ l) (own-is-on cells es (λ d x i. h d x (later-in (Store c w) (Store d x) es i)))
own-is-on cells (Turn n ∷ es) h = ap (λ l. Turn n ∷ l) (own-is-on cells es (λ d x i. h d x (later-in (Turn n) (Store d x) es i)))

-- ---- the stop

is-decided : (s : Stop) → IsDecided (stop_result s)
is-decided (stop.Ended v) = tt
is-decided (stop.Trapped t) = tt
is-decided (stop.Cancelled seen) = tt

ends-so : (slots : List ℤ) (s : Stop) → EndsAs (performed_as (stop_result s) (state slots []) []) s
ends-so slots (stop.Ended v) = (state slots [], refl, refl)
ends-so slots (stop.Trapped t) = refl
ends-so slots (stop.Cancelled seen) = refl

read-all : (s : Stop) (came : Performed (Ending Carried)) → EndsAs came s → HasReadAll came
read-all (stop.Ended v) came h = subst HasReadAll (sym h.1) refl
read-all (stop.Trapped t) came h = subst HasReadAll (sym h) refl
read-all (stop.Cancelled seen) came h = subst HasReadAll (sym h) refl

-- what goes on alike ends as the same stop
ended-alike : (v : Carried) (after : State) (other : Performed (Ending Carried)) → GoAlike HaveOneOutput (Ended (Value v after) []) other → after.output ≡ [] → EndsAs other (stop.Ended v)
ended-alike v after (Ended (Value b last) rest) h none = (last, (λ t. Ended (Value (sym h.0.0 t) last) (sym h.1 t)), sym h.0.1 ∙ none)
ended-alike v after (Ended (Trapped trap output) rest) h none = absurd h.0
ended-alike v after (Stopped number rest) h none = absurd h
ended-alike v after Misfit h none = absurd h

alike-ends : (s : Stop) (one other : Performed (Ending Carried)) → EndsAs one s → GoAlike HaveOneOutput one other → EndsAs other s
alike-ends (stop.Ended v) one other h alike = ended-alike v h.0 other (subst (λ x. GoAlike HaveOneOutput x other) h.1 alike) h.2
alike-ends (stop.Trapped trap) one (Ended (Value b last) rest) h alike = absurd ((subst (λ x. GoAlike HaveOneOutput x (Ended (Value b last) rest)) h alike).0)
alike-ends (stop.Trapped trap) one (Ended (Trapped other output) rest) h alike =
    let a = subst (λ x. GoAlike HaveOneOutput x (Ended (Trapped other output) rest)) h alike in λ t. Ended (Trapped (sym a.0.0 t) (sym a.0.1 t)) (sym a.1 t)
alike-ends (stop.Trapped trap) one (Stopped number rest) h alike = absurd (subst (λ x. GoAlike HaveOneOutput x (Stopped number rest)) h alike)
alike-ends (stop.Trapped trap) one Misfit h alike = absurd (subst (λ x. GoAlike HaveOneOutput x Misfit) h alike)
alike-ends (stop.Cancelled seen) one (Ended ending rest) h alike = absurd (subst (λ x. GoAlike HaveOneOutput x (Ended ending rest)) h alike)
alike-ends (stop.Cancelled seen) one (Stopped number rest) h alike =
    let a = subst (λ x. GoAlike HaveOneOutput x (Stopped number rest)) h alike in λ t. Stopped (sym a.0 t) (sym a.1 t)
alike-ends (stop.Cancelled seen) one Misfit h alike = absurd (subst (λ x. GoAlike HaveOneOutput x Misfit) h alike)

-- ---- the attempt

-- what a performance over a lane's memory leaves: the log of an attempt
pub record Made (e : Entry) (n : ℕ) (v : Carried) (a : ℕ) (s : Stop) (old new : LaneValue) : Type 0 where
  pub log : List Event
  pub grown : events new.log ≡ events old.log ++ log
  pub stopped : EndsAs (attempted e n v a log) s

made-attempt : BlockRunsAreAttempts → (e : Entry) (n : ℕ) (v : Carried) (a : ℕ) (s : Stop) (old : LaneValue) (to : InLane) (es : List Event) → IsEntry e → is_in old ≡ own e n
    → EndsAs (perform every_cell [] (Some a) (asks_at e n v) es) s → LeadsInLane es (in_lane old e.memory a) to → Made e n v a s old to.lane
made-attempt law e n v a s old to es h mine ends led =
    let all : HasReadAll (perform every_cell [] (Some a) (asks_at e n v) es) = read-all s _ ends in
    let others : OthersAreOf e.memory (own e n) es = subst (λ f. OthersAreOf e.memory f es) mine led.others in
    let whole : attempted e n v a (on_cells (own e n) es) ≡ perform every_cell [] (Some a) (asks_at e n v) es = law e n v a es (perform every_cell [] (Some a) (asks_at e n v) es) refl all others in
    let performance : IsPerformance e.program e.construct (part_of e.construct n) (block_setup e.input e.slots (number_of e n) v) es (perform every_cell [] (Some a) (asks_at e n v) es)
    = record { setup = record { bytes = h.bytes; slots = h.slots }; stop = Some a; performed = refl; whole = all } in
    let stored : (cell : ℕ) (word : ℤ) → Contains es (Store cell word) → own e n cell ≡ true
    = λ cell word i. h.free.stores_its_own (part_of e.construct n) (block_setup e.input e.slots (number_of e n) v) es (perform every_cell [] (Some a) (asks_at e n v) es) performance cell word i in
    record {
      log = on_cells (own e n) es;
      grown = led.logged ∙ ap (λ l. events old.log ++ l) (ap (λ f. own_events f es) mine ∙ own-is-on (own e n) es stored);
      stopped = subst (λ x. EndsAs x s) (sym whole) ends;
    }

-- a performance of the block's part from slots that agree with the entry's where the part declares none ends as the block does
ends-alike : PartsDeclareAnew → (e : Entry) (index n : ℕ) (v : Carried) (a : ℕ) (s : Stop) (slots : List ℤ) (es : List Event)
    → IsLawful e.program → slice_get (constructs_in e.program.main) index ≡ Some e.construct → AgreeOutside e.construct (part_of e.construct n) slots e.slots
    → EndsAs (perform every_cell [] (Some a) (part_asks e.program e.construct (part_of e.construct n) (block_setup e.input slots (number_of e n) v)) es) s
    → EndsAs (perform every_cell [] (Some a) (asks_at e n v) es) s
ends-alike law e index n v a s slots es lawful there agree h =
    alike-ends s _ _ h (law e.program index e.construct lawful there (part_of e.construct n) e.input (number_of e n) v slots e.slots agree every_cell [] (Some a) es)

-- the list of a performance, with nothing after it
ends-here : (a : ℕ) (tree : Interaction (Ending Carried)) (s : Stop) (es : List Event) (slots : List ℤ)
    → (IsDecided (stop_result s) → (rest : List Event) → perform every_cell [] (Some a) tree (es ++ rest) ≡ performed_as (stop_result s) (state slots []) rest)
    → EndsAs (perform every_cell [] (Some a) tree es) s
ends-here a tree s es slots h =
    subst (λ x. EndsAs x s) (sym (ap (perform every_cell [] (Some a) tree) (sym (append-nil es)) ∙ h (is-decided s) [])) (ends-so slots s)

-- what the part of a ticket is run on
pub record Runs (e : Entry) (n : ℕ) (v : Carried) (p : Program) (construct : Construct) (part : Part) (input : List ℕ) (number : ℤ) (carried : Carried) : Type 0 where
  pub program : p ≡ e.program
  pub same_construct : construct ≡ e.construct
  pub its_part : part ≡ part_of e.construct n
  pub same_input : input ≡ e.input
  pub its_number : number ≡ number_of e n
  pub its_value : carried ≡ v

pub made-run : BlockRunsAreAttempts → PartsDeclareAnew → (e : Entry) (n : ℕ) (v : Carried) (a : ℕ) (s : Stop) (old : LaneValue) (to : InLane) (es : List Event)
    (p : Program) (construct : Construct) (index : ℕ) (part : Part) (input : List ℕ) (number : ℤ) (carried : Carried) (slots after memory : List ℤ)
    → Runs e n v p construct part input number carried
    → IsEntry e → IsLawful p → slice_get (constructs_in p.main) index ≡ Some construct → is_in old ≡ own e n → memory ≡ e.memory
    → AgreeOutside e.construct (part_of e.construct n) slots e.slots
    → (IsDecided (stop_result s) → (rest : List Event) → perform every_cell [] (Some a) (part_asks p construct part (block_setup input slots number carried)) (es ++ rest) ≡ performed_as (stop_result s) (state after []) rest)
    → LeadsInLane es (in_lane old memory a) to → Made e n v a s old to.lane
made-run law forgets e n v a s old to es p construct index part input number carried slots after memory r h lawful there mine memory-is agree performed led =
    let tree : part_asks p construct part (block_setup input slots number carried) ≡ part_asks e.program e.construct (part_of e.construct n) (block_setup e.input slots (number_of e n) v)
    = λ t. part_asks (r.program t) (r.same_construct t) (r.its_part t) (block_setup (r.same_input t) slots (r.its_number t) (r.its_value t)) in
    made-attempt law e n v a s old to es h mine
    (ends-alike forgets e index n v a s slots es (subst IsLawful r.program lawful)
    (subst (λ (x : Program × Construct). slice_get (constructs_in x.0.main) index ≡ Some x.1) (λ t. (r.program t, r.same_construct t)) there)
    agree
    (subst (λ (x : Interaction (Ending Carried)). EndsAs (perform every_cell [] (Some a) x es) s) tree (ends-here a (part_asks p construct part (block_setup input slots number carried)) s es after performed)))
    (subst (λ m. LeadsInLane es (in_lane old m a) to) memory-is led)

-- a run of a part that assigns no slot from outside leaves the slots that it doesn't declare
pub slots-kept : PartsAssignWhatTheyDeclare → (p : Program) (construct : Construct) (part : Part) (before after : List ℤ) → length after ≡ length before
    → assigns_outer (statements_of construct part) ≡ false → LeavesOtherSlots construct part (main_slots p before) (main_slots p after)
    → AgreeOutside construct part (main_slots p after) (main_slots p before)
slots-kept law p construct part before after size outer kept = record {
  slot_count = length-take (length p.slots) after ∙ ap (min (length p.slots)) size ∙ sym (length-take (length p.slots) before);
  slots = λ slot d. kept slot d (law construct part outer slot d);
}

-- slots that agree one after another
pub agree-on : (construct : Construct) (part : Part) (one other third : List ℤ) → AgreeOutside construct part one other → AgreeOutside construct part other third → AgreeOutside construct part one third
agree-on construct part one other third h k = record {
  slot_count = h.slot_count ∙ k.slot_count;
  slots = λ slot d. h.slots slot d ∙ k.slots slot d;
}

-- ---- fresh and lawful

-- a ticket after its run is that of the same block
pub still-at : (e : Entry) (c : CellsValue) (p : Program) (k : Construct) (before after : Ticket) → p ≡ e.program → k ≡ e.construct → IsTicketAt e c before → IsSameTicket p k before after → IsTicketAt e c after
still-at e c p k before after program same_construct at same = record {
  low = subst (λ n. n < e.header.blocks) (sym same.block) at.low;
  number = same.number ∙ at.number ∙ ap (number_of e) (sym same.block);
  lane = (same.lane.0 ∙ at.lane.0, same.lane.1 ∙ at.lane.1);
  frame = same.size ∙ at.frame;
  slots = subst (λ n. AgreeOutside e.construct (part_of e.construct n) (main_slots e.program after.frame) e.slots) (sym same.block)
      (agree-on e.construct (part_of e.construct before.block) (main_slots e.program after.frame) (main_slots e.program before.frame) e.slots
      (subst (λ (x : Program × Construct). AgreeOutside x.1 (part_of x.1 before.block) (main_slots x.0 after.frame) (main_slots x.0 before.frame)) (λ i. (program i, same_construct i)) same.slots) at.slots);
}

pub fresh-ran : (e : Entry) (guess : ℕ → Carried) (c : CellsValue) (p : Program) (k : Construct) (t : Ticket) (r : Report) → p ≡ e.program → k ≡ e.construct
    → IsSameTicket p k t r.ticket → IsFresh e guess c t → Ran e t r → IsLawfulReport e guess c r
fresh-ran e guess c p k t r program same_construct same h ran = record {
  at = still-at e c p k t r.ticket program same_construct h.at same;
  before = events t.lane.log;
  log = ran.log;
  ready = subst (λ (x : (ℕ × ℕ) × Carried). CanBeAttempted e guess x.0.0 x.0.1 x.1 (events t.lane.log)) (λ i. ((sym same.block i, sym same.attempt i), sym same.carried i)) h.ready;
  grown = ran.grown;
  stopped = subst (λ (x : (ℕ × ℕ) × Carried). EndsAs (attempted e x.0.0 x.1 x.0.1 ran.log) r.stop) (λ i. ((sym same.block i, sym same.attempt i), sym same.carried i)) ran.stopped;
}
