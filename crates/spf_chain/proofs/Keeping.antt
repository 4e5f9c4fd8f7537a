-- What a chain keeps when a report comes home and when a ticket goes out.
use Rattle.std.proofs.Common.{◌≡◌, ◌≢◌, ℕ, ◌<◌, ◌≤◌, suc, Bool, true, List, [], ◌∷◌, ◌++◌, length, set, refl, sym, ap, ◌∙◌, subst, inl, inr, Option, Some, None, arith, slice_get, if◌then◌else◌}
use Rattle.std.specs.List.{Contains}
use Rattle.std.proofs.lemmas.List.{length-set, length-take-le}
use Rattle.std.proofs.lemmas.Option.{slice_get_within}
use Rattle.spf_ast.specs.declared.outcome.Trap.{Trap}
use Rattle.spf_ast.specs.Event.{Event, Load, Store, Turn, IsConsistent}
use Rattle.spf_ast.specs.Interaction.{Performed, Ended, Stopped, Ending, HasReadAll}
use Rattle.spf_exec.specs.declared.stop.Stop.{Stop}
use Rattle.spf_exec.specs.declared.stop.Stop.TheVariants as stop
use Rattle.spf_chain.specs.declared.block.Settled.{Settled}
use Rattle.spf_chain.specs.declared.block.Settled.TheVariants as settled
use Rattle.spf_chain.specs.Homes.{result_of}
use Rattle.spf_chain.proofs.Lists.{set_cases, set_other}
use Rattle.spf_cells.specs.declared.view.Setting.{Setting}
use Rattle.spf_cells.specs.declared.view.LogEntry.{LogEntry}
use Rattle.spf_cells.specs.declared.view.LogEntry.TheVariants as entry
use Rattle.spf_cells.specs.Log.{events, ArePossibleTurns}
use Rattle.spf_cells.specs.Values.{CellsValue, LaneValue, WardenValue, with_lane}
use Rattle.spf_ast.specs.Carried.{Carried, same_carried}
use Rattle.spf_speculation_entry.proofs.Rows.{Decides-same_carried}
use Rattle.spf_speculation_entry.specs.Entry.{Entry, number_of, begins_at, plain_blocks}
use Rattle.spf_speculation_entry.specs.Attempts.{attempted, IsAttempt, TurnsAreBelow}
use Rattle.spf_speculation.specs.Prefixes.{EndsAt, PrefixesHaveRealValues, PrefixesDependOnEarlierLogs}
use Rattle.spf_speculation.specs.Laws.{UnstoppedAttemptsAreWhole}
use Rattle.spf_speculation_lanes.specs.Lanes.{LanesStopNoSecondAttempt}
use Rattle.spf_ticket.specs.Tickets.{CanBeAttempted, first, second, IsLawfulReport, EndsAs, IsFresh}
use Rattle.spf_ticket.specs.declared.ticket.Report.{Report}
use Rattle.spf_ast.specs.Construct.{part_of}
use Rattle.spf_ast_laws.specs.Agreement.{AgreeOutside}
use Rattle.spf_exec_instance.specs.Frame.{main_slots}
use Rattle.spf_ticket.specs.declared.ticket.Ticket.{Ticket}
use Rattle.spf_cells.specs.declared.view.TakenLane.{TakenLane}
use Rattle.spf_cells.specs.Rule.{HasNoBlockTwice}
use Rattle.spf_chain.specs.declared.chain.Chain.TheInside.{Inside}
use Rattle.spf_chain.specs.Chains.{ChainValue, chain_cells, next_block, HasTrapped, HasEnded, WaitsFor}
use Rattle.spf_chain.specs.Kept.{chain_value, cells_inside, IsKept}
use Rattle.spf_speculation_entry.specs.Sites.{entry_at, guess_at, AreMadeFor, RaisesMispredicted}
use Rattle.spf_chain.specs.Homes.{known_at, known_in, home_log, log_in, IsHome, AreHomes}
use Rattle.spf_chain.specs.Standing.{validated_rows, PrefixAt, HasValidated, IsValidationOf}
use Rattle.spf_chain.specs.declared.validation.Validation.{Validation}
use Rattle.spf_chain.proofs.Lists.{some-same}

-- ---- what stands, with other logs after the validated ones

ends-earlier : (e : Entry) (guess : ℕ → Carried) (logs others : ℕ → List Event) (n : ℕ) (values : List Carried) (t : Trap) → EndsAt e guess logs n values t → ((k : ℕ) → k < suc n → logs k ≡ others k) → EndsAt e guess others n values t
ends-earlier e guess logs others n values t h same = record {
  plain_values = h.plain_values;
  plain_result = h.plain_result;
  come = λ more is later. h.come more (λ k low. is k low ∙ sym (same k low)) later;
}

stands-earlier : PrefixesDependOnEarlierLogs → (e : Entry) (guess : ℕ → Carried) (logs others : ℕ → List Event) (n : ℕ) (values : List Carried) (s : Settled) → HasValidated e guess logs n values s → ((k : ℕ) → k < n → logs k ≡ others k) → HasValidated e guess others n values s
stands-earlier law e guess logs others n values (settled.Carried v) h same = record { memory = h.memory; prefix = law e guess logs others n values v h.memory h.prefix same }
stands-earlier law e guess logs others n values (settled.Trapped t) h same = record {
  last = h.last;
  after = h.after;
  inside = h.inside;
  count = h.count;
  ends = ends-earlier e guess logs others h.last values t h.ends (λ k low. same k (omega (arith, low, h.after)));
}

-- ---- another report at an index after the validated ones

pub over-set : PrefixesDependOnEarlierLogs → (e : Entry) (guess : ℕ → Carried) (homes : List (Option Report)) (x : Validation) (i : ℕ) (y : Option Report) → IsValidationOf e guess homes x → x.count ≤ i → IsValidationOf e guess (set homes i y) x
over-set law e guess homes x i y h above = record {
  blocks = length-set homes i y ∙ h.blocks;
  stands = stands-earlier law e guess (log_in homes) (log_in (set homes i y)) x.count _ x.settled h.stands
      (λ k low. ap home_log (sym (set_other homes i k y (λ is. absurd (omega (arith, is, low, above))))));
  home = λ n low. let r = h.home n low in (r.0, set_other homes i n y (λ is. absurd (omega (arith, is, low, above))) ∙ r.1);
}

pub homes-set-none : (e : Entry) (guess : ℕ → Carried) (c : CellsValue) (homes : List (Option Report)) (i : ℕ) → AreHomes e guess c homes → AreHomes e guess c (set homes i None)
homes-set-none e guess c homes i h n r at = elim (set_cases homes i n None (Some r) at) [
  | inl is ↦ let z = is.1 in absurd cc
  | inr there ↦ h n r there
]

pub homes-set : (e : Entry) (guess : ℕ → Carried) (c : CellsValue) (homes : List (Option Report)) (i : ℕ) (new : Report) → AreHomes e guess c homes → IsHome e guess c i new → AreHomes e guess c (set homes i (Some new))
homes-set e guess c homes i new h home n r at = elim (set_cases homes i n (Some new) (Some r) at) [
  | inl is ↦ subst (λ k. IsHome e guess c k r) (sym is.0) (subst (λ (z : Report). IsHome e guess c i z) (sym (some-same r new is.1)) home)
  | inr there ↦ h n r there
]

pub both-at : (homes : List (Option Report)) (i : ℕ) (r : Report) → slice_get homes i ≡ Some None → slice_get homes i ≡ Some (Some r) → ⊥
both-at homes i r out home = let e : Some None ≡ Some (Some r) = sym out ∙ home in let f = some-same None (Some r) e in absurd cc

pub not-less : (k i : ℕ) → (i < k → ⊥) → k ≤ i
not-less k i h = grind (arith, h)

-- what is out is after the validated blocks
pub out-above : (e : Entry) (guess : ℕ → Carried) (homes : List (Option Report)) (x : Validation) (i : ℕ) → IsValidationOf e guess homes x → slice_get homes i ≡ Some None → x.count ≤ i
out-above e guess homes x i h out = not-less x.count i (λ low. let r = h.home i low in both-at homes i r.0 out r.1)

-- ---- a report at the real row isn't cancelled

below-one : (k : Setting) (n : ℕ) (log : List LogEntry) → (Contains k.raisable n → ⊥) → ArePossibleTurns k n log → TurnsAreBelow 1 (events log)
below-one k n [] not h = tt
below-one k n (entry.Load c w ∷ log) not h = below-one k n log not h.1
below-one k n (entry.Store c w ∷ log) not h = below-one k n log not h.1
below-one k n (entry.Turn m ∷ log) not h = (zero-only m (λ above. not (h.0.1 above)), below-one k n log not h.1)
  where
    zero-only : (m : ℕ) → (0 < m → ⊥) → m < 1
    zero-only m z = grind (arith, z)

below-after : (a : ℕ) (es fs : List Event) → TurnsAreBelow a (es ++ fs) → TurnsAreBelow a fs
below-after a [] fs h = h
below-after a (Load c w ∷ es) fs h = below-after a es fs h
below-after a (Store c w ∷ es) fs h = below-after a es fs h
below-after a (Turn m ∷ es) fs h = below-after a es fs h.1

not-stopped : UnstoppedAttemptsAreWhole → (e : Entry) (n a seen : ℕ) (v : Carried) (all before log : List Event) → TurnsAreBelow a all → all ≡ before ++ log → attempted e n v a log ≡ Stopped seen [] → ⊥
not-stopped law e n a seen v all before log low grown is =
    let whole = law e n v a log (subst HasReadAll (sym is) refl) (below-after a before log (subst (TurnsAreBelow a) grown low)) in
    let both : Stopped seen [] ≡ Ended whole.0 [] = sym is ∙ whole.1 in absurd cc

-- a lawful report of a block at its real row came to an answer
ready-not : UnstoppedAttemptsAreWhole → LanesStopNoSecondAttempt → (e : Entry) (guess : ℕ → Carried) (k : Setting) (n a seen : ℕ) (v : Carried) (all : List LogEntry) (before log : List Event) → RaisesMispredicted e guess k → ArePossibleTurns k n all
    → slice_get (plain_blocks e).values n ≡ Some v → CanBeAttempted e guess n a v before → events all ≡ before ++ log → attempted e n v a log ≡ Stopped seen [] → ⊥
ready-not law lanes e guess k n a seen v all before log may turns real (first a-is v-is none) grown is =
    let not : Contains k.raisable n → ⊥ = λ i. may.only n i (real ∙ ap (λ x. Some x) v-is) in
    not-stopped law e n a seen v (events all) before log (subst (λ x. TurnsAreBelow x (events all)) (sym a-is) (below-one k n all not turns)) grown is
ready-not law lanes e guess k n a seen v all before log may turns real (second a-is ne r att) grown is =
    not-stopped law e n a seen v (events all) before log (subst (λ x. TurnsAreBelow x (events all)) (sym a-is) (lanes k n all turns)) grown is

cancelled-not : (s : Stop) → result_of s ≡ None → (seen : ℕ) × (s ≡ stop.Cancelled seen)
cancelled-not (stop.Ended v) h = absurd cc
cancelled-not (stop.Trapped t) h = absurd cc
cancelled-not (stop.Cancelled seen) h = (seen, refl)

unknown : (v : Carried) (r : Report) → known_at v (Some r) ≡ None → r.ticket.carried ≡ v → result_of r.stop ≡ None
unknown v r h is =
    let t : same_carried r.ticket.carried v ≡ true = (Decides-same_carried r.ticket.carried v).1 is in
    ap (λ b. if b then result_of r.stop else None) (sym t) ∙ h

-- the next block's report of which nothing is known was run at another row
pub wrong-home : UnstoppedAttemptsAreWhole → LanesStopNoSecondAttempt → (e : Entry) (guess : ℕ → Carried) (c : CellsValue) (n : ℕ) (v : Carried) (r : Report) → RaisesMispredicted e guess c.setting → IsHome e guess c n r
    → slice_get (plain_blocks e).values n ≡ Some v → known_at v (Some r) ≡ None → r.ticket.carried ≢ v
wrong-home law lanes e guess c n v r may home real none is =
    let l = home.lawful in
    let s = cancelled-not r.stop (unknown v r none is) in
    let ready : CanBeAttempted e guess n r.ticket.attempt v l.before =
    subst (λ x. CanBeAttempted e guess n r.ticket.attempt x l.before) is (subst (λ k. CanBeAttempted e guess k r.ticket.attempt r.ticket.carried l.before) home.block l.ready) in
    let stopped : attempted e r.ticket.block r.ticket.carried r.ticket.attempt l.log ≡ Stopped s.0 [] = subst (EndsAs (attempted e r.ticket.block r.ticket.carried r.ticket.attempt l.log)) s.1 l.stopped in
    ready-not law lanes e guess c.setting n r.ticket.attempt s.0 v r.ticket.lane.log l.before l.log may home.turns real ready l.grown
    ((λ t. attempted e (sym home.block t) (sym is t) r.ticket.attempt l.log) ∙ stopped)

-- and the same of a first attempt
pub record IsFirstAt (e : Entry) (guess : ℕ → Carried) (n : ℕ) (r : Report) : Type 0 where
  pub attempt : r.ticket.attempt ≡ 1
  pub carried : r.ticket.carried ≡ begins_at e guess n
  pub log : IsAttempt e n (begins_at e guess n) 1 (events r.ticket.lane.log)

pub read-all : (came : Performed (Ending Carried)) (s : Stop) → EndsAs came s → HasReadAll came
read-all came (stop.Ended v) h = subst HasReadAll (sym h.1) refl
read-all came (stop.Trapped t) h = subst HasReadAll (sym h) refl
read-all came (stop.Cancelled seen) h = subst HasReadAll (sym h) refl

first-ready : (e : Entry) (guess : ℕ → Carried) (n a : ℕ) (v w : Carried) (all before log : List Event) (s : Stop) → slice_get (plain_blocks e).values n ≡ Some v → w ≢ v → CanBeAttempted e guess n a w before → all ≡ before ++ log
    → EndsAs (attempted e n w a log) s → (a ≡ 1) × (w ≡ begins_at e guess n) × IsAttempt e n (begins_at e guess n) 1 all
first-ready e guess n a v w all before log s real wrong (first a-is w-is none) grown is =
    let same : all ≡ log = grown ∙ ap (λ l. l ++ log) none in
    let at : attempted e n (begins_at e guess n) 1 all ≡ attempted e n w a log = (λ t. attempted e n (sym w-is t) (sym a-is t) (same t)) in
    (a-is, w-is, subst HasReadAll (sym at) (read-all (attempted e n w a log) s is))
first-ready e guess n a v w all before log s real wrong (second a-is ne r att) grown is =
    absurd (wrong (some-same w v (sym r ∙ real)))

pub first-home : (e : Entry) (guess : ℕ → Carried) (c : CellsValue) (n : ℕ) (v : Carried) (r : Report) → IsHome e guess c n r → slice_get (plain_blocks e).values n ≡ Some v → r.ticket.carried ≢ v → IsFirstAt e guess n r
first-home e guess c n v r home real wrong =
    let l = home.lawful in
    let f = first-ready e guess n r.ticket.attempt v r.ticket.carried (events r.ticket.lane.log) l.before l.log r.stop real wrong
    (subst (λ k. CanBeAttempted e guess k r.ticket.attempt r.ticket.carried l.before) home.block l.ready) l.grown
    (subst (λ k. EndsAs (attempted e k r.ticket.carried r.ticket.attempt l.log) r.stop) home.block l.stopped) in
    record { attempt = f.0; carried = f.1; log = f.2 }

-- ---- a report comes home

pub home-of : (e : Entry) (guess : ℕ → Carried) (c : CellsValue) (n : ℕ) (r : Report) → AreMadeFor e c.setting → IsLawfulReport e guess c r → r.ticket.block ≡ n
    → IsConsistent (events r.ticket.lane.log) r.ticket.lane.setting.entry → ArePossibleTurns r.ticket.lane.setting r.ticket.block r.ticket.lane.log → IsHome e guess c n r
home-of e guess c n r made l block consistent turns = record {
  lawful = l;
  block = block;
  consistent = subst (IsConsistent (events r.ticket.lane.log)) (ap (λ (k : Setting). k.entry) l.at.lane.1 ∙ made.memory) consistent;
  turns = subst (λ m. ArePossibleTurns c.setting m r.ticket.lane.log) block (subst (λ (k : Setting). ArePossibleTurns k r.ticket.block r.ticket.lane.log) l.at.lane.1 turns);
}

-- two lanes of one block are never taken over
pub never : (w x y : WardenValue) (l m : LaneValue) → w.view.taken ≡ [] → x ≡ with_lane w l → y ≡ with_lane x m → HasNoBlockTwice y.view.taken → l.block ≡ m.block → ⊥
never w x y l m none one two once same =
    let t : TakenLane = record { block = l.block; log = l.log } in
    let u : TakenLane = record { block = m.block; log = m.log } in
    let both : y.view.taken ≡ t ∷ u ∷ [] =
    ap (λ (z : WardenValue). z.view.taken) two ∙ ap (λ (z : WardenValue). z.view.taken ++ u ∷ []) one ∙ ap (λ ts. (ts ++ t ∷ []) ++ u ∷ []) none in
    let e : 0 ≡ 1 = subst HasNoBlockTwice both once 0 1 t u refl refl same in omega (arith, e)

-- ---- the parts of a chain

pub lawful-inside : (a : Inside) (v : ChainValue) (k : CellsValue) (r : Report) → chain_value a ≡ v → k ≡ chain_cells v → IsLawfulReport (entry_at v.site) (guess_at v.site) k r → IsLawfulReport (entry_at a.site.value) (guess_at a.site.value) (cells_inside a) r
lawful-inside a v k r is own l =
    subst (λ (w : ChainValue). IsLawfulReport (entry_at w.site) (guess_at w.site) (chain_cells w) r) (sym is) (subst (λ x. IsLawfulReport (entry_at v.site) (guess_at v.site) x r) own l)

pub next-is : (a : Inside) (v : ChainValue) → IsKept a → chain_value a ≡ v → next_block v ≡ a.validation.count
next-is a v h is =
    ap next_block (sym is) ∙ length-take-le a.validation.count a.validation.blocks.items (omega (arith, h.within, h.size))

-- the real row at the next_block
pub next-value : PrefixesHaveRealValues → (a : Inside) → IsKept a → (v : Carried) → a.validation.settled ≡ settled.Carried v → a.validation.count < length a.homes.items → slice_get (plain_blocks (entry_at a.site.value)).values a.validation.count ≡ Some v
next-value law a h v is low =
    let e = entry_at a.site.value in
    let f : PrefixAt e (guess_at a.site.value) (log_in a.homes.items) a.validation.count (validated_rows a.validation.count a.validation.blocks.items) v =
    subst (HasValidated e (guess_at a.site.value) (log_in a.homes.items) a.validation.count (validated_rows a.validation.count a.validation.blocks.items)) is h.stands.stands in
    law e (guess_at a.site.value) (log_in a.homes.items) a.validation.count (validated_rows a.validation.count a.validation.blocks.items) v f.memory f.prefix (omega (arith, low, h.stands.blocks))

-- ---- the next block's second attempt

-- what a second attempt has for its row
second-real : (e : Entry) (guess : ℕ → Carried) (n a : ℕ) (v : Carried) (before : List Event) → a ≡ 2 → CanBeAttempted e guess n a v before → slice_get (plain_blocks e).values n ≡ Some v
second-real e guess n a v before two (first a-is v-is none) = absurd (omega (arith, two, a-is))
second-real e guess n a v before two (second a-is ne real att) = real

-- a block has no real row after a trap
no-real : (xs : List Carried) (n : ℕ) (v : Carried) → length xs ≤ n → slice_get xs n ≡ Some v → ⊥
no-real xs n v past at = let low = slice_get_within xs n v at in omega (arith, low, past)

-- where the next block's second attempt is home, something is known of it
pub second-known : PrefixesHaveRealValues → UnstoppedAttemptsAreWhole → LanesStopNoSecondAttempt → (a : Inside) → IsKept a → (r : Report) → slice_get a.homes.items a.validation.count ≡ Some (Some r) → r.ticket.attempt ≡ 2
    → ((v : Carried) → a.validation.settled ≡ settled.Carried v → known_in v (slice_get a.homes.items a.validation.count) ≡ None) → ⊥
second-known real whole lanes a h r at two none = by-settled a.validation.settled refl
  where
    e : Entry
    e = entry_at a.site.value

    home : IsHome e (guess_at a.site.value) (cells_inside a) a.validation.count r
    home = h.homes a.validation.count r at

    value : slice_get (plain_blocks e).values a.validation.count ≡ Some r.ticket.carried
    value = second-real e (guess_at a.site.value) a.validation.count r.ticket.attempt r.ticket.carried home.lawful.before two
        (subst (λ k. CanBeAttempted e (guess_at a.site.value) k r.ticket.attempt r.ticket.carried home.lawful.before) home.block home.lawful.ready)

    low : a.validation.count < length a.homes.items
    low = slice_get_within a.homes.items a.validation.count (Some r) at

    by-settled : (s : Settled) → a.validation.settled ≡ s → ⊥
    by-settled (settled.Carried v) is =
        let here = next-value real a h v is low in
        wrong-home whole lanes e (guess_at a.site.value) (cells_inside a) a.validation.count v r h.ground.raisable home here (ap (known_in v) (sym at) ∙ none v is)
        (some-same r.ticket.carried v (sym value ∙ here))
    by-settled (settled.Trapped t) is =
        let ended = subst (HasValidated e (guess_at a.site.value) (log_in a.homes.items) a.validation.count (validated_rows a.validation.count a.validation.blocks.items)) is h.stands.stands in
        no-real (plain_blocks e).values a.validation.count r.ticket.carried (omega (arith, ended.count, ap length ended.ends.plain_values)) value

-- ---- the next block's second ticket

pub again-fresh : (e : Entry) (guess : ℕ → Carried) (k : CellsValue) (n : ℕ) (v : Carried) (r : Report) (t : Ticket) → IsHome e guess k n r → IsFirstAt e guess n r → slice_get (plain_blocks e).values n ≡ Some v → r.ticket.carried ≢ v
    → t.block ≡ r.ticket.block → t.number ≡ r.ticket.number → t.attempt ≡ 2 → t.carried ≡ v → t.lane ≡ r.ticket.lane → t.frame ≡ r.ticket.frame → IsFresh e guess k t
again-fresh e guess k n v r t home f real wrong block number attempt carried lane frame =
    let at = home.lawful.at in
    let here : t.block ≡ n = block ∙ home.block in record {
      at = record {
        low = subst (λ m. m < e.header.blocks) (sym block) at.low;
        number = number ∙ at.number ∙ ap (number_of e) (sym block);
        lane = (ap (λ (l : LaneValue). l.table) lane ∙ at.lane.0, ap (λ (l : LaneValue). l.setting) lane ∙ at.lane.1);
        frame = ap length frame ∙ at.frame;
        slots = subst (λ m. AgreeOutside e.construct (part_of e.construct m) (main_slots e.program t.frame) e.slots) (sym block)
            (subst (λ f. AgreeOutside e.construct (part_of e.construct r.ticket.block) (main_slots e.program f) e.slots) (sym frame) at.slots);
      };
      ready = second attempt
          (λ is. wrong (f.carried ∙ ap (begins_at e guess) (sym here) ∙ is ∙ carried))
          (ap (slice_get (plain_blocks e).values) here ∙ real ∙ ap (λ x. Some x) (sym carried))
          (subst (λ m. IsAttempt e m (begins_at e guess m) 1 (events t.lane.log)) (sym here)
          (subst (λ (l : LaneValue). IsAttempt e n (begins_at e guess n) 1 (events l.log)) (sym lane) f.log));
    }

-- ---- the end

get-low : (homes : List (Option Report)) (n : ℕ) → slice_get homes n ≡ Some None → n < length homes
get-low homes n h = slice_get_within homes n None h

pub ended-all : (a : Inside) (v : ChainValue) → IsKept a → chain_value a ≡ v → a.validation.count ≡ length a.homes.items → HasEnded v
ended-all a v h is all = subst HasEnded is (record {
  home = λ n out. let low = get-low a.homes.items n out in let r = h.stands.home n (omega (arith, low, all)) in both-at a.homes.items n r.0 out r.1;
  done = inl (next-is a (chain_value a) h refl ∙ all ∙ h.stands.blocks);
})

pub ended-trapped : (a : Inside) (v : ChainValue) → chain_value a ≡ v → HasTrapped v → ((n : ℕ) → slice_get a.homes.items n ≢ Some None) → HasEnded v
ended-trapped a v is trapped none = record {
  home = λ n out. none n (ap (λ (w : ChainValue). slice_get w.homes n) is ∙ out);
  done = inr trapped;
}

pub waits-trapped : (a : Inside) (v : ChainValue) (b : ℕ) → chain_value a ≡ v → HasTrapped v → slice_get a.homes.items b ≡ Some None → ((n : ℕ) → n < b → slice_get a.homes.items n ≢ Some None) → WaitsFor v b
waits-trapped a v b is trapped out lowest = record {
  out = ap (λ (w : ChainValue). slice_get w.homes b) (sym is) ∙ out;
  awaited = inr (trapped, λ n low o. lowest n low (ap (λ (w : ChainValue). slice_get w.homes n) is ∙ o));
}

-- a chain's value with other homes
abbrev pub home_value : Inside → List (Option Report) → Bool → ChainValue
home_value a homes again = record (chain_value a) { homes = homes; again = again }

-- a chain's value with other homes, after `reports` reports
abbrev pub filed_value : Inside → List (Option Report) → Bool → ℕ → ChainValue
filed_value a homes again reports = record (chain_value a) { homes = homes; again = again; reports = reports }
