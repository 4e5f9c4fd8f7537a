-- What an ended chain comes to.
use Rattle.std.proofs.Common.{◌≡◌, ◌≢◌, ◌⊎◌, ℕ, ◌+◌, ◌<◌, zero, suc, List, [], ◌∷◌, ◌++◌, length, take, refl, sym, ap, ◌∙◌, subst, inl, inr, Option, Some, None, arith, slice_get}
use mathlib.Core.Option.{some, some-ne-none, some-injective}
use lib.ListN.{get_elem?}
use Rattle.spf_ast.specs.declared.outcome.Trap.{Trap}
use Rattle.spf_ast.specs.Event.{Event, IsConsistent}
use Rattle.spf_exec.specs.declared.stop.Stop.{Stop}
use Rattle.spf_chain.specs.declared.block.Settled.{Settled}
use Rattle.spf_chain.specs.declared.block.Settled.TheVariants as settled
use Rattle.spf_ast_lemmas.proofs.Indices.{at-index}
use Rattle.spf_cells.specs.declared.view.Setting.{Setting}
use Rattle.spf_cells.specs.Log.{events}
use Rattle.spf_cells.specs.Values.{LaneValue, CellsValue, IsLaneOf}
use Rattle.std.specs.Prelude.{Result}
use Rattle.spf_ast.specs.Interaction.{Value, Trapped, HasReadAll}
use Rattle.spf_ast.specs.Carried.{Carried}
use Rattle.spf_speculation_entry.specs.Entry.{Entry, begins_at, plain_blocks}
use Rattle.spf_speculation_entry.specs.Attempts.{attempted}
use Rattle.spf_speculation.specs.Runs.{IsSpeculativeRun, IsRealLog, IsGuessedLog, LogsComeTo, no_more_blocks, gave_value, gave_trap}
use Rattle.spf_speculation.specs.Prefixes.{PrefixesComplete}
use Rattle.spf_speculation_lanes.specs.Lanes.{trace_of, logs_in, AreLanesFor, EveryMergingOfLanes}
use Rattle.spf_ticket.specs.Tickets.{CanBeAttempted, first, second, EndsAs}
use Rattle.spf_ticket.specs.declared.ticket.Report.{Report}
use Rattle.spf_chain.specs.declared.chain.Chain.TheInside.{Inside}
use Rattle.spf_speculation_entry.specs.Sites.{entry_at, guess_at}
use Rattle.spf_chain.specs.Homes.{home_log, log_in, IsHome}
use Rattle.spf_chain.specs.Standing.{validated_rows, PrefixAt, TrappedAt, HasValidated}
use Rattle.spf_chain.specs.Chains.{ChainValue, HasEnded, HasTrapped}
use Rattle.spf_chain.specs.Kept.{chain_value, cells_inside, IsKept}
use Rattle.spf_chain.specs.Finishing.{lanes_in, result_as, EveryMergingRuns}
use Rattle.spf_speculation.specs.Steps.{Step, Merges}
use Rattle.spf_chain.proofs.Keeping.{next-is, read-all}
use Rattle.spf_chain.proofs.Raising.{values-end, not-both-settled}

-- ---- the lanes

pub lanes-more : (hs : List (Option Report)) (r : Report) → lanes_in (hs ++ Some r ∷ []) ≡ lanes_in hs ++ r.ticket.lane ∷ []
lanes-more [] r = refl
lanes-more (None ∷ hs) r = lanes-more hs r
lanes-more (Some q ∷ hs) r = ap (λ l. q.ticket.lane ∷ l) (lanes-more hs r)

pub lanes-none : (hs : List (Option Report)) → lanes_in (hs ++ None ∷ []) ≡ lanes_in hs
lanes-none [] = refl
lanes-none (None ∷ hs) = lanes-none hs
lanes-none (Some q ∷ hs) = ap (λ l. q.ticket.lane ∷ l) (lanes-none hs)

pub take-one : {X : Type 0} (xs : List X) (i : ℕ) (x : X) → slice_get xs i ≡ Some x → take (i + 1) xs ≡ take i xs ++ x ∷ []
take-one [] i x h = absurd cc
take-one (y ∷ xs) zero x h = let e : y ≡ x = cc in ap (λ z. z ∷ []) e
take-one (y ∷ xs) (suc i) x h = let e : suc i + 1 ≡ suc (i + 1) = omega arith in ap (λ k. take k (y ∷ xs)) e ∙ ap (λ l. y ∷ l) (take-one xs i x h)

abbrev AllHome : List (Option Report) → Type 0
AllHome homes = (n : ℕ) → slice_get homes n ≢ Some None

length-lanes : (homes : List (Option Report)) → AllHome homes → length (lanes_in homes) ≡ length homes
length-lanes [] h = refl
length-lanes (None ∷ homes) h = absurd (h zero refl)
length-lanes (Some r ∷ homes) h = ap suc (length-lanes homes (λ n. h (suc n)))

lanes-at : (homes : List (Option Report)) → AllHome homes → (i : ℕ) (l : LaneValue) → get_elem? (lanes_in homes) i ≡ some l → (r : Report) × (slice_get homes i ≡ Some (Some r)) × (r.ticket.lane ≡ l)
lanes-at [] h i l at = absurd (some-ne-none l (sym at))
lanes-at (None ∷ homes) h i l at = absurd (h zero refl)
lanes-at (Some r ∷ homes) h zero l at = (r, refl, some-injective r.ticket.lane l at)
lanes-at (Some r ∷ homes) h (suc i) l at = lanes-at homes (λ n. h (suc n)) i l at

logs-are : (homes : List (Option Report)) → AllHome homes → (n : ℕ) → logs_in (trace_of (lanes_in homes)) n ≡ log_in homes n
logs-are [] h n = refl
logs-are (None ∷ homes) h n = absurd (h zero refl)
logs-are (Some r ∷ homes) h zero = refl
logs-are (Some r ∷ homes) h (suc n) = logs-are homes (λ k. h (suc k)) n

pub lanes-for : (a : Inside) → IsKept a → AllHome a.homes.items → AreLanesFor (entry_at a.site.value) (cells_inside a) (lanes_in a.homes.items)
lanes-for a h all = record {
  made = h.ground.made;
  all = (
    length-lanes a.homes.items all ∙ h.stands.blocks ∙ sym h.ground.made.blocks,
    λ i l at. let r = lanes-at a.homes.items all i l at in
        let home = h.homes i r.0 r.1 in
        (subst (IsLaneOf (cells_inside a)) r.2 home.lawful.at.lane, ap (λ (x : LaneValue). x.block) (sym r.2) ∙ r.0.ticket.own ∙ home.block),
  );
  consistent = λ n l at. let r = lanes-at a.homes.items all n l at in
      let home = h.homes n r.0 r.1 in
      subst (λ (x : LaneValue). IsConsistent (events x.log) x.setting.entry) r.2
      (subst (IsConsistent (events r.0.ticket.lane.log)) (sym h.ground.made.memory ∙ ap (λ (k : Setting). k.entry) (sym home.lawful.at.lane.1)) home.consistent);
}

-- ---- what the logs come to

-- logs that are the same come to the same
logs-same : (e : Entry) (guess : ℕ → Carried) (logs others : ℕ → List Event) → ((n : ℕ) → n < e.header.blocks → logs n ≡ others n)
    → {n : ℕ} {v : Carried} {values : List Carried} {result : Result Carried Trap} → LogsComeTo e guess logs n v values result → LogsComeTo e guess others n v values result
logs-same e guess logs others same (no_more_blocks all) = no_more_blocks all
logs-same e guess logs others same {n} {v} (gave_value next state low real rest) =
    gave_value next state low (subst (λ l. IsRealLog e guess n v l (Value next state)) (same n low) real) (logs-same e guess logs others same rest)
logs-same e guess logs others same {n} {v} (gave_trap trap output low real later) =
    gave_trap trap output low (subst (λ l. IsRealLog e guess n v l (Trapped trap output)) (same n low) real)
    (λ k from below. subst (IsGuessedLog e guess k) (same k below) (later k from below))

guessed-ready : (e : Entry) (guess : ℕ → Carried) (n a : ℕ) (w : Carried) (all before log : List Event) (s : Stop) → ((v : Carried) → slice_get (plain_blocks e).values n ≢ Some v) → CanBeAttempted e guess n a w before → all ≡ before ++ log
    → EndsAs (attempted e n w a log) s → IsGuessedLog e guess n all
guessed-ready e guess n a w all before log s none (first a-is w-is empty) grown is =
    let same : all ≡ log = grown ∙ ap (λ l. l ++ log) empty in
    let at : attempted e n (begins_at e guess n) 1 all ≡ attempted e n w a log = (λ t. attempted e n (sym w-is t) (sym a-is t) (same t)) in
    subst HasReadAll (sym at) (read-all (attempted e n w a log) s is)
guessed-ready e guess n a w all before log s none (second a-is ne r att) grown is = absurd (none w r)

guessed-home : (e : Entry) (guess : ℕ → Carried) (c : CellsValue) (n : ℕ) (r : Report) → ((v : Carried) → slice_get (plain_blocks e).values n ≢ Some v) → IsHome e guess c n r → IsGuessedLog e guess n (events r.ticket.lane.log)
guessed-home e guess c n r none home =
    let l = home.lawful in
    guessed-ready e guess n r.ticket.attempt r.ticket.carried (events r.ticket.lane.log) l.before l.log r.stop none
    (subst (λ k. CanBeAttempted e guess k r.ticket.attempt r.ticket.carried l.before) home.block l.ready) l.grown
    (subst (λ k. EndsAs (attempted e k r.ticket.carried r.ticket.attempt l.log) r.stop) home.block l.stopped)

is-home-at : (homes : List (Option Report)) → AllHome homes → (n : ℕ) (x : Option Report) → slice_get homes n ≡ Some x → (r : Report) × (slice_get homes n ≡ Some (Some r))
is-home-at homes all n None at = absurd (all n at)
is-home-at homes all n (Some r) at = (r, at)

-- what the chain's blocks come to
pub record CameOut (a : Inside) : Type 0 where
  pub come : LogsComeTo (entry_at a.site.value) (guess_at a.site.value) (log_in a.homes.items) 0 a.site.value.start (validated_rows a.validation.count a.validation.blocks.items) (result_as a.validation.settled)
  pub values : validated_rows a.validation.count a.validation.blocks.items ≡ (plain_blocks (entry_at a.site.value)).values
  pub result : (plain_blocks (entry_at a.site.value)).result ≡ result_as a.validation.settled

came-carried : PrefixesComplete → (a : Inside) → IsKept a → (v : Carried) → a.validation.settled ≡ settled.Carried v → a.validation.count ≡ a.site.value.blocks → CameOut a
came-carried law a h v is last =
    let e = entry_at a.site.value in
    let g = guess_at a.site.value in
    let vs = validated_rows a.validation.count a.validation.blocks.items in
    let f : PrefixAt e g (log_in a.homes.items) a.validation.count vs v = subst (HasValidated e g (log_in a.homes.items) a.validation.count vs) is h.stands.stands in
    let d = law e g (log_in a.homes.items) a.validation.count vs v f.memory f.prefix last in
    record {
      come = subst (λ s. LogsComeTo e g (log_in a.homes.items) 0 e.header.start vs (result_as s)) (sym is) d.come;
      values = sym d.plain_values;
      result = d.plain_result ∙ ap result_as (sym is);
    }

came-trapped : (a : Inside) → IsKept a → AllHome a.homes.items → (t : Trap) → a.validation.settled ≡ settled.Trapped t → CameOut a
came-trapped a h all t is =
    let e = entry_at a.site.value in
    let g = guess_at a.site.value in
    let vs = validated_rows a.validation.count a.validation.blocks.items in
    let f : TrappedAt e g (log_in a.homes.items) a.validation.count vs t = subst (HasValidated e g (log_in a.homes.items) a.validation.count vs) is h.stands.stands in
    let later : (k : ℕ) → f.last < k → k < e.header.blocks → IsGuessedLog e g k (log_in a.homes.items k) = λ k above low.
    let x = at-index a.homes.items k (omega (arith, low, h.stands.blocks)) in
    let r = is-home-at a.homes.items all k x.0 x.1 in
    let none : (v : Carried) → slice_get (plain_blocks e).values k ≢ Some v = λ v there.
    values-end vs k v (omega (arith, f.count, above, f.after)) (ap (λ l. slice_get l k) (sym f.ends.plain_values) ∙ there) in
    subst (IsGuessedLog e g k) (ap home_log (sym r.1)) (guessed-home e g (cells_inside a) k r.0 none (h.homes k r.0 r.1)) in
    record {
      come = subst (λ s. LogsComeTo e g (log_in a.homes.items) 0 e.header.start vs (result_as s)) (sym is) (f.ends.come (log_in a.homes.items) (λ k low. refl) later);
      values = sym f.ends.plain_values;
      result = f.ends.plain_result ∙ ap result_as (sym is);
    }

came-as : PrefixesComplete → (a : Inside) → IsKept a → AllHome a.homes.items → ((a.validation.count ≡ a.site.value.blocks) ⊎ HasTrapped (chain_value a)) → (s : Settled) → a.validation.settled ≡ s → CameOut a
came-as law a h all done (settled.Carried v) is = elim done [
  | inl last ↦ came-carried law a h v is last
  | inr t ↦ absurd (not-both-settled a.validation.settled v t.trap is t.trapped)
]
came-as law a h all done (settled.Trapped t) is = came-trapped a h all t is

pub came-out : PrefixesComplete → (a : Inside) (v : ChainValue) → IsKept a → chain_value a ≡ v → HasEnded v → CameOut a
came-out law a v h is ended =
    let d : HasEnded (chain_value a) = subst HasEnded (sym is) ended in
    came-as law a h d.home (elim d.done [ inl last ↦ inl (sym (next-is a (chain_value a) h refl) ∙ last) | inr t ↦ inr t ]) a.validation.settled refl

-- the same of the trace's logs
pub trace-come : (a : Inside) → AllHome a.homes.items → CameOut a
    → LogsComeTo (entry_at a.site.value) (guess_at a.site.value) (logs_in (trace_of (lanes_in a.homes.items))) 0 a.site.value.start (validated_rows a.validation.count a.validation.blocks.items) (result_as a.validation.settled)
trace-come a all c = logs-same (entry_at a.site.value) (guess_at a.site.value) (log_in a.homes.items) (logs_in (trace_of (lanes_in a.homes.items))) (λ n low. sym (logs-are a.homes.items all n)) c.come

-- every merging of an ended chain's logs is a speculative run
pub merged : PrefixesComplete → EveryMergingOfLanes → (a : Inside) (v : ChainValue) → IsKept a → chain_value a ≡ v → HasEnded v → EveryMergingRuns v (log_in v.homes)
merged complete merging a v h is ended =
    let e = entry_at a.site.value in
    let g = guess_at a.site.value in
    let d : HasEnded (chain_value a) = subst HasEnded (sym is) ended in
    let values = validated_rows a.validation.count a.validation.blocks.items in
    let result = result_as a.validation.settled in
    let come = trace-come a d.home (came-out complete a v h is ended) in
    subst (λ (w : ChainValue). EveryMergingRuns w (log_in w.homes)) is
    (subst (λ (logs : ℕ → List Event). (steps : List Step) → Merges e.header.blocks logs steps → IsSpeculativeRun e g steps values result) (λ t n. logs-are a.homes.items d.home n t)
    (merging e g (cells_inside a) (lanes_in a.homes.items) values result h.ground.entry (lanes-for a h d.home) come))
