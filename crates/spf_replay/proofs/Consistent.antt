-- Steps whose logs are those of their blocks are consistent with the entry's memory where they are with a scratch.
use Rattle.std.proofs.Common.{◌≡◌, ◌<◌, ◌↔◌, ℕ, List, length, map, ℤ, ◌∙◌}
use Rattle.std.specs.Prelude.{Option, Some, None, slice_get}
use Rattle.std.specs.Global.{Vec}
use Rattle.std.proofs.lemmas.List.{length-map}
use Rattle.spf_ast.specs.Carried.{Carried}
use Rattle.spf_ast.specs.Event.{Event, IsConsistent}
use Rattle.spf_region.specs.declared.span.Span.{Span}
use Rattle.spf_speculation_entry.specs.Entry.{Entry, IsEntry, own, begins_at}
use Rattle.spf_speculation.specs.Steps.{Step, events_of, log_of, AreBelow}
use Rattle.spf_speculation.proofs.Blocks.{attempt-within, real-within}
use Rattle.spf_speculation.proofs.Within.{AreWithin, AgreeOn, agree-back}
use Rattle.spf_replay.specs.declared.entered.EnteredConstruct.{EnteredConstruct}
use Rattle.spf_replay.specs.Copying.{in_plan, HasOwnSpans}
use Rattle.spf_replay.specs.Deciding.{IsLogAt}
use Rattle.spf_replay.specs.Entered.{entry_of, IsEntered}
use Rattle.spf_replay.specs.Runners.{AreOwnWords}
use Rattle.spf_replay.proofs.Planned.{planned-own, steps-alike}

-- the log of a block keeps to its cells
log-within : (e : Entry) → IsEntry e → (guess : ℕ → Carried) (n : ℕ) (real : Option Carried) (log : List Event) → IsLogAt e guess real n log → AreWithin (own e n) log
log-within e h guess n (Some v) log is = real-within e h guess n v log is.0 is.1
log-within e h guess n None log is = attempt-within e h n (begins_at e guess n) 1 log is

-- the spans of its plan are those of its blocks
pub own-spans : (c : EnteredConstruct) → IsEntered c → HasOwnSpans (entry_of c) (map (λ (v : Vec Span). v.items) c.plan.now.blocks.items)
own-spans c h = record { count = length-map c.plan.now.blocks.items (λ (v : Vec Span). v.items) ∙ h.plan; spans = h.spans }

agree-there : (c : EnteredConstruct) → IsEntered c → (words : List ℤ) → length words ≡ length c.cells.now → AreOwnWords c words
    → AgreeOn (in_plan (map (λ (v : Vec Span). v.items) c.plan.now.blocks.items)) words c.cells.now
agree-there c h words size own-words = record {
  size = size;
  words = λ cell inside.
      let mine = planned-own (entry_of c) (map (λ (v : Vec Span). v.items) c.plan.now.blocks.items) cell (own-spans c h) inside in
      own-words mine.n cell mine.low mine.mine;
}

pub consistent-there : (c : EnteredConstruct) → IsEntered c → (guess : ℕ → Carried) (steps : List Step) (words : List ℤ) → length words ≡ length c.cells.now → AreOwnWords c words
    → AreBelow c.header.blocks steps → ((n : ℕ) → n < c.header.blocks → IsLogAt (entry_of c) guess (slice_get c.reals.now n) n (log_of n steps))
    → IsConsistent (events_of steps) words ↔ IsConsistent (events_of steps) c.cells.now
consistent-there c h guess steps words size own-words below logs =
    let plan = map (λ (v : Vec Span). v.items) c.plan.now.blocks.items in
    let within : (n : ℕ) → n < c.header.blocks → AreWithin (own (entry_of c) n) (log_of n steps) = λ n low.
    log-within (entry_of c) h.is_entry guess n (slice_get c.reals.now n) (log_of n steps) (logs n low) in
    let agree = agree-there c h words size own-words in (
      steps-alike (entry_of c) plan steps words c.cells.now (own-spans c h) below within agree,
      steps-alike (entry_of c) plan steps c.cells.now words (own-spans c h) below within (agree-back (in_plan plan) words c.cells.now agree),
    )
