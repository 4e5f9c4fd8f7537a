-- The law of schedules.
use Rattle.std.specs.Prelude.{◌≡◌, ℕ, List}
use Rattle.spf_ast.specs.Carried.{Carried}
use Rattle.spf_speculation_entry.specs.Entry.{Entry, IsEntry}
use Rattle.spf_speculation.specs.Steps.{Step}
use Rattle.spf_replay.specs.Deciding.{IsRun}
use Rattle.spf_replay.specs.Schedule.{IsScheduled}

-- the steps of a schedule are a speculative run
abbrev pub SchedulesAreRuns : Type 0
SchedulesAreRuns = (e : Entry) (guess : ℕ → Carried) (state last : ℕ) (steps : List Step) → IsEntry e → IsScheduled e guess state steps last → IsRun e guess steps

-- a construct has a schedule from each state of the generator
abbrev pub SchedulesExist : Type 0
SchedulesExist = (e : Entry) (guess : ℕ → Carried) (state : ℕ) → (steps : List Step) × (last : ℕ) × IsScheduled e guess state steps last

-- and one only
abbrev pub SchedulesAreOne : Type 0
SchedulesAreOne = (e : Entry) (guess : ℕ → Carried) (state last other : ℕ) (steps others : List Step)
    → IsScheduled e guess state steps last → IsScheduled e guess state others other → (steps ≡ others) × (last ≡ other)
