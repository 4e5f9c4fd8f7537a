-- The laws of speculative runs.
use Rattle.std.specs.Prelude.{◌≡◌, ◌≢◌, ◌⊎◌, ◌<◌, ℕ, zero, suc, true, false, List, [], ◌∷◌, ◌++◌, length, slice_get, Option, Some, Result, Ok, Err, ℤ}
use Rattle.spf_ast.specs.declared.outcome.Trap.{Trap}
use Rattle.spf_ast.specs.Carried.{Carried}
use Rattle.spf_ast.specs.Event.{Event, after, word_at, IsConsistent}
use Rattle.spf_ast.specs.Interaction.{State, Performed, HasReadAll, Ending, Value, Trapped, perform, every_cell}
use Rattle.spf_ast.specs.Plain.{plain_answer, plain_memory}
use Rattle.spf_check_rules.specs.Overwriting.{AgreeOnUnwritten}
use Rattle.spf_speculation_entry.specs.Entry.{Entry, IsEntry, own, asks_at, plain_blocks, begins_at}
use Rattle.spf_speculation_entry.specs.Attempts.{attempted, IsAttempt, IsWhole, on_cells, OthersAreOf, TurnsAreBelow}
use Rattle.spf_speculation.specs.Steps.{Step, events_of, Merges, joined}
use Rattle.spf_speculation.specs.Runs.{IsRealLog, LogsComeTo, IsSpeculativeRun}

-- ---- attempts

-- A performance of a block with all cells shared, whose loads outside the block's spans gave the entry's words, is an
-- attempt without these loads. A run of a block in its lane is one.
abbrev pub BlockRunsAreAttempts : Type 0
BlockRunsAreAttempts =
    (e : Entry) (n : ℕ) (v : Carried) (attempt : ℕ) (events : List Event) (result : Performed (Ending Carried))
    → perform every_cell [] (Some attempt) (asks_at e n v) events ≡ result → HasReadAll result
    → OthersAreOf e.memory (own e n) events
    → attempted e n v attempt (on_cells (own e n) events) ≡ result

-- an attempt whose turns polled only numbers below its own is whole
abbrev pub UnstoppedAttemptsAreWhole : Type 0
UnstoppedAttemptsAreWhole =
    (e : Entry) (n : ℕ) (v : Carried) (attempt : ℕ) (log : List Event)
    → IsAttempt e n v attempt log → TurnsAreBelow attempt log
    → (answer : Ending Carried) × IsWhole e n v attempt log answer

-- ---- one block

-- the plain run of block n at v, on this memory, has this answer; where that is a row, it leaves in the cells of the block's spans what the log leaves there
pub record IsItsPlainRun (e : Entry) (n : ℕ) (v : Carried) (log : List Event) (answer : Ending Carried) (memory : List ℤ) : Type 0 where
  pub same : plain_answer (asks_at e n v) memory ≡ answer
  pub contents : (value : Carried) (state : State) (cell : ℕ) → answer ≡ Value value state → own e n cell ≡ true
      → word_at (plain_memory (asks_at e n v) memory) cell ≡ word_at (after log e.memory) cell

-- a plain run of block n may begin at v on this memory: that of block 0 at the start and on the entry's memory, that
-- of any other on a memory that is as the entry's where no array is written
abbrev pub MayBegin : Entry → ℕ → Carried → List ℤ → Type 0
MayBegin e zero v memory = (v ≡ e.header.start) × (memory ≡ e.memory)
MayBegin e (suc n) v memory = AgreeOnUnwritten e.program e.construct (length e.input) e.memory memory

-- a block's log at its real row is its plain run, whatever a wrong attempt left in its cells
abbrev pub RealLogsArePlainRuns : Type 0
RealLogsArePlainRuns =
    (e : Entry) (guess : ℕ → Carried) (n : ℕ) (v : Carried) (log : List Event) (answer : Ending Carried) (memory : List ℤ)
    → IsEntry e → IsRealLog e guess n v log answer → IsConsistent log e.memory → MayBegin e n v memory
    → IsItsPlainRun e n v log answer memory

-- what a block's run at a row comes to on the entry's memory
abbrev pub entry_answer : Entry → ℕ → Carried → Ending Carried
entry_answer e n v = plain_answer (asks_at e n v) e.memory

-- what a block did before an attempt: nothing, or another attempt; block 0 has no attempt before
abbrev pub IsBefore : Entry → ℕ → List Event → Type 0
IsBefore e zero before = before ≡ []
IsBefore e (suc n) before = (before ≡ []) ⊎ ((w : Carried) × (other : ℕ) × IsAttempt e (suc n) w other before)

-- Each whole attempt, at a wrong row too, comes to what the block's run at this row comes to on the entry's
-- memory. So the answer depends on the block and the row alone.
abbrev pub AttemptsAnswerAsOnTheEntry : Type 0
AttemptsAnswerAsOnTheEntry =
    (e : Entry) (n : ℕ) (v : Carried) (attempt : ℕ) (before log : List Event) (answer : Ending Carried)
    → IsEntry e → IsBefore e n before → IsWhole e n v attempt log answer → IsConsistent (before ++ log) e.memory → answer ≡ entry_answer e n v

-- and so does the plain run of the block
abbrev pub PlainRunsAnswerAsOnTheEntry : Type 0
PlainRunsAnswerAsOnTheEntry =
    (e : Entry) (n : ℕ) (v : Carried) (memory : List ℤ) → IsEntry e → MayBegin e n v memory → plain_answer (asks_at e n v) memory ≡ entry_answer e n v

-- ---- one block after another

-- a memory is as the logs of the first n blocks leave it: the cells of each of these blocks as its log leaves them, and all others as at the entry
pub record IsLeftBy (e : Entry) (logs : ℕ → List Event) (n : ℕ) (memory : List ℤ) : Type 0 where
  pub size : length memory ≡ length e.memory
  pub inside : (k cell : ℕ) → k < n → own e k cell ≡ true → word_at memory cell ≡ word_at (after (logs k) e.memory) cell
  pub outside : (cell : ℕ) → ((k : ℕ) → k < n → own e k cell ≡ false) → word_at memory cell ≡ word_at e.memory cell

-- from a memory that is as the logs of the first n blocks leave it, the plain run of block n has the answer of this
-- block's log; where that is a row, it leaves the memory as one more log does
pub record ContinuesAt (e : Entry) (logs : ℕ → List Event) (n : ℕ) (v : Carried) (answer : Ending Carried) (memory : List ℤ) : Type 0 where
  pub same : plain_answer (asks_at e n v) memory ≡ answer
  pub left : (value : Carried) (state : State) → answer ≡ Value value state → IsLeftBy e logs (suc n) (plain_memory (asks_at e n v) memory)

-- each log at a real row continues the plain run by one block
abbrev pub RealLogsContinueThePlainRun : Type 0
RealLogsContinueThePlainRun =
    (e : Entry) (guess : ℕ → Carried) (logs : ℕ → List Event) (n : ℕ) (v : Carried) (answer : Ending Carried) (memory : List ℤ)
    → IsEntry e → n < e.header.blocks → (n ≡ 0 → v ≡ e.header.start)
    → IsRealLog e guess n v (logs n) answer → IsConsistent (logs n) e.memory → IsLeftBy e logs n memory
    → ContinuesAt e logs n v answer memory

-- ---- whole runs

-- a block's log begins with an attempt from its guess, and ends with it unless the block has a real row that is another one
pub record BeginsAtItsGuess (e : Entry) (guess : ℕ → Carried) (real : Option Carried) (n : ℕ) (log : List Event) : Type 0 where
  pub first : List Event
  pub rest : List Event
  pub split : log ≡ first ++ rest
  pub attempt : IsAttempt e n (begins_at e guess n) 1 first
  pub again : (rest ≡ []) ⊎ ((v : Carried) × (real ≡ Some v) × (begins_at e guess n ≢ v))

-- each block is first attempted at its guess, and again only where the guess was wrong
abbrev pub BlocksAreFirstAttemptedAtTheirGuess : Type 0
BlocksAreFirstAttemptedAtTheirGuess =
    (e : Entry) (guess : ℕ → Carried) (logs : ℕ → List Event) (values : List Carried) (result : Result Carried Trap)
    → LogsComeTo e guess logs 0 e.header.start values result
    → (n : ℕ) → n < e.header.blocks → BeginsAtItsGuess e guess (slice_get values n) n (logs n)

-- the real rows and the result are those of the plain run; where no block traps, so is this memory
pub record IsThePlainRun (e : Entry) (values : List Carried) (result : Result Carried Trap) (memory : List ℤ) : Type 0 where
  pub same_values : values ≡ (plain_blocks e).values
  pub same_result : result ≡ (plain_blocks e).result
  pub same_memory : (value : Carried) → result ≡ Ok value → memory ≡ (plain_blocks e).memory

-- every speculative run means the plain run
abbrev pub SpeculativeRunsMeanThePlainRun : Type 0
SpeculativeRunsMeanThePlainRun =
    (e : Entry) (guess : ℕ → Carried) (steps : List Step) (values : List Carried) (result : Result Carried Trap)
    → IsEntry e → IsSpeculativeRun e guess steps values result → IsThePlainRun e values result (after (events_of steps) e.memory)

-- the real rows and the result of these logs are those of the plain run; where no block traps, its memory is as the logs leave it
pub record AreThePlainRun (e : Entry) (logs : ℕ → List Event) (values : List Carried) (result : Result Carried Trap) : Type 0 where
  pub same_values : values ≡ (plain_blocks e).values
  pub same_result : result ≡ (plain_blocks e).result
  pub left : (value : Carried) → result ≡ Ok value → IsLeftBy e logs e.header.blocks (plain_blocks e).memory

-- logs of which each is consistent with the entry's memory alone come to what the plain run comes to
abbrev pub LogsMeanThePlainRun : Type 0
LogsMeanThePlainRun =
    (e : Entry) (guess : ℕ → Carried) (logs : ℕ → List Event) (values : List Carried) (result : Result Carried Trap)
    → IsEntry e → LogsComeTo e guess logs 0 e.header.start values result
    → ((n : ℕ) → n < e.header.blocks → IsConsistent (logs n) e.memory)
    → AreThePlainRun e logs values result

-- where each log is consistent with the entry's memory alone, every merging of the logs is a speculative run
abbrev pub EveryMergingIsASpeculativeRun : Type 0
EveryMergingIsASpeculativeRun =
    (e : Entry) (guess : ℕ → Carried) (logs : ℕ → List Event) (values : List Carried) (result : Result Carried Trap)
    → IsEntry e → LogsComeTo e guess logs 0 e.header.start values result
    → ((n : ℕ) → n < e.header.blocks → IsConsistent (logs n) e.memory)
    → (steps : List Step) → Merges e.header.blocks logs steps → IsSpeculativeRun e guess steps values result

-- logs that are joined block by block are merged
abbrev pub JoinedLogsAreMerged : Type 0
JoinedLogsAreMerged = (count : ℕ) (logs : ℕ → List Event) → Merges count logs (joined count logs)

-- there is a speculative run
pub record HasASpeculativeRun (e : Entry) (guess : ℕ → Carried) : Type 0 where
  pub steps : List Step
  pub values : List Carried
  pub result : Result Carried Trap
  pub run : IsSpeculativeRun e guess steps values result

-- whatever the guesses, there is one
abbrev pub EachGuessHasARun : Type 0
EachGuessHasARun = (e : Entry) (guess : ℕ → Carried) → IsEntry e → HasASpeculativeRun e guess

-- ---- answers alone

-- what blocks come to by their answers: the row at which each begins, and the row after the last one or the first trap
pub record Answered : Type 0 where
  pub values : List Carried
  pub result : Result Carried Trap

-- a block that began at this row, and those after it where it gave one
abbrev pub answered_on : Carried → Ending Carried → (Carried → Answered) → Answered
answered_on v (Value next state) others = record { values = v ∷ (others next).values; result = (others next).result }
answered_on v (Trapped trap output) others = record { values = v ∷ []; result = Err trap }

-- the `count` blocks from block n on, from this row
abbrev pub answered : (ℕ → Carried → Ending Carried) → (n count : ℕ) → Carried → Answered
answered answer n zero v = record { values = []; result = Ok v }
answered answer n (suc count) v = answered_on v (answer n v) (λ next. answered answer (suc n) count next)

-- the plain run comes to what the blocks' answers on the entry's memory come to; no other memory is needed to tell the real rows
abbrev pub PlainRunsAreAnswered : Type 0
PlainRunsAreAnswered =
    (e : Entry) → IsEntry e
    → ((plain_blocks e).values ≡ (answered (entry_answer e) 0 e.header.blocks e.header.start).values)
    × ((plain_blocks e).result ≡ (answered (entry_answer e) 0 e.header.blocks e.header.start).result)
