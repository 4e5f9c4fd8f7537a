-- How far a run is validated: the blocks of a prefix have their real rows, and the plain run stands after them.
use Rattle.std.specs.Prelude.{◌≡◌, ◌≤◌, ◌<◌, ◌+◌, ℕ, suc, List, [], ◌∷◌, ◌++◌, length, slice_get, Some, Result, Ok, Err, ℤ}
use Rattle.spf_ast.specs.declared.outcome.Trap.{Trap}
use Rattle.spf_ast.specs.Carried.{Carried}
use Rattle.spf_ast.specs.Event.{Event, IsConsistent}
use Rattle.spf_ast.specs.Interaction.{State, Value, Trapped}
use Rattle.spf_ast.specs.Plain.{plain_memory}
use Rattle.spf_ast.specs.Program.{environment_of}
use Rattle.spf_ast_laws.specs.Chained.{Chained, chained}
use Rattle.spf_speculation_entry.specs.Entry.{Entry, IsEntry, number_of, asks_at, plain_blocks}
use Rattle.spf_speculation.specs.Runs.{IsRealLog, IsGuessedLog, LogsComeTo}
use Rattle.spf_speculation.specs.Laws.{IsLeftBy}

-- what the `count` blocks from block n on come to, run plainly one after another from a row and a memory
abbrev pub plain_from : Entry → (n count : ℕ) → Carried → List ℤ → Chained
plain_from e n count v memory = chained (environment_of e.program e.input) e.construct e.slots n count (number_of e n) v memory

-- all blocks come to these real rows, followed by what the rest of the plain run comes to
pub record IsTheRest (e : Entry) (values : List Carried) (rest : Chained) : Type 0 where
  pub all_values : (plain_blocks e).values ≡ values ++ rest.values
  pub end : (plain_blocks e).result ≡ rest.result
  pub memory : (plain_blocks e).memory ≡ rest.memory

-- all logs that are the same for the first n blocks come to these real rows, and then to what they come to from block n at v
abbrev pub PrefixComesTo : Entry → (ℕ → Carried) → (ℕ → List Event) → ℕ → List Carried → Carried → Type 0
PrefixComesTo e guess logs n values v =
    (others : ℕ → List Event) → ((k : ℕ) → k < n → others k ≡ logs k)
    → (later : List Carried) (result : Result Carried Trap) → LogsComeTo e guess others n v later result
    → LogsComeTo e guess others 0 e.header.start (values ++ later) result

-- The first n blocks are a validated prefix: their logs come to these real rows, v is the real row of block n,
-- and on this memory the plain run stands at that block. Where n is the number of blocks, v is the row after the
-- last one.
pub record IsValidatedPrefix (e : Entry) (guess : ℕ → Carried) (logs : ℕ → List Event) (n : ℕ) (values : List Carried)
    (v : Carried) (memory : List ℤ) : Type 0 where
  pub within : n ≤ e.header.blocks
  pub count : length values ≡ n
  pub first : n ≡ 0 → v ≡ e.header.start
  pub come : PrefixComesTo e guess logs n values v
  pub left : IsLeftBy e logs n memory
  pub rest : (count : ℕ) → n + count ≡ e.header.blocks → IsTheRest e values (plain_from e n count v memory)

-- the plain run ends at block n with this trap and these real rows, and so do all logs that are the same up to this block and guessed ones after it
pub record EndsAt (e : Entry) (guess : ℕ → Carried) (logs : ℕ → List Event) (n : ℕ) (values : List Carried) (trap : Trap) : Type 0 where
  pub plain_values : (plain_blocks e).values ≡ values
  pub plain_result : (plain_blocks e).result ≡ Err trap
  pub come : (others : ℕ → List Event) → ((k : ℕ) → k < suc n → others k ≡ logs k)
      → ((k : ℕ) → n < k → k < e.header.blocks → IsGuessedLog e guess k (others k))
      → LogsComeTo e guess others 0 e.header.start values (Err trap)

-- all blocks have their real rows: these, with this row as the result, and on this memory the plain run ends
pub record IsComplete (e : Entry) (guess : ℕ → Carried) (logs : ℕ → List Event) (values : List Carried) (v : Carried) (memory : List ℤ) : Type 0 where
  pub come : LogsComeTo e guess logs 0 e.header.start values (Ok v)
  pub plain_values : (plain_blocks e).values ≡ values
  pub plain_result : (plain_blocks e).result ≡ Ok v
  pub plain_end : (plain_blocks e).memory ≡ memory
  pub left : IsLeftBy e logs e.header.blocks memory

-- at first the prefix has no block
abbrev pub PrefixesBegin : Type 0
PrefixesBegin = (e : Entry) (guess : ℕ → Carried) (logs : ℕ → List Event) → IsValidatedPrefix e guess logs 0 [] e.header.start e.memory

-- where the log of block n at its real row has a row as its answer, the prefix grows by this block
abbrev pub PrefixesGrow : Type 0
PrefixesGrow =
    (e : Entry) (guess : ℕ → Carried) (logs : ℕ → List Event) (n : ℕ) (values : List Carried) (v : Carried) (memory : List ℤ) (next : Carried) (state : State)
    → IsEntry e → IsValidatedPrefix e guess logs n values v memory → n < e.header.blocks
    → IsRealLog e guess n v (logs n) (Value next state) → IsConsistent (logs n) e.memory
    → IsValidatedPrefix e guess logs (suc n) (values ++ v ∷ []) next (plain_memory (asks_at e n v) memory)

-- where it has a trap as its answer, the run ends at this block
abbrev pub PrefixesEnd : Type 0
PrefixesEnd =
    (e : Entry) (guess : ℕ → Carried) (logs : ℕ → List Event) (n : ℕ) (values : List Carried) (v : Carried) (memory : List ℤ) (trap : Trap) (output : List ℕ)
    → IsEntry e → IsValidatedPrefix e guess logs n values v memory → n < e.header.blocks
    → IsRealLog e guess n v (logs n) (Trapped trap output) → IsConsistent (logs n) e.memory
    → EndsAt e guess logs n (values ++ v ∷ []) trap

-- a prefix of all blocks is complete
abbrev pub PrefixesComplete : Type 0
PrefixesComplete =
    (e : Entry) (guess : ℕ → Carried) (logs : ℕ → List Event) (n : ℕ) (values : List Carried) (v : Carried) (memory : List ℤ)
    → IsValidatedPrefix e guess logs n values v memory → n ≡ e.header.blocks → IsComplete e guess logs values v memory

-- the row at which the block after a prefix begins is its real row in the plain run
abbrev pub PrefixesHaveRealValues : Type 0
PrefixesHaveRealValues =
    (e : Entry) (guess : ℕ → Carried) (logs : ℕ → List Event) (n : ℕ) (values : List Carried) (v : Carried) (memory : List ℤ)
    → IsValidatedPrefix e guess logs n values v memory → n < e.header.blocks → slice_get (plain_blocks e).values n ≡ Some v

-- a prefix depends on the logs of its own blocks alone
abbrev pub PrefixesDependOnEarlierLogs : Type 0
PrefixesDependOnEarlierLogs =
    (e : Entry) (guess : ℕ → Carried) (logs others : ℕ → List Event) (n : ℕ) (values : List Carried) (v : Carried) (memory : List ℤ)
    → IsValidatedPrefix e guess logs n values v memory → ((k : ℕ) → k < n → logs k ≡ others k) → IsValidatedPrefix e guess others n values v memory
