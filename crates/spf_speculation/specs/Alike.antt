-- What a speculative run depends on.
use Rattle.std.specs.Prelude.{◌≡◌, ◌<◌, ℕ, List, [], Result, ℤ}
use Rattle.spf_ast.specs.declared.outcome.Trap.{Trap}
use Rattle.spf_ast.specs.Carried.{Carried}
use Rattle.spf_ast_laws.specs.Agreement.{LookAlike}
use Rattle.spf_ast_laws.specs.Keeping.{StandsInMain}
use Rattle.spf_speculation_entry.specs.Entry.{Entry}
use Rattle.spf_speculation.specs.Steps.{Step}
use Rattle.spf_speculation.specs.Runs.{IsSpeculativeRun}

-- the same entry with other words in the slots of `main`
abbrev pub with_slots : Entry → List ℤ → Entry
with_slots e slots = record e { slots = slots }

-- two lists of slots agree on these, and are equally long
abbrev pub SlotsLookAlike : List ℕ → List ℤ → List ℤ → Type 0
SlotsLookAlike visible one other = LookAlike visible (record { slots = one; output = [] }) (record { slots = other; output = [] })

-- a speculative run is also one from other slots that agree on those that are visible at the construct
abbrev pub RunsSeeVisibleSlots : Type 0
RunsSeeVisibleSlots =
    (e : Entry) (slots : List ℤ) (stands : StandsInMain e.program e.construct)
    (guess : ℕ → Carried) (steps : List Step) (values : List Carried) (result : Result Carried Trap)
    → SlotsLookAlike stands.scope.visible e.slots slots
    → IsSpeculativeRun e guess steps values result → IsSpeculativeRun (with_slots e slots) guess steps values result

-- and with other guesses that are the same for the blocks after the first
abbrev pub RunsSeeTheGuessesOfTheirBlocks : Type 0
RunsSeeTheGuessesOfTheirBlocks =
    (e : Entry) (guess other : ℕ → Carried) (steps : List Step) (values : List Carried) (result : Result Carried Trap)
    → ((n : ℕ) → 0 < n → n < e.header.blocks → guess n ≡ other n)
    → IsSpeculativeRun e guess steps values result → IsSpeculativeRun e other steps values result
