-- Visitors of the constructs that a walk passes.
use Rattle.std.specs.Prelude.{◌≡◌, ℕ, suc, List, [], ◌∷◌, ◌++◌, Some, slice_get}
use Rattle.spf_ast.specs.Carried.{Carried}
use Rattle.spf_ast.specs.Syntax.{Program}
use Rattle.spf_speculation_entry.specs.Entry.{Entry}
use Rattle.spf_guess_statistics.specs.declared.guess.Guess as code_guess
use Rattle.spf_guess_statistics.specs.Guess.{Guess, Hosts}
use Rattle.spf_exec_instance.specs.Instance.{InstanceValue, program_of}
use Rattle.spf_engine_laws.specs.Passed.{PassedConstruct, passed_from, all_passed, OneByOne, PassedAlike}

-- these are the guesses for the blocks from 1 on
abbrev pub AreGuesses : List code_guess.Guess → (ℕ → Carried) → Type 0
AreGuesses guesses guess = (n : ℕ) (g : code_guess.Guess) → slice_get guesses n ≡ Some g → g.value ≡ guess (suc n)

-- what has become of a visitor, after it took these constructs
abbrev pub Visits : Type 0 → Type 1
Visits V = V → List PassedConstruct → V → Type 0

-- from one that took these constructs a visitor became one that took those, whatever it began as
abbrev pub VisitsFrom : {V : Type 0} → Visits V → List PassedConstruct → V → List PassedConstruct → V → Type 0
VisitsFrom {V} has_visited passed before later after = (first : V) → has_visited first passed before → has_visited first later after

-- it took one more construct: that of this entry, with these guesses
abbrev pub VisitsNext : {V : Type 0} → Visits V → List code_guess.Guess → Entry → V → V → Type 0
VisitsNext {V} has_visited guesses e before after =
    (passed : List PassedConstruct) (x : PassedConstruct) → x.entry ≡ e → AreGuesses guesses x.guess → VisitsFrom has_visited passed before (passed ++ x ∷ []) after

-- it took the construct that a run passed from this entry with these guesses
abbrev pub VisitsBlocks : {V : Type 0} → Visits V → Entry → (ℕ → Guess) → V → V → Type 0
VisitsBlocks {V} has_visited e guess before after = (passed : List PassedConstruct) → VisitsFrom has_visited passed before (passed ++ passed_from e guess) after

-- it took the constructs that a whole run passes: one by one those of the plain run, but for slots that aren't visible
pub record VisitsAll {V : Type 0} (has_visited : Visits V) (before after : V) (hosts : Hosts) (p : Program) (input : List ℕ) : Type 0 where
  pub passed : List PassedConstruct
  pub alike : OneByOne PassedAlike passed (all_passed hosts p input)
  pub visited : VisitsFrom has_visited [] before passed after

-- it took those of an instance's run
abbrev pub VisitsRun : {V : Type 0} → Visits V → (before after : V) → Hosts → InstanceValue → Type 0
VisitsRun {V} has_visited before after hosts i = VisitsAll has_visited before after hosts (program_of i) i.input
