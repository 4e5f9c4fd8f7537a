-- The constructs with blocks that a run has passed, and those that the plain run reaches.
use Rattle.std.specs.Prelude.{◌≡◌, ℕ, zero, suc, List, [], ◌∷◌, ◌++◌}
use Rattle.spf_ast.specs.Carried.{Carried}
use Rattle.spf_ast.specs.Syntax.{Program}
use Rattle.spf_ast.specs.Construct.{Construct, constructs_in, RealValues, Reached, reals}
use Rattle.spf_ast_laws.specs.Chained.{is_trap}
use Rattle.spf_ast_laws.specs.Keeping.{StandsInMain}
use Rattle.spf_speculation_entry.specs.Entry.{Entry, plain_blocks}
use Rattle.spf_speculation.specs.Alike.{with_slots, SlotsLookAlike}
use Rattle.spf_guess_statistics.specs.Guess.{Guess, Hosts, Telling, tells}
use Rattle.spf_guess_statistics.specs.Statistics.{guess_at}
use Rattle.spf_engine_laws.specs.Traces.{Trace, entry_reached, IsTraceOf}

-- a construct that was passed: its entry, the guesses for its blocks, and the real rows at which they begin
pub record PassedConstruct : Type 0 where
  pub entry : Entry
  pub guess : ℕ → Carried
  pub reals : RealValues

-- the only one of a list, where it has blocks
abbrev pub where_blocks : ℕ → PassedConstruct → List PassedConstruct
where_blocks zero x = []
where_blocks (suc blocks) x = x ∷ []

-- ---- of a run

-- the real rows of the blocks from an entry
abbrev pub real_rows_from : Entry → RealValues
real_rows_from e = record { values = (plain_blocks e).values; trapped = is_trap (plain_blocks e).result }

-- the construct that a run passed from this entry with these guesses, where it has blocks
abbrev pub passed_from : Entry → (ℕ → Guess) → List PassedConstruct
passed_from e guess = where_blocks e.header.blocks (record { entry = e; guess = λ n. (guess n).value; reals = real_rows_from e })

-- ---- of the plain run

-- a construct that the plain run reached, after hosts were told these pairs
abbrev pub passed_plainly : Hosts → List Telling → Program → List ℕ → Construct → Reached → PassedConstruct
passed_plainly hosts telling p input construct r = record {
  entry = entry_reached p input construct r;
  guess = λ n. (guess_at hosts telling p input construct r n).value;
  reals = r.reals;
}

-- those with blocks among these constructs, as far as the plain run reaches them; before the first of them hosts were
-- told these pairs
abbrev pub all_passed_from : Hosts → Program → List ℕ → List Construct → List Reached → List Telling → List PassedConstruct
all_passed_from hosts p input (construct ∷ constructs) (r ∷ others) telling =
    where_blocks r.header.blocks (passed_plainly hosts telling p input construct r)
    ++ all_passed_from hosts p input constructs others (telling ++ tells construct r.header r.reals.values)
all_passed_from hosts p input _ _ telling = []

-- those of the whole plain run
abbrev pub all_passed : Hosts → Program → List ℕ → List PassedConstruct
all_passed hosts p input = all_passed_from hosts p input (constructs_in p.main) (reals p input) []

-- ---- what both have in common

-- the items of two lists are in this relation, one by one, and none is left over
abbrev pub OneByOne : {A B : Type 0} → (A → B → Type 0) → List A → List B → Type 0
OneByOne Related [] [] = Unit {0}
OneByOne Related (a ∷ more) (b ∷ others) = Related a b × OneByOne Related more others
OneByOne Related _ _ = ⊥

-- the other is the same construct, but for slots of `main` that aren't visible at it
pub record PassedAlike (one other : PassedConstruct) : Type 0 where
  pub stands : StandsInMain one.entry.program one.entry.construct
  pub slots : SlotsLookAlike stands.scope.visible one.entry.slots other.entry.slots
  pub rest : other ≡ record one { entry = with_slots one.entry other.entry.slots }

-- a trace of a construct that was passed
abbrev pub IsItsTrace : PassedConstruct → Trace → Type 0
IsItsTrace x trace = IsTraceOf x.entry x.guess x.reals trace
