-- What becomes of the blocks at which a walk stands.
use Rattle.std.specs.Prelude.{◌≡◌, ℕ, true, List, ◌++◌, ℤ}
use Rattle.std.specs.Global.{Vec}
use Rattle.spf_ast.specs.ConstructView.{construct as seen_construct}
use Rattle.spf_ast.specs.Event.{word_at}
use Rattle.spf_ast_laws.specs.Chained.{Chained}
use Rattle.spf_chain.specs.declared.block.Settled.{Settled}
use Rattle.spf_chain.specs.Finishing.{result_as}
use Rattle.spf_exec.specs.declared.pieces.Header.{Header}
use Rattle.spf_exec.specs.Pieces.{seen_header}
use Rattle.spf_guess_statistics.specs.declared.stats.Stats.{Stats}
use Rattle.spf_guess_statistics.specs.Guess.{Hosts, Telling, tells}
use Rattle.spf_guess_statistics.specs.Statistics.{statistics_with}
use Rattle.spf_guess.specs.Answers.{Answers, supplied, WereTold}
use Rattle.spf_region.specs.declared.span.Plan.{Plan}
use Rattle.spf_speculation_entry.specs.Entry.{Entry, plain_blocks}
use Rattle.spf_engine_laws.specs.Progress.{entry_guess}
use Rattle.spf_replay.specs.Copying.{in_plan}
use Rattle.spf_replay.specs.Plainly.{AreRunPlainly}
use Rattle.spf_replay_walk.specs.declared.position.Position.{Position}
use Rattle.spf_replay_walk.specs.Positions.{entry_at, spans_of}
use Rattle.spf_replay_walk.specs.Visiting.{Visits, VisitsBlocks}

-- the plain run of the blocks, where the run has these cells
abbrev pub plain_at : Position → Header → (cells : List ℤ) → Chained
plain_at position header cells = plain_blocks (entry_at position header cells)

-- two memories have the same words in the cells of a plan
abbrev pub AgreeIn : Plan → (one other : List ℤ) → Type 0
AgreeIn plan one other = (cell : ℕ) → in_plan (spans_of plan) cell ≡ true → word_at one cell ≡ word_at other cell

-- the blocks of an entry came to this, as they do in the plain run, and left these cells
abbrev pub ComePlainlyTo : Entry → Settled → (cells : List ℤ) → Type 0
ComePlainlyTo e settled cells = AreRunPlainly e (plain_blocks e).values (result_as settled) cells

-- a visitor took the construct with its guesses, whatever the hosts had been told
abbrev pub VisitsAt : {V Box : Type 0} → Visits V → Position → Header → Vec ℤ → (Box → Answers) → (hosts : List Box) → (before after : V) → Type 0
VisitsAt has_visited position header cells answer hosts before after = (first : Hosts) (telling : List Telling) → WereTold first telling (supplied answer hosts)
    → VisitsBlocks has_visited (entry_at position header cells.items) (entry_guess first telling (entry_at position header cells.items)) before after

-- this is how good these guesses were
abbrev pub CountsAt : {Box : Type 0} → Position → Header → Vec ℤ → (Box → Answers) → (hosts : List Box) → Stats → Type 0
CountsAt position header cells answer hosts stats = (first : Hosts) (telling : List Telling) → WereTold first telling (supplied answer hosts)
    → stats ≡ statistics_with (entry_guess first telling (entry_at position header cells.items)) (plain_at position header cells.items).values

-- the hosts were told the real rows of the blocks, besides what they had been told
abbrev pub TellsAt : {Box : Type 0} → Position → Header → Vec ℤ → (Box → Answers) → (before after : List Box) → Type 0
TellsAt position header cells answer before after = (first : Hosts) (telling : List Telling) → WereTold first telling (supplied answer before)
    → WereTold first (telling ++ tells (seen_construct position.construct) (seen_header header) (plain_at position header cells.items).values) (supplied answer after)
