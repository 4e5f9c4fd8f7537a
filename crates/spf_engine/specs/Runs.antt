-- Runs from step to step, whoever runs the blocks of their constructs.
use Rattle.std.specs.Prelude.{◌≡◌, ◌<◌, ◌≤◌, ◌≤ℤ◌, ◌+ℤ◌, ℕ, ◌*◌, ◌-◌, List, ◌++◌, length, slice_get, Some, pos}
use Rattle.spf_ast.specs.Meaning.{max_blocks}
use Rattle.spf_ast.specs.Syntax.{Program}
use Rattle.spf_ast.specs.Program.{Done, Stopped}
use Rattle.spf_ast.specs.Construct.{Construct, Header, constructs_in}
use Rattle.spf_ast.specs.ConstructView.{construct as seen_construct}
use Rattle.spf_ast.specs.Pieces.{statement_count, construct_first}
use Rattle.spf_check.specs.Plans.{AreBlocksOf}
use Rattle.spf_exec.specs.declared.pieces.Header as code_header
use Rattle.spf_exec.specs.Pieces.{RunState, IsSettled, ahead, seen_header}
use Rattle.spf_exec_instance.specs.Instance.{InstanceValue, program_of}
use Rattle.spf_chain.specs.declared.block.Settled.{Settled}
use Rattle.spf_chain.specs.declared.block.Settled.TheVariants.{Carried, Trapped}
use Rattle.spf_guess_statistics.specs.declared.stats.Stats.{Stats}
use Rattle.spf_guess_statistics.specs.Guess.{Hosts, Telling, tells}
use Rattle.spf_guess_statistics.specs.Statistics.{tally}
use Rattle.spf_guess.specs.Answers.{WereTold}
use Rattle.spf_engine_construct.specs.Guesses.{AreAtMost}
use Rattle.spf_speculation_entry.specs.Entry.{plain_blocks}
use Rattle.spf_engine_laws.specs.Progress.{Progress, GoesOn, HasCome, HasEntered, entry_there}
use Rattle.spf_engine.specs.declared.step.Step.{Step}
use Rattle.spf_engine.specs.declared.step.Step.TheVariants as step
use Rattle.spf_engine.specs.declared.step.Arrival.{Arrival}
use Rattle.spf_engine.specs.declared.step.Arrival.TheVariants.{AtBlocks, Over}

-- ---- where a step ends

-- before further statements, at the end, or at a trap
abbrev pub IsProgressAfter : Hosts → Program → List ℕ → Step → RunState → Progress → Type 0
IsProgressAfter hosts p input step.Next s progress = GoesOn hosts p input s progress
IsProgressAfter hosts p input step.Finished s progress = HasCome hosts p input (Done s.cells s.output) progress
IsProgressAfter hosts p input (step.Trapped trap) s progress = HasCome hosts p input (Stopped trap s.output) progress

-- a run goes on past a construct with this row, or ends with this trap
abbrev pub IsSettledBy : Program → Construct → RunState → RunState → Settled → Step → Type 0
IsSettledBy p c before after (Carried value) taken = (taken ≡ step.Next) × IsSettled p c before after value
IsSettledBy p c before after (Trapped trap) taken = (taken ≡ step.Trapped trap) × (after ≡ before)

-- each construct that a run went over has counted at most `max_blocks`
abbrev pub CountsAreBounded : Program → RunState → Stats → Type 0
CountsAreBounded p s counted = AreAtMost counted (max_blocks * (length (constructs_in p.main) - length (constructs_in (ahead p s))))

-- where the run goes on, fewer statements are still to come, and each construct before it has counted at most `max_blocks`
abbrev pub ComesFurther : Program → Step → RunState → RunState → Stats → Type 0
ComesFurther p step.Next before after counted = (statement_count (ahead p after) < statement_count (ahead p before)) × CountsAreBounded p after counted
ComesFurther p _ before after counted = Unit {0}

-- ---- where a run stands

-- this holds where a run arrives
abbrev pub IsProgressOnArrival : Hosts → Program → List ℕ → Arrival → RunState → Progress → Type 0
IsProgressOnArrival hosts p input (AtBlocks number c header) s progress = HasEntered hosts p input (seen_construct c) (seen_header header) s progress
IsProgressOnArrival hosts p input (Over taken) s progress = IsProgressAfter hosts p input taken s progress

-- the blocks of a construct can be run: it stands next, has this number and some blocks, and these have numbers
pub record IsReadyAt (p : Program) (number : ℕ) (c : Construct) (header : code_header.Header) (s : RunState) : Type 0 where
  pub construct : slice_get (constructs_in p.main) number ≡ Some c
  pub next : construct_first (ahead p s) ≡ Some c
  pub blocks : AreBlocksOf c header.blocks
  pub some : 1 ≤ header.blocks
  pub few : header.blocks ≤ max_blocks
  pub fits : (header.low +ℤ pos header.blocks) ≤ℤ pos 9223372036854775807

-- this holds where a run arrives at blocks
abbrev pub CanBeRun : Program → Arrival → RunState → Type 0
CanBeRun p (AtBlocks number c header) s = IsReadyAt p number (seen_construct c) header s
CanBeRun p (Over taken) s = Unit {0}

-- a run that arrives has no more statements and constructs before it than it had, and where a step is over it went further
abbrev pub ComesNearer : Program → RunState → Arrival → RunState → Type 0
ComesNearer p before (AtBlocks number c header) after =
    (statement_count (ahead p after) ≤ statement_count (ahead p before)) × ((counted : Stats) → CountsAreBounded p before counted → CountsAreBounded p after counted)
ComesNearer p before (Over taken) after = (counted : Stats) → CountsAreBounded p before counted → ComesFurther p taken before after counted

-- ---- hosts

-- hosts were told a prefix of the pairs that they are told in the whole run
pub record WereToldFirst (hosts : Hosts) (p : Program) (input : List ℕ) (now : Hosts) : Type 0 where
  pub telling : List Telling
  pub more : List Telling
  pub all : telling ++ more ≡ (tally hosts p input).telling
  pub told : WereTold hosts telling now

-- ---- what the calls of a run promise, whatever hosts were told by then

-- a run that stands here arrives so
abbrev pub Arrives : InstanceValue → RunState → Arrival → RunState → Type 0
Arrives i s arrival after =
    (before : Hosts) (progress : Progress) → GoesOn before (program_of i) i.input s progress → IsProgressOnArrival before (program_of i) i.input arrival after progress

-- a run found no memory, and hosts were told a prefix of what they are told in the whole run
abbrev pub EndsWithoutMemory : InstanceValue → RunState → Hosts → Hosts → Type 0
EndsWithoutMemory i s then now =
    (before : Hosts) (progress : Progress) → WereTold before progress.telling then
    → GoesOn before (program_of i) i.input s progress → WereToldFirst before (program_of i) i.input now

-- so it is with one that has entered a construct
abbrev pub EndsWithoutMemoryAt : InstanceValue → RunState → Hosts → Construct → Header → Hosts → Type 0
EndsWithoutMemoryAt i s then construct header now =
    (before : Hosts) (progress : Progress) → WereTold before progress.telling then
    → HasEntered before (program_of i) i.input construct header s progress → WereToldFirst before (program_of i) i.input now

-- hosts were told the real rows of the blocks from where a run stands
abbrev pub RowsWereTold : InstanceValue → RunState → Hosts → Construct → Header → Hosts → Type 0
RowsWereTold i s then construct header now =
    (before : Hosts) (telling : List Telling) → WereTold before telling then
    → WereTold before (telling ++ tells construct header (plain_blocks (entry_there (program_of i) i.input construct header s)).values) now
