-- Runs whose blocks are run by workers, and what they keep an account of.
use Rattle.std.specs.Prelude.{◌≡◌, ℕ, List, ℤ}
use Rattle.spf_ast.specs.Syntax.{Program}
use Rattle.spf_ast.specs.Construct.{Construct, Header}
use Rattle.spf_exec.specs.Pieces.{RunState}
use Rattle.spf_exec_instance.specs.Instance.{InstanceValue, program_of}
use Rattle.spf_guess_statistics.specs.Guess.{Hosts, Telling}
use Rattle.spf_guess.specs.Answers.{WereTold}
use Rattle.spf_engine_construct.specs.declared.construct.ConstructReport.{ConstructReport}
use Rattle.spf_engine_construct.specs.Coming.{ComesTo}
use Rattle.spf_engine_laws.specs.Passed.{OneByOne, IsItsTrace}
use Rattle.spf_engine_laws.specs.Progress.{Progress, GoesOn, HasEntered, entry_there, entry_guess}
use Rattle.spf_engine.specs.declared.account.Account.{Account}
use Rattle.spf_engine.specs.declared.step.Step.{Step}
use Rattle.spf_engine.specs.Runs.{IsProgressAfter}

-- an account has what the progress of a run has, but for what hosts were told: its statistics, and a trace of each construct that was passed
pub record AgreesWith (progress : Progress) (account : Account) : Type 0 where
  pub stats : account.stats ≡ progress.stats
  pub traces : OneByOne IsItsTrace progress.passed account.traces.items

-- a step led to a further progress of the run, with which the account agrees
pub record StepsTo (hosts : Hosts) (p : Program) (input : List ℕ) (taken : Step) (s : RunState) (account : Account) (now : Hosts) : Type 0 where
  pub later : Progress
  pub agrees : AgreesWith later account
  pub told : WereTold hosts later.telling now
  pub there : IsProgressAfter hosts p input taken s later

-- ---- what the calls of a run promise, whatever hosts were told by then

-- a run that has this account took a step from where it stands
abbrev pub Steps : InstanceValue → RunState → Account → Hosts → Step → RunState → Account → Hosts → Type 0
Steps i s account then taken after counted now =
    (before : Hosts) (progress : Progress) → AgreesWith progress account → WereTold before progress.telling then
    → GoesOn before (program_of i) i.input s progress → StepsTo before (program_of i) i.input taken after counted now

-- it took the step from where it has entered a construct
abbrev pub StepsPast : InstanceValue → RunState → Account → Hosts → Construct → Header → Step → RunState → Account → Hosts → Type 0
StepsPast i s account then construct header taken after counted now =
    (before : Hosts) (progress : Progress) → AgreesWith progress account → WereTold before progress.telling then
    → HasEntered before (program_of i) i.input construct header s progress → StepsTo before (program_of i) i.input taken after counted now

-- the blocks of a construct with this header came to this, and left this memory
abbrev pub BlocksCome : InstanceValue → RunState → Hosts → Construct → Header → ConstructReport → List ℤ → Type 0
BlocksCome i s then construct header report memory =
    (before : Hosts) (telling : List Telling) → WereTold before telling then
    → ComesTo (entry_there (program_of i) i.input construct header s) (entry_guess before telling (entry_there (program_of i) i.input construct header s)) report memory
