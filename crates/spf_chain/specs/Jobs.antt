-- What the blocks of a chain are run with.
use Rattle.std.specs.Prelude.{◌≡◌, ℕ, false, length, Some, slice_get}
use Rattle.spf_ast.specs.Construct.{constructs_in, part_of, statements_of}
use Rattle.spf_ast.specs.ConstructView.{construct}
use Rattle.spf_ast.specs.Lawful.{IsLawful}
use Rattle.spf_ast.specs.Program.{cell_count_of}
use Rattle.spf_ast.specs.Silence.{PartIsSilent}
use Rattle.spf_ast.specs.Slots.{assigns_outer}
use Rattle.spf_exec_instance.specs.Instance.{program_of}
use Rattle.spf_check.specs.Accepting.{IsAccepted}
use Rattle.spf_ticket.specs.declared.run.Job.{Job}

-- the blocks of the job's construct can be run as attempts: the program is lawful, the construct is the one at the job's index among
-- its top constructs, no block of it emits or assigns a slot from outside, and the job has a word for each cell
pub record CanRun (job : Job) : Type 0 where
  pub lawful : IsLawful (program_of job.instance.now)
  pub top : slice_get (constructs_in (program_of job.instance.now).main) job.index ≡ Some (construct job.construct)
  pub silent : (n : ℕ) → PartIsSilent (construct job.construct) (part_of (construct job.construct) n)
  pub outer : (n : ℕ) → assigns_outer (statements_of (construct job.construct) (part_of (construct job.construct) n)) ≡ false
  pub cells : length job.entry.now ≡ cell_count_of (program_of job.instance.now) (length job.instance.now.input)

-- the blocks of each top construct of an accepted program can be run as attempts
abbrev pub AcceptedConstructsCanRun : Type 0
AcceptedConstructsCanRun =
    (job : Job) → IsLawful (program_of job.instance.now) → IsAccepted (program_of job.instance.now)
    → slice_get (constructs_in (program_of job.instance.now).main) job.index ≡ Some (construct job.construct)
    → length job.entry.now ≡ cell_count_of (program_of job.instance.now) (length job.instance.now.input) → CanRun job
