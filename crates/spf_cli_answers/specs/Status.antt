-- The numbers of the statuses.
use Rattle.std.specs.Prelude.{ℕ}
use Rattle.spf_cli_answers.specs.declared.status.Status.{Status}
use Rattle.spf_cli_answers.specs.declared.status.Status.TheVariants.{
  Done,
  Trapped,
  NotUnderstood,
  NoProgram,
  Refused,
  FileFailed,
  PutFailed,
  OverLimit,
  NoMemory,
  WrongFormat,
  WrongLog,
}

-- the number of a status
abbrev pub status_number : Status → ℕ
status_number Done = 0
status_number Trapped = 1
status_number NotUnderstood = 2
status_number NoProgram = 3
status_number Refused = 4
status_number FileFailed = 5
status_number PutFailed = 6
status_number OverLimit = 7
status_number NoMemory = 8
status_number WrongFormat = 9
status_number WrongLog = 10
