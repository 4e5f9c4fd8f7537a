-- Laws of the format: bytes are at most one log, and exactly those that break are none.
use Rattle.std.specs.Prelude.{◌≡◌, ◌⊎◌, ◌<◌, ℕ, List}
use Rattle.std.specs.List.{All}
use Rattle.spf_replay_log.specs.declared.log.Step.{Step}
use Rattle.spf_replay_log.specs.Log.{IsLog}
use Rattle.spf_replay_log.specs.Refusals.{LogBreaksAt}

-- no bytes are two logs
abbrev pub BytesAreOneLog : Type 0
BytesAreOneLog = (bytes : List ℕ) (one other : List (List Step)) → IsLog one bytes → IsLog other bytes → one ≡ other

-- no bytes are a log and break somewhere
abbrev pub LogsDoNotBreak : Type 0
LogsDoNotBreak = (bytes : List ℕ) (log : List (List Step)) (offset : ℕ) → IsLog log bytes → LogBreaksAt bytes offset → ⊥

-- bytes break at one offset at most
abbrev pub LogsBreakOnce : Type 0
LogsBreakOnce = (bytes : List ℕ) (one other : ℕ) → LogBreaksAt bytes one → LogBreaksAt bytes other → one ≡ other

-- bytes are a log, or break at an offset
abbrev pub LogsAreOrBreak : Type 0
LogsAreOrBreak =
    (bytes : List ℕ) → All (λ byte. byte < 256) bytes
    → ((log : List (List Step)) × IsLog log bytes) ⊎ ((offset : ℕ) × LogBreaksAt bytes offset)
