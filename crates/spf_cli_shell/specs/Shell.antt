-- What the program does with the words after its name.
use Rattle.std.specs.Prelude.{◌≡◌, ◌⊎◌, ℕ, List, [], ◌∷◌}
use Rattle.spf_edge.specs.Bytes.{Adds, AddsPrefix}
use Rattle.spf_edge.specs.Faults.{Rose}
use Rattle.spf_edge.specs.Puts.{SinkState, HasPut, taken_whole}
use Rattle.spf_cli_answers.specs.Message.{words_line}
use Rattle.spf_cli.specs.Answered.{Sinks}
use Rattle.spf_cli_help.specs.Pages.{IsAnswer}

-- the words ask for no help and no version
abbrev pub AskForNoPage : List (List ℕ) → Type 0
AskForNoPage words = (text : List ℕ) → IsAnswer words text → ⊥

-- a text was put whole, and the status is the one for this; or the sink failed, and took a prefix of it; or memory ran out, and nothing was put
abbrev pub IsTextPut : (text : List ℕ) (done status : ℕ) → SinkState → SinkState → Type 0
IsTextPut text done status before now =
    ((status ≡ done) × Adds before.taken now.taken text × HasPut before.puts now.puts (taken_whole text ∷ []))
    ⊎ ((status ≡ 6) × Rose before.faults now.faults × AddsPrefix before.taken now.taken text)
    ⊎ ((status ≡ 8) × (now ≡ before))

-- a text was put on the output, and nothing on the error stream
abbrev pub IsShown : List ℕ → ℕ → Sinks → Type 0
IsShown text status s = IsTextPut text 0 status s.out_before s.out_now × (s.err_now ≡ s.err_before)

-- the words aren't understood: the line that says so was put on the error stream, and nothing on the output
abbrev pub AreRefused : ℕ → Sinks → Type 0
AreRefused status s = IsTextPut words_line 2 status s.err_before s.err_now × (s.out_now ≡ s.out_before)
