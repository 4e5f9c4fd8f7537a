-- What the commands of the decoders write, in the words of their formats.
use Rattle.std.specs.Prelude.{◌≡◌, ◌⊎◌, ℕ, ◌<◌, ◌≤◌, List, [], ◌∷◌, length, take}
use Rattle.spf_ast.specs.declared.outcome.Trap.{Trap}
use Rattle.spf_ast.specs.Meaning.{max_output}
use Rattle.spf_apps_formats.specs.PackBits.{Unpacks}
use Rattle.spf_apps_formats.specs.Decoded.{IsDecoded, IsShort, IsWhollyDecoded}
use Rattle.spf_apps_formats.specs.Tokens.{tokens}
use Rattle.spf_apps_laws.specs.Fitting.{FitsPackBits, FitsHuffman, FitsLexer}
use Rattle.spf_apps_laws.specs.Laws.{full_trap, short_trap}
use Rattle.spf_cli_answers.specs.Message.{trap_line}
use Rattle.spf_cli_answers.specs.Answer.{Answer}

-- the command is done, and this is its output
pub record IsDoneWith (output : List ℕ) (answer : Answer) : Type 0 where
  pub done : answer.status ≡ 0
  pub written : answer.out ≡ output ∷ []

-- the run ended with a trap, after this output
pub record IsTrappedAfter (output : List ℕ) (trap : Trap) (answer : Answer) : Type 0 where
  pub trapped : answer.status ≡ 1
  pub written : answer.out ≡ output ∷ []
  pub later : List (List ℕ)
  pub said : answer.err ≡ trap_line trap ∷ later

-- a PackBits file that fits is unpacked; where this is over the limit of output, the run ends with a trap where the output is full
abbrev pub Unpacked : ℕ → List ℕ → Answer → Type 0
Unpacked size file answer =
    FitsPackBits size file
    → (output : List ℕ) × Unpacks file output
    × (((length output ≤ max_output) × IsDoneWith output answer)
    ⊎ ((max_output < length output) × IsTrappedAfter (take max_output output) full_trap answer))

-- a HUF1 file that fits is decoded; where it has fewer symbols than it says, the run fails after the last of them
abbrev pub Unhuffed : ℕ → List ℕ → Answer → Type 0
Unhuffed size file answer =
    FitsHuffman size file
    → (output : List ℕ)
    × ((IsWhollyDecoded file output × IsDoneWith output answer)
    ⊎ (IsDecoded file output × IsShort file output × IsTrappedAfter output short_trap answer))

-- a content that fits, with its machine, is cut into the tokens that the machine finds
abbrev pub Tokenized : ℕ → List ℕ → List ℕ → Answer → Type 0
Tokenized size machine content answer = FitsLexer size machine content → IsDoneWith (tokens machine content) answer
