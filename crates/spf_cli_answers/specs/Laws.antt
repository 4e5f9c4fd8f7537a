-- What the checker says of programs, what the decoders write, and what the statuses mean.
use Rattle.std.specs.Prelude.{◌≡◌, ◌⊎◌, ℕ, List, [], ◌∷◌, ◌++◌, Err}
use Rattle.spf_edge.specs.declared.files.FetchError.TheVariants.{Missing, Failed}
use Rattle.spf_edge.specs.Fetches.{Fetch}
use Rattle.spf_check.specs.Laws.{AreAcceptedOrRefused, FirstRefusalsAreTheSame, RefusedAreNotAccepted, AreExplained, ExplanationsAreTheSame}
use Rattle.spf_apps_formats.specs.Huf1.{IsHuf1}
use Rattle.spf_apps_formats.specs.Lex1.{IsLex1}
use Rattle.spf_apps_programs.specs.PackBits.{packbits_program}
use Rattle.spf_apps_programs.specs.Huffman.{huffman_program}
use Rattle.spf_apps_programs.specs.Lexer.{lexer_program}
use Rattle.spf_cli_words.specs.Command.{DecodeOptions}
use Rattle.spf_cli_answers.specs.Answer.{Answer}
use Rattle.spf_cli_answers.specs.Decoded.{Unpacked, Unhuffed, Tokenized}
use Rattle.spf_cli_answers.specs.Whole.{Handed, Decodes, RunsText, block_of, AskForNothing, Whole}

-- one thing is said of each program, by the laws on refusals and explanations
pub record RuleLaws : Type 0 where
  pub some : AreAcceptedOrRefused
  pub one : FirstRefusalsAreTheSame
  pub refused : RefusedAreNotAccepted
  pub explained : AreExplained
  pub explanation : ExplanationsAreTheSame

-- the answer of a run of a decoder's program is what its format says
pub record DecoderLaws : Type 0 where
  pub unpacked : (options : DecodeOptions) (file : List ℕ) (answer : Answer)
      → Decodes options (packbits_program (block_of options)) file answer → Unpacked (block_of options) file answer
  pub unhuffed : (options : DecodeOptions) (file : List ℕ) (answer : Answer) → IsHuf1 file
      → Decodes options (huffman_program (block_of options)) file answer → Unhuffed (block_of options) file answer
  pub tokenized : (options : DecodeOptions) (states classes : ℕ) (machine content : List ℕ) (answer : Answer) → IsLex1 machine states classes
      → Decodes options (lexer_program (block_of options) states classes) (machine ++ content) answer
      → Tokenized (block_of options) machine content answer

-- ---- causes

-- one of these fetches gave no content, since there was no such file or a fault was met
abbrev pub HasFailed : List Fetch → Type 0
HasFailed [] = ⊥
HasFailed (fetch ∷ fetches) = (fetch.gave ≡ Err Missing) ⊎ (fetch.gave ≡ Err Failed) ⊎ HasFailed fetches

-- The whole answer has status 2 only where the words ask for no command, and status 5 only where a fetch failed. It never has
-- that of a failed put or of want of memory; nor has the answer of a run over bytes at hand that of a failed put.
pub record StatusesHaveCauses : Type 0 where
  pub words : (handed : Handed) (words : List (List ℕ)) (fetches : List Fetch) (answer : Answer) → Whole handed words fetches answer
      → answer.status ≡ 2 → AskForNothing words
  pub file : (handed : Handed) (words : List (List ℕ)) (fetches : List Fetch) (answer : Answer) → Whole handed words fetches answer
      → answer.status ≡ 5 → HasFailed fetches
  pub put : (handed : Handed) (words : List (List ℕ)) (fetches : List Fetch) (answer : Answer) → Whole handed words fetches answer
      → answer.status ≡ 6 → ⊥
  pub memory : (handed : Handed) (words : List (List ℕ)) (fetches : List Fetch) (answer : Answer) → Whole handed words fetches answer
      → answer.status ≡ 8 → ⊥
  pub at_hand : (handed : Handed) (workers : ℕ) (text input : List ℕ) (answer : Answer) → RunsText handed workers text input answer
      → answer.status ≡ 6 → ⊥
