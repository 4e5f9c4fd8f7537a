-- The answers on machines as texts.
use Rattle.std.proofs.Common.{◌≡◌, List, ℕ, [], sym, ◌∙◌, subst, inl, inr}
use Rattle.spf_edge.specs.Fetches.{FilesState, Fetch}
use Rattle.spf_edge.proofs.Fetched.{made_none}
use Rattle.spf_apps_machine_text.specs.MachineText.{IsTextOf}
use Rattle.spf_apps_machine_text.specs.Building.{BelongsToNoMachine}
use Rattle.spf_apps_machine_text.specs.Laws.{MachinesHaveOneText}
use Rattle.spf_cli_words.specs.Only.{IsOnly}
use Rattle.spf_cli_answers.specs.Answer.{Answer, not_a_machine}
use Rattle.spf_cli_answers.specs.Answering.{IsFollowed}
use Rattle.spf_cli_answers.specs.Course.{Course}
use Rattle.spf_cli_answers.specs.Whole.{WithMachine}
use Rattle.spf_cli_answers.proofs.Steps.{followed_as}

only_machine : MachinesHaveOneText → (text file : List ℕ) (next : List ℕ → Course) (a : Answer) (fetches : List Fetch) → IsTextOf text file → IsOnly (next file fetches) a → IsOnly (WithMachine text next fetches) a
only_machine laws text file next a fetches is h = record { is = inl (file, is, h.is); only = λ b x. other b x }
  where
    other : (b : Answer) → WithMachine text next fetches b → b ≡ a
    other b x = elim x [
      | inl y ↦ h.only b (subst (λ f. next f fetches b) (laws.file text y.0 file y.1 is) y.2)
      | inr z ↦ absurd (z.0 file is)
    ]

-- a text that is that of a machine
pub followed_machine : MachinesHaveOneText → (text file : List ℕ) (next : List ℕ → Course) (old new : FilesState) (a : Answer) → IsTextOf text file → IsFollowed (next file) old new a → IsFollowed (WithMachine text next) old new a
followed_machine laws text file next old new a is h = followed_as (next file) (WithMachine text next) old new a (λ fetches. only_machine laws text file next a fetches is) h

-- a text that is that of no machine
pub machine_left : (text : List ℕ) (next : List ℕ → Course) (state : FilesState) (a : Answer) → BelongsToNoMachine text → a ≡ not_a_machine → IsFollowed (WithMachine text next) state state a
machine_left text next state a none e = record {
  fetches = [];
  made = made_none state;
  only = record { is = inr (none, e); only = λ b x. other b x };
}
  where
    other : (b : Answer) → WithMachine text next [] b → b ≡ a
    other b x = elim x [
      | inl y ↦ absurd (none y.0 y.1)
      | inr z ↦ z.1 ∙ sym e
    ]
