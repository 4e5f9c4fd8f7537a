-- The answers of the decoders.
use Rattle.std.proofs.Common.{◌≡◌, ℕ, List, [], map, sym, ap, ◌∙◌, subst, inl, inr}
use Rattle.std.specs.Prelude.{Result}
use Rattle.spf_edge.specs.Fetches.{FilesState, Fetch}
use Rattle.spf_edge.proofs.Fetched.{made_none}
use Rattle.spf_apps_formats.specs.Huf1.{IsHuf1, IsNoHuf1At}
use Rattle.spf_apps_formats.specs.Lex1.{IsLex1, IsNoLex1At}
use Rattle.spf_apps_formats.specs.declared.generate.Kind.{Kind}
use Rattle.spf_apps_formats.specs.Draws.{IsGenerated}
use Rattle.spf_apps_formats.specs.Laws.{AreBytes, Huf1HasOneVerdict, Lex1HasOneVerdict, EachInputIsGeneratedOnce}
use Rattle.spf_guess.specs.Answers.{Answers}
use Rattle.spf_cli_words.specs.Only.{IsOnly}
use Rattle.spf_cli_answers.specs.Answer.{Answer, not_huf1, not_lex1, shown}
use Rattle.spf_cli_answers.specs.Answering.{IsFollowed, AnswersWith}
use Rattle.spf_cli_answers.specs.Course.{Course}
use Rattle.spf_cli_answers.specs.Whole.{Handed, handed, RunsTo, Demonstrates, by_blocks, demo_program, demo_input, WithHuf1, WithLex1}
use Rattle.spf_cli_answers.specs.declared.answer.Answer as made
use Rattle.spf_cli_answers.specs.declared.answer.Exit.{Exit}
use Rattle.spf_cli_answers.proofs.Steps.{answers_as}

-- what holds for a list of hosts that is empty holds for no hosts
pub no_hosts : {A : Type 0} (f : A → Answers) (xs : List A) (P : Handed → Type 0) → xs ≡ [] → P (handed (map f xs)) → P (handed [])
no_hosts f xs P e h = subst (λ ys. P (handed (map f ys))) e h

-- ---- HUF1

pub only_huf1 : Huf1HasOneVerdict → (file : List ℕ) (next : Course) (a : Answer) (fetches : List Fetch) → IsHuf1 file → IsOnly (next fetches) a → IsOnly (WithHuf1 file next fetches) a
only_huf1 laws file next a fetches huf1 h = record { is = inl (huf1, h.is); only = λ b x. other b x }
  where
    other : (b : Answer) → WithHuf1 file next fetches b → b ≡ a
    other b x = elim x [
      | inl y ↦ h.only b y.1
      | inr z ↦ absurd (laws.apart file z.0 huf1 z.1)
    ]

-- a file that isn't HUF1
pub only_no_huf1 : Huf1HasOneVerdict → (file : List ℕ) (next : Course) (offset : ℕ) (a : Answer) → IsNoHuf1At file offset → a ≡ not_huf1 offset → IsOnly (WithHuf1 file next []) a
only_no_huf1 laws file next offset a none e = record { is = inr (offset, none, e); only = λ b x. other b x }
  where
    other : (b : Answer) → WithHuf1 file next [] b → b ≡ a
    other b x = elim x [
      | inl y ↦ absurd (laws.apart file offset y.0 none)
      | inr z ↦ z.2 ∙ ap not_huf1 (laws.one file z.0 offset z.1 none) ∙ sym e
    ]

-- ---- LEX1

only_lex1 : Lex1HasOneVerdict → (file : List ℕ) (next : ℕ → ℕ → Course) (states classes : ℕ) (a : Answer) (fetches : List Fetch) → IsLex1 file states classes → IsOnly (next states classes fetches) a → IsOnly (WithLex1 file next fetches) a
only_lex1 laws file next states classes a fetches lex1 h = record { is = inl (states, classes, lex1, h.is); only = λ b x. other b x }
  where
    other : (b : Answer) → WithLex1 file next fetches b → b ≡ a
    other b x = elim x [
      | inl y ↦
          let same = laws.counts file y.0 y.1 states classes y.2 lex1 in
          h.only b (subst (λ n. next states n fetches b) same.1 (subst (λ n. next n y.1 fetches b) same.0 y.3))
      | inr z ↦ absurd (laws.apart file z.0 states classes lex1 z.1)
    ]

pub answers_lex1 : Lex1HasOneVerdict → (file : List ℕ) (next : ℕ → ℕ → Course) (states classes : ℕ) (old new : FilesState) (r : Result made.Answer Exit) → IsLex1 file states classes → AnswersWith (IsFollowed (next states classes) old new) r → AnswersWith (IsFollowed (WithLex1 file next) old new) r
answers_lex1 laws file next states classes old new r lex1 h = answers_as (next states classes) (WithLex1 file next) old new r (λ a fetches. only_lex1 laws file next states classes a fetches lex1) h

-- a file that isn't LEX1
pub lex1_left : Lex1HasOneVerdict → (file : List ℕ) (next : ℕ → ℕ → Course) (offset : ℕ) (state : FilesState) (a : Answer) → IsNoLex1At file offset → a ≡ not_lex1 offset → IsFollowed (WithLex1 file next) state state a
lex1_left laws file next offset state a none e = record {
  fetches = [];
  made = made_none state;
  only = record { is = inr (offset, none, e); only = λ b x. other b x };
}
  where
    other : (b : Answer) → WithLex1 file next [] b → b ≡ a
    other b x = elim x [
      | inl y ↦ absurd (laws.apart file offset y.0 y.1 y.2 none)
      | inr z ↦ z.2 ∙ ap not_lex1 (laws.one file z.0 offset z.1 none) ∙ sym e
    ]

-- ---- demos

-- the answer for the one input that is generated
pub demonstrated : EachInputIsGeneratedOnce → (decoder : Kind) (seed size : ℕ) (file : List ℕ) (a : Answer) → AreBytes file → IsGenerated decoder seed size file → IsOnly (RunsTo shown by_blocks (handed []) (demo_program decoder) (demo_input decoder file)) a → IsOnly (Demonstrates decoder seed size) a
demonstrated laws decoder seed size file a bytes generated h = record {
  is = (file, bytes, generated, h.is);
  only = λ b x. h.only b (subst (λ f. RunsTo shown by_blocks (handed []) (demo_program decoder) (demo_input decoder f) b) (laws.one decoder seed size x.0 file x.1 bytes x.2 generated) x.3);
}
