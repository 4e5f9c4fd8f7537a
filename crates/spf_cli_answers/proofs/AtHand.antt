-- The steps of a run over bytes at hand.
use Rattle.std.proofs.Common.{◌≡◌, inl, inr, ◌∙◌, ℕ, List, [], arith, refl, sym, ap, subst, append-nil}
use Rattle.std.specs.Prelude.{Result, Err}
use Rattle.spf_ast.specs.Syntax.{Program}
use Rattle.spf_cli_answers.specs.Answer.{Answer, ran}
use Rattle.spf_cli_answers.specs.Answering.{seen_answer, IsReadExit, IsRuleExit, IsRefusedRun, AnswersWith, IsRunToItsEnd, IsLeftUnrun, IsAnswerToError}
use Rattle.spf_cli_answers.specs.Reading.{TextVerdict, Says, Refuses, TextRefusal, IsTextVerdict}
use Rattle.spf_exec_instance.specs.declared.layout.RunError.{RunError}
use Rattle.spf_exec_instance.specs.declared.layout.RunError.TheVariants as run_error
use Rattle.spf_exec_instance.specs.declared.layout.RunError.TheVariants.{TooManyCells}
use Rattle.spf_check.specs.Accepting.{IsAccepted}
use Rattle.spf_cli_answers.specs.Laws.{RuleLaws}
use Rattle.spf_cli_answers.specs.Logs.{IsTextExit}
use Rattle.spf_cli_words.specs.Only.{IsOnly}
use Rattle.spf_cli_answers.specs.Course.{Wanted, Course, Ends}
use Rattle.spf_cli_answers.specs.Whole.{Read, CheckedBy}
use Rattle.spf_cli_answers.specs.declared.answer.Answer as made
use Rattle.spf_cli_answers.specs.declared.answer.Exit.{Exit}
use Rattle.spf_cli_answers.specs.declared.answer.Exit.TheVariants.{Answered, NoMemory}
use Rattle.spf_guess_statistics.specs.Guess.{Hosts}
use Rattle.spf_guess_statistics.specs.Statistics.{tally}
use Rattle.spf_guess.specs.Answers.{WereTold}
use Rattle.spf_engine.specs.declared.error.EngineError.{EngineError}
use Rattle.spf_engine.specs.declared.error.EngineError.TheVariants as engine_error
use Rattle.spf_engine.specs.Errors.{WereToldNothing}
use Rattle.spf_engine.specs.Runs.{WereToldFirst}
use Rattle.spf_ast.specs.Program.{Outcome, Done, Stopped}
use Rattle.spf_guess_statistics.specs.declared.stats.Stats.{Stats}
use Rattle.spf_cli_words.specs.Command.{Options}
use Rattle.spf_cli_answers.proofs.Steps.{only_unread, read_says, only_accepted, only_refused, answers_with}

-- the text is refused
text_left : (text : List ℕ) (next : Program → Course) (left : Exit) → IsReadExit text left → AnswersWith (IsOnly (Read text next [])) (Err left)
text_left text next (Answered a) h = only_unread text next (seen_answer a) h.0 h.1 h.2
text_left text next NoMemory h = tt

-- the rules refuse the program
rules_left : RuleLaws → (text : List ℕ) (p : Program) (next : Program → Course) (left : Exit) → IsOnly (IsTextVerdict text) (Says p) → IsRuleExit p left
    → AnswersWith (IsOnly (Read text (λ q. CheckedBy q (next q)) [])) (Err left)
rules_left laws text p next (Answered a) v h =
    read_says text p (λ q. CheckedBy q (next q)) (seen_answer a) [] v (only_refused laws p (next p) (seen_answer a) h.0 h.1 h.2 h.3 h.4)
rules_left laws text p next NoMemory v h = tt

-- the text says no program that the rules accept
pub unaccepted_left : RuleLaws → (text : List ℕ) (next : Program → Course) (left : Exit) → IsTextExit text left
    → AnswersWith (IsOnly (Read text (λ q. CheckedBy q (next q)) [])) (Err left)
unaccepted_left laws text next left h = elim h [
  | inl x ↦ text_left text (λ q. CheckedBy q (next q)) left x
  | inr x ↦ rules_left laws text x.0 next left x.1 x.2
]

-- the program is run
pub text_run : RuleLaws → (text : List ℕ) (p : Program) (next : Program → Wanted) (r : Result made.Answer Exit) → IsOnly (IsTextVerdict text) (Says p)
    → IsAccepted p → AnswersWith (IsOnly (next p)) r → AnswersWith (IsOnly (Read text (λ q. CheckedBy q (Ends (next q))) [])) r
text_run laws text p next r v accepted h =
    answers_with (IsOnly (Read text (λ q. CheckedBy q (Ends (next q))) [])) (IsOnly (next p)) r h
    (λ a o. read_says text p (λ q. CheckedBy q (Ends (next q))) a [] v (only_accepted laws p (Ends (next p)) a [] accepted o))

-- ---- what hosts are told

-- they were told nothing
pub told_nothing : (hosts : Hosts) (p : Program) (input : List ℕ) → WereToldFirst hosts p input hosts
told_nothing hosts p input = record {
  telling = [];
  more = (tally hosts p input).telling;
  all = refl;
  told = λ host pairs block. refl;
}

-- they were told all
pub told_all : (hosts : Hosts) (p : Program) (input : List ℕ) (now : Hosts) → WereTold hosts (tally hosts p input).telling now → WereToldFirst hosts p input now
told_all hosts p input now t = record {
  telling = (tally hosts p input).telling;
  more = [];
  all = append-nil (tally hosts p input).telling;
  told = t;
}

-- what hosts were told, of the same program and input
pub told_along : (hosts now : Hosts) (q p : Program) (other input : List ℕ) → q ≡ p → other ≡ input
    → WereTold hosts (tally hosts q other).telling now → WereTold hosts (tally hosts p input).telling now
told_along hosts now q p other input same content t =
    subst (λ x. WereTold hosts (tally hosts p x).telling now) content (subst (λ x. WereTold hosts (tally hosts x other).telling now) same t)

-- ---- what a text says

-- the program of a verdict, or this one
the_program : Program → TextVerdict → Program
the_program other (Says p) = p
the_program other (Refuses refusal) = other

abbrev IsRefused : TextVerdict → Type 0
IsRefused (Says p) = ⊥
IsRefused (Refuses refusal) = Unit {0}

-- a text that says one program says no other
pub says_one : (text : List ℕ) (q p : Program) → IsOnly (IsTextVerdict text) (Says q) → IsTextVerdict text (Says p) → q ≡ p
unfolding the_program
says_one text q p only v = ap (the_program q) (sym (only.only (Says p) v))

-- and it isn't refused
pub says_no_refusal : {A : Type 0} (text : List ℕ) (q : Program) (refusal : TextRefusal) → IsOnly (IsTextVerdict text) (Says q) → IsTextVerdict text (Refuses refusal) → A
says_no_refusal text q refusal only v = absurd (subst IsRefused (only.only (Refuses refusal) v) tt)

-- what the hosts were told of the program that the text says, they were told of each that it says
pub told_first_of : (text : List ℕ) (q : Program) (hosts now : Hosts) (input : List ℕ) → IsOnly (IsTextVerdict text) (Says q)
    → WereToldFirst hosts q input now → (p : Program) → IsTextVerdict text (Says p) → WereToldFirst hosts p input now
told_first_of text q hosts now input only t p v = subst (λ x. WereToldFirst hosts x input now) (says_one text q p only v) t

pub told_of : (text : List ℕ) (q : Program) (hosts now : Hosts) (input : List ℕ) (r : Result made.Answer Exit) → IsOnly (IsTextVerdict text) (Says q)
    → AnswersWith (λ a. IsRunToItsEnd a → WereTold hosts (tally hosts q input).telling now) r
    → AnswersWith (λ a. (p : Program) → IsTextVerdict text (Says p) → IsRunToItsEnd a → WereTold hosts (tally hosts p input).telling now) r
told_of text q hosts now input r only t =
    answers_with (λ a. (p : Program) → IsTextVerdict text (Says p) → IsRunToItsEnd a → WereTold hosts (tally hosts p input).telling now)
    (λ a. IsRunToItsEnd a → WereTold hosts (tally hosts q input).telling now) r t
    (λ a f p v e. subst (λ x. WereTold hosts (tally hosts x input).telling now) (says_one text q p only v) (f e))

-- ---- programs that weren't run

-- an answer of another status
pub other_status : {A : Type 0} (n m : ℕ) (answer said : Answer) → answer ≡ said → said.status ≡ m → (n ≡ m → ⊥) → answer.status ≡ n → A
other_status n m answer said e is differs s = absurd (differs (sym s ∙ ap (λ (a : Answer). a.status) e ∙ is))

-- a run to its end or its trap isn't answered with the status of a limit
pub ran_status : {A : Type 0} (options : Options) (p : Program) (len : ℕ) (o : Outcome) (stats : Stats) (answer : Answer) → answer ≡ ran options p len o stats → answer.status ≡ 7 → A
ran_status options p len (Done cells output) stats answer e s = other_status 7 0 answer _ e refl (λ z. omega (arith, z)) s
ran_status options p len (Stopped trap output) stats answer e s = other_status 7 1 answer _ e refl (λ z. omega (arith, z)) s

-- a program that wasn't run, since it has too many cells, wasn't run to its end
pub unrun_told : (P : Type 0) (p : Program) (error : RunError) (left : Exit) → IsRefusedRun p error left → AnswersWith (λ a. IsRunToItsEnd a → P) (Err left)
unrun_told P p (TooManyCells count) (Answered a) h = λ ended. elim ended [
  | inl e ↦ absurd (omega (arith, e, ap (λ (b : Answer). b.status) h))
  | inr e ↦ absurd (omega (arith, e, ap (λ (b : Answer). b.status) h))
]
unrun_told P p run_error.OutOfMemory (Answered a) h = absurd h
unrun_told P p error NoMemory h = tt

-- a run that didn't reach its end isn't answered as one that did
pub unfinished_told : (P : Type 0) (p : Program) (error : EngineError) (r : Result made.Answer Exit) → AnswersWith (IsAnswerToError p error) r → AnswersWith (λ a. IsRunToItsEnd a → P) r
unfinished_told P p error r h = answers_with (λ a. IsRunToItsEnd a → P) (IsAnswerToError p error) r h (λ a why. go error a why)
  where
    go : (error : EngineError) (a : Answer) → IsAnswerToError p error a → IsRunToItsEnd a → P
    go (engine_error.TooManyCells count) a why ended = elim ended [
      | inl e ↦ absurd (omega (arith, e, ap (λ (b : Answer). b.status) why))
      | inr e ↦ absurd (omega (arith, e, ap (λ (b : Answer). b.status) why))
    ]
    go (engine_error.NoHost host) a why ended = elim ended [
      | inl e ↦ absurd (omega (arith, e, ap (λ (b : Answer). b.status) why))
      | inr e ↦ absurd (omega (arith, e, ap (λ (b : Answer). b.status) why))
    ]
    go engine_error.OutOfMemory a why ended = absurd why

-- hosts were told nothing where a limit left the program unrun
pub unfinished_untold : (before now : Hosts) (p : Program) (error : EngineError) (r : Result made.Answer Exit) → AnswersWith (IsAnswerToError p error) r → WereToldNothing error before now
    → AnswersWith (λ a. IsLeftUnrun a → WereTold before [] now) r
unfinished_untold before now p error r h untold = answers_with (λ a. IsLeftUnrun a → WereTold before [] now) (IsAnswerToError p error) r h (λ a why left. go error a why untold)
  where
    go : (error : EngineError) (a : Answer) → IsAnswerToError p error a → WereToldNothing error before now → WereTold before [] now
    go (engine_error.TooManyCells count) a why untold = untold
    go (engine_error.NoHost host) a why untold = untold
    go engine_error.OutOfMemory a why untold = absurd why
