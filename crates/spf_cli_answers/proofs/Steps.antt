-- The steps to the one answer.
use Rattle.std.proofs.lemmas.Bool.{cases_lt}
use Rattle.std.proofs.Common.{◌≡◌, ◌<◌, ◌≤◌, ℕ, Bool, true, false, List, [], ◌∷◌, length, refl, sym, ap, ◌∙◌, arith, inl, inr, nat_le, subst}
use Rattle.std.specs.Prelude.{Option, Some, None, Result, Ok, Err, IfOk}
use Rattle.spf_ast.specs.declared.syntax.Program as code_program
use Rattle.spf_ast.specs.View.{program}
use Rattle.spf_ast.specs.Syntax.{Program}
use Rattle.spf_ast.specs.Program.{cell_count_of, max_cells, outcome, Outcome}
use Rattle.spf_region.specs.declared.range.Range.{Range}
use Rattle.spf_check.specs.declared.rule.Rule.{Rule}
use Rattle.spf_check.specs.declared.rule.CheckError.{CheckError}
use Rattle.spf_check.specs.declared.rule.CheckError.TheVariants as check_error
use Rattle.spf_check.specs.Accepting.{IsAccepted, IsFirstRefusal}
use Rattle.spf_check.specs.Checking.{IsChecked}
use Rattle.spf_check.specs.Explaining.{Explains}
use Rattle.spf_guess_statistics.specs.declared.stats.Stats.{Stats}
use Rattle.spf_engine.specs.declared.error.EngineError.{EngineError}
use Rattle.spf_engine.specs.declared.error.EngineError.TheVariants as engine_error
use Rattle.spf_engine.specs.Errors.{AreTooMany, IsMissing}
use Rattle.spf_exec_instance.specs.RunErrors.{counted}
use Rattle.spf_edge.specs.declared.files.FetchError.{FetchError}
use Rattle.spf_edge.specs.declared.files.FetchError.TheVariants.{Missing, Failed, TooLong, OutOfMemory}
use Rattle.spf_edge.specs.Fetches.{FilesState, Fetch, AreMade}
use Rattle.spf_edge.proofs.Fetched.{made_none, made_both}
use Rattle.spf_cli_words.specs.Command.{Command, Options, Asks}
use Rattle.spf_cli_words.specs.Only.{IsOnly}
use Rattle.spf_cli_answers.specs.Answer.{Answer, not_understood, text_refused, rule_refused, explained, file_failed, file_too_long, host_missing, too_many_cells}
use Rattle.spf_cli_answers.specs.Answering.{seen_answer, IsFetchExit, IsReadExit, IsRuleExit, IsNotAccepted, IsFollowed, AnswersWith, IsAnswerToError}
use Rattle.spf_cli_answers.specs.Course.{Wanted, Is, Either, Course, Ends, Unfetched, Fetches}
use Rattle.spf_cli_answers.specs.Reading.{Says, Refuses, IsTextVerdict, TextRefusal}
use Rattle.spf_cli_answers.specs.Laws.{RuleLaws}
use Rattle.spf_cli_answers.specs.Whole.{Handed, WithText, Read, CheckedBy, Allowed, Explained, WithHosts, Started, host_wanted, RunsTo, stats_of, WholeOf, AskForNothing, Whole}
use Rattle.spf_cli_answers.specs.declared.answer.Answer as made
use Rattle.spf_cli_answers.specs.declared.answer.Exit.{Exit}
use Rattle.spf_cli_answers.specs.declared.answer.Exit.TheVariants.{Answered, NoMemory}

-- ---- the one answer

-- this answer is the only one that is this
pub only_this : (said : Answer) → IsOnly (Is said) said
only_this said = record { is = refl; only = λ b e. e }

-- the same, by another name
pub only_same : (a said : Answer) → a ≡ said → IsOnly (Is said) a
only_same a said e = subst (IsOnly (Is said)) (sym e) (only_this said)

-- what holds for an answer holds for the same one
pub at_same : (P : Answer → Type 0) (a said : Answer) → a ≡ said → P said → P a
at_same P a said e h = subst P (sym e) h

-- by a test that passes
either_first : (A B : Wanted) (b : Bool) (a : Answer) → b ≡ true → IsOnly A a → IsOnly (Either b A B) a
either_first A B true a e h = h
either_first A B false a e h = cc

-- what holds for an answer that stands holds for what follows from it
pub answers_with : (P Q : Answer → Type 0) (r : Result made.Answer Exit) → AnswersWith Q r → ((a : Answer) → Q a → P a) → AnswersWith P r
answers_with P Q (Ok a) h f = f (seen_answer a) h
answers_with P Q (Err (Answered a)) h f = f (seen_answer a) h
answers_with P Q (Err NoMemory) h f = tt

-- the same of an answer that is Ok
pub if_ok : {A E : Type 0} (r : Result A E) (P Q : A → Type 0) → ((a : A) → P a → Q a) → IfOk r P → IfOk r Q
if_ok (Ok a) P Q f h = f a h
if_ok (Err e) P Q f h = tt

-- ---- runs

-- cells that aren't too many
fits : (cells limit : ℕ) → (limit < cells → ⊥) → nat_le cells limit ≡ true
fits cells limit few = go cells limit few
  where
    go : (a b : ℕ) → (b < a → ⊥) → nat_le a b ≡ true
    go a b few = grind (arith, few)

-- a number within the limit isn't above it
pub not_above : (cells limit : ℕ) → cells ≤ limit → limit < cells → ⊥
not_above cells limit fits over = omega (arith, fits, over)

-- where no host is missing, and where one is
with_hosts : (wanted : Option ℕ) (next : Wanted) (a : Answer) → wanted ≡ None → IsOnly next a → IsOnly (WithHosts wanted next) a
with_hosts wanted next a none h = subst (λ w. IsOnly (WithHosts w next) a) (sym none) h

without_hosts : (wanted : Option ℕ) (host : ℕ) (next : Wanted) → wanted ≡ Some host → IsOnly (WithHosts wanted next) (host_missing host)
without_hosts wanted host next some = subst (λ w. IsOnly (WithHosts w next) (host_missing host)) (sym some) (only_this (host_missing host))

-- a program can be run, whose cells aren't too many and whose hosts are supplied
pub started_done : (missing : Option ℕ) (p : Program) (input : List ℕ) (next : Wanted) (a : Answer) → (max_cells p < cell_count_of p (length input) → ⊥) → missing ≡ None
    → IsOnly next a → IsOnly (Started missing p input next) a
started_done missing p input next a few none only =
    either_first _ _ (nat_le (cell_count_of p (length input)) (max_cells p)) a (fits (cell_count_of p (length input)) (max_cells p) few) (with_hosts missing next a none only)

-- it can't, since a host is missing
pub started_without_host : (missing : Option ℕ) (p : Program) (input : List ℕ) (next : Wanted) (host : ℕ) (a : Answer) → (max_cells p < cell_count_of p (length input) → ⊥) → missing ≡ Some host
    → a ≡ host_missing host → IsOnly (Started missing p input next) a
started_without_host missing p input next host a few some e =
    subst (IsOnly (Started missing p input next)) (sym e)
    (either_first _ _ (nat_le (cell_count_of p (length input)) (max_cells p)) (host_missing host) (fits (cell_count_of p (length input)) (max_cells p) few)
    (without_hosts missing host next some))

-- by a test that fails
either_second : (A B : Wanted) (b : Bool) (a : Answer) → b ≡ false → IsOnly B a → IsOnly (Either b A B) a
either_second A B true a e h = cc
either_second A B false a e h = h

exceeds : (cells limit : ℕ) → limit < cells → nat_le cells limit ≡ false
exceeds cells limit over = go cells limit over
  where
    go : (a b : ℕ) → b < a → nat_le a b ≡ false
    go a b over = grind (arith, over)

-- it can't, since it has too many cells
pub started_too_large : (missing : Option ℕ) (p : Program) (input : List ℕ) (next : Wanted) (a : Answer) → max_cells p < cell_count_of p (length input)
    → a ≡ too_many_cells (counted (cell_count_of p (length input))) (max_cells p) → IsOnly (Started missing p input next) a
started_too_large missing p input next a over e =
    let line = too_many_cells (counted (cell_count_of p (length input))) (max_cells p) in
    subst (IsOnly (Started missing p input next)) (sym e)
    (either_second (WithHosts missing next) (Is line) (nat_le (cell_count_of p (length input)) (max_cells p)) line (exceeds (cell_count_of p (length input)) (max_cells p) over) (only_this line))

-- the one answer says why
pub started_left : (missing : Option ℕ) (p : Program) (input : List ℕ) (next : Wanted) (error : EngineError) (a : Answer)
    → (max_cells p < cell_count_of p (length input) → AreTooMany (cell_count_of p (length input)) error)
    → (cell_count_of p (length input) ≤ max_cells p → IsMissing missing error)
    → IsAnswerToError p error a → IsOnly (Started missing p input next) a
started_left missing p input next error a many none why = elim (cases_lt (max_cells p) (cell_count_of p (length input))) [
  | inl over ↦ too_large error over (many over) why
  | inr fits ↦ without_host error fits (none fits) why
]
  where
    too_large : (error : EngineError) → max_cells p < cell_count_of p (length input) → AreTooMany (cell_count_of p (length input)) error → IsAnswerToError p error a
        → IsOnly (Started missing p input next) a
    too_large (engine_error.TooManyCells count) over is why = started_too_large missing p input next a over (why ∙ ap (λ n. too_many_cells n (max_cells p)) is)
    too_large (engine_error.NoHost host) over is why = absurd is
    too_large engine_error.OutOfMemory over is why = absurd why

    without_host : (error : EngineError) → cell_count_of p (length input) ≤ max_cells p → IsMissing missing error → IsAnswerToError p error a
        → IsOnly (Started missing p input next) a
    without_host (engine_error.TooManyCells count) fits is why = absurd is
    without_host (engine_error.NoHost host) fits is why = started_without_host missing p input next host a (λ over. omega (arith, fits, over)) is why
    without_host engine_error.OutOfMemory fits is why = absurd why

-- a program was run
pub run_done : (said : Outcome → Stats → Answer) (options : Options) (given : Handed) (p : Program) (input : List ℕ) (a : Answer) → (max_cells p < cell_count_of p (length input) → ⊥) → host_wanted options given p ≡ None
    → a ≡ said (outcome p input) (stats_of options given p input) → IsOnly (RunsTo said options given p input) a
run_done said options given p input a few none e =
    let done = said (outcome p input) (stats_of options given p input) in
    started_done (host_wanted options given p) p input (Is done) a few none (only_same a done e)

-- it wasn't run to its end
pub unfinished : (said : Outcome → Stats → Answer) (options : Options) (given : Handed) (p : Program) (input : List ℕ) (error : EngineError) (a : Answer)
    → (max_cells p < cell_count_of p (length input) → AreTooMany (cell_count_of p (length input)) error)
    → (cell_count_of p (length input) ≤ max_cells p → IsMissing (host_wanted options given p) error)
    → IsAnswerToError p error a → IsOnly (RunsTo said options given p input) a
unfinished said options given p input error a many missing why =
    started_left (host_wanted options given p) p input (Is (said (outcome p input) (stats_of options given p input))) error a many missing why

-- ---- courses

-- a course that allows whatever another one allows was followed where that one was
pub followed_as : (P Q : Course) (old new : FilesState) (a : Answer) → ((fetches : List Fetch) → IsOnly (P fetches) a → IsOnly (Q fetches) a) → IsFollowed P old new a → IsFollowed Q old new a
followed_as P Q old new a f h = record { fetches = h.fetches; made = h.made; only = f h.fetches h.only }

-- the same of an answer that stands
pub answers_as : (P Q : Course) (old new : FilesState) (r : Result made.Answer Exit) → ((a : Answer) (fetches : List Fetch) → IsOnly (P fetches) a → IsOnly (Q fetches) a)
    → AnswersWith (IsFollowed P old new) r → AnswersWith (IsFollowed Q old new) r
answers_as P Q old new r f h = answers_with (IsFollowed Q old new) (IsFollowed P old new) r h (λ a. followed_as P Q old new a (f a))

-- nothing more is fetched
pub followed_end : (wanted : Wanted) (state : FilesState) (a : Answer) → IsOnly wanted a → IsFollowed (Ends wanted) state state a
followed_end wanted state a h = record { fetches = []; made = made_none state; only = h }

pub answers_end : (wanted : Wanted) (state : FilesState) (r : Result made.Answer Exit) → AnswersWith (IsOnly wanted) r → AnswersWith (IsFollowed (Ends wanted) state state) r
answers_end wanted state r h = answers_with (IsFollowed (Ends wanted) state state) (IsOnly wanted) r h (followed_end wanted state)

-- the one answer to a course that fetches nothing
pub answers_here : (course : Course) (state : FilesState) (r : Result made.Answer Exit) → AnswersWith (IsOnly (course [])) r → AnswersWith (IsFollowed course state state) r
answers_here course state r h =
    answers_with (IsFollowed course state state) (IsOnly (course [])) r h (λ a only. record { fetches = []; made = made_none state; only = only })

-- a file was fetched, and its content led on
pub followed_fetch : (name : List ℕ) (limit : ℕ) (next : List ℕ → Course) (content : List ℕ) (old mid new : FilesState) (a : Answer)
    → AreMade old mid (record { name = name; limit = limit; gave = Ok content } ∷ []) → IsFollowed (next content) mid new a → IsFollowed (Fetches name limit next) old new a
followed_fetch name limit next content old mid new a fetched h = record {
  fetches = record { name = name; limit = limit; gave = Ok content } ∷ h.fetches;
  made = made_both old mid new (record { name = name; limit = limit; gave = Ok content } ∷ []) h.fetches fetched h.made;
  only = record { is = (refl, refl, h.only.is); only = λ b x. h.only.only b x.2 };
}

pub answers_fetch : (name : List ℕ) (limit : ℕ) (next : List ℕ → Course) (content : List ℕ) (old mid new : FilesState) (r : Result made.Answer Exit)
    → AreMade old mid (record { name = name; limit = limit; gave = Ok content } ∷ []) → AnswersWith (IsFollowed (next content) mid new) r → AnswersWith (IsFollowed (Fetches name limit next) old new) r
answers_fetch name limit next content old mid new r fetched h =
    answers_with (IsFollowed (Fetches name limit next) old new) (IsFollowed (next content) mid new) r h (λ a. followed_fetch name limit next content old mid new a fetched)

-- a fetch gave no content
only_unfetched : (name : List ℕ) (limit : ℕ) (error : FetchError) (a : Answer) → Unfetched name limit error a → IsOnly (Unfetched name limit error) a
only_unfetched name limit Missing a e = only_same a (file_failed name) e
only_unfetched name limit Failed a e = only_same a (file_failed name) e
only_unfetched name limit TooLong a e = only_same a (file_too_long name limit) e
only_unfetched name limit OutOfMemory a e = absurd e

pub fetch_left : (name : List ℕ) (limit : ℕ) (next : List ℕ → Course) (old new : FilesState) (left : Exit) → IsFetchExit old new name limit left → AnswersWith (IsFollowed (Fetches name limit next) old new) (Err left)
fetch_left name limit next old new (Answered a) h =
    let only = only_unfetched name limit h.0 (seen_answer a) h.2 in
    record {
      fetches = record { name = name; limit = limit; gave = Err h.0 } ∷ [];
      made = h.1;
      only = record { is = (refl, refl, only.is); only = λ b x. only.only b x.2 };
    }
fetch_left name limit next old new NoMemory h = tt

-- ---- texts

-- with a text that says a program
pub read_says : (text : List ℕ) (p : Program) (next : Program → Course) (a : Answer) (fetches : List Fetch) → IsOnly (IsTextVerdict text) (Says p) → IsOnly (next p fetches) a → IsOnly (Read text next fetches) a
read_says text p next a fetches v h = record {
  is = (Says p, v.is, h.is);
  only = λ b r. h.only b (subst (λ w. WithText w next fetches b) (v.only r.0 r.1) r.2);
}

pub answers_read : (text : List ℕ) (p : Program) (next : Program → Course) (old new : FilesState) (r : Result made.Answer Exit) → IsOnly (IsTextVerdict text) (Says p) → AnswersWith (IsFollowed (next p) old new) r → AnswersWith (IsFollowed (Read text next) old new) r
answers_read text p next old new r v h = answers_as (next p) (Read text next) old new r (λ a fetches. read_says text p next a fetches v) h

-- with a text that is refused
pub only_unread : (text : List ℕ) (next : Program → Course) (a : Answer) (refusal : TextRefusal) → IsOnly (IsTextVerdict text) (Refuses refusal) → a ≡ text_refused refusal → IsOnly (Read text next []) a
only_unread text next a refusal v e = record {
  is = (Refuses refusal, v.is, e);
  only = λ b r. subst (λ w. WithText w next [] b) (v.only r.0 r.1) r.2 ∙ sym e;
}

pub read_left : (text : List ℕ) (next : Program → Course) (state : FilesState) (left : Exit) → IsReadExit text left → AnswersWith (IsFollowed (Read text next) state state) (Err left)
read_left text next state (Answered a) h = record { fetches = []; made = made_none state; only = only_unread text next (seen_answer a) h.0 h.1 h.2 }
read_left text next state NoMemory h = tt

-- ---- the rules

-- a program that is accepted
pub only_accepted : RuleLaws → (p : Program) (next : Course) (a : Answer) (fetches : List Fetch) → IsAccepted p → IsOnly (next fetches) a → IsOnly (CheckedBy p next fetches) a
only_accepted laws p next a fetches accepted h = record { is = inl (accepted, h.is); only = λ b x. other b x }
  where
    other : (b : Answer) → CheckedBy p next fetches b → b ≡ a
    other b x = elim x [
      | inl y ↦ h.only b y.1
      | inr z ↦ absurd (laws.refused p z.0 z.1 z.2 z.3 accepted)
    ]

pub answers_accepted : RuleLaws → (p : Program) (next : Course) (old new : FilesState) (r : Result made.Answer Exit) → IsAccepted p → AnswersWith (IsFollowed next old new) r → AnswersWith (IsFollowed (CheckedBy p next) old new) r
answers_accepted laws p next old new r accepted h = answers_as next (CheckedBy p next) old new r (λ a fetches. only_accepted laws p next a fetches accepted) h

-- a program that is refused
pub only_refused : RuleLaws → (p : Program) (next : Course) (a : Answer) (rule : Rule) (line : ℕ) (range : Option Range) → IsFirstRefusal p rule line range → a ≡ rule_refused p rule line range → IsOnly (CheckedBy p next []) a
only_refused laws p next a rule line range r e = record { is = inr (rule, line, range, r, e); only = λ b x. other b x ∙ sym e }
  where
    other : (b : Answer) → CheckedBy p next [] b → b ≡ rule_refused p rule line range
    other b x = elim x [
      | inl y ↦ absurd (laws.refused p rule line range r y.0)
      | inr z ↦
          let same = laws.one p z.0 rule z.1 line z.2 range z.3 r in
          z.4 ∙ (λ i. rule_refused p (same.0 i) (same.1 i) (same.2 i))
    ]

pub rule_left : RuleLaws → (p : Program) (next : Course) (state : FilesState) (left : Exit) → IsRuleExit p left → AnswersWith (IsFollowed (CheckedBy p next) state state) (Err left)
rule_left laws p next state (Answered a) h = record {
  fetches = [];
  made = made_none state;
  only = only_refused laws p next (seen_answer a) h.0 h.1 h.2 h.3 h.4;
}
rule_left laws p next state NoMemory h = tt

-- a program that may be run
pub answers_allowed : (plain : Bool) (p : Program) (next : Course) (old new : FilesState) (r : Result made.Answer Exit) → plain ≡ true → AnswersWith (IsFollowed next old new) r → AnswersWith (IsFollowed (Allowed plain p next) old new) r
answers_allowed plain p next old new r e h = subst (λ b. AnswersWith (IsFollowed (Allowed b p next) old new) r) (sym e) h

pub answers_checked : (plain : Bool) (p : Program) (next : Course) (old new : FilesState) (r : Result made.Answer Exit) → plain ≡ false → AnswersWith (IsFollowed (CheckedBy p next) old new) r → AnswersWith (IsFollowed (Allowed plain p next) old new) r
answers_checked plain p next old new r e h = subst (λ b. AnswersWith (IsFollowed (Allowed b p next) old new) r) (sym e) h

-- what is said of a program that isn't accepted is its first refusal
pub refusal_left : (p : code_program.Program) (checked : Result code_program.Program CheckError) (error : CheckError) (left : Exit) → checked ≡ Err error → IsChecked p checked → IsNotAccepted error left → IsRuleExit (program p) left
refusal_left p checked (check_error.Refused back refusal) (Answered a) e c n =
    let said = subst (IsChecked p) e c in
    (refusal.rule, refusal.line, refusal.range, said.2, n ∙ ap (λ q. rule_refused (program q) refusal.rule refusal.line refusal.range) said.0)
refusal_left p checked (check_error.OutOfMemory back) (Answered a) e c n = absurd n
refusal_left p checked error NoMemory e c n = tt

-- a program that is explained
pub explained_so : RuleLaws → (p : Program) (text : List ℕ) (a : Answer) → Explains p text → a ≡ explained text → IsOnly (Explained p) a
explained_so laws p text a x e = record {
  is = (text, x, e);
  only = λ b y. y.2 ∙ ap explained (laws.explanation p y.0 text y.1 x) ∙ sym e;
}

-- ---- words

-- words that ask for a command are answered as that is
pub asked_words : (given : Handed) (words : List (List ℕ)) (command : Command) (old new : FilesState) (a : Answer) → IsOnly (Asks words) command → IsFollowed (WholeOf given command) old new a → IsFollowed (Whole given words) old new a
asked_words given words command old new a asks h =
    followed_as (WholeOf given command) (Whole given words) old new a (λ fetches w. record { is = inl (command, asks.is, w.is); only = λ b x. other fetches w b x }) h
  where
    other : (fetches : List Fetch) → IsOnly (WholeOf given command fetches) a → (b : Answer) → Whole given words fetches b → b ≡ a
    other fetches w b x = elim x [
      | inl y ↦ w.only b (subst (λ c. WholeOf given c fetches b) (asks.only y.0 y.1) y.2)
      | inr z ↦ absurd (z.0 command asks.is)
    ]

-- words that ask for none
pub no_command : (given : Handed) (words : List (List ℕ)) (state : FilesState) (a : Answer) → AskForNothing words → a ≡ not_understood → IsFollowed (Whole given words) state state a
no_command given words state a none e = record {
  fetches = [];
  made = made_none state;
  only = record { is = inr (none, e); only = λ b x. other b x };
}
  where
    other : (b : Answer) → Whole given words [] b → b ≡ a
    other b x = elim x [
      | inl y ↦ absurd (none y.0 y.1)
      | inr z ↦ z.1 ∙ sym e
    ]
