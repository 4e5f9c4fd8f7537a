-- The steps to a batch that can begin.
use Rattle.std.specs.Prelude.{Some, None, Result, Ok, Err, IfOk, IfErr}
use Rattle.std.proofs.Common.{◌≡◌, ℕ, List, [], ◌∷◌, ◌++◌, append_assoc, map, string_bytes, refl, sym, ap, ◌∙◌, subst, inl, inr}
use Rattle.spf_ast.specs.Syntax.{Program}
use Rattle.spf_ast.specs.Construct.{constructs_in}
use Rattle.spf_check.specs.Accepting.{IsAccepted}
use Rattle.spf_guess.specs.Missing.{missing_host}
use Rattle.spf_edge.specs.declared.files.FetchError.{FetchError}
use Rattle.spf_edge.specs.Fetches.{FilesState, Fetch, AreMade}
use Rattle.spf_edge.proofs.Fetched.{made_none, made_both}
use Rattle.spf_batch_lists.specs.Lists.{AreNames}
use Rattle.spf_batch_lists.specs.Laws.{ListsHaveOneVerdict}
use Rattle.spf_ast.specs.View.{program}
use Rattle.spf_cli_words.specs.Command.{Command, Asks}
use Rattle.spf_cli_words.specs.Only.{IsOnly}
use Rattle.spf_cli_answers.specs.Answer.{Answer, host_missing, not_a_name}
use Rattle.spf_cli_answers.specs.Answering.{seen_answer, IsFollowed, AnswersWith}
use Rattle.spf_cli_answers.specs.Batched.{RunsFiles}
use Rattle.spf_cli_answers.specs.Course.{Wanted, Is, Course, FetchesOr, Fetches}
use Rattle.spf_cli_answers.specs.Laws.{RuleLaws}
use Rattle.spf_cli_answers.specs.Reading.{Says, IsTextVerdict}
use Rattle.spf_cli_answers.specs.Replying.{LeadsTo, CanRunFiles, CanBegin, IsHostExit, IsNoList, IsListExit, IsReply, RepliesWith, reply_of, batch_reply_of}
use Rattle.spf_cli_answers.specs.Whole.{Handed, WithText, Read, CheckedBy, WithNames, Batches, WholeOf, Whole, max_list}
use Rattle.spf_cli_answers.specs.declared.answer.Answer as made
use Rattle.spf_cli_answers.specs.declared.batch.Batch as made_batch
use Rattle.spf_cli_answers.specs.declared.reply.Reply.{Reply}
use Rattle.spf_cli_answers.specs.declared.reply.Reply.TheVariants as reply
use Rattle.spf_cli_answers.specs.declared.answer.Exit.{Exit}
use Rattle.spf_cli_answers.specs.declared.answer.Exit.TheVariants.{Answered, NoMemory}
use Rattle.spf_cli_answers.proofs.Steps.{answers_with, answers_fetch, fetch_left, followed_end, only_same, asked_words}

-- ---- from a course to its rest

-- no host is missing, and the files are what is left
pub ready : (given : Handed) (p : Program) (names : List (List ℕ)) (state : FilesState) → missing_host given.count (constructs_in p.main) ≡ None
    → CanRunFiles given (Batches given p names (missing_host given.count (constructs_in p.main))) p names state state
ready given p names state none = record {
  complete = none;
  leads = subst (λ m. LeadsTo (Batches given p names m) (RunsFiles given.hosts p [] names) state state) (sym none) (record {
    fetches = [];
    made = made_none state;
    on = λ more a h. h;
    back = λ more a h. h;
  });
}

-- what leads on from the course that is left of this one after these fetches leads on from this one
pub ready_by : (given : Handed) (course next : Course) (p : Program) (names : List (List ℕ)) (old mid new : FilesState) (fetches : List Fetch) → AreMade old mid fetches
    → ((more : List Fetch) (a : Answer) → next more a → course (fetches ++ more) a) → ((more : List Fetch) (a : Answer) → course (fetches ++ more) a → next more a)
    → CanRunFiles given next p names mid new → CanRunFiles given course p names old new
ready_by given course next p names old mid new fetches made on back r = record {
  complete = r.complete;
  leads = record {
    fetches = fetches ++ r.leads.fetches;
    made = made_both old mid new fetches r.leads.fetches made r.leads.made;
    on = λ more a h. subst (λ all. course all a) (sym (append_assoc fetches r.leads.fetches more)) (on (r.leads.fetches ++ more) a (r.leads.on more a h));
    back = λ more a h. r.leads.back more a (back (r.leads.fetches ++ more) a (subst (λ all. course all a) (append_assoc fetches r.leads.fetches more) h));
  };
}

-- what leads on from what is left of a course leads on from the course
pub ready_on : (given : Handed) (course next : Course) (p : Program) (names : List (List ℕ)) (old mid new : FilesState) → LeadsTo course next old mid
    → CanRunFiles given next p names mid new → CanRunFiles given course p names old new
ready_on given course next p names old mid new l r = ready_by given course next p names old mid new l.fetches l.made l.on l.back r

pub ready_fetch : (given : Handed) (left : FetchError → Wanted) (name : List ℕ) (limit : ℕ) (next : List ℕ → Course) (content : List ℕ) (p : Program) (names : List (List ℕ)) (old mid new : FilesState)
    → AreMade old mid (record { name = name; limit = limit; gave = Ok content } ∷ []) → CanRunFiles given (next content) p names mid new → CanRunFiles given (FetchesOr left name limit next) p names old new
ready_fetch given left name limit next content p names old mid new made =
    ready_by given (FetchesOr left name limit next) (next content) p names old mid new (record { name = name; limit = limit; gave = Ok content } ∷ []) made
    (λ more a h. (refl, refl, h)) (λ more a h. h.2)

pub ready_read : (given : Handed) (text : List ℕ) (q : Program) (next : Program → Course) (p : Program) (names : List (List ℕ)) (old new : FilesState)
    → IsOnly (IsTextVerdict text) (Says q) → CanRunFiles given (next q) p names old new → CanRunFiles given (Read text next) p names old new
ready_read given text q next p names old new v =
    ready_by given (Read text next) (next q) p names old old new [] (made_none old)
    (λ more a h. (Says q, v.is, h)) (λ more a h. subst (λ w. WithText w next more a) (v.only h.0 h.1) h.2)

pub ready_accepted : RuleLaws → (given : Handed) (q : Program) (next : Course) (p : Program) (names : List (List ℕ)) (old new : FilesState)
    → IsAccepted q → CanRunFiles given next p names old new → CanRunFiles given (CheckedBy q next) p names old new
ready_accepted laws given q next p names old new accepted =
    ready_by given (CheckedBy q next) next p names old old new [] (made_none old) (λ more a h. inl (accepted, h)) (λ more a h. back more a h)
  where
    back : (more : List Fetch) (a : Answer) → CheckedBy q next more a → next more a
    back more a h = elim h [
      | inl x ↦ x.1
      | inr x ↦ absurd (laws.refused q x.0 x.1 x.2 x.3 accepted)
    ]

pub ready_names : ListsHaveOneVerdict → (given : Handed) (list : List ℕ) (found : List (List ℕ)) (next : List (List ℕ) → Course) (p : Program) (names : List (List ℕ)) (old new : FilesState)
    → AreNames list found → CanRunFiles given (next found) p names old new → CanRunFiles given (WithNames list next) p names old new
ready_names laws given list found next p names old new are =
    ready_by given (WithNames list next) (next found) p names old old new [] (made_none old) (λ more a h. inl (found, are, h)) (λ more a h. back more a h)
  where
    back : (more : List Fetch) (a : Answer) → WithNames list next more a → next found more a
    back more a h = elim h [
      | inl x ↦ subst (λ ns. next ns more a) (laws.names list x.0 found x.1 are) x.2
      | inr x ↦ absurd (laws.apart list found x.0 are x.1)
    ]

-- ---- where a batch can't begin

-- a text isn't a list of names
names_left : ListsHaveOneVerdict → (bytes : List ℕ) (next : List (List ℕ) → Course) (state : FilesState) (left : Exit) → IsListExit bytes left → AnswersWith (IsFollowed (WithNames bytes next) state state) (Err left)
names_left laws bytes next state (Answered a) h = record {
  fetches = [];
  made = made_none state;
  only = record { is = inr (h.0, h.1, h.2); only = λ b x. other b x };
}
  where
    other : (b : Answer) → WithNames bytes next [] b → b ≡ seen_answer a
    other b x = elim x [
      | inl y ↦ absurd (laws.apart bytes y.0 h.0 y.1 h.1)
      | inr z ↦ z.2 ∙ ap not_a_name (laws.one bytes z.0 h.0 z.1 h.1) ∙ sym h.2
    ]
names_left laws bytes next state NoMemory h = tt

-- a list can't be fetched, or isn't one
pub list_left : ListsHaveOneVerdict → (list : List ℕ) (next : List (List ℕ) → Course) (old new : FilesState) (left : Exit) → IsNoList old new list left
    → AnswersWith (IsFollowed (Fetches list max_list (λ bytes. WithNames bytes next)) old new) (Err left)
list_left laws list next old new (Answered a) h =
    elim h [
      | inl x ↦ fetch_left list max_list (λ bytes. WithNames bytes next) old new (Answered a) x
      | inr x ↦ answers_fetch list max_list (λ bytes. WithNames bytes next) x.0 old new new (Err (Answered a)) x.1 (names_left laws x.0 next new (Answered a) x.2)
    ]
list_left laws list next old new NoMemory h = tt

-- a list is names, and a host is missing
pub host_left : (given : Handed) (p : Program) (names : List (List ℕ)) (host : ℕ) (state : FilesState) (a : Answer) → missing_host given.count (constructs_in p.main) ≡ Some host
    → a ≡ host_missing host → IsFollowed (Batches given p names (missing_host given.count (constructs_in p.main))) state state a
host_left given p names host state a some e =
    subst (λ m. IsFollowed (Batches given p names m) state state a) (sym some) (followed_end (Is (host_missing host)) state a (only_same a (host_missing host) e))

-- a host is missing, and there is the answer to that
pub hosts_left : (given : Handed) (p : Program) (names : List (List ℕ)) (state : FilesState) (left : Exit) → IsHostExit (missing_host given.count (constructs_in p.main)) left
    → AnswersWith (IsFollowed (Batches given p names (missing_host given.count (constructs_in p.main))) state state) (Err left)
hosts_left given p names state (Answered a) h = host_left given p names h.0 state (seen_answer a) h.1 h.2
hosts_left given p names state NoMemory h = tt

-- a list that is names leads on
pub followed_names : ListsHaveOneVerdict → (list : List ℕ) (names : List (List ℕ)) (next : List (List ℕ) → Course) (old new : FilesState) (a : Answer) → AreNames list names → IsFollowed (next names) old new a → IsFollowed (WithNames list next) old new a
followed_names laws list names next old new a are h = record { fetches = h.fetches; made = h.made; only = record { is = inl (names, are, h.only.is); only = λ b x. other b x } }
  where
    other : (b : Answer) → WithNames list next h.fetches b → b ≡ a
    other b x = elim x [
      | inl y ↦ h.only.only b (subst (λ ns. next ns h.fetches b) (laws.names list y.0 names y.1 are) y.2)
      | inr z ↦ absurd (laws.apart list names z.0 are z.1)
    ]

pub answers_names : ListsHaveOneVerdict → (list : List ℕ) (names : List (List ℕ)) (next : List (List ℕ) → Course) (old new : FilesState) (r : Result made.Answer Exit) → AreNames list names → AnswersWith (IsFollowed (next names) old new) r → AnswersWith (IsFollowed (WithNames list next) old new) r
answers_names laws list names next old new r are h = answers_with (IsFollowed (WithNames list next) old new) (IsFollowed (next names) old new) r h (λ a. followed_names laws list names next old new a are)

-- ---- replies

-- a reply that is an answer
pub replied_so : (given : Handed) (course : Course) (old new : FilesState) (answer : Result made.Answer Exit) (r : Result Reply Exit) → r ≡ reply_of answer → AnswersWith (IsFollowed course old new) answer → RepliesWith given course old new r
replied_so given course old new answer r e h = subst (RepliesWith given course old new) (sym e) (by answer h)
  where
    by : (x : Result made.Answer Exit) → AnswersWith (IsFollowed course old new) x → RepliesWith given course old new (reply_of x)
    by (Ok a) h = h
    by (Err left) h = h

-- a reply that is a batch
pub begun_so : (given : Handed) (course : Course) (old new : FilesState) (batch : Result made_batch.Batch Exit) (r : Result Reply Exit) → r ≡ batch_reply_of batch
    → IfOk batch (CanBegin given course old new) → IfErr batch (λ left. AnswersWith (IsFollowed course old new) (Err left)) → RepliesWith given course old new r
begun_so given course old new batch r e ready left = subst (RepliesWith given course old new) (sym e) (by batch ready left)
  where
    by : (x : Result made_batch.Batch Exit) → IfOk x (CanBegin given course old new) → IfErr x (λ left. AnswersWith (IsFollowed course old new) (Err left))
        → RepliesWith given course old new (batch_reply_of x)
    by (Ok b) ready left = ready
    by (Err exit) ready left = left

-- words that ask for a command lead to what that leads to
pub asked_reply : (given : Handed) (words : List (List ℕ)) (command : Command) (old new : FilesState) (r : Reply) → IsOnly (Asks words) command → IsReply given (WholeOf given command) old new r → IsReply given (Whole given words) old new r
asked_reply given words command old new (reply.Answer a) asks h = asked_words given words command old new (seen_answer a) asks h
asked_reply given words command old new (reply.Batch b) asks h =
    ready_by given (Whole given words) (WholeOf given command) (program b.checked) (map string_bytes b.names.items) old old new [] (made_none old)
    (λ more a x. inl (command, asks.is, x)) (λ more a x. back more a x) h
  where
    back : (more : List Fetch) (a : Answer) → Whole given words more a → WholeOf given command more a
    back more a x = elim x [
      | inl y ↦ subst (λ k. WholeOf given k more a) (asks.only y.0 y.1) y.2
      | inr z ↦ absurd (z.0 command asks.is)
    ]
