-- What was answered, from what was put.
use Rattle.std.specs.Prelude.{Option, Some, None, Result, Ok, Err}
use Rattle.std.specs.List.{AllByRecursion}
use Rattle.std.proofs.Common.{◌≡◌, ◌⊎◌, ℕ, List, [], ◌∷◌, refl, sym, ◌∙◌, ◌++◌, append_assoc, arith, inl, inr, subst}
use Rattle.spf_edge.specs.declared.sink.PutError.{PutError}
use Rattle.spf_edge.specs.declared.sink.PutError.TheVariants as put_error
use Rattle.spf_edge.specs.Entries.{Entry, IsMissing}
use Rattle.spf_edge.specs.Faults.{Rose}
use Rattle.spf_edge.specs.Fetches.{FilesState, Fetch, Gives, IsGiven, AreMade}
use Rattle.spf_cli_words.specs.Only.{IsOnly}
use Rattle.spf_cli_answers.specs.Answer.{Answer}
use Rattle.spf_cli_answers.specs.Answering.{IsFollowed}
use Rattle.spf_cli_answers.specs.Course.{Wanted, Course}
use Rattle.spf_cli_answers.specs.Replying.{LeadsTo}
use Rattle.spf_edge.proofs.Fetched.{made_both}
use Rattle.spf_cli_answers.specs.Laws.{HasFailed, StatusesHaveCauses}
use Rattle.spf_cli_answers.specs.Whole.{Handed, AskForNothing, Whole}
use Rattle.spf_cli.specs.Answered.{Sinks, IsGiven as IsAnswerGiven, IsGivenInPart, IsBroken, IsUntouched, IsPut, IsAnswered}
use Rattle.spf_edge_pieces.specs.Pieces.{AreCutEach, AreTaken, AreTakenInPart, IsPutInPieces, IsPutFault}
use Rattle.spf_edge_pieces.proofs.Parts.{cut-one, none-taken}
use Rattle.spf_cli.specs.Putting.{put_status}

-- an answer was given, with its status by another name
pub was_given : (answer : Answer) (status given : ℕ) (s : Sinks) → given ≡ status → IsAnswerGiven answer status s → IsAnswerGiven answer given s
was_given answer status given s same h = subst (λ n. IsAnswerGiven answer n s) (sym same) h

-- a put that failed has its cause
pub was_broken : (status : ℕ) (s : Sinks) (error : PutError) → IsPutFault (Rose s.out_before.faults s.out_now.faults ⊎ Rose s.err_before.faults s.err_now.faults) error → status ≡ put_status error → IsBroken status s
was_broken status s put_error.Failed h e = inr (e, h)
was_broken status s put_error.OutOfMemory h e = inl e

-- the answer that is wanted was put
pub put_whole : (wanted : Wanted) (answer : Answer) (status given : ℕ) (s : Sinks) → IsOnly wanted answer → given ≡ status → IsAnswerGiven answer status s → IsPut wanted given s
put_whole wanted answer status given s only same h = (answer, only, inl (was_given answer status given s same h))

pub put_part : (wanted : Wanted) (answer : Answer) (given : ℕ) (s : Sinks) (error : PutError) → IsOnly wanted answer → IsGivenInPart answer s
    → IsPutFault (Rose s.out_before.faults s.out_now.faults ⊎ Rose s.err_before.faults s.err_now.faults) error → given ≡ put_status error → IsPut wanted given s
put_part wanted answer given s error only part fault same = (answer, only, inr (part, was_broken given s error fault same))

-- the course was followed, and its answer was put
pub answered_by : (course : Course) (old new : FilesState) (answer : Answer) (status : ℕ) (s : Sinks) → (followed : IsFollowed course old new answer) → (IsOnly (course followed.fetches) answer → IsPut (course followed.fetches) status s) → IsAnswered course old new status s
answered_by course old new answer status s followed put = inl (followed.fetches, followed.made, put followed.only)

-- ---- causes

-- what a status that is neither of a put nor of memory says of the answer
by_status : {A : Type 0} (given : Handed) (words : List (List ℕ)) (old new : FilesState) (status : ℕ) (s : Sinks) → IsAnswered (Whole given words) old new status s
    → (status ≡ 6 → A) → (status ≡ 8 → A)
    → ((fetches : List Fetch) (answer : Answer) → AreMade old new fetches → Whole given words fetches answer → status ≡ answer.status → A) → A
by_status given words old new status s h put memory whole =
    elim h [
      | inl x ↦ elim x.2.2 [
        | inl g ↦ whole x.0 x.2.0 x.1 x.2.1.is g.status_is
        | inr part ↦ elim part.1 [
          | inl eight ↦ memory eight
          | inr six ↦ put six.0
        ]
      ]
      | inr r ↦ elim r [
        | inl u ↦ memory u.0
        | inr b ↦ elim b.broken [
          | inl eight ↦ memory eight
          | inr six ↦ put six.0
        ]
      ]
    ]

pub words_cause : StatusesHaveCauses → (given : Handed) (words : List (List ℕ)) (old new : FilesState) (status : ℕ) (s : Sinks) → IsAnswered (Whole given words) old new status s → status ≡ 2 → AskForNothing words
words_cause laws given words old new status s h two =
    by_status given words old new status s h (λ six. absurd (omega (arith, two, six))) (λ eight. absurd (omega (arith, two, eight)))
    (λ fetches answer made whole is. laws.words given words fetches answer whole (sym is ∙ two))

-- a fetch failed because of a fault, or since the files are told
failed_cause : (told : Option (List Entry)) (Fault : Type 0) (fetches : List Fetch) → AllByRecursion (IsGiven told Fault) fetches → HasFailed fetches → Fault ⊎ ((files : List Entry) × (told ≡ Some files))
failed_cause told Fault [] given failed = absurd failed
failed_cause told Fault (fetch ∷ fetches) given failed =
    elim failed [
      | inl missing ↦ inr (told_of told (subst (Gives told Fault fetch.name fetch.limit) missing given.0))
      | inr other ↦ elim other [
        | inl fault ↦ inl (subst (Gives told Fault fetch.name fetch.limit) fault given.0)
        | inr later ↦ failed_cause told Fault fetches given.1 later
      ]
    ]
  where
    told_of : (o : Option (List Entry)) → IsMissing o fetch.name → (files : List Entry) × (o ≡ Some files)
    told_of None h = absurd h
    told_of (Some files) h = (files, refl)

pub file_cause : StatusesHaveCauses → (given : Handed) (words : List (List ℕ)) (old new : FilesState) (status : ℕ) (s : Sinks) → IsAnswered (Whole given words) old new status s → status ≡ 5
    → Rose old.faults new.faults ⊎ ((files : List Entry) × (old.told ≡ Some files))
file_cause laws given words old new status s h five =
    by_status given words old new status s h (λ six. absurd (omega (arith, five, six))) (λ eight. absurd (omega (arith, five, eight)))
    (λ fetches answer made whole is. failed_cause old.told (Rose old.faults new.faults) fetches made.given (laws.file given words fetches answer whole (sym is ∙ five)))

pub sink_cause : StatusesHaveCauses → (given : Handed) (words : List (List ℕ)) (old new : FilesState) (status : ℕ) (s : Sinks) → IsAnswered (Whole given words) old new status s → status ≡ 6
    → Rose s.out_before.faults s.out_now.faults ⊎ Rose s.err_before.faults s.err_now.faults
sink_cause laws given words old new status s h six =
    elim h [
      | inl x ↦ elim x.2.2 [
        | inl g ↦ absurd (laws.put given words x.0 x.2.0 x.2.1.is (sym g.status_is ∙ six))
        | inr part ↦ elim part.1 [
          | inl eight ↦ absurd (omega (arith, six, eight))
          | inr fault ↦ fault.1
        ]
      ]
      | inr r ↦ elim r [
        | inl u ↦ let eight = u.0 in absurd (omega (arith, six, eight))
        | inr b ↦ elim b.broken [
          | inl eight ↦ absurd (omega (arith, six, eight))
          | inr fault ↦ fault.1
        ]
      ]
    ]

-- what is left of a course after some fetches was answered, and so the course was
pub answered_rest : (course rest : Course) (old mid new : FilesState) (status : ℕ) (s : Sinks) → LeadsTo course rest old mid → IsAnswered rest mid new status s → IsAnswered course old new status s
answered_rest course rest old mid new status s l h =
    elim h [
      | inl x ↦ inl (
        l.fetches ++ x.0,
        made_both old mid new l.fetches x.0 l.made x.1,
        (x.2.0, record { is = l.on x.0 x.2.0 x.2.1.is; only = λ b y. x.2.1.only b (l.back x.0 b y) }, x.2.2),
      )
      | inr r ↦ elim r [
        | inl u ↦ inr (inl u)
        | inr b ↦ inr (inr (record {
          fetches = l.fetches ++ b.fetches;
          last = b.last;
          made = subst (λ fs. AreMade old new fs) (sym (append_assoc l.fetches b.fetches b.last)) (made_both old mid new l.fetches (b.fetches ++ b.last) l.made b.made);
          short = b.short;
          goes_on = (
            b.goes_on.0,
            b.goes_on.1,
            subst (λ fs. course fs b.goes_on.1) (sym (append_assoc l.fetches b.fetches b.goes_on.0)) (l.on (b.fetches ++ b.goes_on.0) b.goes_on.1 b.goes_on.2),
          );
          part = λ more a y. b.part more a (l.back (b.fetches ++ more) a (subst (λ fs. course fs a) (append_assoc l.fetches b.fetches more) y));
          broken = b.broken;
        }))
      ]
    ]

-- the same of a run over bytes at hand, whose answer never has that status
pub hand_cause : (wanted : Wanted) → ((answer : Answer) → wanted answer → answer.status ≡ 6 → ⊥) → (status : ℕ) (s : Sinks) → IsPut wanted status s ⊎ IsUntouched status s → status ≡ 6
    → Rose s.out_before.faults s.out_now.faults ⊎ Rose s.err_before.faults s.err_now.faults
hand_cause wanted never status s h six =
    elim h [
      | inl x ↦ elim x.2 [
        | inl g ↦ absurd (never x.0 x.1.is (sym g.status_is ∙ six))
        | inr part ↦ elim part.1 [
          | inl eight ↦ absurd (omega (arith, six, eight))
          | inr fault ↦ fault.1
        ]
      ]
      | inr u ↦ let eight = u.0 in absurd (omega (arith, six, eight))
    ]

-- ---- answers with one text

-- the first pieces of the text were put, and no line
pub text_part : (a : Answer) (text : List ℕ) (r : Result (Unit {0}) PutError) (s : Sinks) → a.out ≡ text ∷ [] → IsPutInPieces text r s.out_before s.out_now → s.err_now ≡ s.err_before → IsGivenInPart a s
text_part a text r s is put same = record {
  texts = text ∷ [];
  later = [];
  out_is = is;
  pieces = put.pieces;
  cut = cut-one text put.pieces put.cut;
  out_took = put.part;
  err_took = none-taken a.err s.err_before s.err_now same;
  lines_wait = inr same;
}

-- the text was put, and the first of the lines
pub lines_part : (a : Answer) (text : List ℕ) (s : Sinks) → a.out ≡ text ∷ [] → IsPutInPieces text (Ok tt) s.out_before s.out_now → AreTakenInPart a.err s.err_before s.err_now → IsGivenInPart a s
lines_part a text s is put lines = record {
  texts = text ∷ [];
  later = [];
  out_is = is;
  pieces = put.pieces;
  cut = cut-one text put.pieces put.cut;
  out_took = put.part;
  err_took = lines;
  lines_wait = inl (refl, put.whole);
}

-- both were put
pub text_whole : (a : Answer) (text : List ℕ) (s : Sinks) → a.out ≡ text ∷ [] → IsPutInPieces text (Ok tt) s.out_before s.out_now → AreTaken a.err s.err_before s.err_now → IsAnswerGiven a a.status s
text_whole a text s is put lines = record {
  status_is = refl;
  pieces = put.pieces;
  cut = subst (λ texts. AreCutEach texts put.pieces) (sym is) (cut-one text put.pieces put.cut);
  out_took = put.whole;
  err_took = lines;
}

-- a fault of the error stream is one of a sink
pub line_fault : (A B : Type 0) (error : PutError) → IsPutFault B error → IsPutFault (A ⊎ B) error
line_fault A B put_error.Failed h = inr h
line_fault A B put_error.OutOfMemory h = tt
