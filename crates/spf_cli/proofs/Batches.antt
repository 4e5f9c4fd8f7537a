-- Batches, whose answers are put as they come.
use Rattle.std.specs.Prelude.{Option, Some, None, Result, Ok, Err, IfOk, IfErr, slice_get}
use Rattle.std.specs.List.{All}
use Rattle.std.proofs.Common.{◌≡◌, ◌⊎◌, ◌≤◌, ◌<◌, ℕ, suc, Bool, true, false, List, [], ◌∷◌, ◌++◌, length, map, nat_le, refl, sym, ap, ◌∙◌, append_assoc, arith, inl, inr, subst}
use Rattle.std.proofs.lemmas.List.{append-nil, map-append, length-map}
use Rattle.spf_ast.specs.Syntax.{Program}
use Rattle.spf_ast.specs.Program.{cell_count_of, max_cells}
use Rattle.spf_exec_instance.specs.RunErrors.{counted}
use Rattle.spf_guess_statistics.specs.Guess.{Hosts}
use Rattle.spf_edge.specs.declared.files.FetchError.{FetchError}
use Rattle.spf_edge.specs.declared.files.FetchError.TheVariants as fetch_error
use Rattle.spf_edge.specs.Entries.{Entry}
use Rattle.spf_edge.specs.Faults.{Rose}
use Rattle.spf_edge.specs.Fetches.{FilesState, Fetch as FetchMade, AreMade}
use Rattle.spf_edge.specs.Puts.{SinkState}
use Rattle.spf_edge.proofs.Fetched.{made_both}
use Rattle.spf_edge_pieces.specs.Pieces.{AreCutEach, AreTaken, AreTakenInPart}
use Rattle.spf_edge_pieces.proofs.Parts.{part-of-whole, taken-part, none-taken, cut-both, cut-one}
use Rattle.spf_batch.specs.Batch.{file_answer, batch_tally}
use Rattle.spf_batch.specs.World.{World, fetch_giving, fetch_of_file, HasFewCells, ArePut, IsPutInPart}
use Rattle.spf_batch.specs.One.{HasRunInPart, IsCutShort}
use Rattle.spf_batch.specs.Many.{names_of, IsDone, IsStoppedAt, IsStopped}
use Rattle.spf_batch.specs.declared.batch.Totals.{Totals}
use Rattle.spf_batch.specs.declared.error.BatchError.{BatchError}
use Rattle.spf_batch.specs.declared.error.BatchError.TheVariants.{Fetch, TooLong, TooManyCells, NoHost, Put, OutOfMemory}
use Rattle.spf_cli_words.specs.Only.{IsOnly}
use Rattle.spf_cli_answers.specs.Message.{failed_line, long_line, too_many_line, files_line}
use Rattle.spf_cli_answers.specs.Answer.{Answer}
use Rattle.spf_cli_answers.specs.Batched.{batch_answer, batch_done, FileUnfetched, RunsFile, RunsFiles}
use Rattle.spf_cli_answers.specs.Course.{Wanted, Is, Course, Ends, Chosen, After}
use Rattle.spf_cli_answers.specs.Ending.{EndsWith, BreaksWith, NamesOneOf}
use Rattle.spf_batch.specs.Batch.{max_input}
use Rattle.spf_cli.specs.Answered.{Sinks, sinks, IsGivenInPart, IsBroken, IsBrokenOff, IsAnswered}

-- ---- tests

small : (n limit : ℕ) → n ≤ limit → nat_le n limit ≡ true
small n limit h = grind (arith, h)

large : (n limit : ℕ) → limit < n → nat_le n limit ≡ false
large n limit h = grind (arith, h)

first_on : (b : Bool) (first second : Course) (fetches : List FetchMade) (a : Answer) → b ≡ true → first fetches a → Chosen b first second fetches a
first_on true first second fetches a e h = h
first_on false first second fetches a e h = cc

first_back : (b : Bool) (first second : Course) (fetches : List FetchMade) (a : Answer) → b ≡ true → Chosen b first second fetches a → first fetches a
first_back true first second fetches a e h = h
first_back false first second fetches a e h = cc

second_on : (b : Bool) (first second : Course) (fetches : List FetchMade) (a : Answer) → b ≡ false → second fetches a → Chosen b first second fetches a
second_on true first second fetches a e h = cc
second_on false first second fetches a e h = h

second_back : (b : Bool) (first second : Course) (fetches : List FetchMade) (a : Answer) → b ≡ false → Chosen b first second fetches a → second fetches a
second_back true first second fetches a e h = cc
second_back false first second fetches a e h = h

-- ---- files that were run

-- how many cells a run on the file has, and whether these are few
abbrev cells_of : Program → Entry → ℕ
cells_of p file = cell_count_of p (length file.content)

abbrev is_small : Program → Entry → Bool
is_small p file = nat_le (cells_of p file) (max_cells p)

-- the answer where the file has too many cells
abbrev too_large : Program → List Entry → Entry → Answer
too_large p files file = batch_answer p files 7 (too_many_line (counted (cells_of p file)) (max_cells p))

file_on : (hosts : Hosts) (p : Program) (done : List Entry) (file : Entry) (names : List (List ℕ)) (fetches : List FetchMade) (a : Answer) → HasFewCells p file
    → RunsFiles hosts p (done ++ file ∷ []) names fetches a → RunsFiles hosts p done (file.name ∷ names) (fetch_of_file file ∷ fetches) a
file_on hosts p done file names fetches a few h = (
  refl,
  refl,
  first_on (is_small p file) (RunsFiles hosts p (done ++ file ∷ []) names) (Ends (Is (too_large p done file))) fetches a (small (cells_of p file) (max_cells p) few) h,
)

file_back : (hosts : Hosts) (p : Program) (done : List Entry) (file : Entry) (names : List (List ℕ)) (fetches : List FetchMade) (a : Answer) → HasFewCells p file
    → RunsFiles hosts p done (file.name ∷ names) (fetch_of_file file ∷ fetches) a → RunsFiles hosts p (done ++ file ∷ []) names fetches a
file_back hosts p done file names fetches a few h =
    first_back (is_small p file) (RunsFiles hosts p (done ++ file ∷ []) names) (Ends (Is (too_large p done file))) fetches a (small (cells_of p file) (max_cells p) few) h.2

others_of : (P : Entry → Type 0) (x : Entry) (xs : List Entry) → All P (x ∷ xs) → All P xs
others_of P x xs h k d l = h (suc k) d (omega arith)

files_on : (hosts : Hosts) (p : Program) (done files : List Entry) (names : List (List ℕ)) (more : List FetchMade) (a : Answer) → All (HasFewCells p) files
    → RunsFiles hosts p (done ++ files) names more a → RunsFiles hosts p done (names_of files ++ names) (map fetch_of_file files ++ more) a
files_on hosts p done [] names more a few h = subst (λ d. RunsFiles hosts p d names more a) (append-nil done) h
files_on hosts p done (file ∷ files) names more a few h =
    file_on hosts p done file (names_of files ++ names) (map fetch_of_file files ++ more) a (few 0 file (omega arith))
    (files_on hosts p (done ++ file ∷ []) files names more a (others_of (HasFewCells p) file files few)
    (subst (λ d. RunsFiles hosts p d names more a) (sym (append_assoc done (file ∷ []) files)) h))

files_back : (hosts : Hosts) (p : Program) (done files : List Entry) (names : List (List ℕ)) (more : List FetchMade) (a : Answer) → All (HasFewCells p) files
    → RunsFiles hosts p done (names_of files ++ names) (map fetch_of_file files ++ more) a → RunsFiles hosts p (done ++ files) names more a
files_back hosts p done [] names more a few h = subst (λ d. RunsFiles hosts p d names more a) (sym (append-nil done)) h
files_back hosts p done (file ∷ files) names more a few h =
    subst (λ d. RunsFiles hosts p d names more a) (append_assoc done (file ∷ []) files)
    (files_back hosts p (done ++ file ∷ []) files names more a (others_of (HasFewCells p) file files few)
    (file_back hosts p done file (names_of files ++ names) (map fetch_of_file files ++ more) a (few 0 file (omega arith)) h))

-- ---- answers begin with those of the files that were run

ends_is : (said : Answer) (fetches : List FetchMade) (a : Answer) → Ends (Is said) fetches a → a ≡ said
ends_is said [] a e = e
ends_is said (fetch ∷ fetches) a e = absurd e

abbrev BeginsWith : List (List ℕ) → Answer → Type 0
BeginsWith texts a = (later : List (List ℕ)) × (a.out ≡ texts ++ later)

no_more : (p : Program) (done : List Entry) (said a : Answer) → a ≡ said → said.out ≡ map (file_answer p) done → BeginsWith (map (file_answer p) done) a
no_more p done said a e is = ([], ap (λ (x : Answer). x.out) e ∙ is ∙ sym (append-nil (map (file_answer p) done)))

begins : (hosts : Hosts) (p : Program) (done : List Entry) (names : List (List ℕ)) (fetches : List FetchMade) (a : Answer) → RunsFiles hosts p done names fetches a → BeginsWith (map (file_answer p) done) a
begins hosts p done [] fetches a h = no_more p done (batch_done hosts p done) a (ends_is (batch_done hosts p done) fetches a h) refl
begins hosts p done (name ∷ names) [] a h = absurd h
begins hosts p done (name ∷ names) (fetch ∷ fetches) a h = by (λ file r. begins hosts p (done ++ file ∷ []) names fetches a r) fetch.gave h.2
  where
    with_content : ((file : Entry) → RunsFiles hosts p (done ++ file ∷ []) names fetches a → BeginsWith (map (file_answer p) (done ++ file ∷ [])) a) → (content : List ℕ) (b : Bool)
        → Chosen b (RunsFiles hosts p (done ++ record { name = name; content = content } ∷ []) names) (Ends (Is (too_large p done (record { name = name; content = content })))) fetches a
        → BeginsWith (map (file_answer p) done) a
    with_content later content true r =
        let file : Entry = record { name = name; content = content } in
        let one = later file r in (
          file_answer p file ∷ one.0,
          one.1 ∙ ap (λ t. t ++ one.0) (map-append (file_answer p) done (file ∷ [])) ∙ append_assoc (map (file_answer p) done) (file_answer p file ∷ []) one.0,
        )
    with_content later content false r =
        let file : Entry = record { name = name; content = content } in
        no_more p done (too_large p done file) a (ends_is (too_large p done file) fetches a r) refl

    without : (error : FetchError) → Ends (FileUnfetched p done name error) fetches a → BeginsWith (map (file_answer p) done) a
    without fetch_error.Missing r = no_more p done (batch_answer p done 5 (failed_line name)) a (ends_is (batch_answer p done 5 (failed_line name)) fetches a r) refl
    without fetch_error.Failed r = no_more p done (batch_answer p done 5 (failed_line name)) a (ends_is (batch_answer p done 5 (failed_line name)) fetches a r) refl
    without fetch_error.TooLong r = no_more p done (batch_answer p done 7 (long_line name max_input)) a (ends_is (batch_answer p done 7 (long_line name max_input)) fetches a r) refl
    without fetch_error.OutOfMemory r = none fetches r
      where
        none : (fs : List FetchMade) → Ends (λ answer. ⊥) fs a → BeginsWith (map (file_answer p) done) a
        none [] r = absurd r
        none (f ∷ fs) r = absurd r

    by : ((file : Entry) → RunsFiles hosts p (done ++ file ∷ []) names fetches a → BeginsWith (map (file_answer p) (done ++ file ∷ [])) a) → (gave : Result (List ℕ) FetchError)
        → After (FileUnfetched p done name) gave (λ content. RunsFile p done (record { name = name; content = content }) (λ more. RunsFiles hosts p more names)) fetches a
        → BeginsWith (map (file_answer p) done) a
    by later (Ok content) r = with_content later content (is_small p (record { name = name; content = content })) r
    by later (Err error) r = without error r

-- ---- a batch may always go on

abbrev CanGoOn : Course → Type 0
CanGoOn course = (more : List FetchMade) × (answer : Answer) × course more answer

some_way : (hosts : Hosts) (p : Program) (done : List Entry) (names : List (List ℕ)) → CanGoOn (RunsFiles hosts p done names)
some_way hosts p done [] = ([], batch_done hosts p done, refl)
some_way hosts p done (name ∷ names) = (fetch_giving name (Err fetch_error.Missing) ∷ [], batch_answer p done 5 (failed_line name), (refl, refl, refl))

some_after : (hosts : Hosts) (p : Program) (done : List Entry) (file : Entry) (names : List (List ℕ)) → CanGoOn (λ more. RunsFiles hosts p done (file.name ∷ names) (fetch_of_file file ∷ more))
some_after hosts p done file names = by (is_small p file) refl
  where
    by : (b : Bool) → is_small p file ≡ b → CanGoOn (λ more. RunsFiles hosts p done (file.name ∷ names) (fetch_of_file file ∷ more))
    by true e =
        let way = some_way hosts p (done ++ file ∷ []) names in
        (way.0, way.1, (refl, refl, first_on (is_small p file) (RunsFiles hosts p (done ++ file ∷ []) names) (Ends (Is (too_large p done file))) way.0 way.1 e way.2))
    by false e =
        ([], too_large p done file, (refl, refl, second_on (is_small p file) (RunsFiles hosts p (done ++ file ∷ []) names) (Ends (Is (too_large p done file))) [] (too_large p done file) e refl))

-- ---- answers that were put in part

-- the answers of some files were put, and no line
given_first : (a : Answer) (texts : List (List ℕ)) (s : Sinks) → BeginsWith texts a → ArePut texts s.out_before s.out_now → s.err_now ≡ s.err_before → IsGivenInPart a s
given_first a texts s begin put same = record {
  texts = texts;
  later = begin.0;
  out_is = begin.1;
  pieces = put.pieces;
  cut = put.cut;
  out_took = part-of-whole put.pieces s.out_before s.out_now put.taken;
  err_took = none-taken a.err s.err_before s.err_now same;
  lines_wait = inr same;
}

-- the answers of some files were put, and the first pieces of one more, and no line
given_part : (a : Answer) (texts : List (List ℕ)) (text : List ℕ) (between : SinkState) (s : Sinks) → BeginsWith (texts ++ text ∷ []) a
    → ArePut texts s.out_before between → IsPutInPart text between s.out_now → s.err_now ≡ s.err_before → IsGivenInPart a s
given_part a texts text between s begin put part same = record {
  texts = texts ++ text ∷ [];
  later = begin.0;
  out_is = begin.1;
  pieces = put.pieces ++ part.pieces;
  cut = cut-both texts (text ∷ []) put.pieces part.pieces put.cut (cut-one text part.pieces part.cut);
  out_took = taken-part put.pieces part.pieces s.out_before between s.out_now put.taken part.taken;
  err_took = none-taken a.err s.err_before s.err_now same;
  lines_wait = inr same;
}

-- ---- batches that ended

-- the one answer to what the fetches gave, whose texts were put, and the status and the lines of which are known
pub record HasEnded (p : Program) (names : List (List ℕ)) (came : Result Totals BatchError) (before now : World) : Type 0 where
  pub fetches : List FetchMade
  pub made : AreMade before.files now.files fetches
  pub answer : Answer
  pub only : IsOnly (RunsFiles before.hosts p [] names fetches) answer
  pub put : ArePut answer.out before.out now.out
  pub ends : (status : ℕ) (said : List (List ℕ)) → EndsWith p names came status said → (status ≡ answer.status) × (said ≡ answer.err)

done_ended : (p : Program) (names : List (List ℕ)) (before now : World) (totals : Totals) → IsDone p names before now totals → HasEnded p names (Ok totals) before now
done_ended p names before now totals d =
    let said = batch_done before.hosts p d.files in
    let course = λ (ns : List (List ℕ)) (fs : List FetchMade) (a : Answer). RunsFiles before.hosts p [] ns fs a in
    let there : names_of d.files ++ [] ≡ names = append-nil (names_of d.files) ∙ sym d.names_are in
    let made : map fetch_of_file d.files ++ [] ≡ map fetch_of_file d.files = append-nil (map fetch_of_file d.files) in
    record {
      fetches = map fetch_of_file d.files;
      made = d.run.fetched;
      answer = said;
      only = record {
        is = subst (λ ns. course ns (map fetch_of_file d.files) said) there
            (subst (λ fs. course (names_of d.files ++ []) fs said) made (files_on before.hosts p [] d.files [] [] said d.run.few refl));
        only = λ b h.
            files_back before.hosts p [] d.files [] [] b d.run.few
            (subst (λ fs. course (names_of d.files ++ []) fs b) (sym made) (subst (λ ns. course ns (map fetch_of_file d.files) b) (sym there) h));
      };
      put = d.run.put;
      ends = λ status said e. (e.0, e.1 ∙ (λ i. files_line (d.count_is i) (d.stats_are i) ∷ []));
    }

-- at the file after those that were run, one fetch gave the answer
ended_at : (p : Program) (names : List (List ℕ)) (before now : World) (error : BatchError) (st : IsStoppedAt p names before now error) (fetch : FetchMade) (said : Answer)
    → AreMade st.between.files now.files (fetch ∷ []) → IsOnly (RunsFiles before.hosts p st.files (st.name ∷ st.later) (fetch ∷ [])) said
    → said.out ≡ map (file_answer p) st.files → now.out ≡ st.between.out
    → ((status : ℕ) (lines : List (List ℕ)) → EndsWith p names (Err error) status lines → (status ≡ said.status) × (lines ≡ said.err)) → HasEnded p names (Err error) before now
ended_at p names before now error st fetch said made only out_is same ends =
    let course = λ (ns : List (List ℕ)) (a : Answer). RunsFiles before.hosts p [] ns (map fetch_of_file st.files ++ fetch ∷ []) a in
    record {
      fetches = map fetch_of_file st.files ++ fetch ∷ [];
      made = made_both before.files st.between.files now.files (map fetch_of_file st.files) (fetch ∷ []) st.run.fetched made;
      answer = said;
      only = record {
        is = subst (λ ns. course ns said) (sym st.names_are) (files_on before.hosts p [] st.files (st.name ∷ st.later) (fetch ∷ []) said st.run.few only.is);
        only = λ b h. only.only b (files_back before.hosts p [] st.files (st.name ∷ st.later) (fetch ∷ []) b st.run.few (subst (λ ns. course ns b) st.names_are h));
      };
      put = subst (λ texts. ArePut texts before.out now.out) (sym out_is) (subst (λ o. ArePut (map (file_answer p) st.files) before.out o) (sym same) st.run.put);
      ends = ends;
    }

-- the name at the index of the file
at_length : (front : List (List ℕ)) (x : List ℕ) (back : List (List ℕ)) → slice_get (front ++ x ∷ back) (length front) ≡ Some x
at_length [] x back = refl
at_length (y ∷ front) x back = at_length front x back

same_some : (x y : List ℕ) → Some x ≡ Some y → x ≡ y
same_some x y e = cc

pub named : (p : Program) (names : List (List ℕ)) (before now : World) (error : BatchError) (st : IsStoppedAt p names before now error) (place : ℕ) → place ≡ length st.files → slice_get names place ≡ Some st.name
named p names before now error st place e =
    (λ i. slice_get (st.names_are i) ((e ∙ sym (length-map st.files (λ (file : Entry). file.name))) i)) ∙ at_length (names_of st.files) st.name st.later

name_is : (p : Program) (names : List (List ℕ)) (before now : World) (error : BatchError) (st : IsStoppedAt p names before now error) (place : ℕ) (name : List ℕ) → place ≡ length st.files → slice_get names place ≡ Some name → name ≡ st.name
name_is p names before now error st place name e is = same_some name st.name (sym is ∙ named p names before now error st place e)

fetch_ended : (p : Program) (names : List (List ℕ)) (before now : World) (place : ℕ) → IsStoppedAt p names before now (Fetch place) → HasEnded p names (Err (Fetch place)) before now
fetch_ended p names before now place st =
    let said = batch_answer p st.files 5 (failed_line st.name) in
    let ends : (status : ℕ) (lines : List (List ℕ)) → EndsWith p names (Err (Fetch place)) status lines → (status ≡ said.status) × (lines ≡ said.err) = λ status lines e.
    (e.0, e.1.2 ∙ ap (λ n. failed_line n ∷ []) (name_is p names before now (Fetch place) st place e.1.0 st.stopped.0 e.1.1)) in
    elim st.stopped.2 [
      | inl missing ↦ ended_at p names before now (Fetch place) st (fetch_giving st.name (Err fetch_error.Missing)) said missing (record { is = (refl, refl, refl); only = λ b h. h.2 }) refl st.stopped.1.put ends
      | inr failed ↦ ended_at p names before now (Fetch place) st (fetch_giving st.name (Err fetch_error.Failed)) said failed (record { is = (refl, refl, refl); only = λ b h. h.2 }) refl st.stopped.1.put ends
    ]

long_ended : (p : Program) (names : List (List ℕ)) (before now : World) (place : ℕ) → IsStoppedAt p names before now (TooLong place) → HasEnded p names (Err (TooLong place)) before now
long_ended p names before now place st =
    let said = batch_answer p st.files 7 (long_line st.name max_input) in
    ended_at p names before now (TooLong place) st (fetch_giving st.name (Err fetch_error.TooLong)) said st.stopped.2 (record { is = (refl, refl, refl); only = λ b h. h.2 }) refl st.stopped.1.put
    (λ status lines e. (e.0, e.1.2 ∙ ap (λ n. long_line n max_input ∷ []) (name_is p names before now (TooLong place) st place e.1.0 st.stopped.0 e.1.1)))

many_ended : (p : Program) (names : List (List ℕ)) (before now : World) (place count : ℕ) → IsStoppedAt p names before now (TooManyCells place count) → HasEnded p names (Err (TooManyCells place count)) before now
many_ended p names before now place count st =
    let many = st.stopped.2 in
    let file : Entry = record { name = st.name; content = many.content } in
    let said = too_large p st.files file in
    let test = large (cells_of p file) (max_cells p) many.many in
    let next = RunsFiles before.hosts p (st.files ++ file ∷ []) st.later in
    ended_at p names before now (TooManyCells place count) st (fetch_of_file file) said many.fetched (record {
      is = (refl, refl, second_on (is_small p file) next (Ends (Is said)) [] said test refl);
      only = λ b h. second_back (is_small p file) next (Ends (Is said)) [] b test h.2;
    }) refl st.stopped.1.put
    (λ status lines e. (e.0, e.1 ∙ ap (λ n. too_many_line n (max_cells p) ∷ []) many.count_is))

-- ---- batches that were broken off

-- the sinks of a batch, where no line was put
abbrev quiet : SinkState → SinkState → SinkState → Sinks
quiet before now err = sinks before now err err

-- memory ran out for the next file
broken_fetch : (p : Program) (names : List (List ℕ)) (before now : World) (error : BatchError) (st : IsStoppedAt p names before now error) (err : SinkState)
    → AreMade st.between.files now.files (fetch_giving st.name (Err fetch_error.OutOfMemory) ∷ []) → now.out ≡ st.between.out
    → IsBrokenOff (RunsFiles before.hosts p [] names) before.files now.files 8 (quiet before.out now.out err)
broken_fetch p names before now error st err made same =
    let way = some_way before.hosts p st.files (st.name ∷ st.later) in
    let last = fetch_giving st.name (Err fetch_error.OutOfMemory) ∷ [] in
    subst (λ ns. IsBrokenOff (RunsFiles before.hosts p [] ns) before.files now.files 8 (quiet before.out now.out err)) (sym st.names_are) (record {
      fetches = map fetch_of_file st.files;
      last = last;
      made = made_both before.files st.between.files now.files (map fetch_of_file st.files) last st.run.fetched made;
      short = refl;
      goes_on = (way.0, way.1, files_on before.hosts p [] st.files (st.name ∷ st.later) way.0 way.1 st.run.few way.2);
      part = λ more a h.
          given_first a (map (file_answer p) st.files) (quiet before.out now.out err)
          (begins before.hosts p st.files (st.name ∷ st.later) more a (files_back before.hosts p [] st.files (st.name ∷ st.later) more a st.run.few h))
          (subst (λ o. ArePut (map (file_answer p) st.files) before.out o) (sym same) st.run.put) refl;
      broken = inl refl;
    })

-- the next file was fetched, and this is said of what was put
broken_file : (p : Program) (names : List (List ℕ)) (before now : World) (error : BatchError) (st : IsStoppedAt p names before now error) (content : List ℕ) (status : ℕ) (s : Sinks)
    → AreMade st.between.files now.files (fetch_giving st.name (Ok content) ∷ [])
    → ((more : List FetchMade) (a : Answer) → RunsFiles before.hosts p st.files (st.name ∷ st.later) (fetch_giving st.name (Ok content) ∷ more) a → IsGivenInPart a s)
    → IsBroken status s → IsBrokenOff (RunsFiles before.hosts p [] names) before.files now.files status s
broken_file p names before now error st content status s made part broken =
    let file : Entry = record { name = st.name; content = content } in
    let fetched = map fetch_of_file st.files ++ fetch_of_file file ∷ [] in
    let way = some_after before.hosts p st.files file st.later in
    let split = λ (more : List FetchMade). append_assoc (map fetch_of_file st.files) (fetch_of_file file ∷ []) more in
    let course = λ (fs : List FetchMade) (a : Answer). RunsFiles before.hosts p [] (names_of st.files ++ st.name ∷ st.later) fs a in
    subst (λ ns. IsBrokenOff (RunsFiles before.hosts p [] ns) before.files now.files status s) (sym st.names_are) (record {
      fetches = fetched;
      last = [];
      made = subst (λ fs. AreMade before.files now.files fs) (sym (append-nil fetched))
          (made_both before.files st.between.files now.files (map fetch_of_file st.files) (fetch_of_file file ∷ []) st.run.fetched made);
      short = tt;
      goes_on = (
        way.0,
        way.1,
        subst (λ fs. course fs way.1) (sym (split way.0)) (files_on before.hosts p [] st.files (st.name ∷ st.later) (fetch_of_file file ∷ way.0) way.1 st.run.few way.2),
      );
      part = λ more a h.
          part more a (files_back before.hosts p [] st.files (st.name ∷ st.later) (fetch_of_file file ∷ more) a st.run.few (subst (λ fs. course fs a) (split more) h));
      broken = broken;
    })

-- its answer was put in part
broken_put : (p : Program) (names : List (List ℕ)) (before now : World) (error : BatchError) (st : IsStoppedAt p names before now error) (content : List ℕ) (status : ℕ) (err : SinkState)
    → HasRunInPart p (record { name = st.name; content = content }) st.between now
    → IsBroken status (quiet before.out now.out err) → IsBrokenOff (RunsFiles before.hosts p [] names) before.files now.files status (quiet before.out now.out err)
broken_put p names before now error st content status err ran broken =
    let file : Entry = record { name = st.name; content = content } in
    broken_file p names before now error st content status (quiet before.out now.out err) ran.fetched
    (λ more a h.
    given_part a (map (file_answer p) st.files) (file_answer p file) st.between.out (quiet before.out now.out err)
    (subst (λ texts. BeginsWith texts a) (map-append (file_answer p) st.files (file ∷ []))
    (begins before.hosts p (st.files ++ file ∷ []) st.later more a (file_back before.hosts p st.files file st.later more a ran.few h)))
    st.run.put ran.put refl)
    broken

-- memory ran out before any of it was put
broken_short : (p : Program) (names : List (List ℕ)) (before now : World) (error : BatchError) (st : IsStoppedAt p names before now error) (err : SinkState) → IsCutShort p st.name st.between now
    → IsBrokenOff (RunsFiles before.hosts p [] names) before.files now.files 8 (quiet before.out now.out err)
broken_short p names before now error st err cut =
    broken_file p names before now error st cut.content 8 (quiet before.out now.out err) cut.fetched
    (λ more a h.
    given_first a (map (file_answer p) st.files) (quiet before.out now.out err)
    (begins before.hosts p st.files (st.name ∷ st.later) (fetch_giving st.name (Ok cut.content) ∷ more) a h)
    (subst (λ o. ArePut (map (file_answer p) st.files) before.out o) (sym cut.put) st.run.put) refl)
    (inl refl)

rose-later : (a b c : ℕ) → a ≤ b → Rose b c → Rose a c
rose-later a b c l rose = grind (arith, l, rose)

put_broken : (p : Program) (names : List (List ℕ)) (before now : World) (err : SinkState) → IsStoppedAt p names before now Put
    → IsBrokenOff (RunsFiles before.hosts p [] names) before.files now.files 6 (quiet before.out now.out err)
put_broken p names before now err st =
    broken_put p names before now Put st st.stopped.1.0 6 err st.stopped.1.1
    (inr (refl, inl (rose-later before.out.faults st.between.out.faults now.out.faults st.run.put.later st.stopped.0)))

memory_broken : (p : Program) (names : List (List ℕ)) (before now : World) (err : SinkState) → IsStoppedAt p names before now OutOfMemory
    → IsBrokenOff (RunsFiles before.hosts p [] names) before.files now.files 8 (quiet before.out now.out err)
memory_broken p names before now err st =
    elim st.stopped [
      | inl fetch ↦ broken_fetch p names before now OutOfMemory st err fetch.1 fetch.0.put
      | inr run ↦ elim run [
        | inl cut ↦ broken_short p names before now OutOfMemory st err cut
        | inr part ↦ broken_put p names before now OutOfMemory st part.0 8 err part.1 (inl refl)
      ]
    ]

-- ---- how a batch ended

-- a batch whose end has a line has ended
pub ended : (p : Program) (names : List (List ℕ)) (before now : World) (came : Result Totals BatchError) → IfOk came (IsDone p names before now) → IfErr came (IsStopped p names None before now)
    → (status : ℕ) (said : List (List ℕ)) → EndsWith p names came status said → HasEnded p names came before now
ended p names before now (Ok totals) done stopped status said e = done_ended p names before now totals done
ended p names before now (Err (Fetch place)) done stopped status said e = fetch_ended p names before now place stopped
ended p names before now (Err (TooLong place)) done stopped status said e = long_ended p names before now place stopped
ended p names before now (Err (TooManyCells place count)) done stopped status said e = many_ended p names before now place count stopped
ended p names before now (Err (NoHost number)) done stopped status said e = let missing = stopped.0 in cc
ended p names before now (Err Put) done stopped status said e = absurd e
ended p names before now (Err OutOfMemory) done stopped status said e = absurd e

-- the answer was put whole
pub answered_whole : (p : Program) (names : List (List ℕ)) (came : Result Totals BatchError) (before now : World) (err_before err_now : SinkState) (status : ℕ) (said : List (List ℕ))
    → HasEnded p names came before now → EndsWith p names came status said → AreTaken said err_before err_now
    → IsAnswered (RunsFiles before.hosts p [] names) before.files now.files status (sinks before.out now.out err_before err_now)
answered_whole p names came before now err_before err_now status said h e lines =
    let is = h.ends status said e in
    inl (
      h.fetches,
      h.made,
      (
        h.answer,
        h.only,
        inl (record {
          status_is = is.0;
          pieces = h.put.pieces;
          cut = h.put.cut;
          out_took = h.put.taken;
          err_took = subst (λ ls. AreTaken ls err_before err_now) is.1 lines;
        }),
      ),
    )

-- or its line wasn't
pub answered_part : (p : Program) (names : List (List ℕ)) (came : Result Totals BatchError) (before now : World) (err_before err_now : SinkState) (ending status : ℕ) (said : List (List ℕ))
    → HasEnded p names came before now → EndsWith p names came ending said → AreTakenInPart said err_before err_now → IsBroken status (sinks before.out now.out err_before err_now)
    → IsAnswered (RunsFiles before.hosts p [] names) before.files now.files status (sinks before.out now.out err_before err_now)
answered_part p names came before now err_before err_now ending status said h e lines broken =
    let is = h.ends ending said e in
    inl (
      h.fetches,
      h.made,
      (
        h.answer,
        h.only,
        inr (
          record {
            texts = h.answer.out;
            later = [];
            out_is = sym (append-nil h.answer.out);
            pieces = h.put.pieces;
            cut = h.put.cut;
            out_took = part-of-whole h.put.pieces before.out now.out h.put.taken;
            err_took = subst (λ ls. AreTakenInPart ls err_before err_now) is.1 lines;
            lines_wait = inl (refl, h.put.taken);
          },
          broken,
        ),
      ),
    )

-- or there was no memory for it
line_lost : (p : Program) (names : List (List ℕ)) (came : Result Totals BatchError) (before now : World) (err : SinkState) (status : ℕ)
    → HasEnded p names came before now → status ≡ 8 → IsAnswered (RunsFiles before.hosts p [] names) before.files now.files status (quiet before.out now.out err)
line_lost p names came before now err status h e =
    inl (h.fetches, h.made, (h.answer, h.only, inr (given_first h.answer h.answer.out (quiet before.out now.out err) ([], sym (append-nil h.answer.out)) h.put refl, inl e)))

broken_as : (course : Course) (old new : FilesState) (status n : ℕ) (s : Sinks) → status ≡ n → IsBrokenOff course old new n s → IsAnswered course old new status s
broken_as course old new status n s e h = inr (inr (subst (λ m. IsBrokenOff course old new m s) (sym e) h))

-- a batch whose end has no line
pub answered_broken : (p : Program) (names : List (List ℕ)) (before now : World) (err : SinkState) (came : Result Totals BatchError) → IfOk came (IsDone p names before now) → IfErr came (IsStopped p names None before now)
    → (status : ℕ) → BreaksWith came status → IsAnswered (RunsFiles before.hosts p [] names) before.files now.files status (quiet before.out now.out err)
answered_broken p names before now err (Ok totals) done stopped status e = line_lost p names (Ok totals) before now err status (done_ended p names before now totals done) e
answered_broken p names before now err (Err (Fetch place)) done stopped status e = line_lost p names (Err (Fetch place)) before now err status (fetch_ended p names before now place stopped) e
answered_broken p names before now err (Err (TooLong place)) done stopped status e = line_lost p names (Err (TooLong place)) before now err status (long_ended p names before now place stopped) e
answered_broken p names before now err (Err (TooManyCells place count)) done stopped status e = line_lost p names (Err (TooManyCells place count)) before now err status (many_ended p names before now place count stopped) e
answered_broken p names before now err (Err (NoHost number)) done stopped status e = let missing = stopped.0 in cc
answered_broken p names before now err (Err Put) done stopped status e = broken_as (RunsFiles before.hosts p [] names) before.files now.files status 6 (quiet before.out now.out err) e (put_broken p names before now err stopped)
answered_broken p names before now err (Err OutOfMemory) done stopped status e = broken_as (RunsFiles before.hosts p [] names) before.files now.files status 8 (quiet before.out now.out err) e (memory_broken p names before now err stopped)

-- an error names a file of the list
pub names_one : (p : Program) (names : List (List ℕ)) (missing : Option ℕ) (before now : World) (came : Result Totals BatchError) → IfErr came (IsStopped p names missing before now) → IfErr came (NamesOneOf names)
names_one p names missing before now (Ok totals) stopped = tt
names_one p names missing before now (Err (Fetch place)) stopped = (stopped.name, named p names before now (Fetch place) stopped place stopped.stopped.0)
names_one p names missing before now (Err (TooLong place)) stopped = (stopped.name, named p names before now (TooLong place) stopped place stopped.stopped.0)
names_one p names missing before now (Err (TooManyCells place count)) stopped = tt
names_one p names missing before now (Err (NoHost number)) stopped = tt
names_one p names missing before now (Err Put) stopped = tt
names_one p names missing before now (Err OutOfMemory) stopped = tt
