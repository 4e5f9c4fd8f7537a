-- What a batch leaves, and what is said of its fetches.
use Rattle.std.specs.Prelude.{if◌then◌else◌, nat_le, Result, Ok, Err}
use Rattle.std.proofs.Common.{◌≡◌, ◌⊎◌, inl, inr, ℕ, suc, ◌≤◌, ◌<◌, Bool, true, false, List, [], ◌∷◌, ◌++◌, length, map, Option, Some, None, refl, sym, ap, subst, ◌∙◌, arith, append_assoc}
use Rattle.std.specs.List.{All, concat}
use Rattle.std.proofs.lemmas.List.{append-nil, map-append}
use Rattle.spf_ast.specs.Syntax.{Program}
use Rattle.spf_ast.specs.Program.{cell_count_of, max_cells}
use Rattle.spf_exec_instance.specs.RunErrors.{counted}
use Rattle.spf_guess_statistics.specs.Guess.{Hosts}
use Rattle.spf_edge.specs.declared.files.FetchError.{FetchError}
use Rattle.spf_edge.specs.declared.files.FetchError.TheVariants as fetch_error
use Rattle.spf_edge.specs.Entries.{Entry}
use Rattle.spf_edge.specs.Bytes.{Adds, AddsPrefix}
use Rattle.spf_edge.specs.Fetches.{Fetch as FetchMade, AreMade}
use Rattle.spf_edge.specs.Puts.{SinkState}
use Rattle.spf_edge.proofs.Fetched.{made_both}
use Rattle.spf_edge.proofs.Taking.{adds_prefix_of_both, adds_prefix_of_more, adds_whole}
use Rattle.spf_batch.specs.Batch.{file_answer, answers}
use Rattle.spf_batch.specs.World.{World, fetch_giving, fetch_of_file, HasFewCells, IsPutInPart}
use Rattle.spf_batch.specs.One.{IsStoppedBy, HasRunInPart}
use Rattle.spf_batch.specs.Many.{names_of, HaveRun, IsDone, IsStoppedAt}
use Rattle.spf_batch.specs.Said.{Said, all_run, stops_after, error_of, with_file, batch_said, AreFirstOf, StopsAsSaid, EndsAsSaid}
use Rattle.spf_batch.specs.declared.batch.Totals.{Totals}
use Rattle.spf_batch.specs.declared.error.BatchError.{BatchError}
use Rattle.spf_batch.specs.declared.error.BatchError.TheVariants.{Fetch, TooLong, TooManyCells, NoHost, Put, OutOfMemory}
use Rattle.spf_batch.proofs.Runs.{answers-more}

chosen : {A : Type 0} (b : Bool) (x y : A) → b ≡ true → (if b then x else y) ≡ x
chosen true x y e = refl
chosen false x y e = cc

other : {A : Type 0} (b : Bool) (x y : A) → b ≡ false → (if b then x else y) ≡ y
other true x y e = cc
other false x y e = refl

small : (n limit : ℕ) → n ≤ limit → nat_le n limit ≡ true
small n limit h = grind (arith, h)

large : (n limit : ℕ) → limit < n → nat_le n limit ≡ false
large n limit h = grind (arith, h)

-- ---- files that were run are passed

one-passed : (hosts : Hosts) (p : Program) (before : List Entry) (file : Entry) (fetches : List FetchMade) → HasFewCells p file
    → batch_said hosts p before (fetch_of_file file ∷ fetches) ≡ batch_said hosts p (before ++ file ∷ []) fetches
one-passed hosts p before file fetches few =
    chosen (nat_le (cell_count_of p (length file.content)) (max_cells p)) (batch_said hosts p (before ++ file ∷ []) fetches)
    (stops_after p before (TooManyCells (length before) (counted (cell_count_of p (length file.content)))))
    (small (cell_count_of p (length file.content)) (max_cells p) few)

others-of : (P : Entry → Type 0) (x : Entry) (xs : List Entry) → All P (x ∷ xs) → All P xs
others-of P x xs h k d l = h (suc k) d (omega arith)

passed : (hosts : Hosts) (p : Program) (before files : List Entry) (fetches : List FetchMade) → All (HasFewCells p) files
    → batch_said hosts p before (map fetch_of_file files ++ fetches) ≡ batch_said hosts p (before ++ files) fetches
passed hosts p before [] fetches few = ap (λ d. batch_said hosts p d fetches) (sym (append-nil before))
passed hosts p before (file ∷ files) fetches few =
    one-passed hosts p before file (map fetch_of_file files ++ fetches) (few 0 file (omega arith))
    ∙ passed hosts p (before ++ file ∷ []) files fetches (others-of (HasFewCells p) file files few)
    ∙ ap (λ d. batch_said hosts p d fetches) (append_assoc before (file ∷ []) files)

-- ---- what is said begins with the answers of the files that were run

abbrev GoesOn : Program → List Entry → Said → Type 0
GoesOn p before said = (more : List ℕ) × (said.out ≡ answers p before ++ more)

ends-here : (p : Program) (before : List Entry) → answers p before ≡ answers p before ++ []
ends-here p before = sym (append-nil (answers p before))

with-goes-on : (p : Program) (before : List Entry) (name : List ℕ) (gave : Result (List ℕ) FetchError) (next : List Entry → Said) → ((d : List Entry) → GoesOn p d (next d))
    → GoesOn p before (with_file p before name gave next)
with-goes-on p before name (Err error) next later = ([], ends-here p before)
with-goes-on p before name (Ok content) next later =
    by_cells (nat_le (cell_count_of p (length content)) (max_cells p)) (later (before ++ record { name = name; content = content } ∷ []))
  where
    by_cells : (b : Bool) → GoesOn p (before ++ record { name = name; content = content } ∷ []) (next (before ++ record { name = name; content = content } ∷ []))
        → GoesOn p before (if b then next (before ++ record { name = name; content = content } ∷ []) else stops_after p before (TooManyCells (length before) (counted (cell_count_of p (length content)))))
    by_cells true (more, e) = (
      file_answer p (record { name = name; content = content }) ++ more,
      e ∙ ap (λ t. t ++ more) (answers-more p before (record { name = name; content = content }))
          ∙ append_assoc (answers p before) (file_answer p (record { name = name; content = content })) more,
    )
    by_cells false h = ([], ends-here p before)

goes-on : (hosts : Hosts) (p : Program) (before : List Entry) (fetches : List FetchMade) → GoesOn p before (batch_said hosts p before fetches)
goes-on hosts p before [] = ([], ends-here p before)
goes-on hosts p before (fetch ∷ fetches) =
    with-goes-on p before fetch.name fetch.gave (λ more. batch_said hosts p more fetches) (λ d. goes-on hosts p d fetches)

-- ---- a batch that is done

names-of-fetches : (files : List Entry) → map (λ (fetch : FetchMade). fetch.name) (map fetch_of_file files) ≡ names_of files
names-of-fetches [] = refl
names-of-fetches (file ∷ files) = ap (λ names. file.name ∷ names) (names-of-fetches files)

all-said : (hosts : Hosts) (p : Program) (files : List Entry) → All (HasFewCells p) files → batch_said hosts p [] (map fetch_of_file files) ≡ all_run hosts p files
all-said hosts p files few = ap (batch_said hosts p []) (sym (append-nil (map fetch_of_file files))) ∙ passed hosts p [] files [] few

pub done-as-said : (p : Program) (names : List (List ℕ)) (before now : World) (totals : Totals) → IsDone p names before now totals
    → (fetches : List FetchMade) × AreMade before.files now.files fetches × (names ≡ map (λ fetch. fetch.name) fetches)
    × EndsAsSaid before.hosts p fetches before now totals
done-as-said p names before now totals d =
    let said = all-said before.hosts p d.files d.run.few in (
      map fetch_of_file d.files,
      d.run.fetched,
      d.names_are ∙ sym (names-of-fetches d.files),
      (
        subst (Adds before.out.taken now.out.taken) (sym (ap (λ (s : Said). s.out) said)) d.run.took,
        ap (λ (s : Said). s.gives) said ∙ ap Ok (λ i. record { files = sym d.count_is i; stats = sym d.stats_are i }),
      ),
    )

-- ---- a batch that stops

first-names : (names later : List (List ℕ)) (files : List Entry) (name : List ℕ) (gave : Result (List ℕ) FetchError) → names ≡ names_of files ++ name ∷ later
    → AreFirstOf names (map fetch_of_file files ++ fetch_giving name gave ∷ [])
first-names names later files name gave e = record {
  later = later;
  names_are =
      e ∙ sym (append_assoc (names_of files) (name ∷ []) later)
      ∙ sym (ap (λ (list : List (List ℕ)). list ++ later)
      (map-append (λ (fetch : FetchMade). fetch.name) (map fetch_of_file files) (fetch_giving name gave ∷ []) ∙ ap (λ list. list ++ name ∷ []) (names-of-fetches files)));
}

-- what is said of these fetches and of one more
one-said : (hosts : Hosts) (p : Program) (files : List Entry) (fetches : List FetchMade) → All (HasFewCells p) files
    → batch_said hosts p [] (map fetch_of_file files ++ fetches) ≡ batch_said hosts p files fetches
one-said hosts p files fetches few = passed hosts p [] files fetches few

more-said : (hosts : Hosts) (p : Program) (files : List Entry) (fetch : FetchMade) (more : List FetchMade) → All (HasFewCells p) files
    → batch_said hosts p [] ((map fetch_of_file files ++ fetch ∷ []) ++ more) ≡ batch_said hosts p files (fetch ∷ more)
more-said hosts p files fetch more few = ap (batch_said hosts p []) (append_assoc (map fetch_of_file files) (fetch ∷ []) more) ∙ passed hosts p [] files (fetch ∷ more) few

-- nothing was put of the present answer
front-put : (hosts : Hosts) (p : Program) (files : List Entry) (fetch : FetchMade) (more : List FetchMade) (before now : Option (List ℕ)) → All (HasFewCells p) files
    → Adds before now (answers p files) → AddsPrefix before now (batch_said hosts p [] ((map fetch_of_file files ++ fetch ∷ []) ++ more)).out
front-put hosts p files fetch more before now few took =
    let on = goes-on hosts p files (fetch ∷ more) in
    subst (AddsPrefix before now) (sym (ap (λ (s : Said). s.out) (more-said hosts p files fetch more few) ∙ on.1))
    (adds_prefix_of_more before now (answers p files) on.0 (adds_whole before now (answers p files) took))

-- a prefix of it was put
part-put : (hosts : Hosts) (p : Program) (files : List Entry) (file : Entry) (more : List FetchMade) (before between now : Option (List ℕ)) → All (HasFewCells p) files → HasFewCells p file
    → Adds before between (answers p files) → AddsPrefix between now (file_answer p file)
    → AddsPrefix before now (batch_said hosts p [] ((map fetch_of_file files ++ fetch_of_file file ∷ []) ++ more)).out
part-put hosts p files file more before between now few one took front =
    let on = goes-on hosts p (files ++ file ∷ []) more in
    let whole : (batch_said hosts p [] ((map fetch_of_file files ++ fetch_of_file file ∷ []) ++ more)).out ≡ answers p files ++ (file_answer p file ++ on.0) =
    ap (λ (s : Said). s.out) (more-said hosts p files (fetch_of_file file) more few ∙ one-passed hosts p files file more one) ∙ on.1
    ∙ ap (λ t. t ++ on.0) (answers-more p files file) ∙ append_assoc (answers p files) (file_answer p file) on.0 in
    subst (AddsPrefix before now) (sym whole)
    (adds_prefix_of_both before between now (answers p files) (file_answer p file ++ on.0) took (adds_prefix_of_more between now (file_answer p file) on.0 front))

part-taken : (answer : List ℕ) (before now : SinkState) → IsPutInPart answer before now → AddsPrefix before.taken now.taken answer
part-taken answer before now part = subst (AddsPrefix before.taken now.taken) part.cut.all part.taken.took

-- nothing was put since
same-put : (p : Program) (files : List Entry) (before between now : SinkState) → Adds before.taken between.taken (answers p files) → now ≡ between → Adds before.taken now.taken (answers p files)
same-put p files before between now took same = subst (λ (s : SinkState). Adds before.taken s.taken (answers p files)) (sym same) took

module _ (p : Program) (names later : List (List ℕ)) (files : List Entry) (name : List ℕ) (before between now : World)
    (names_are : names ≡ names_of files ++ name ∷ later) (have : HaveRun p files before between) where
  -- these fetches were made, and one more
  made-more : (gave : Result (List ℕ) FetchError) → AreMade between.files now.files (fetch_giving name gave ∷ [])
      → AreMade before.files now.files (map fetch_of_file files ++ fetch_giving name gave ∷ [])
  made-more gave made = made_both before.files between.files now.files (map fetch_of_file files) (fetch_giving name gave ∷ []) have.fetched made

  -- an error for which the fetches so far are all
  settled : (gave : Result (List ℕ) FetchError) (error : BatchError) → AreMade between.files now.files (fetch_giving name gave ∷ []) → now.out ≡ between.out
      → batch_said before.hosts p files (fetch_giving name gave ∷ []) ≡ stops_after p files error
      → Adds before.out.taken now.out.taken (batch_said before.hosts p [] (map fetch_of_file files ++ fetch_giving name gave ∷ [])).out
      × ((batch_said before.hosts p [] (map fetch_of_file files ++ fetch_giving name gave ∷ [])).gives ≡ Err error)
  settled gave error made same said =
      let whole = one-said before.hosts p files (fetch_giving name gave ∷ []) have.few ∙ said in (
        subst (Adds before.out.taken now.out.taken) (sym (ap (λ (s : Said). s.out) whole)) (same-put p files before.out between.out now.out have.took same),
        ap (λ (s : Said). s.gives) whole,
      )

  with-many : (content : List ℕ) (count : ℕ) → max_cells p < cell_count_of p (length content) → count ≡ counted (cell_count_of p (length content))
      → batch_said before.hosts p files (fetch_giving name (Ok content) ∷ []) ≡ stops_after p files (TooManyCells (length files) count)
  with-many content count many is =
      other (nat_le (cell_count_of p (length content)) (max_cells p)) (all_run before.hosts p (files ++ record { name = name; content = content } ∷ []))
      (stops_after p files (TooManyCells (length files) (counted (cell_count_of p (length content))))) (large (cell_count_of p (length content)) (max_cells p) many)
      ∙ ap (λ n. stops_after p files (TooManyCells (length files) n)) (sym is)

  pub stops-as-said : (error : BatchError) → IsStoppedBy p name (length files) between now error
      → (fetches : List FetchMade) × AreMade before.files now.files fetches × AreFirstOf names fetches × StopsAsSaid before.hosts p fetches before now error
  stops-as-said (Fetch at) (here, idle, inl made) = (
    map fetch_of_file files ++ fetch_giving name (Err fetch_error.Missing) ∷ [],
    made-more (Err fetch_error.Missing) made,
    first-names names later files name (Err fetch_error.Missing) names_are,
    settled (Err fetch_error.Missing) (Fetch at) made idle.put (ap (λ n. stops_after p files (Fetch n)) (sym here)),
  )
  stops-as-said (Fetch at) (here, idle, inr made) = (
    map fetch_of_file files ++ fetch_giving name (Err fetch_error.Failed) ∷ [],
    made-more (Err fetch_error.Failed) made,
    first-names names later files name (Err fetch_error.Failed) names_are,
    settled (Err fetch_error.Failed) (Fetch at) made idle.put (ap (λ n. stops_after p files (Fetch n)) (sym here)),
  )
  stops-as-said (TooLong at) (here, idle, made) = (
    map fetch_of_file files ++ fetch_giving name (Err fetch_error.TooLong) ∷ [],
    made-more (Err fetch_error.TooLong) made,
    first-names names later files name (Err fetch_error.TooLong) names_are,
    settled (Err fetch_error.TooLong) (TooLong at) made idle.put (ap (λ n. stops_after p files (TooLong n)) (sym here)),
  )
  stops-as-said (TooManyCells at count) (here, idle, many) = (
    map fetch_of_file files ++ fetch_giving name (Ok many.content) ∷ [],
    made-more (Ok many.content) many.fetched,
    first-names names later files name (Ok many.content) names_are,
    settled (Ok many.content) (TooManyCells at count) many.fetched idle.put
        (with-many many.content count many.many many.count_is ∙ ap (λ n. stops_after p files (TooManyCells n count)) (sym here)),
  )
  stops-as-said (NoHost number) h = absurd h
  stops-as-said Put (fault, (content, part)) = (
    map fetch_of_file files ++ fetch_giving name (Ok content) ∷ [],
    made-more (Ok content) part.fetched,
    first-names names later files name (Ok content) names_are,
    λ more. part-put before.hosts p files (record { name = name; content = content }) more before.out.taken between.out.taken now.out.taken have.few part.few have.took
        (part-taken (file_answer p (record { name = name; content = content })) between.out now.out part.put),
  )
  stops-as-said OutOfMemory (inl (idle, made)) = (
    map fetch_of_file files ++ fetch_giving name (Err fetch_error.OutOfMemory) ∷ [],
    made-more (Err fetch_error.OutOfMemory) made,
    first-names names later files name (Err fetch_error.OutOfMemory) names_are,
    λ more. front-put before.hosts p files (fetch_giving name (Err fetch_error.OutOfMemory)) more before.out.taken now.out.taken have.few
        (same-put p files before.out between.out now.out have.took idle.put),
  )
  stops-as-said OutOfMemory (inr (inl cut)) = (
    map fetch_of_file files ++ fetch_giving name (Ok cut.content) ∷ [],
    made-more (Ok cut.content) cut.fetched,
    first-names names later files name (Ok cut.content) names_are,
    λ more. front-put before.hosts p files (fetch_giving name (Ok cut.content)) more before.out.taken now.out.taken have.few
        (same-put p files before.out between.out now.out have.took cut.put),
  )
  stops-as-said OutOfMemory (inr (inr (content, part))) = (
    map fetch_of_file files ++ fetch_giving name (Ok content) ∷ [],
    made-more (Ok content) part.fetched,
    first-names names later files name (Ok content) names_are,
    λ more. part-put before.hosts p files (record { name = name; content = content }) more before.out.taken between.out.taken now.out.taken have.few part.few have.took
        (part-taken (file_answer p (record { name = name; content = content })) between.out now.out part.put),
  )

pub stopped-as-said : (p : Program) (names : List (List ℕ)) (before now : World) (error : BatchError) → IsStoppedAt p names before now error
    → (fetches : List FetchMade) × AreMade before.files now.files fetches × AreFirstOf names fetches × StopsAsSaid before.hosts p fetches before now error
stopped-as-said p names before now error s = stops-as-said p names s.later s.files s.name before s.between now s.names_are s.run error s.stopped
