-- Batches, file by file.
use Rattle.std.proofs.Common.{◌≡◌, ◌⊎◌, inl, inr, ℕ, ◌≤◌, ◌<◌, ◌+◌, ◌*◌, ◌^◌, List, [], ◌∷◌, ◌++◌, length, map, take, drop, get_or, Option, Some, None, refl, sym, ap, subst, ◌∙◌, arith, append_assoc}
use Rattle.std.specs.List.{fold, concat, All}
use Rattle.std.proofs.lemmas.List.{append-nil, map-append, drop_more, take_more, take_all, get_or-map, take-append-drop, length-map, length-take-le}
use Rattle.std.proofs.lemmas.List.Folds.{concat-append}
use Rattle.std.proofs.lemmas.List.Elements.{All-push}
use Rattle.std.proofs.lemmas.List.Concat.{flat_map-append}
use Rattle.spf_ast.specs.Syntax.{Program}
use Rattle.spf_guess_statistics.specs.declared.stats.Stats.{Stats}
use Rattle.spf_guess_statistics.specs.Guess.{Hosts, Telling, told_to}
use Rattle.spf_guess_statistics.specs.Statistics.{Tally, plus, none, tally}
use Rattle.spf_guess.specs.Answers.{WereTold}
use Rattle.spf_guess.proofs.Handed.{told_to-append}
use Rattle.spf_engine_construct.specs.Guesses.{AreAtMost}
use Rattle.spf_engine.specs.Counts.{most_counted}
use Rattle.spf_edge.specs.Entries.{Entry}
use Rattle.spf_edge.specs.Bytes.{Adds}
use Rattle.spf_edge.specs.Fetches.{AreMade}
use Rattle.spf_edge.specs.Puts.{SinkState}
use Rattle.spf_edge.proofs.Fetched.{made_none, made_both}
use Rattle.spf_edge.proofs.Taking.{joined-nil, adds_both, adds_none, puts_none}
use Rattle.spf_edge_pieces.specs.Pieces.{AreCutEach}
use Rattle.spf_edge_pieces.proofs.Parts.{taken-both, cut-both}
use Rattle.spf_batch.specs.Batch.{after, file_step, batch_tally, file_answer, answers}
use Rattle.spf_batch.specs.World.{World, fetch_of_file, HasFewCells, ArePut}
use Rattle.spf_batch.specs.One.{HasRun, IsRun, IsStoppedBy}
use Rattle.spf_batch.specs.Many.{names_of, HaveRun, IsStoppedAt, IsStopped}
use Rattle.spf_batch.specs.declared.error.BatchError.{BatchError}
use Rattle.spf_batch.specs.declared.error.BatchError.TheVariants.{Fetch, TooLong, TooManyCells, NoHost, Put, OutOfMemory}

-- ---- answers that were put

put-none : (state : SinkState) → ArePut [] state state
put-none state = record {
  pieces = [];
  cut = refl;
  taken = record { took = adds_none state.taken state.taken refl; put = puts_none state.puts state.puts refl };
  later = omega arith;
}

-- answers that were put after others were put with them
put-both : (first second : List (List ℕ)) (before between now : SinkState) → ArePut first before between → ArePut second between now → ArePut (first ++ second) before now
put-both first second before between now one two = record {
  pieces = one.pieces ++ two.pieces;
  cut = cut-both first second one.pieces two.pieces one.cut two.cut;
  taken = taken-both one.pieces two.pieces before between now one.taken two.taken;
  later = (let a = one.later in let b = two.later in omega (arith, a, b));
}

-- the bytes of answers that were put are added
each-cut : (all pieces : List (List ℕ)) → AreCutEach all pieces → concat pieces ≡ concat all
each-cut [] pieces none = ap concat none
each-cut (answer ∷ others) pieces (own, rest, split, cut, each) =
    ap concat split ∙ concat-append own rest ∙ (λ i. cut.all i ++ each-cut others rest each i)

pub put-adds : (answer : List ℕ) (before now : SinkState) → ArePut (answer ∷ []) before now → Adds before.taken now.taken answer
put-adds answer before now put = subst (Adds before.taken now.taken) (each-cut (answer ∷ []) put.pieces put.cut ∙ append-nil answer) put.taken.took

-- ---- one more file

pub none-run : (p : Program) (now : World) → HaveRun p [] now now
none-run p now = record {
  fetched = made_none now.files;
  few = λ k d l. absurd (omega (arith, l));
  took = sym (joined-nil now.out.taken);
  put = put-none now.out;
  told = λ host pairs block. refl;
}

fold-push : {X A : Type 0} (f : A → X → A) (a : A) (xs : List X) (x : X) → fold f a (xs ++ x ∷ []) ≡ f (fold f a xs) x
fold-push f a [] x = refl
fold-push f a (y ∷ ys) x = fold-push f (f a y) ys x

-- hosts that were told this are those after it
told-are : (hosts between : Hosts) (telling : List Telling) → WereTold hosts telling between → between ≡ after hosts telling
told-are hosts between telling told = λ i host pairs block. told host pairs block i

told-both : (hosts between now : Hosts) (first second : List Telling) → WereTold hosts first between → WereTold between second now → WereTold hosts (first ++ second) now
told-both hosts between now first second one two host pairs block =
    two host pairs block ∙ one host (told_to host second ++ pairs) block
    ∙ ap (λ list. hosts host list block) (sym (ap (λ list. list ++ pairs) (told_to-append host first second) ∙ append_assoc (told_to host first) (told_to host second) pairs))

tally-more : (p : Program) (hosts between : Hosts) (files : List Entry) (file : Entry) → WereTold hosts (batch_tally hosts p files).telling between
    → batch_tally hosts p (files ++ file ∷ [])
    ≡ record {
      stats = plus (batch_tally hosts p files).stats (tally between p file.content).stats;
      telling = (batch_tally hosts p files).telling ++ (tally between p file.content).telling;
    }
tally-more p hosts between files file told =
    fold-push (file_step hosts p) (record { stats = none; telling = [] }) files file
    ∙ ap (λ h. record {
      stats = plus (batch_tally hosts p files).stats (tally h p file.content).stats;
      telling = (batch_tally hosts p files).telling ++ (tally h p file.content).telling;
    }) (sym (told-are hosts between (batch_tally hosts p files).telling told))

pub answers-more : (p : Program) (files : List Entry) (file : Entry) → answers p (files ++ file ∷ []) ≡ answers p files ++ file_answer p file
answers-more p files file = flat_map-append (file_answer p) files (file ∷ []) ∙ ap (λ t. answers p files ++ t) (append-nil (file_answer p file))

pub file-more : (p : Program) (files : List Entry) (file : Entry) (before between now : World) → HaveRun p files before between → HasRun p file between now
    → HaveRun p (files ++ file ∷ []) before now
file-more p files file before between now have one = record {
  fetched = subst (AreMade before.files now.files) (sym (map-append fetch_of_file files (file ∷ [])))
      (made_both before.files between.files now.files (map fetch_of_file files) (fetch_of_file file ∷ []) have.fetched one.fetched);
  few = All-push (HasFewCells p) files file have.few one.few;
  took = subst (Adds before.out.taken now.out.taken) (sym (answers-more p files file))
      (adds_both before.out.taken between.out.taken now.out.taken (answers p files) (file_answer p file) have.took (put-adds (file_answer p file) between.out now.out one.put));
  put = subst (λ list. ArePut list before.out now.out) (sym (map-append (file_answer p) files (file ∷ [])))
      (put-both (map (file_answer p) files) (file_answer p file ∷ []) before.out between.out now.out have.put one.put);
  told = subst (λ t. WereTold before.hosts t now.hosts) (sym (ap (λ (t : Tally). t.telling) (tally-more p before.hosts between.hosts files file have.told)))
      (told-both before.hosts between.hosts now.hosts (batch_tally before.hosts p files).telling (tally between.hosts p file.content).telling have.told one.told);
}

pub stats-more : (p : Program) (files : List Entry) (file : Entry) (before between : World) (stats sum more : Stats) → HaveRun p files before between
    → stats ≡ (tally between.hosts p file.content).stats → sum ≡ (batch_tally before.hosts p files).stats → more ≡ plus sum stats
    → more ≡ (batch_tally before.hosts p (files ++ file ∷ [])).stats
stats-more p files file before between stats sum more have one is plus_is =
    plus_is ∙ (λ i. plus (is i) (one i)) ∙ sym (ap (λ (t : Tally). t.stats) (tally-more p before.hosts between.hosts files file have.told))

pub few-more : (sum stats more : Stats) (place next : ℕ) → AreAtMost sum (most_counted * place) → AreAtMost stats most_counted → more ≡ plus sum stats → next ≡ place + 1 → AreAtMost more (most_counted * next)
few-more sum stats more place next a b e n =
    let ab = a.blocks in let ah = a.hits in let am = a.misses in let ad = a.blind in
    let bb = b.blocks in let bh = b.hits in let bm = b.misses in let bd = b.blind in
    subst (λ s. AreAtMost s (most_counted * next)) (sym e) (record {
      blocks = omega (arith, ab, bb, n);
      hits = omega (arith, ah, bh, n);
      misses = omega (arith, am, bm, n);
      blind = omega (arith, ad, bd, n);
    })

pub few-none : (s : Stats) (most : ℕ) → s ≡ none → AreAtMost s most
few-none s most e = subst (λ s. AreAtMost s most) (sym e) (record { blocks = omega arith; hits = omega arith; misses = omega arith; blind = omega arith })

-- ---- names

module _ {X : Type 0} (f : X → List ℕ) where
  name-at : (names : List X) (place : ℕ) (x : X) → place < length names → x ≡ get_or names place x → get_or (map f names) place (f x) ≡ f x
  name-at names place x l e = get_or-map f names place x (f x) l ∙ ap f (sym e)

  pub names-more : (names : List X) (place : ℕ) (x : X) (name : List ℕ) (files : List Entry) (content : List ℕ) → place < length names → x ≡ get_or names place x → name ≡ f x
      → names_of files ≡ take place (map f names)
      → names_of (files ++ record { name = name; content = content } ∷ []) ≡ take (place + 1) (map f names)
  names-more names place x name files content l e n h =
      map-append (λ (file : Entry). file.name) files (record { name = name; content = content } ∷ [])
      ∙ (λ i. h i ++ (n ∙ sym (name-at names place x l e)) i ∷ [])
      ∙ sym (take_more (map f names) place (f x) (omega (arith, l, length-map names f)))

  names-split : (names : List X) (place : ℕ) (x : X) (name : List ℕ) (files : List Entry) → place < length names → x ≡ get_or names place x → name ≡ f x
      → names_of files ≡ take place (map f names) → map f names ≡ names_of files ++ name ∷ drop (place + 1) (map f names)
  names-split names place x name files l e n h =
      sym (take-append-drop place (map f names))
      ∙ (λ i. sym h i ++ (drop_more (map f names) place (f x) (omega (arith, l, length-map names f)) ∙ ap (λ t. t ∷ drop (place + 1) (map f names)) (name-at names place x l e ∙ sym n)) i)

  -- as many files were run as names are before the place
  pub count-is : (names : List X) (place : ℕ) (files : List Entry) → place ≤ length names → names_of files ≡ take place (map f names) → place ≡ length files
  count-is names place files l h =
      omega (arith, l, length-map names f, length-take-le place (map f names), ap (λ (list : List (List ℕ)). length list) h, length-map files (λ (file : Entry). file.name))

  -- the file at this place was not run to its end
  pub stops-here : (p : Program) (names : List X) (place : ℕ) (x : X) (name : List ℕ) (files : List Entry) (missing : Option ℕ) (before between now : World) (error : BatchError)
      → place < length names → x ≡ get_or names place x → name ≡ f x → names_of files ≡ take place (map f names)
      → HaveRun p files before between → IsStoppedBy p name place between now error → IsStopped p (map f names) missing before now error
  stops-here p names place x name files missing before between now error l e n h have stopped = by_error error stopped_there
    where
      stopped_there : IsStoppedAt p (map f names) before now error
      stopped_there = record {
        files = files;
        name = name;
        later = drop (place + 1) (map f names);
        names_are = names-split names place x name files l e n h;
        between = between;
        run = have;
        stopped = subst (λ at. IsStoppedBy p name at between now error) (count-is names place files (omega (arith, l)) h) stopped;
      }

      by_error : (error : BatchError) → IsStoppedAt p (map f names) before now error → IsStopped p (map f names) missing before now error
      by_error (Fetch at) s = s
      by_error (TooLong at) s = s
      by_error (TooManyCells at count) s = s
      by_error (NoHost number) s = absurd s.stopped
      by_error Put s = s
      by_error OutOfMemory s = s

  -- after the last name all files were run
  pub all-names : (names : List X) (place : ℕ) (files : List Entry) → length names ≤ place → names_of files ≡ take place (map f names) → map f names ≡ names_of files
  all-names names place files l h = sym (h ∙ take_all place (map f names) (omega (arith, l, length-map names f)))
