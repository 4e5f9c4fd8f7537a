-- Guesses part by part.
use Rattle.std.proofs.Common.{◌≡◌, ℕ, zero, suc, ◌+◌, ◌<◌, ◌≤◌, Bool, true, false, List, [], ◌∷◌, length, map, take, drop, ℤ, pos, refl, sym, ap, ◌∙◌, arith}
use Rattle.std.specs.Prelude.{◌||◌, Some, Result, Ok, Err, slice_get, slice_set, slice_index_or}
use Rattle.std.specs.List.{list_any}
use Rattle.std.specs.Result.{is_err, result_unwrap_or}
use Rattle.std.proofs.lemmas.List.{length-map, take_all}
use Rattle.spf_ast.specs.declared.outcome.Trap.{Trap}
use Rattle.spf_ast.specs.Interaction.{result_of}
use Rattle.spf_ast.specs.Plain.{unshared_answer}
use Rattle.spf_ast.specs.Program.{environment_of}
use Rattle.spf_ast.specs.Syntax.{Program, Predictor, By, Host}
use Rattle.spf_ast.specs.Construct.{Construct, fold, pair, predictors_of, guess_at}
use Rattle.spf_ast.specs.BlockRun.{predicts}
use Rattle.spf_ast.specs.ConstructView.{construct as seen_construct}
use Rattle.spf_exec_instance.specs.Frame.{main_slots}
use Rattle.spf_exec_instance.specs.Instance.{program_of}
use Rattle.spf_guess_statistics.specs.Guess.{Guess, no_hosts, PartGuess, part_of_result, part_by, parts_from, guess_of}
use Rattle.spf_guess.specs.Missing.{AreAllHandedIn}
use Rattle.spf_engine_construct.specs.declared.guesses.ReachedConstruct.{ReachedConstruct}
use Rattle.spf_engine_construct.specs.Guesses.{predicted, answered, Results}

-- ---- rows

-- where the words so far are those of a row, and then one more is
pub set-next : (words all : List ℤ) (index : ℕ) (w : ℤ) → index < length words → index < length all → take index words ≡ take index all → w ≡ slice_index_or all index w
    → take (suc index) (slice_set words index w) ≡ take (suc index) all
set-next [] all index w h k same read = absurd (omega (arith, h))
set-next (x ∷ xs) [] index w h k same read = absurd (omega (arith, k))
set-next (x ∷ xs) (y ∷ ys) zero w h k same read = ap (λ v. v ∷ []) read
set-next (x ∷ xs) (y ∷ ys) (suc n) w h k same read =
    let first : x ≡ y = cc in
    let later = set-next xs ys n w (omega (arith, h)) (omega (arith, k)) (ap (drop 1) same) read in
    λ i. first i ∷ later i

-- ---- parts

pub parts-length : (answer : ℕ → ℤ) (results : Results) (index : ℕ) (ps : List Predictor) → length (parts_from answer results index ps) ≡ length ps
parts-length answer results index [] = refl
parts-length answer results index (p ∷ ps) = ap suc (parts-length answer results (suc index) ps)

-- the word of a part
pub word-at : (answer : ℕ → ℤ) (results : Results) (index : ℕ) (ps : List Predictor) (n : ℕ) (p : Predictor) (d : ℤ) → slice_get ps n ≡ Some p
    → slice_index_or (map (λ (part : PartGuess). part.word) (parts_from answer results index ps)) n d ≡ (part_by answer (results (index + n)) p).word
word-at answer results index [] n p d at = cc
word-at answer results index (q ∷ ps) zero p d at =
    let here : index ≡ index + 0 = omega arith in
    let same : q ≡ p = cc in
    λ i. (part_by answer (results (here i)) (same i)).word
word-at answer results index (q ∷ ps) (suc n) p d at =
    let there : suc index + n ≡ index + suc n = omega arith in
    word-at answer results (suc index) ps n p d at ∙ ap (λ k. (part_by answer (results k) p).word) there

-- whether one of the parts so far trapped, and then one more
pub traps-more : (answer : ℕ → ℤ) (results : Results) (index : ℕ) (ps : List Predictor) (n : ℕ) (p : Predictor) → slice_get ps n ≡ Some p
    → list_any (λ (part : PartGuess). part.traps) (take (suc n) (parts_from answer results index ps))
    ≡ (list_any (λ (part : PartGuess). part.traps) (take n (parts_from answer results index ps)) || (part_by answer (results (index + n)) p).traps)
traps-more answer results index [] n p at = cc
traps-more answer results index (q ∷ ps) zero p at =
    let here : index ≡ index + 0 = omega arith in
    let same : q ≡ p = cc in
    alone (part_by answer (results index) q).traps ∙ (λ i. (part_by answer (results (here i)) (same i)).traps)
  where
    alone : (b : Bool) → (b || false) ≡ b
    alone true = refl
    alone false = refl
traps-more answer results index (q ∷ ps) (suc n) p at =
    let there : suc index + n ≡ index + suc n = omega arith in
    ap (λ later. (part_by answer (results index) q).traps || later)
    (traps-more answer results (suc index) ps n p at
    ∙ ap (λ k. list_any (λ (part : PartGuess). part.traps) (take n (parts_from answer results (suc index) ps)) || (part_by answer (results k) p).traps) there)
    ∙ regroup (part_by answer (results index) q).traps (list_any (λ (part : PartGuess). part.traps) (take n (parts_from answer results (suc index) ps))) (part_by answer (results (index + suc n)) p).traps
  where
    regroup : (a b c : Bool) → (a || (b || c)) ≡ ((a || b) || c)
    regroup true b c = refl
    regroup false b c = refl

-- whether one trapped doesn't depend on what hosts answer
pub traps-alike : (one other : ℕ → ℤ) (results : Results) (index : ℕ) (ps : List Predictor)
    → list_any (λ (part : PartGuess). part.traps) (parts_from one results index ps) ≡ list_any (λ (part : PartGuess). part.traps) (parts_from other results index ps)
traps-alike one other results index [] = refl
traps-alike one other results index (By guess ∷ ps) = ap (λ later. (part_of_result (results index)).traps || later) (traps-alike one other results (suc index) ps)
traps-alike one other results index (Host host ∷ ps) = traps-alike one other results (suc index) ps

-- ---- expressions

-- where a host guesses a part, the part is 0 as an expression
comes-host : (p : Program) (input : List ℕ) (c : Construct) (slots memory : List ℤ) (number : ℤ) (n host : ℕ) → slice_get (predictors_of c) n ≡ Some (Host host)
    → predicts p input c slots memory number n ≡ Ok (pos 0)
comes-host p input (fold line head body) slots memory number n host at =
    ap (λ o. result_of (unshared_answer (guess_at (environment_of p input) line o (record { slots = slice_set slots head.block number; output = [] })) memory)) at
comes-host p input (pair line head producer consumer) slots memory number n host at =
    ap (λ o. result_of (unshared_answer (guess_at (environment_of p input) line o (record { slots = slots; output = [] })) memory)) at

-- so each part is guessed by what it comes to, where no host answers
pub expression-part : (answer : ℕ → ℤ) → ((host : ℕ) → answer host ≡ pos 0) → (p : Program) (input : List ℕ) (c : Construct) (slots memory : List ℤ) (number : ℤ) (n : ℕ) (q : Predictor)
    → slice_get (predictors_of c) n ≡ Some q → part_by answer (predicts p input c slots memory number n) q ≡ part_of_result (predicts p input c slots memory number n)
expression-part answer zeros p input c slots memory number n (By guess) at = refl
expression-part answer zeros p input c slots memory number n (Host host) at =
    (λ i. record { word = zeros host i; traps = false }) ∙ sym (ap part_of_result (comes-host p input c slots memory number n host at))

-- the parts of the guess of the expressions where a run stands
abbrev pub parts_there : ReachedConstruct → ℤ → List PartGuess
parts_there at number = parts_from (answered no_hosts [] number)
    (predicts (program_of at.instance.now) at.instance.now.input (seen_construct at.construct) (main_slots (program_of at.instance.now) at.frame.now) at.cells.now number)
    0 (predictors_of (seen_construct at.construct))

-- their words
abbrev pub words_of : List PartGuess → List ℤ
words_of parts = map (λ part. part.word) parts

-- whether one of them trapped
abbrev pub trapped_in : List PartGuess → Bool
trapped_in parts = list_any (λ part. part.traps) parts

-- what the expression of a part comes to there
abbrev pub comes_there : ReachedConstruct → ℤ → Results
comes_there at number = predicts (program_of at.instance.now) at.instance.now.input (seen_construct at.construct) (main_slots (program_of at.instance.now) at.frame.now) at.cells.now number

found : {A : Type 0} (xs : List A) (n : ℕ) → n < length xs → (x : A) × (slice_get xs n ≡ Some x)
found [] n h = absurd (omega (arith, h))
found (x ∷ xs) zero h = (x, refl)
found (x ∷ xs) (suc n) h = found xs n (omega (arith, h))

-- a part's word is what its expression comes to, or 0
pub word-there : (at : ReachedConstruct) (number : ℤ) (n : ℕ) (d : ℤ) → n < length (predictors_of (seen_construct at.construct)) → slice_index_or (words_of (parts_there at number)) n d ≡ (part_of_result (comes_there at number n)).word
word-there at number n d h =
    let ps = predictors_of (seen_construct at.construct) in
    let one = found ps n h in
    let here : 0 + n ≡ n = omega arith in
    word-at (answered no_hosts [] number) (comes_there at number) 0 ps n one.0 d one.1
    ∙ ap (λ k. (part_by (answered no_hosts [] number) (comes_there at number k) one.0).word) here
    ∙ ap (λ part. part.word) (expression-part (answered no_hosts [] number) (λ host. refl) (program_of at.instance.now) at.instance.now.input (seen_construct at.construct)
    (main_slots (program_of at.instance.now) at.frame.now) at.cells.now number n one.0 one.1)

-- one more word
pub next-word : (at : ReachedConstruct) (number : ℤ) (n : ℕ) (words : List ℤ) (w : ℤ) → n < length words → n < length (predictors_of (seen_construct at.construct))
    → take n words ≡ take n (words_of (parts_there at number)) → w ≡ (part_of_result (comes_there at number n)).word
    → take (suc n) (slice_set words n w) ≡ take (suc n) (words_of (parts_there at number))
next-word at number n words w h below same is =
    let long = parts-length (answered no_hosts [] number) (comes_there at number) 0 (predictors_of (seen_construct at.construct)) in
    let long_words = length-map (parts_there at number) (λ (part : PartGuess). part.word) in
    set-next words (words_of (parts_there at number)) n w h (omega (arith, below, long, long_words)) same (is ∙ sym (word-there at number n w below))

-- and it trapped where its expression did
pub traps-there : (at : ReachedConstruct) (number : ℤ) (n : ℕ) → n < length (predictors_of (seen_construct at.construct))
    → trapped_in (take (suc n) (parts_there at number)) ≡ (trapped_in (take n (parts_there at number)) || (part_of_result (comes_there at number n)).traps)
traps-there at number n h =
    let ps = predictors_of (seen_construct at.construct) in
    let one = found ps n h in
    let here : 0 + n ≡ n = omega arith in
    traps-more (answered no_hosts [] number) (comes_there at number) 0 ps n one.0 one.1
    ∙ ap (λ k. trapped_in (take n (parts_there at number)) || (part_by (answered no_hosts [] number) (comes_there at number k) one.0).traps) here
    ∙ ap (λ (part : PartGuess). trapped_in (take n (parts_there at number)) || part.traps) (expression-part (answered no_hosts [] number) (λ host. refl) (program_of at.instance.now) at.instance.now.input (seen_construct at.construct)
    (main_slots (program_of at.instance.now) at.frame.now) at.cells.now number n one.0 one.1)

-- the word of a result, and whether it is a trap
pub unwrap-word : (r : Result ℤ Trap) → result_unwrap_or r (pos 0) ≡ (part_of_result r).word
unwrap-word (Ok word) = refl
unwrap-word (Err trap) = refl

pub err-traps : (r : Result ℤ Trap) → is_err r ≡ (part_of_result r).traps
err-traps (Ok word) = refl
err-traps (Err trap) = refl

-- when all parts are guessed, the guess is
pub all-predicted : (at : ReachedConstruct) (number : ℤ) (width n : ℕ) (words row : List ℤ) (blind : Bool) → width ≡ length (predictors_of (seen_construct at.construct)) → width ≤ n → n ≤ width
    → take n words ≡ take n (words_of (parts_there at number)) → blind ≡ trapped_in (take n (parts_there at number)) → row ≡ take width words
    → record { value = row; blind = blind } ≡ predicted at number
all-predicted at number width n words row blind all done inside same trapped is =
    let parts = parts_there at number in
    let long = parts-length (answered no_hosts [] number) (comes_there at number) 0 (predictors_of (seen_construct at.construct)) in
    let long_words = length-map parts (λ (part : PartGuess). part.word) in
    let whole : width ≡ n = omega (arith, done, inside) in
    let value : row ≡ words_of parts = is ∙ ap (λ k. take k words) whole ∙ same ∙ take_all n (words_of parts) (omega (arith, all, done, long, long_words)) in
    let traps : blind ≡ trapped_in parts = trapped ∙ ap trapped_in (take_all n parts (omega (arith, all, done, long))) in
    λ i. record { value = value i; blind = traps i }

-- ---- hosts

-- the element of a mapped list
pub get-mapped : {A B : Type 0} (f : A → B) (xs : List A) (n : ℕ) (x : A) → n < length xs → x ≡ slice_index_or xs n x → slice_get (map f xs) n ≡ Some (f x)
get-mapped f [] n x h read = absurd (omega (arith, h))
get-mapped f (y ∷ ys) zero x h read = ap (λ z. Some (f z)) (sym read)
get-mapped f (y ∷ ys) (suc n) x h read = get-mapped f ys n x (omega (arith, h)) read

-- where all hosts that predictors name are supplied, that of one predictor is
pub one-handed-in : {A : Type 0} (f : A → Predictor) (count : ℕ) (xs : List A) (n : ℕ) (x : A) → n < length xs → x ≡ slice_index_or xs n x
    → AreAllHandedIn count (map f xs) → AreAllHandedIn count (f x ∷ [])
one-handed-in f count xs n x h read all zero host at = all n host (get-mapped f xs n x h read ∙ at)
one-handed-in f count xs n x h read all (suc index) host at = cc

-- the word of a part by its host, and that of the expression where it has none
answer-word : (zeros answer : ℕ → ℤ) (r : Result ℤ Trap) (q : Predictor) → (part_by answer (Ok (part_by zeros r q).word) q).word ≡ (part_by answer r q).word
answer-word zeros answer r (By guess) = refl
answer-word zeros answer r (Host host) = refl

-- one more part
pub ask-step : (zeros answer : ℕ → ℤ) (results : Results) (ps : List Predictor) (n : ℕ) (q : Predictor) (d : ℤ) (value words : List ℤ) (word w : ℤ) → slice_get ps n ≡ Some q
    → value ≡ words_of (parts_from zeros results 0 ps) → word ≡ slice_index_or value n d → w ≡ (part_by answer (Ok word) q).word → n < length words → n < length ps
    → take n words ≡ take n (words_of (parts_from answer results 0 ps)) → take (suc n) (slice_set words n w) ≡ take (suc n) (words_of (parts_from answer results 0 ps))
ask-step zeros answer results ps n q d value words word w at is read asked room below same =
    let long = parts-length answer results 0 ps in
    let long_words = length-map (parts_from answer results 0 ps) (λ (part : PartGuess). part.word) in
    let here : 0 + n ≡ n = omega arith in
    set-next words (words_of (parts_from answer results 0 ps)) n w room (omega (arith, below, long, long_words)) same
    (asked ∙ ap (λ v. (part_by answer (Ok v) q).word) (read ∙ ap (λ all. slice_index_or all n d) is ∙ word-at zeros results 0 ps n q d at)
    ∙ answer-word zeros answer (results (0 + n)) q ∙ sym (word-at answer results 0 ps n q w at))

-- when all parts are asked for, the guess is made
pub all-asked : (zeros answer : ℕ → ℤ) (results : Results) (ps : List Predictor) (width n : ℕ) (words row value : List ℤ) (blind : Bool) → width ≡ length ps → width ≤ n → n ≤ width
    → take n words ≡ take n (words_of (parts_from answer results 0 ps)) → row ≡ take width words → record { value = value; blind = blind } ≡ guess_of (parts_from zeros results 0 ps)
    → record { value = row; blind = blind } ≡ guess_of (parts_from answer results 0 ps)
all-asked zeros answer results ps width n words row value blind all done inside same is old =
    let parts = parts_from answer results 0 ps in
    let long = parts-length answer results 0 ps in
    let long_words = length-map parts (λ (part : PartGuess). part.word) in
    let whole : width ≡ n = omega (arith, done, inside) in
    let row_is : row ≡ words_of parts = is ∙ ap (λ k. take k words) whole ∙ same ∙ take_all n (words_of parts) (omega (arith, all, done, long, long_words)) in
    let traps : blind ≡ trapped_in parts = ap (λ (g : Guess). g.blind) old ∙ traps-alike zeros answer results 0 ps in
    λ i. record { value = row_is i; blind = traps i }
