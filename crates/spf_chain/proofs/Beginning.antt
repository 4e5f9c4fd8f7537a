-- The blocks at the start.
use Rattle.std.proofs.Common.{◌≡◌, ℕ, ◌+◌, ◌<◌, zero, suc, List, [], ◌∷◌, ◌++◌, length, take, get_or, add-zero, refl, sym, ap, ◌∙◌, subst, Option, Some, None, arith, slice_get}
use Rattle.std.specs.Prelude.{map, replicate, slice_index_or}
use Rattle.std.proofs.lemmas.List.{length-map, take_more, map-append}
use Rattle.spf_ast.specs.Carried.{Carried}
use Rattle.spf_guess_statistics.specs.declared.guess.Guess.{Guess}
use Rattle.spf_chain.specs.declared.block.ChainBlock.{ChainBlock}
use Rattle.spf_chain.specs.Beginning.{first_value, guesses_for, unvalidated}
use Rattle.spf_speculation_entry.specs.declared.site.Site.{Site}
use Rattle.spf_chain.specs.Kept.{IsListed}
use Rattle.spf_chain.proofs.Lists.{some-same}

pub length-unvalidated : (k : ℕ) (start : Carried) (gs : List (Option Carried)) → length (unvalidated k start gs) ≡ length gs
length-unvalidated k start [] = refl
length-unvalidated k start (g ∷ gs) = ap suc (length-unvalidated (k + 1) start gs)

-- a block at its index
record At (k : ℕ) (start : Carried) (gs : List (Option Carried)) (n : ℕ) (b : ChainBlock) : Type 0 where
  block : b.block ≡ k + n
  guess : slice_get gs n ≡ Some b.guess
  real : b.row ≡ first_value start b.guess

unvalidated-at : (k : ℕ) (start : Carried) (gs : List (Option Carried)) (n : ℕ) (b : ChainBlock) → slice_get (unvalidated k start gs) n ≡ Some b → At k start gs n b
unvalidated-at k start [] n b at = absurd cc
unvalidated-at k start (g ∷ gs) zero b at =
    let f : ChainBlock = record { block = k; guess = g; row = first_value start g } in
    let e : f ≡ b = some-same f b at in
    record { block = ap (λ (x : ChainBlock). x.block) (sym e) ∙ omega arith; guess = ap (λ (x : ChainBlock). Some x.guess) e; real = subst (λ (x : ChainBlock). x.row ≡ first_value start x.guess) e refl }
unvalidated-at k start (g ∷ gs) (suc n) b at =
    let i = unvalidated-at (k + 1) start gs n b at in
    record { block = i.block ∙ omega arith; guess = i.guess; real = i.real }

guess-at : (gs : List Guess) (n : ℕ) (g : Option Carried) → slice_get (map (λ (x : Guess). Some x.value) gs) n ≡ Some g → g ≡ Some (slice_index_or (map (λ (x : Guess). x.value) gs) n [])
guess-at [] n g at = absurd cc
guess-at (x ∷ gs) zero g at = sym (some-same (Some x.value) g at)
guess-at (x ∷ gs) (suc n) g at = guess-at gs n g at

pub listed-first : (s : Site) (start : Carried) (guesses : List Guess) → start ≡ s.start → s.guesses ≡ map (λ (x : Guess). x.value) guesses → (n : ℕ) (b : ChainBlock) → slice_get (unvalidated 0 start (guesses_for guesses)) n ≡ Some b → IsListed s 0 n b
listed-first s start guesses same gs zero b at =
    let i = unvalidated-at 0 start (guesses_for guesses) zero b at in
    let none : b.guess ≡ None = sym (some-same None b.guess i.guess) in
    record { block = i.block; guess = none; first = λ l. i.real ∙ ap (first_value start) none ∙ same }
listed-first s start guesses same gs (suc n) b at =
    let i = unvalidated-at 0 start (guesses_for guesses) (suc n) b at in
    let some : b.guess ≡ Some (slice_index_or s.guesses n []) = guess-at guesses n b.guess i.guess ∙ ap (λ l. Some (slice_index_or l n [])) (sym gs) in
    record { block = i.block ∙ omega arith; guess = some; first = λ l. i.real ∙ ap (first_value start) some }

pub none-home : {X : Type 0} (count n : ℕ) (r : X) → slice_get (replicate count None) n ≡ Some (Some r) → ⊥
none-home zero n r at = cc
none-home (suc count) zero r at = let e = some-same None (Some r) at in cc
none-home (suc count) (suc n) r at = none-home count n r at

pub replicate-more : {X : Type 0} (n : ℕ) (x : X) → replicate n x ++ x ∷ [] ≡ replicate (n + 1) x
replicate-more zero x = let e : suc zero ≡ zero + 1 = omega arith in ap (λ k. replicate k x) e
replicate-more (suc n) x = let e : suc (n + 1) ≡ suc n + 1 = omega arith in ap (λ l. x ∷ l) (replicate-more n x) ∙ ap (λ k. replicate k x) e

pub length-guesses : (guesses : List Guess) → length (guesses_for guesses) ≡ length guesses + 1
length-guesses guesses = omega (arith, length-map guesses (λ (g : Guess). Some g.value))

-- ---- blocks as code adds them

next_index : (n k : ℕ) → n + 1 + k ≡ n + suc k
next_index n k = omega arith

unvalidated-snoc : (n : ℕ) (start : Carried) (gs : List (Option Carried)) (g : Option Carried) → unvalidated n start (gs ++ g ∷ []) ≡ unvalidated n start gs ++ record { block = n + length gs; guess = g; row = first_value start g } ∷ []
unvalidated-snoc n start [] g = ap (λ k. let b : ChainBlock = record { block = k; guess = g; row = first_value start g } in b ∷ []) (sym (add-zero n))
unvalidated-snoc n start (h ∷ gs) g =
    let b : ℕ → ChainBlock = λ k. record { block = k; guess = g; row = first_value start g } in
    let c : ChainBlock = record { block = n; guess = h; row = first_value start h } in
    ap (λ l. c ∷ l) (unvalidated-snoc (n + 1) start gs g) ∙ ap (λ k. c ∷ (unvalidated (n + 1) start gs ++ b k ∷ [])) (next_index n (length gs))

-- the block of one more guess
pub one_block : (start : Carried) (gs : List Guess) (i n : ℕ) (d : Guess) (w : Carried) (old new : List ChainBlock) → i < length gs → w ≡ (get_or gs i d).value → old ≡ unvalidated 0 start (guesses_for (take i gs)) → n ≡ length old → new ≡ old ++ record { block = n; guess = Some w; row = w } ∷ [] → new ≡ unvalidated 0 start (guesses_for (take (i + 1) gs))
one_block start gs i n d w old new low value is count added =
    let g = (get_or gs i d).value in
    let hs = guesses_for (take i gs) in
    let entry : ℕ → Carried → ChainBlock = λ m x. record { block = m; guess = Some x; row = x } in
    let size : n ≡ 0 + length hs = omega (arith, count, ap length is ∙ length-unvalidated 0 start hs) in
    let more : guesses_for (take (i + 1) gs) ≡ hs ++ Some g ∷ [] =
    ap guesses_for (take_more gs i d low) ∙ ap (λ l. None ∷ l) (map-append (λ (x : Guess). Some x.value) (take i gs) (get_or gs i d ∷ [])) in
    added
    ∙ ap (λ l. l ++ entry n w ∷ []) is
    ∙ ap (λ m. unvalidated 0 start hs ++ entry m w ∷ []) size
    ∙ ap (λ x. unvalidated 0 start hs ++ entry (0 + length hs) x ∷ []) value
    ∙ sym (ap (unvalidated 0 start) more ∙ unvalidated-snoc 0 start hs (Some g))
