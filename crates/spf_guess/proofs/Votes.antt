-- Votes that are counted by block numbers.
use Rattle.std.proofs.Common.{◌≡◌, Bool, true, false, ℕ, ◌+◌, ◌<◌, nat_lt, List, [], ◌∷◌, ◌++◌, length, get_or, Option, Some, None, arith, refl, sym, ap, subst, ◌∙◌, ℤ, pos, append_assoc}
use Rattle.std.specs.Prelude.{All, if◌then◌else◌, ◌||◌, unwrap_or, option_map, is_some}
use Rattle.std.specs.List.{fold}
use Rattle.std.specs.Ordering.{int_eq}
use Rattle.std.specs.Map.{update}
use Rattle.std.proofs.lemmas.List.{append-nil, map-append, length_push, get_or_push}
use Rattle.std.proofs.lemmas.List.Elements.{filter-append}
use Rattle.std.proofs.lemmas.Bool.{lt-ltb}
use Rattle.std.proofs.lemmas.Bool.Decides.{Decides-int_eq}
use Rattle.spf_guess_statistics.specs.Guess.{Told}
use Rattle.spf_guess.specs.Answers.{Answers, AnswersAlike}
use Rattle.spf_guess.specs.Kinds.{blocks_told, distinct, kept, is_kept, of_block, most_answer, vote_answer}
use Rattle.spf_guess.specs.Stores.{Stored, KeepsAlike, IsEmptyStore, takes, put_into, untold, once_told, vote_step}
use Rattle.spf_guess.proofs.Kept.{has, kept_with, eq_self, eq_turned, kept-more, none-taken, has-distinct, all-taken}
use Rattle.spf_guess.proofs.Stores.{keeping, put-keeping, keeping-none}

-- what holds of all of a list holds of its last
pub last-of-all : {X : Type 0} (P : X → Type 0) (xs ys : List X) (x : X) → ys ≡ xs ++ x ∷ [] → All P ys → P x
last-of-all P xs ys x e h =
    let within : length xs < length ys = omega (arith, ap length e, length_push xs x) in
    subst P (ap (λ list. get_or list (length xs) x) e ∙ get_or_push xs x x (length xs) refl) (h (length xs) x within)

-- ---- the first vote for a block

-- a value that comes under a new key, for which there is room
put-new : {V : Type 0} (store : Stored V) (key : ℤ) (value : V) → store.value key ≡ None → nat_lt store.count store.room ≡ true
    → put_into store key value ≡ record { room = store.room; count = store.count + 1; value = update int_eq store.value key (Some value) }
put-new store key value none left = rw (none, left) refl

-- the predictors of blocks, as they are kept
abbrev pub seen : {M : Type 0} → (M → Answers) → (room count : ℕ) → (ℤ → Option M) → Stored Answers
seen answer room count value = record { room = room; count = count; value = λ block. option_map answer (value block) }

pub first-vote : {M : Type 0} (answer : M → Answers) (each room count more : ℕ) (before after : ℤ → Option M) (told : Told) (fresh most : M)
    → before told.block ≡ None → count < room → more ≡ count + 1
    → ((block : ℤ) → after block ≡ (if int_eq told.block block then Some most else before block))
    → answer most ≡ once_told (answer fresh) told → AnswersAlike (untold each) (answer fresh)
    → KeepsAlike (vote_step each (seen answer room count before) told) (seen answer room more after)
first-vote answer each room count more before after told fresh most none left more_is after_is most_is alike =
    subst (λ store. KeepsAlike store (seen answer room more after)) (sym (put-new (seen answer room count before) told.block value (ap (option_map answer) none) (lt-ltb count room left)))
    (record { room = refl; count = more_is; values = λ block. ap (option_map answer) (after_is block) ∙ by_test block (int_eq told.block block) refl })
  where
    value : Answers
    value = once_told (unwrap_or (option_map answer (before told.block)) (untold each)) told

    by_test : (block : ℤ) (b : Bool) → int_eq told.block block ≡ b
        → option_map answer (if int_eq told.block block then Some most else before block)
        ≡ update int_eq (λ key. option_map answer (before key)) told.block (Some (once_told (unwrap_or (option_map answer (before told.block)) (untold each)) told)) block
    by_test block true e =
        rw e (ap Some (most_is ∙ (λ i pairs other. alike (told ∷ pairs) other i) ∙ sym (ap (λ o. once_told (unwrap_or (option_map answer o) (untold each)) told) none)))
    by_test block false e = rw e refl

-- ---- all votes

-- a block that isn't among those that were told has no pairs
no-pairs : (pairs : List Told) (block : ℤ) → has block (blocks_told pairs) ≡ false → of_block block pairs ≡ []
no-pairs [] block e = refl
no-pairs (t ∷ ts) block e = go (int_eq block t.block) refl e (no-pairs ts block)
  where
    go : (b : Bool) → int_eq block t.block ≡ b → (b || has block (blocks_told ts)) ≡ false → (has block (blocks_told ts) ≡ false → of_block block ts ≡ []) → of_block block (t ∷ ts) ≡ []
    go true d h later = cc
    go false d h later = rw d (later h)

-- what the predictor of a block answers after these pairs were told
abbrev voted : ℕ → List Told → ℤ → Answers
voted each pairs block more other = most_answer each (of_block block pairs ++ more)

voted-told : (each : ℕ) (pairs : List Told) (t : Told) → voted each (pairs ++ t ∷ []) t.block ≡ once_told (voted each pairs t.block) t
voted-told each pairs t =
    let its : of_block t.block (pairs ++ t ∷ []) ≡ of_block t.block pairs ++ t ∷ [] = filter-append (λ told. int_eq t.block told.block) pairs (t ∷ []) ∙ rw (eq_self t.block) refl in
    λ i more other. (ap (λ list. most_answer each (list ++ more)) its ∙ ap (most_answer each) (append_assoc (of_block t.block pairs) (t ∷ []) more)) i

voted-other : (each : ℕ) (pairs : List Told) (t : Told) (other : ℤ) → int_eq t.block other ≡ false → voted each (pairs ++ t ∷ []) other ≡ voted each pairs other
voted-other each pairs t other e = ap (λ list more block. most_answer each (list ++ more)) same
  where
    same : of_block other (pairs ++ t ∷ []) ≡ of_block other pairs
    same = filter-append (λ told. int_eq other told.block) pairs (t ∷ []) ∙ rw (eq_turned t.block other false e) (append-nil (of_block other pairs))

-- what is kept after these pairs were told
abbrev votes_after : (room each : ℕ) → List Told → Stored Answers
votes_after room each pairs = keeping room (kept room (blocks_told pairs)) (voted each pairs)

-- where the block of a pair is taken, what was kept for it is what its pairs make of a fresh predictor
known : (room each : ℕ) (pairs : List Told) (block : ℤ) → takes (votes_after room each pairs) block ≡ true
    → unwrap_or ((votes_after room each pairs).value block) (untold each) ≡ voted each pairs block
known room each pairs block = go (has block (kept room (blocks_told pairs))) (nat_lt (length (kept room (blocks_told pairs))) room) refl refl
  where
    go : (a b : Bool) → has block (kept room (blocks_told pairs)) ≡ a → nat_lt (length (kept room (blocks_told pairs))) room ≡ b
        → takes (votes_after room each pairs) block ≡ true
        → unwrap_or ((votes_after room each pairs).value block) (untold each) ≡ voted each pairs block
    go true b ea eb taken = rw ea refl
    go false true ea eb taken =
        let whole : kept room (blocks_told pairs) ≡ distinct (blocks_told pairs) = all-taken room (distinct (blocks_told pairs)) eb in
        let none = no-pairs pairs block (sym (has-distinct block (blocks_told pairs)) ∙ ap (has block) (sym whole) ∙ ea) in
        rw ea (ap (λ list more other. most_answer each (list ++ more)) (sym none))
    go false false ea eb taken =
        let not_taken : takes (votes_after room each pairs) block ≡ false = rw (ea, eb) refl in
        cc

votes-more : (room each : ℕ) (pairs : List Told) (t : Told) → vote_step each (votes_after room each pairs) t ≡ votes_after room each (pairs ++ t ∷ [])
votes-more room each pairs t =
    put-keeping room (kept room (blocks_told pairs)) (voted each pairs) (voted each (pairs ++ t ∷ [])) t.block
    (once_told (unwrap_or ((votes_after room each pairs).value t.block) (untold each)) t)
    (λ taken. voted-told each pairs t ∙ ap (λ answers. once_told answers t) (sym (known room each pairs t.block taken)))
    (voted-other each pairs t)
    ∙ sym (ap (λ keys. keeping room keys (voted each (pairs ++ t ∷ []))) (ap (kept room) (map-append (λ told. told.block) pairs (t ∷ [])) ∙ kept-more room (blocks_told pairs) t.block))

votes-told : (room each : ℕ) (told pairs : List Told) → fold (vote_step each) (votes_after room each told) pairs ≡ votes_after room each (told ++ pairs)
votes-told room each told [] = ap (votes_after room each) (sym (append-nil told))
votes-told room each told (t ∷ ts) =
    ap (λ store. fold (vote_step each) store ts) (votes-more room each told t)
    ∙ votes-told room each (told ++ t ∷ []) ts
    ∙ ap (votes_after room each) (append_assoc told (t ∷ []) ts)

answer_or_none : (b : Bool) (each : ℕ) (list : List Told) (block : ℤ)
    → unwrap_or (option_map (λ (answers : Answers). answers [] block) (if b then Some (λ more other. most_answer each (list ++ more)) else None)) (pos 0)
    ≡ (if b then most_answer each list else pos 0)
answer_or_none true each list block = ap (most_answer each) (append-nil list)
answer_or_none false each list block = refl

-- what a predictor of votes answers that begins empty
pub vote-answers : (room each : ℕ) (store : Stored Answers) → IsEmptyStore room store → (pairs : List Told) (block : ℤ)
    → unwrap_or (option_map (λ answers. answers [] block) ((fold (vote_step each) store pairs).value block)) (pos 0) ≡ vote_answer room each pairs block
vote-answers room each store empty pairs block =
    let begins : store ≡ votes_after room each [] = keeping-none room store (voted each []) empty ∙ ap (λ keys. keeping room keys (voted each [])) (sym (none-taken room)) in
    ap (λ s. unwrap_or (option_map (λ answers. answers [] block) ((fold (vote_step each) s pairs).value block)) (pos 0)) begins
    ∙ ap (λ s. unwrap_or (option_map (λ answers. answers [] block) (s.value block)) (pos 0)) (votes-told room each [] pairs)
    ∙ answer_or_none (is_kept room (blocks_told pairs) block) each (of_block block pairs) block
