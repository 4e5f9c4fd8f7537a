-- What a table keeps after it was told a list of pairs.
use Rattle.std.proofs.Common.{◌≡◌, Bool, true, false, ℕ, List, [], ◌∷◌, ◌++◌, Option, Some, None, refl, sym, ap, ◌∙◌, ℤ, pos, append_assoc}
use Rattle.std.specs.Prelude.{if◌then◌else◌, unwrap_or}
use Rattle.std.specs.List.{fold, last_or}
use Rattle.std.specs.Ordering.{int_eq}
use Rattle.std.proofs.lemmas.List.{append-nil, map-append}
use Rattle.std.proofs.lemmas.List.Elements.{filter-append}
use Rattle.spf_guess_statistics.specs.Guess.{Told}
use Rattle.spf_guess.specs.Kinds.{blocks_told, reals_told, last_of, kept, is_kept, of_block, table_answer}
use Rattle.spf_guess.specs.Stores.{Stored, IsEmptyStore, table_step}
use Rattle.spf_guess.proofs.Kept.{eq_self, eq_turned, kept-more, none-taken}
use Rattle.spf_guess.proofs.Stores.{keeping, put-keeping, keeping-none}

pub last_or-more : {A : Type 0} (o : Option A) (xs : List A) (x : A) → last_or o (xs ++ x ∷ []) ≡ Some x
last_or-more o [] x = refl
last_or-more o (y ∷ ys) x = last_or-more (Some y) ys x

-- ---- the values of blocks

-- the value of a block
abbrev pub value_of : List Told → ℤ → ℤ
value_of pairs block = last_of (reals_told (of_block block pairs))

value_of-told : (pairs : List Told) (t : Told) → value_of (pairs ++ t ∷ []) t.block ≡ t.real
value_of-told pairs t =
    let block = t.block in
    let its : of_block block (pairs ++ t ∷ []) ≡ of_block block pairs ++ t ∷ [] = filter-append (λ told. int_eq block told.block) pairs (t ∷ []) ∙ rw (eq_self block) refl in
    ap (λ ps. last_of (reals_told ps)) its
    ∙ ap last_of (map-append (λ told. told.real) (of_block block pairs) (t ∷ []))
    ∙ ap (λ last. unwrap_or last (pos 0)) (last_or-more None (reals_told (of_block block pairs)) t.real)

value_of-other : (pairs : List Told) (t : Told) (other : ℤ) → int_eq t.block other ≡ false → value_of (pairs ++ t ∷ []) other ≡ value_of pairs other
value_of-other pairs t other e = ap (λ ps. last_of (reals_told ps)) same
  where
    same : of_block other (pairs ++ t ∷ []) ≡ of_block other pairs
    same = filter-append (λ told. int_eq other told.block) pairs (t ∷ []) ∙ rw (eq_turned t.block other false e) (append-nil (of_block other pairs))

-- ---- tables

-- what is kept after these pairs were told
abbrev pub table_of : ℕ → List Told → Stored ℤ
table_of room pairs = keeping room (kept room (blocks_told pairs)) (value_of pairs)

table_of-more : (room : ℕ) (pairs : List Told) (t : Told) → table_step (table_of room pairs) t ≡ table_of room (pairs ++ t ∷ [])
table_of-more room pairs t =
    put-keeping room (kept room (blocks_told pairs)) (value_of pairs) (value_of (pairs ++ t ∷ [])) t.block t.real (λ taken. value_of-told pairs t) (value_of-other pairs t)
    ∙ sym (ap (λ keys. keeping room keys (value_of (pairs ++ t ∷ []))) (ap (kept room) (map-append (λ told. told.block) pairs (t ∷ [])) ∙ kept-more room (blocks_told pairs) t.block))

table_of-told : (room : ℕ) (told pairs : List Told) → fold table_step (table_of room told) pairs ≡ table_of room (told ++ pairs)
table_of-told room told [] = ap (table_of room) (sym (append-nil told))
table_of-told room told (t ∷ ts) =
    ap (λ store. fold table_step store ts) (table_of-more room told t)
    ∙ table_of-told room (told ++ t ∷ []) ts
    ∙ ap (table_of room) (append_assoc told (t ∷ []) ts)

value_or_none : (b : Bool) (value : ℤ) → unwrap_or (if b then Some value else None) (pos 0) ≡ (if b then value else pos 0)
value_or_none true value = refl
value_or_none false value = refl

-- what a table that begins empty answers
pub table-answers : (room : ℕ) (store : Stored ℤ) → IsEmptyStore room store → (pairs : List Told) (block : ℤ)
    → unwrap_or ((fold table_step store pairs).value block) (pos 0) ≡ table_answer room pairs block
table-answers room store empty pairs block =
    let begins : store ≡ table_of room [] = keeping-none room store (value_of []) empty ∙ ap (λ keys. keeping room keys (value_of [])) (sym (none-taken room)) in
    ap (λ s. unwrap_or ((fold table_step s pairs).value block) (pos 0)) begins
    ∙ ap (λ s. unwrap_or (s.value block) (pos 0)) (table_of-told room [] pairs)
    ∙ value_or_none (is_kept room (blocks_told pairs) block) (value_of pairs block)
