-- What is counted after a list of pairs was told.
use Rattle.std.proofs.Common.{◌≡◌, Bool, true, false, ℕ, ◌+◌, ◌-◌, ◌^◌, ◌<◌, ◌≤◌, min, nat_lt, List, [], ◌∷◌, ◌++◌, length, refl, sym, ap, subst, ◌∙◌, ℤ, pos, arith, append_assoc}
use Rattle.std.specs.Prelude.{◌||◌, if◌then◌else◌}
use Rattle.std.specs.List.{fold, count_by}
use Rattle.std.specs.Ordering.{int_eq}
use Rattle.std.proofs.lemmas.List.{append-nil, map-append}
use Rattle.std.proofs.lemmas.List.Sums.{sum_by-append}
use Rattle.std.proofs.lemmas.Bool.Decides.{Decides-int_eq}
use Rattle.spf_guess_statistics.specs.Guess.{Told}
use Rattle.spf_guess.specs.Kinds.{reals_told, distinct, kept, counted, most_answer}
use Rattle.spf_guess.specs.Stores.{Stored, Counts, IsEmptyStore, takes, put_into, one_more, count_as, most_step}
use Rattle.spf_guess.proofs.Kept.{has, kept_with, kept-more, eq_self, eq_turned, none-taken, has-distinct, all-taken}
use Rattle.spf_guess.proofs.Stores.{keeping, keeping-none, keeping-alike, put-keeping, kept_with-has, kept_with-stays, kept_with-others, kept_with-full}
use Rattle.spf_guess.proofs.Best.{OneMore, best_of, best_count_of, best_of-more, best_of-alike, best_count_of-alike}

-- ---- counts of a list

add-zero : (n : ℕ) → n + 0 ≡ n
add-zero n = omega arith

counted-more : (values : List ℤ) (v : ℤ) → counted (values ++ v ∷ []) v ≡ min (count_by (int_eq v) values + 1) (2 ^ 64 - 1)
counted-more values v = ap (λ n. min n (2 ^ 64 - 1)) (sum_by-append _ values (v ∷ []) ∙ rw (eq_self v) refl)

counted-other : (values : List ℤ) (v w : ℤ) → int_eq v w ≡ false → counted (values ++ v ∷ []) w ≡ counted values w
counted-other values v w e = ap (λ n. min n (2 ^ 64 - 1)) (sum_by-append _ values (v ∷ []) ∙ rw (eq_turned v w false e) (add-zero _))

-- a value that isn't in a list is counted 0 times
count-none : (values : List ℤ) (v : ℤ) → has v values ≡ false → count_by (int_eq v) values ≡ 0
count-none [] v e = refl
count-none (x ∷ xs) v e = go (int_eq v x) refl e (count-none xs v)
  where
    go : (p : Bool) → int_eq v x ≡ p → (p || has v xs) ≡ false → (has v xs ≡ false → count_by (int_eq v) xs ≡ 0) → count_by (int_eq v) (x ∷ xs) ≡ 0
    go true d h later = cc
    go false d h later = rw d (later h)

-- ---- one more value

-- the values that are kept
abbrev keys_of : ℕ → List ℤ → List ℤ
keys_of room values = kept room values

-- their counts, after these values were told
abbrev state_of : ℕ → List ℤ → (ℤ → ℕ) → Counts
state_of room keys count = record {
  stored = keeping room keys count;
  best = best_of count keys;
  best_count = best_count_of count keys;
}

-- where a value is taken that isn't kept yet, it wasn't told before
untold : (room : ℕ) (values : List ℤ) (v : ℤ) → has v (kept room values) ≡ false → nat_lt (length (kept room values)) room ≡ true → count_by (int_eq v) values ≡ 0
untold room values v out room_left =
    let whole : kept room values ≡ distinct values = all-taken room (distinct values) room_left in
    count-none values v (sym (has-distinct v values) ∙ ap (has v) (sym whole) ∙ out)

-- where a value is taken, its count is one more than what is kept for it
counted-taken : (room : ℕ) (values : List ℤ) (v : ℤ) → (has v (kept room values) || nat_lt (length (kept room values)) room) ≡ true
    → counted (values ++ v ∷ []) v ≡ one_more (keeping room (kept room values) (counted values)) v
counted-taken room values v taken = counted-more values v ∙ go (has v (kept room values)) (nat_lt (length (kept room values)) room) refl refl taken
  where
    go : (a b : Bool) → has v (kept room values) ≡ a → nat_lt (length (kept room values)) room ≡ b → (a || b) ≡ true
        → min (count_by (int_eq v) values + 1) (2 ^ 64 - 1) ≡ one_more (keeping room (kept room values) (counted values)) v
    go true b ea eb t = rw ea (again (count_by (int_eq v) values))
      where
        again : (n : ℕ) → min (n + 1) (2 ^ 64 - 1) ≡ min (min n (2 ^ 64 - 1) + 1) (2 ^ 64 - 1)
        again n = omega arith
    go false true ea eb t = rw (ea, untold room values v ea eb) refl
    go false false ea eb t = cc

takes-keeping : (room : ℕ) (keys : List ℤ) (f : ℤ → ℕ) (v : ℤ) → takes (keeping room keys f) v ≡ (has v keys || nat_lt (length keys) room)
takes-keeping room keys f v = go (has v keys) refl
  where
    go : (b : Bool) → has v keys ≡ b → takes (keeping room keys f) v ≡ (has v keys || nat_lt (length keys) room)
    go true e = rw e refl
    go false e = rw e refl

chosen : {A : Type 0} (b : Bool) (x y : A) → b ≡ true → (if b then x else y) ≡ x
chosen true x y e = refl
chosen false x y e = cc

not_chosen : {A : Type 0} (b : Bool) (x y : A) → b ≡ false → (if b then x else y) ≡ y
not_chosen true x y e = cc
not_chosen false x y e = refl

-- counts after a value came that is taken
state_of-taken : (room : ℕ) (keys more : List ℤ) (f g : ℤ → ℕ) (v : ℤ) (c : ℕ) → takes (keeping room keys f) v ≡ true → more ≡ kept_with room keys v → OneMore f keys g more v c
    → count_as (state_of room keys f) v c ≡ state_of room more g
state_of-taken room keys more f g v c taken is one =
    let both = best_of-more f g keys more v c one in
    let put : put_into (keeping room keys f) v c ≡ keeping room more g = put-keeping room keys f g v c (λ _. one.count) one.others ∙ ap (λ ks. keeping room ks g) (sym is) in
    chosen (takes (keeping room keys f) v) _ _ taken ∙ (λ i. record { stored = put i; best = both.0 i; best_count = both.1 i })

-- counts after a value came that isn't taken
state_of-full : (room : ℕ) (keys more : List ℤ) (f g : ℤ → ℕ) (v : ℤ) (c : ℕ) → takes (keeping room keys f) v ≡ false → more ≡ keys → ((w : ℤ) → has w keys ≡ true → g w ≡ f w)
    → count_as (state_of room keys f) v c ≡ state_of room more g
state_of-full room keys more f g v c full is alike =
    not_chosen (takes (keeping room keys f) v) _ _ full
    ∙ (λ i. record { stored = keeping-alike room keys f g (λ w e. sym (alike w e)) i; best = best_of-alike f g keys alike i; best_count = best_count_of-alike f g keys alike i })
    ∙ ap (λ ks. state_of room ks g) (sym is)

state_of-more : (room : ℕ) (values : List ℤ) (v : ℤ)
    → count_as (state_of room (kept room values) (counted values)) v (one_more (keeping room (kept room values) (counted values)) v)
    ≡ state_of room (kept_with room (kept room values) v) (counted (values ++ v ∷ []))
state_of-more room values v = go (has v (kept room values) || nat_lt (length (kept room values)) room) refl
  where
    go : (p : Bool) → (has v (kept room values) || nat_lt (length (kept room values)) room) ≡ p
        → count_as (state_of room (kept room values) (counted values)) v (one_more (keeping room (kept room values) (counted values)) v)
        ≡ state_of room (kept_with room (kept room values) v) (counted (values ++ v ∷ []))
    go true e =
        let keys = kept room values in
        let f = counted values in
        let g = counted (values ++ v ∷ []) in
        let is = counted-taken room values v e in
        let risen = counted-more values v in
        state_of-taken room keys (kept_with room keys v) f g v (one_more (keeping room keys f) v) (takes-keeping room keys f v ∙ e) refl (record {
          among = kept_with-has room keys v e;
          rises = at_most (count_by (int_eq v) values) (one_more (keeping room keys f) v) (sym is ∙ risen);
          counts = above (count_by (int_eq v) values) (one_more (keeping room keys f) v) (sym is ∙ risen);
          count = is;
          others = counted-other values v;
          members = kept_with-others room keys v;
          stays = kept_with-stays room keys v;
        })
      where
        at_most : (n c : ℕ) → c ≡ min (n + 1) (2 ^ 64 - 1) → min n (2 ^ 64 - 1) ≤ c
        at_most n c h = omega (arith, h)

        above : (n c : ℕ) → c ≡ min (n + 1) (2 ^ 64 - 1) → 0 < c
        above n c h = omega (arith, h)
    go false e =
        let keys = kept room values in
        let full = kept_with-full room keys v e in
        state_of-full room keys (kept_with room keys v) (counted values) (counted (values ++ v ∷ [])) v (one_more (keeping room keys (counted values)) v) (takes-keeping room keys (counted values) v ∙ e) full.0
        (λ w within. counted-other values v w (apart w within full.1 (int_eq v w) refl))
      where
        apart : (w : ℤ) → has w (kept room values) ≡ true → has v (kept room values) ≡ false → (p : Bool) → int_eq v w ≡ p → int_eq v w ≡ false
        apart w within out false d = d
        apart w within out true d = let back : has v (kept room values) ≡ true = subst (λ u. has u (kept room values) ≡ true) (sym ((Decides-int_eq v w).0 d)) within in cc

-- ---- all pairs

most_state : ℕ → List Told → Counts
most_state room pairs = state_of room (kept room (reals_told pairs)) (counted (reals_told pairs))

most_state-more : (room : ℕ) (pairs : List Told) (t : Told) → most_step (most_state room pairs) t ≡ most_state room (pairs ++ t ∷ [])
unfolding most_state
most_state-more room pairs t =
    let values = reals_told pairs in
    let more : reals_told (pairs ++ t ∷ []) ≡ values ++ t.real ∷ [] = map-append (λ told. told.real) pairs (t ∷ []) in
    state_of-more room values t.real
    ∙ ap (λ keys. state_of room keys (counted (values ++ t.real ∷ []))) (sym (kept-more room values t.real))
    ∙ ap (λ vs. state_of room (kept room vs) (counted vs)) (sym more)

most_state-told : (room : ℕ) (told pairs : List Told) → fold most_step (most_state room told) pairs ≡ most_state room (told ++ pairs)
most_state-told room told [] = ap (most_state room) (sym (append-nil told))
most_state-told room told (t ∷ ts) =
    ap (λ counts. fold most_step counts ts) (most_state-more room told t)
    ∙ most_state-told room (told ++ t ∷ []) ts
    ∙ ap (most_state room) (append_assoc told (t ∷ []) ts)

-- what a predictor answers that begins with no counts
pub most-answers : (room : ℕ) (store : Stored ℕ) → IsEmptyStore room store → (pairs : List Told)
    → (fold most_step (record { stored = store; best = pos 0; best_count = 0 }) pairs).best ≡ most_answer room pairs
unfolding most_state
most-answers room store empty pairs =
    let begins : store ≡ keeping room [] (counted []) = keeping-none room store (counted []) empty in
    ap (λ s. (fold most_step (record { stored = s; best = pos 0; best_count = 0 }) pairs).best) begins
    ∙ ap (λ keys. (fold most_step (state_of room keys (counted [])) pairs).best) (sym (none-taken room))
    ∙ ap (λ counts. counts.best) (most_state-told room [] pairs)
