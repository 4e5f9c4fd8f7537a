-- The value that is counted most often.
use Rattle.std.proofs.Common.{◌≡◌, ◌⊎◌, inl, inr, Bool, true, false, ℕ, ◌<◌, ◌≤◌, nat_lt, nat_eq, List, [], ◌∷◌, Some, refl, sym, ap, subst, ◌∙◌, ℤ, pos, arith}
use Rattle.std.specs.Prelude.{◌||◌, ◌&&◌, if◌then◌else◌, int_lt, ◌<ℤ◌, ◌≤ℤ◌, unwrap_or, option_map}
use Rattle.std.specs.List.{fold, reduce}
use Rattle.std.specs.Ordering.{int_eq}
use Rattle.std.proofs.lemmas.Int.{ints}
use Rattle.std.proofs.lemmas.Bool.Decides.{Decides-int_eq}
use Rattle.std.proofs.Math.Bool.{or-true}
use Rattle.spf_guess.specs.Kinds.{is_preferred, preferred}
use Rattle.spf_guess.proofs.Kept.{has, eq_self}

-- ---- what is preferred

-- a value counted c times goes before another one that is counted d times
pub record GoesBefore (v : ℤ) (c : ℕ) (w : ℤ) (d : ℕ) : Type 0 where
  pub why : (d < c) ⊎ ((c ≡ d) × (v <ℤ w))

-- it doesn't
pub record GoesBehind (v : ℤ) (c : ℕ) (w : ℤ) (d : ℕ) : Type 0 where
  pub count : c ≤ d
  pub value : c ≡ d → w ≤ℤ v

pub prefers : (v : ℤ) (c : ℕ) (w : ℤ) (d : ℕ) → is_preferred v c w d ≡ true → GoesBefore v c w d
prefers v c w d e = go (nat_lt d c) (nat_eq d c) (int_lt v w) refl refl refl e
  where
    go : (x y z : Bool) → nat_lt d c ≡ x → nat_eq d c ≡ y → int_lt v w ≡ z → (x || (y && z)) ≡ true → GoesBefore v c w d
    go true y z ex ey ez t = record { why = inl (grind (arith, ex)) }
    go false true true ex ey ez t = record { why = inr (grind (arith, ey), grind (arith, ints, ez)) }
    go false true false ex ey ez t = cc
    go false false z ex ey ez t = cc

pub doesnt_prefer : (v : ℤ) (c : ℕ) (w : ℤ) (d : ℕ) → is_preferred v c w d ≡ false → GoesBehind v c w d
doesnt_prefer v c w d e = go (nat_lt d c) (nat_eq d c) (int_lt v w) refl refl refl e
  where
    go : (x y z : Bool) → nat_lt d c ≡ x → nat_eq d c ≡ y → int_lt v w ≡ z → (x || (y && z)) ≡ false → GoesBehind v c w d
    go true y z ex ey ez t = cc
    go false true true ex ey ez t = cc
    go false true false ex ey ez t = record { count = grind (arith, ex); value = λ same. grind (arith, ints, ez) }
    go false false z ex ey ez t = record { count = grind (arith, ex); value = λ same. absurd (grind (arith, ey, same)) }

pub not_both : (v : ℤ) (c : ℕ) (w : ℤ) (d : ℕ) → GoesBefore v c w d → GoesBehind v c w d → ⊥
not_both v c w d before behind = go before.why
  where
    go : (d < c) ⊎ ((c ≡ d) × (v <ℤ w)) → ⊥
    go (inl more) = let h = behind.count in omega (arith, more, h)
    go (inr (same, less)) = let h = behind.value same in grind (arith, ints, h, less)

-- ---- the best of a list

-- b is in the list, and no value of the list goes before it
pub record IsBest (count : ℤ → ℕ) (values : List ℤ) (b : ℤ) : Type 0 where
  pub among : has b values ≡ true
  pub others : (w : ℤ) → has w values ≡ true → GoesBehind w (count w) b (count b)

-- there is one best value
pub best_is_one : (count : ℤ → ℕ) (values : List ℤ) (a b : ℤ) → IsBest count values a → IsBest count values b → a ≡ b
best_is_one count values a b best_a best_b =
    let ab = best_b.others a best_a.among in
    let ba = best_a.others b best_b.among in
    let same : count a ≡ count b = omega (arith, ab.count, ba.count) in
    let one = ab.value same in
    let other = ba.value (sym same) in
    grind (arith, ints, one, other)

-- ---- the best value by going over the list

behind_self : (v : ℤ) (c : ℕ) → GoesBehind v c v c
behind_self v c = record { count = omega arith; value = λ same. grind (arith, ints) }

before_behind : (v : ℤ) (c : ℕ) (w : ℤ) (d : ℕ) → GoesBefore w d v c → GoesBehind v c w d
before_behind v c w d before = go before.why
  where
    go : (c < d) ⊎ ((d ≡ c) × (w <ℤ v)) → GoesBehind v c w d
    go (inl more) = record { count = omega (arith, more); value = λ same. absurd (omega (arith, more, same)) }
    go (inr (same, less)) = record { count = omega (arith, same); value = λ _. grind (arith, ints, less) }

behind_both : (v : ℤ) (c : ℕ) (w : ℤ) (d : ℕ) (u : ℤ) (e : ℕ) → GoesBehind v c w d → GoesBehind w d u e → GoesBehind v c u e
behind_both v c w d u e one other =
    let first = one.count in
    let second = other.count in
    record {
      count = omega (arith, first, second);
      value = λ same.
          let below = one.value (omega (arith, first, second, same)) in
          let above = other.value (omega (arith, first, second, same)) in
          grind (arith, ints, below, above);
    }

-- the outcome of going over a list from a value: no value of either goes before it
record Outcome (count : ℤ → ℕ) (start : ℤ) (values : List ℤ) (b : ℤ) : Type 0 where
  among : (has b values ≡ true) ⊎ (b ≡ start)
  from_start : GoesBehind start (count start) b (count b)
  others : (w : ℤ) → has w values ≡ true → GoesBehind w (count w) b (count b)

has-first : (x : ℤ) (xs : List ℤ) → has x (x ∷ xs) ≡ true
has-first x xs = rw (eq_self x) refl

has-later : (w x : ℤ) (xs : List ℤ) → has w xs ≡ true → has w (x ∷ xs) ≡ true
has-later w x xs e = rw e (or-true (int_eq w x))

has-split : (w x : ℤ) (xs : List ℤ) → has w (x ∷ xs) ≡ true → (w ≡ x) ⊎ (has w xs ≡ true)
has-split w x xs e = go (int_eq w x) refl e
  where
    go : (b : Bool) → int_eq w x ≡ b → (b || has w xs) ≡ true → (w ≡ x) ⊎ (has w xs ≡ true)
    go true d h = inl ((Decides-int_eq w x).0 d)
    go false d h = inr h

outcome-first : (count : ℤ → ℕ) (start y : ℤ) (ys : List ℤ) (b : ℤ) → GoesBefore y (count y) start (count start) → Outcome count y ys b → Outcome count start (y ∷ ys) b
outcome-first count start y ys b before o = record {
  among = inl (within o.among);
  from_start = behind_both start (count start) y (count y) b (count b) (before_behind start (count start) y (count y) before) o.from_start;
  others = λ w e. behind w (has-split w y ys e);
}
  where
    within : (has b ys ≡ true) ⊎ (b ≡ y) → has b (y ∷ ys) ≡ true
    within (inl e) = has-later b y ys e
    within (inr e) = subst (λ w. has w (y ∷ ys) ≡ true) (sym e) (has-first y ys)

    behind : (w : ℤ) → (w ≡ y) ⊎ (has w ys ≡ true) → GoesBehind w (count w) b (count b)
    behind w (inl e) = subst (λ v. GoesBehind v (count v) b (count b)) (sym e) o.from_start
    behind w (inr e) = o.others w e

outcome-later : (count : ℤ → ℕ) (start y : ℤ) (ys : List ℤ) (b : ℤ) → GoesBehind y (count y) start (count start) → Outcome count start ys b → Outcome count start (y ∷ ys) b
outcome-later count start y ys b after o = record {
  among = within o.among;
  from_start = o.from_start;
  others = λ w e. behind w (has-split w y ys e);
}
  where
    within : (has b ys ≡ true) ⊎ (b ≡ start) → (has b (y ∷ ys) ≡ true) ⊎ (b ≡ start)
    within (inl e) = inl (has-later b y ys e)
    within (inr e) = inr e

    behind : (w : ℤ) → (w ≡ y) ⊎ (has w ys ≡ true) → GoesBehind w (count w) b (count b)
    behind w (inl e) = subst (λ v. GoesBehind v (count v) b (count b)) (sym e) (behind_both y (count y) start (count start) b (count b) after o.from_start)
    behind w (inr e) = o.others w e

outcome : (count : ℤ → ℕ) (start : ℤ) (values : List ℤ) → Outcome count start values (fold (preferred count) start values)
outcome count start [] = record { among = inr refl; from_start = behind_self start (count start); others = λ w e. cc }
outcome count start (y ∷ ys) = go (is_preferred y (count y) start (count start)) refl (outcome count (preferred count start y) ys)
  where
    go : (p : Bool) → is_preferred y (count y) start (count start) ≡ p → Outcome count (preferred count start y) ys (fold (preferred count) (preferred count start y) ys)
        → Outcome count start (y ∷ ys) (fold (preferred count) (preferred count start y) ys)
    go true e o =
        let same : preferred count start y ≡ y = rw e refl in
        let from_y = subst (λ s. Outcome count s ys (fold (preferred count) s ys)) same o in
        subst (λ s. Outcome count start (y ∷ ys) (fold (preferred count) s ys)) (sym same) (outcome-first count start y ys (fold (preferred count) y ys) (prefers y (count y) start (count start) e) from_y)
    go false e o =
        let same : preferred count start y ≡ start = rw e refl in
        let from_start = subst (λ s. Outcome count s ys (fold (preferred count) s ys)) same o in
        subst (λ s. Outcome count start (y ∷ ys) (fold (preferred count) s ys)) (sym same) (outcome-later count start y ys (fold (preferred count) start ys) (doesnt_prefer y (count y) start (count start) e) from_start)

-- the best value of a list that isn't empty
reduced_is_best : (count : ℤ → ℕ) (x : ℤ) (xs : List ℤ) → IsBest count (x ∷ xs) (fold (preferred count) x xs)
reduced_is_best count x xs =
    let o = outcome count x xs in
    let b = fold (preferred count) x xs in
    record {
      among = within o.among;
      others = λ w e. behind w (has-split w x xs e);
    }
  where
    within : (has (fold (preferred count) x xs) xs ≡ true) ⊎ (fold (preferred count) x xs ≡ x) → has (fold (preferred count) x xs) (x ∷ xs) ≡ true
    within (inl e) = has-later (fold (preferred count) x xs) x xs e
    within (inr e) = subst (λ w. has w (x ∷ xs) ≡ true) (sym e) (has-first x xs)

    behind : (w : ℤ) → (w ≡ x) ⊎ (has w xs ≡ true) → GoesBehind w (count w) (fold (preferred count) x xs) (count (fold (preferred count) x xs))
    behind w (inl e) = subst (λ v. GoesBehind v (count v) (fold (preferred count) x xs) (count (fold (preferred count) x xs))) (sym e) (outcome count x xs).from_start
    behind w (inr e) = (outcome count x xs).others w e

-- going over a list finds its best value
pub best_is_reduced : (count : ℤ → ℕ) (values : List ℤ) (b : ℤ) → IsBest count values b → reduce (preferred count) values ≡ Some b
best_is_reduced count [] b best = let among = best.among in cc
best_is_reduced count (x ∷ xs) b best = ap Some (best_is_one count (x ∷ xs) (fold (preferred count) x xs) b (reduced_is_best count x xs) best)

-- where counts agree on the values of a list, so do the best values
pub best-alike : (f g : ℤ → ℕ) (values : List ℤ) → ((w : ℤ) → has w values ≡ true → g w ≡ f w) → reduce (preferred g) values ≡ reduce (preferred f) values
best-alike f g [] alike = refl
best-alike f g (x ∷ xs) alike = best_is_reduced g (x ∷ xs) (fold (preferred f) x xs) (record {
  among = (reduced_is_best f x xs).among;
  others = λ w e. rw (alike w e, alike (fold (preferred f) x xs) (reduced_is_best f x xs).among) ((reduced_is_best f x xs).others w e);
})

-- ---- one more count

-- the counts of a list of values after one value came that is among them now: its count has risen, and no other count changed
pub record OneMore (f : ℤ → ℕ) (values : List ℤ) (g : ℤ → ℕ) (more : List ℤ) (v : ℤ) (c : ℕ) : Type 0 where
  pub among : has v more ≡ true
  pub rises : f v ≤ c
  pub counts : 0 < c
  pub count : g v ≡ c
  pub others : (w : ℤ) → int_eq v w ≡ false → g w ≡ f w
  pub members : (w : ℤ) → int_eq v w ≡ false → has w more ≡ has w values
  pub stays : (w : ℤ) → has w values ≡ true → has w more ≡ true

best-came : (f g : ℤ → ℕ) (values more : List ℤ) (v : ℤ) (c : ℕ) (b : ℤ) → OneMore f values g more v c → IsBest f values b → GoesBefore v c b (f b) → IsBest g more v
best-came f g values more v c b one best before = record { among = one.among; others = λ w e. go w e (int_eq v w) refl }
  where
    go : (w : ℤ) → has w more ≡ true → (p : Bool) → int_eq v w ≡ p → GoesBehind w (g w) v (g v)
    go w e true d = subst (λ u. GoesBehind u (g u) v (g v)) ((Decides-int_eq v w).0 d) (behind_self v (g v))
    go w e false d =
        let was : has w values ≡ true = sym (one.members w d) ∙ e in
        rw (one.others w d, one.count) (behind_both w (f w) b (f b) v c (best.others w was) (before_behind b (f b) v c before))

best-count : (f g : ℤ → ℕ) (values more : List ℤ) (v : ℤ) (c : ℕ) (b : ℤ) → OneMore f values g more v c → GoesBehind v c b (f b) → g b ≡ f b
best-count f g values more v c b one after = go (int_eq v b) refl
  where
    go : (p : Bool) → int_eq v b ≡ p → g b ≡ f b
    go true d =
        let same : f v ≡ f b = ap f ((Decides-int_eq v b).0 d) in
        let count : g b ≡ c = ap g (sym ((Decides-int_eq v b).0 d)) ∙ one.count in
        let rises = one.rises in
        let most = after.count in
        omega (arith, same, count, rises, most)
    go false d = one.others b d

best-stays : (f g : ℤ → ℕ) (values more : List ℤ) (v : ℤ) (c : ℕ) (b : ℤ) → OneMore f values g more v c → IsBest f values b → GoesBehind v c b (f b) → IsBest g more b
best-stays f g values more v c b one best after = record { among = one.stays b best.among; others = λ w e. go w e (int_eq v w) refl }
  where
    go : (w : ℤ) → has w more ≡ true → (p : Bool) → int_eq v w ≡ p → GoesBehind w (g w) b (g b)
    go w e true d = subst (λ u. GoesBehind u (g u) b (g b)) ((Decides-int_eq v w).0 d) (rw (one.count, best-count f g values more v c b one after) after)
    go w e false d =
        let was : has w values ≡ true = sym (one.members w d) ∙ e in
        rw (one.others w d, best-count f g values more v c b one after) (best.others w was)

-- the best value after one value came
pub best-more : (f g : ℤ → ℕ) (values more : List ℤ) (v : ℤ) (c : ℕ) (b : ℤ) → OneMore f values g more v c → IsBest f values b
    → IsBest g more (if is_preferred v c b (f b) then v else b) × (g (if is_preferred v c b (f b) then v else b) ≡ (if is_preferred v c b (f b) then c else f b))
best-more f g values more v c b one best = go (is_preferred v c b (f b)) refl
  where
    go : (p : Bool) → is_preferred v c b (f b) ≡ p
        → IsBest g more (if is_preferred v c b (f b) then v else b) × (g (if is_preferred v c b (f b) then v else b) ≡ (if is_preferred v c b (f b) then c else f b))
    go true e = rw e (best-came f g values more v c b one best (prefers v c b (f b) e), one.count)
    go false e =
        let after = doesnt_prefer v c b (f b) e in
        rw e (best-stays f g values more v c b one best after, best-count f g values more v c b one after)

-- ---- the best value and its count

-- the best value, or none
abbrev pub best_of : (ℤ → ℕ) → List ℤ → ℤ
best_of count values = unwrap_or (reduce (preferred count) values) (pos 0)

-- its count, or 0
abbrev pub best_count_of : (ℤ → ℕ) → List ℤ → ℕ
best_count_of count values = unwrap_or (option_map count (reduce (preferred count) values)) 0

best_of-is : (count : ℤ → ℕ) (values : List ℤ) (b : ℤ) → IsBest count values b → (best_of count values ≡ b) × (best_count_of count values ≡ count b)
best_of-is count values b best = rw (best_is_reduced count values b best) (refl, refl)

-- both after one value came
pub best_of-more : (f g : ℤ → ℕ) (values more : List ℤ) (v : ℤ) (c : ℕ) → OneMore f values g more v c
    → ((if is_preferred v c (best_of f values) (best_count_of f values) then v else best_of f values) ≡ best_of g more)
    × ((if is_preferred v c (best_of f values) (best_count_of f values) then c else best_count_of f values) ≡ best_count_of g more)
best_of-more f g [] more v c one =
    let first : nat_lt 0 c ≡ true = grind (arith, one.counts) in
    let best : IsBest g more v = record { among = one.among; others = λ w e. go w e (int_eq v w) refl } in
    let is = best_of-is g more v best in
    rw first (sym is.0, sym (is.1 ∙ one.count))
  where
    go : (w : ℤ) → has w more ≡ true → (p : Bool) → int_eq v w ≡ p → GoesBehind w (g w) v (g v)
    go w e true d = subst (λ u. GoesBehind u (g u) v (g v)) ((Decides-int_eq v w).0 d) (behind_self v (g v))
    go w e false d = let none : false ≡ true = sym (one.members w d) ∙ e in cc
best_of-more f g (x ∷ xs) more v c one =
    let both = best-more f g (x ∷ xs) more v c (fold (preferred f) x xs) one (reduced_is_best f x xs) in
    let is = best_of-is g more _ both.0 in
    (sym is.0, sym (is.1 ∙ both.1))

-- where counts agree on the values of a list, so do both
pub best_of-alike : (f g : ℤ → ℕ) (values : List ℤ) → ((w : ℤ) → has w values ≡ true → g w ≡ f w) → best_of f values ≡ best_of g values
best_of-alike f g values alike = ap (λ best. unwrap_or best (pos 0)) (sym (best-alike f g values alike))

pub best_count_of-alike : (f g : ℤ → ℕ) (values : List ℤ) → ((w : ℤ) → has w values ≡ true → g w ≡ f w) → best_count_of f values ≡ best_count_of g values
best_count_of-alike f g [] alike = refl
best_count_of-alike f g (x ∷ xs) alike =
    ap (λ best. unwrap_or (option_map f best) 0) (sym (best-alike f g (x ∷ xs) alike)) ∙ sym (alike (fold (preferred g) x xs) (reduced_is_best g x xs).among)
