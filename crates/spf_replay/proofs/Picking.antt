-- The blocks that run, as a list.
use Rattle.std.proofs.Common.{◌≡◌, ◌⊎◌, inl, inr, ℕ, zero, suc, ◌+◌, ◌<◌, Bool, true, false, List, [], ◌∷◌, ◌++◌, Some, length, length-append, refl, sym, ◌∙◌, subst, arith}
use Rattle.std.specs.Prelude.{if◌then◌else◌, slice_get}
use Rattle.spf_ast_lemmas.proofs.Members.{cases}
use Rattle.spf_replay.specs.Schedule.{Status, is_running, running_below, running_blocks}

one-more-out : (b : Bool) (n : ℕ) → length (if b then n ∷ [] else []) ≡ (if b then 1 else 0)
one-more-out true n = refl
one-more-out false n = refl

pub outs-counted : (status : ℕ → Status) (count : ℕ) → length (running_blocks status count) ≡ running_below status count
outs-counted status zero = refl
outs-counted status (suc n) = length-append (running_blocks status n) (if is_running (status n) then n ∷ [] else [])
    ∙ swapped (length (running_blocks status n)) (running_below status n) _ _ (outs-counted status n) (one-more-out (is_running (status n)) n)
  where
    swapped : (a b c d : ℕ) → a ≡ b → c ≡ d → a + c ≡ d + b
    swapped a b c d e f = omega (arith, e, f)

-- an element of two lists is one of the first, or one of the second
get-joined : (xs ys : List ℕ) (k n : ℕ) → slice_get (xs ++ ys) k ≡ Some n → (slice_get xs k ≡ Some n) ⊎ ((j : ℕ) × (k ≡ length xs + j) × (slice_get ys j ≡ Some n))
get-joined [] ys k n h = inr (k, omega arith, h)
get-joined (x ∷ xs) ys zero n h = inl h
get-joined (x ∷ xs) ys (suc k) n h = cases (get-joined xs ys k n h) (λ l. inl l) (λ r. inr (r.0, shifted k (length xs) r.0 r.1, r.2))
  where
    shifted : (k l j : ℕ) → k ≡ l + j → suc k ≡ suc l + j
    shifted k l j h = omega (arith, h)

the-one : (b : Bool) (m j n : ℕ) → slice_get (if b then m ∷ [] else []) j ≡ Some n → (b ≡ true) × (j ≡ 0) × (m ≡ n)
the-one true m zero n h = (refl, refl, same m n h)
  where
    same : (m n : ℕ) → Some m ≡ Some n → m ≡ n
    same m n h = cc
the-one true m (suc j) n h = cc
the-one false m j n h = cc

pub outs-picked : (status : ℕ → Status) (count k n : ℕ) → slice_get (running_blocks status count) k ≡ Some n → (n < count) × (is_running (status n) ≡ true) × (running_below status n ≡ k)
outs-picked status zero k n h = cc
outs-picked status (suc m) k n h = cases (get-joined (running_blocks status m) (if is_running (status m) then m ∷ [] else []) k n h)
    (λ first. let p = outs-picked status m k n first in (later n m p.0, p.1, p.2))
    (λ last. let p = the-one (is_running (status m)) m last.0 n last.2 in (
      subst (λ x. n < suc x) (sym p.2) (omega arith),
      subst (λ x. is_running (status x) ≡ true) p.2 p.0,
      subst (λ x. running_below status x ≡ k) p.2 (at k (length (running_blocks status m)) (running_below status m) last.0 last.1 p.1 (outs-counted status m)),
    ))
  where
    later : (a b : ℕ) → a < b → a < suc b
    later a b h = omega (arith, h)

    at : (k l o j : ℕ) → k ≡ l + j → j ≡ 0 → l ≡ o → o ≡ k
    at k l o j h z e = omega (arith, h, z, e)
