-- Verdicts on the first sections of a log, one construct after another.
use Rattle.std.proofs.Common.{◌≡◌, ◌⊎◌, ℕ, zero, suc, ◌<◌, ◌≤◌, List, [], ◌∷◌, ◌++◌, length, take, Some, None, refl, sym, subst, arith}
use Rattle.std.specs.Prelude.{slice_get}
use Rattle.std.proofs.lemmas.List.{take_all}
use Rattle.std.proofs.lemmas.Option.{slice_get_past}
use Rattle.spf_ast_lemmas.proofs.Indices.{at-index, last-index, earlier-index, one-longer}
use Rattle.spf_ast_lemmas.proofs.Members.{cases}
use Rattle.spf_speculation.specs.Steps.{Step}
use Rattle.spf_replay.specs.declared.verdict.Verdict.TheVariants.{Yes, No}
use Rattle.spf_replay.specs.Verdicts.{Expected, Fits, SectionFits, IsVerdict}

-- ---- the first elements of a list

take-before : {A : Type 0} (n : ℕ) (xs : List A) (k : ℕ) → k < n → slice_get (take (suc n) xs) k ≡ slice_get (take n xs) k
take-before zero xs k l = absurd (omega (arith, l))
take-before (suc n) [] k l = refl
take-before (suc n) (x ∷ xs) zero l = refl
take-before (suc n) (x ∷ xs) (suc k) l = take-before n xs k (omega (arith, l))

take-last : {A : Type 0} (n : ℕ) (xs : List A) → slice_get (take (suc n) xs) n ≡ slice_get xs n
take-last zero [] = refl
take-last zero (x ∷ xs) = refl
take-last (suc n) [] = refl
take-last (suc n) (x ∷ xs) = take-last n xs

take-inside : {A : Type 0} (n : ℕ) (xs : List A) (k : ℕ) → k < n → slice_get (take n xs) k ≡ slice_get xs k
take-inside zero xs k l = absurd (omega (arith, l))
take-inside (suc n) [] k l = refl
take-inside (suc n) (x ∷ xs) zero l = refl
take-inside (suc n) (x ∷ xs) (suc k) l = take-inside n xs k (omega (arith, l))

take-past : {A : Type 0} (n : ℕ) (xs : List A) (k : ℕ) → n ≤ k → slice_get (take n xs) k ≡ None
take-past zero xs zero l = refl
take-past zero xs (suc k) l = refl
take-past (suc n) [] zero l = refl
take-past (suc n) [] (suc k) l = refl
take-past (suc n) (x ∷ xs) zero l = absurd (omega (arith, l))
take-past (suc n) (x ∷ xs) (suc k) l = take-past n xs k (omega (arith, l))

-- ---- sections with one more construct

order : (a b : ℕ) → (a < b) ⊎ ((b < a) ⊎ (a ≡ b))
order a b = grind arith

-- an earlier section is as expected as it was
as-before : (xs : List Expected) (x : Expected) (log : List (List Step)) (k : ℕ) → k < length xs
    → SectionFits xs (take (length xs) log) k → SectionFits (xs ++ x ∷ []) (take (suc (length xs)) log) k
as-before xs x log k l h =
    subst (λ o. Fits o (slice_get (take (suc (length xs)) log) k)) (sym (earlier-index xs (x ∷ []) k l))
    (subst (Fits (slice_get xs k)) (sym (take-before (length xs) log k l)) h)

was-before : (xs : List Expected) (x : Expected) (log : List (List Step)) (k : ℕ) → k < length xs
    → SectionFits (xs ++ x ∷ []) (take (suc (length xs)) log) k → SectionFits xs (take (length xs) log) k
was-before xs x log k l h =
    subst (Fits (slice_get xs k)) (take-before (length xs) log k l)
    (subst (λ o. Fits o (slice_get (take (suc (length xs)) log) k)) (earlier-index xs (x ∷ []) k l) h)

-- the last one is as expected where it is one of the construct
at-last : (xs : List Expected) (x : Expected) (log : List (List Step)) → Fits (Some x) (slice_get log (length xs)) → SectionFits (xs ++ x ∷ []) (take (suc (length xs)) log) (length xs)
at-last xs x log h =
    subst (λ o. Fits o (slice_get (take (suc (length xs)) log) (length xs))) (sym (last-index xs x))
    (subst (Fits (Some x)) (sym (take-last (length xs) log)) h)

was-last : (xs : List Expected) (x : Expected) (log : List (List Step)) → SectionFits (xs ++ x ∷ []) (take (suc (length xs)) log) (length xs) → Fits (Some x) (slice_get log (length xs))
was-last xs x log h =
    subst (Fits (Some x)) (take-last (length xs) log)
    (subst (λ o. Fits o (slice_get (take (suc (length xs)) log) (length xs))) (last-index xs x) h)

-- beyond the constructs there is no section
pub none-past : (xs : List Expected) (log : List (List Step)) (k : ℕ) → length xs ≤ k → SectionFits xs (take (length xs) log) k
none-past xs log k l =
    subst (λ o. Fits o (slice_get (take (length xs) log) k)) (sym (slice_get_past xs k l))
    (subst (Fits None) (sym (take-past (length xs) log k l)) tt)

-- so a section that was refused is one of them
refused-inside : (xs : List Expected) (log : List (List Step)) (k : ℕ) → (SectionFits xs (take (length xs) log) k → ⊥) → k < length xs
refused-inside xs log k h = cases (order k (length xs))
    (λ less. less)
    (λ rest. cases rest (λ more. absurd (h (none-past xs log k (omega (arith, more))))) (λ same. absurd (h (none-past xs log k (omega (arith, same))))))

-- ---- verdicts with one more construct

pub still-right : (xs : List Expected) (x : Expected) (log : List (List Step)) → IsVerdict xs (take (length xs) log) Yes → Fits (Some x) (slice_get log (length xs))
    → IsVerdict (xs ++ x ∷ []) (take (suc (length xs)) log) Yes
still-right xs x log h fits = λ k. cases (order k (length xs))
    (λ less. as-before xs x log k less (h k))
    (λ rest. cases rest (λ more. past k more) (λ same. subst (λ n. SectionFits (xs ++ x ∷ []) (take (suc (length xs)) log) n) (sym same) (at-last xs x log fits)))
  where
    past : (k : ℕ) → length xs < k → SectionFits (xs ++ x ∷ []) (take (suc (length xs)) log) k
    past k more =
        let size = one-longer xs x (length xs) refl in
        subst (λ o. Fits o (slice_get (take (suc (length xs)) log) k)) (sym (slice_get_past (xs ++ x ∷ []) k (omega (arith, more, size))))
        (subst (Fits None) (sym (take-past (suc (length xs)) log k (omega (arith, more)))) tt)

pub now-wrong : (xs : List Expected) (x : Expected) (log : List (List Step)) → IsVerdict xs (take (length xs) log) Yes → (Fits (Some x) (slice_get log (length xs)) → ⊥)
    → IsVerdict (xs ++ x ∷ []) (take (suc (length xs)) log) (No (length xs))
now-wrong xs x log h wrong = ((λ k l. as-before xs x log k l (h k)), (λ fits. wrong (was-last xs x log fits)))

pub still-wrong : (xs : List Expected) (x : Expected) (log : List (List Step)) (k : ℕ) → IsVerdict xs (take (length xs) log) (No k)
    → IsVerdict (xs ++ x ∷ []) (take (suc (length xs)) log) (No k)
still-wrong xs x log k h =
    let inside = refused-inside xs log k h.1 in
    ((λ n l. as-before xs x log n (omega (arith, l, inside)) (h.0 n l)), (λ fits. h.1 (was-before xs x log k inside fits)))

-- ---- verdicts on whole logs

pub right-whole : (xs : List Expected) (log : List (List Step)) → length log ≤ length xs → IsVerdict xs (take (length xs) log) Yes → IsVerdict xs log Yes
right-whole xs log l h = subst (λ sections. IsVerdict xs sections Yes) (take_all (length xs) log l) h

pub one-too-many : (xs : List Expected) (log : List (List Step)) → length xs < length log → IsVerdict xs (take (length xs) log) Yes → IsVerdict xs log (No (length xs))
one-too-many xs log l h = (
  (λ k less. subst (Fits (slice_get xs k)) (take-inside (length xs) log k less) (h k)),
  (λ fits. none-there (at-index log (length xs) l).0 (at-index log (length xs) l).1 fits),
)
  where
    none-there : (steps : List Step) → slice_get log (length xs) ≡ Some steps → SectionFits xs log (length xs) → ⊥
    none-there steps at fits = subst (Fits None) at (subst (λ o. Fits o (slice_get log (length xs))) (slice_get_past xs (length xs) (omega arith)) fits)

pub wrong-whole : (xs : List Expected) (log : List (List Step)) (k : ℕ) → IsVerdict xs (take (length xs) log) (No k) → IsVerdict xs log (No k)
wrong-whole xs log k h =
    let inside = refused-inside xs log k h.1 in (
      (λ n l. subst (Fits (slice_get xs n)) (take-inside (length xs) log n (omega (arith, l, inside))) (h.0 n l)),
      (λ fits. h.1 (subst (Fits (slice_get xs k)) (sym (take-inside (length xs) log k inside)) fits)),
    )
