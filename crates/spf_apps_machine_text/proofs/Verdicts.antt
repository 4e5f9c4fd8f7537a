-- Each text is that of a machine or of none.
use Rattle.std.proofs.Common.{◌≡◌, ◌⊎◌, inl, inr, ℕ, zero, suc, ◌<◌, ◌≤◌, List, [], ◌∷◌, length, get_or, refl, ap, sym, ◌∙◌, subst, arith}
use Rattle.spf_apps_formats.specs.Laws.{AreBytes, Lex1HasOneVerdict}
use Rattle.spf_apps_formats.specs.Lex1.{IsNoLex1At}
use Rattle.spf_apps_machine_text.specs.MachineText.{IsMachine, IsTextOf, machine_text}
use Rattle.spf_apps_machine_text.specs.Building.{BelongsToNoMachine}
use Rattle.spf_apps_machine_text.specs.Reading.{file_read}
use Rattle.spf_apps_machine_text.proofs.Again.{text_again}

less_or_not : (a b : ℕ) → (a < b) ⊎ (b ≤ a)
less_or_not a b = grind arith

equal_or_not : (a b : ℕ) → (a ≡ b) ⊎ (a ≡ b → ⊥)
equal_or_not a b = grind arith

bytes_or_not : (xs : List ℕ) → AreBytes xs ⊎ (AreBytes xs → ⊥)
bytes_or_not [] = inl (λ k d l. absurd (omega (arith, l)))
bytes_or_not (x ∷ xs) = by_first (less_or_not x 256) (bytes_or_not xs)
  where
    by_first : (x < 256) ⊎ (256 ≤ x) → AreBytes xs ⊎ (AreBytes xs → ⊥) → AreBytes (x ∷ xs) ⊎ (AreBytes (x ∷ xs) → ⊥)
    by_first (inl small) (inl rest) = inl each
      where
        each : (k d : ℕ) → k < length (x ∷ xs) → get_or (x ∷ xs) k d < 256
        each zero d l = small
        each (suc k) d l = rest k d (omega (arith, l))
    by_first (inl small) (inr none) = inr (λ h. none (λ k d l. h (suc k) d (omega (arith, l))))
    by_first (inr large) rest = inr (λ h. let first = h 0 0 (omega arith) in absurd (omega (arith, large, first)))

same_or_not : (xs ys : List ℕ) → (xs ≡ ys) ⊎ (xs ≡ ys → ⊥)
same_or_not [] [] = inl refl
same_or_not [] (y ∷ ys) = inr (λ e. cc)
same_or_not (x ∷ xs) [] = inr (λ e. cc)
same_or_not (x ∷ xs) (y ∷ ys) = by_first (equal_or_not x y) (same_or_not xs ys)
  where
    by_first : (x ≡ y) ⊎ (x ≡ y → ⊥) → (xs ≡ ys) ⊎ (xs ≡ ys → ⊥) → (x ∷ xs ≡ y ∷ ys) ⊎ (x ∷ xs ≡ y ∷ ys → ⊥)
    by_first (inl e) (inl f) = inl (λ i. e i ∷ f i)
    by_first (inl e) (inr n) = inr (λ f. n cc)
    by_first (inr n) f = inr (λ e. n cc)

-- the file that is read from a text decides
pub machine_or_none : Lex1HasOneVerdict → (text : List ℕ) → ((file : List ℕ) × IsTextOf text file) ⊎ BelongsToNoMachine text
machine_or_none laws text =
    decide (file_read text) (λ file h. text_again text file h) (bytes_or_not (file_read text)) (laws.some (file_read text)) (same_or_not text (machine_text (file_read text)))
  where
    other : {read : List ℕ} → ((offset : ℕ) × IsNoLex1At read offset) → IsMachine read → ⊥
    other {read} refused machine = laws.apart read refused.0 machine.0 machine.1 machine.2 refused.1

    decide : (read : List ℕ) → ((file : List ℕ) → IsTextOf text file → read ≡ file) → AreBytes read ⊎ (AreBytes read → ⊥)
        → IsMachine read ⊎ ((offset : ℕ) × IsNoLex1At read offset) → (text ≡ machine_text read) ⊎ (text ≡ machine_text read → ⊥)
        → ((file : List ℕ) × IsTextOf text file) ⊎ BelongsToNoMachine text
    decide read again (inl bytes) (inl machine) (inl same) = inl (read, record { bytes = bytes; machine = machine; text_is = same })
    decide read again (inl bytes) (inl machine) (inr differ) = inr (λ file h. differ (h.text_is ∙ ap machine_text (sym (again file h))))
    decide read again (inl bytes) (inr refused) same = inr (λ file h. other refused (subst IsMachine (sym (again file h)) h.machine))
    decide read again (inr none) machine same = inr (λ file h. none (subst AreBytes (sym (again file h)) h.bytes))
