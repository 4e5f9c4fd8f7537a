-- Memories, word by word, and the block that has a cell.
use Rattle.std.proofs.Common.{◌≡◌, ◌≢◌, ◌⊎◌, inl, inr, ℕ, zero, suc, ◌<◌, Bool, true, false, List, length, ℤ, pos, refl, sym, ◌∙◌, subst, arith}
use Rattle.std.proofs.lemmas.List.{same_lists, get_or_default}
use Rattle.spf_ast_lemmas.proofs.Members.{cases}
use Rattle.spf_ast.specs.Event.{word_at}

-- memories with the same words
pub same-memory : (one other : List ℤ) → length one ≡ length other → ((c : ℕ) → word_at one c ≡ word_at other c) → one ≡ other
same-memory one other size h = same_lists one other size (λ k d low.
    let low' : k < length other = omega (arith, low, size) in
    get_or_default one k d (pos 0) low ∙ h k ∙ get_or_default other k (pos 0) d low')

-- one of the numbers below `count` passes a test, or none does
abbrev pub Passes : ℕ → (ℕ → Bool) → Type 0
Passes count test = (n : ℕ) × (n < count) × (test n ≡ true)

abbrev pub NonePasses : ℕ → (ℕ → Bool) → Type 0
NonePasses count test = (n : ℕ) → n < count → test n ≡ false

true-or-false : (b : Bool) → (b ≡ true) ⊎ (b ≡ false)
true-or-false true = inl refl
true-or-false false = inr refl

alike : (a b : ℕ) → (a ≡ b) ⊎ (a ≢ b)
alike a b = grind arith

pub one-or-none : (count : ℕ) (test : ℕ → Bool) → Passes count test ⊎ NonePasses count test
one-or-none zero test = inr (λ n low. absurd (omega (arith, low)))
one-or-none (suc count) test = cases (true-or-false (test count))
    (λ yes. inl (count, omega arith, yes))
    (λ no. cases (one-or-none count test)
    (λ h. let low = h.1 in inl (h.0, omega (arith, low), h.2))
    (λ none. inr (λ n low. cases (alike n count)
    (λ same. subst (λ x. test x ≡ false) (sym same) no)
    (λ ne. none n (omega (arith, low, ne))))))
