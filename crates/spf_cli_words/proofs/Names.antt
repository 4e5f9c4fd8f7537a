-- Words that are files' names.
use Rattle.std.proofs.lemmas.Slice.Eq.{bytes_eq-Decides}
use Rattle.std.specs.Prelude.{bytes_eq, not}
use Rattle.std.proofs.Common.{◌≡◌, ℕ, Bool, true, false, List, [], ◌∷◌, codes, refl, sym, ap, ◌∙◌}
use Rattle.spf_cli_words.specs.Command.{IsFileName}
use Rattle.spf_cli_words.specs.Matched.{is_name}

-- a byte that is no minus
no_minus : (b : ℕ) (bytes : List ℕ) → is_name (b ∷ bytes) ≡ true → b ≡ 45 → ⊥
unfolding is_name
no_minus b bytes e same = differ (ap (λ x. not (bytes_eq (x ∷ []) (codes "-"))) (sym same) ∙ e)
  where
    differ : false ≡ true → ⊥
    differ e = cc

pub name-is : (word : List ℕ) → is_name word ≡ true → IsFileName word
unfolding is_name
name-is [] e = absurd (cc)
name-is (b ∷ bytes) e = no_minus b bytes e

pub is-name : (word : List ℕ) → IsFileName word → is_name word ≡ true
unfolding is_name
is-name [] h = absurd h
is-name (b ∷ bytes) h = by_test (bytes_eq (b ∷ []) (codes "-")) (λ e. (bytes_eq-Decides (b ∷ []) (codes "-")).0 e)
  where
    by_test : (t : Bool) → (t ≡ true → b ∷ [] ≡ 45 ∷ []) → not t ≡ true
    by_test true same = absurd (h (let e = same refl in cc))
    by_test false same = refl
