-- The first line of a text.
use Rattle.std.proofs.Common.{◌≡◌, ◌⊎◌, ℕ, ◌+◌, zero, suc, ◌<◌, ◌≤◌, List, [], ◌∷◌, ◌++◌, length, take, drop, ap, sym, ◌∙◌, arith, append_assoc, eq-eqb}
use Rattle.std.specs.Prelude.{◌≢◌, if◌then◌else◌}
use Rattle.std.specs.List.{onto_first, All}
use Rattle.std.proofs.lemmas.Bool.{ne_eqb}
use Rattle.spf_batch_lists.specs.Lists.{lines, EndsLine, IsName, max_names, IsBadAt}

at_end : (byte : ℕ) (text : List ℕ) → byte ≡ 10 → lines (byte ∷ text) ≡ [] ∷ lines text
at_end byte text e = ap (λ b. if b then [] ∷ lines text else onto_first byte (lines text)) (eq-eqb byte 10 e)

in_line : (byte : ℕ) (text : List ℕ) → byte ≢ 10 → lines (byte ∷ text) ≡ onto_first byte (lines text)
in_line byte text n = ap (λ b. if b then [] ∷ lines text else onto_first byte (lines text)) (ne_eqb byte 10 n)

tail_all : (P : ℕ → Type 0) (x : ℕ) (xs : List ℕ) → All P (x ∷ xs) → All P xs
tail_all P x xs h k d l = h (suc k) d (omega arith)

pub first_line : (text : List ℕ) (n : ℕ) → 0 < length text → n ≤ length text → All (λ b. b ≢ 10) (take n text) → EndsLine (drop n text)
    → lines text ≡ take n text ∷ lines (drop 1 (drop n text))
first_line [] n some within line ends = absurd (omega (arith, some))
first_line (byte ∷ text) zero some within line ends = at_end byte text ends
first_line (byte ∷ []) (suc zero) some within line ends = in_line byte [] (line 0 0 (omega arith))
first_line (byte ∷ []) (suc (suc n)) some within line ends = absurd (omega (arith, within))
first_line (byte ∷ next ∷ text) (suc n) some within line ends =
    in_line byte (next ∷ text) (line 0 0 (omega arith))
    ∙ ap (onto_first byte) (first_line (next ∷ text) n (omega arith) (omega (arith, within)) (tail_all (λ b. b ≢ 10) byte (take n (next ∷ text)) line) ends)

-- the line after these is bad
pub bad_line : (list text line rest : List ℕ) (before : List (List ℕ)) (number : ℕ) → before ++ lines text ≡ lines list → lines text ≡ line ∷ lines rest
    → All IsName before → length before ≤ max_names → number ≡ length before + 1 → (IsName line → ⊥) ⊎ (length before ≡ max_names) → IsBadAt list number
bad_line list text line rest before number split first each few number_is bad = record {
  before = before;
  line = line;
  after = lines rest;
  lines_are = sym split ∙ ap (λ more. before ++ more) first;
  number_is = number_is;
  each = each;
  few = few;
  bad = bad;
}

-- one more line has been read
pub line_more : (list text line rest : List ℕ) (before after : List (List ℕ)) → before ++ lines text ≡ lines list → lines text ≡ line ∷ lines rest
    → after ≡ before ++ line ∷ [] → after ++ lines rest ≡ lines list
line_more list text line rest before after split first more =
    ap (λ x. x ++ lines rest) more ∙ append_assoc before (line ∷ []) (lines rest) ∙ ap (λ x. before ++ x) (sym first) ∙ split
