-- The piece at the start of some bytes, from what the runs and the signs there are.
use Rattle.std.proofs.Common.{◌≡◌, ℕ, zero, suc, ◌<◌, ◌≤◌, inl, ⊎_elim, List, [], ◌∷◌, length, take, drop, get_or, refl, sym, pos, ℤ, arith, take-append-drop}
use Rattle.std.proofs.lemmas.List.Elements.{All-tail}
use Rattle.spf_text.specs.declared.token.Keyword.{Keyword}
use Rattle.spf_text.specs.declared.token.Sign.{Sign}
use Rattle.spf_text.specs.declared.token.TokenKind.TheVariants as kind
use Rattle.spf_text.specs.Tokens.{IsBlank, IsDigit, IsLetter, IsWordByte, Begins, BeginsWith, BeginsNothing, BeginsTooLarge, EndsBefore, EndsLine, Comment, Lexeme, number_from, max_number, word_spelling, sign_spelling}
use Rattle.spf_text.specs.Runs.{IsLongestRun}
use Rattle.spf_text.specs.Fronts.{IsFirst}

-- a longest run after a first byte of its own kind
Begins-from_run : (First Rest : ℕ → Type 0) → ((b : ℕ) → First b → Rest b) → (bytes : List ℕ) (n : ℕ) → 0 < length bytes → First (get_or bytes 0 0) → IsLongestRun Rest bytes n → Begins First Rest (take n bytes)
Begins-from_run First Rest also [] n some first run = absurd (omega arith)
Begins-from_run First Rest also (b ∷ bytes) zero some first run = absurd (run.ends (also b first))
Begins-from_run First Rest also (b ∷ bytes) (suc n) some first run = (first, All-tail Rest b (take n bytes) run.run)

-- where a run of bytes other than 0A ends, the line does
pub line_ends : (rest : List ℕ) → EndsBefore (λ b. b ≡ 10 → ⊥) rest → EndsLine rest
line_ends [] h = tt
line_ends (b ∷ rest) h = grind (arith, h)

-- a comment begins with `#`, and goes up to the end of its line
pub comment_first : (bytes : List ℕ) (n : ℕ) → 0 < length bytes → get_or bytes 0 0 ≡ 35 → IsLongestRun (λ b. b ≡ 10 → ⊥) bytes n → IsFirst (Comment (take n bytes)) bytes n
comment_first bytes n some hash run =
    record {
      within = run.within;
      spelled = refl;
      piece = (Begins-from_run (λ b. b ≡ 35) (λ b. b ≡ 10 → ⊥) (λ b is ten. omega arith) bytes n some hash run, line_ends (drop n bytes) run.ends);
    }

-- a longest run after a letter that is no reserved word is a name
pub name_first : (bytes : List ℕ) (n : ℕ) → 0 < length bytes → IsLetter (get_or bytes 0 0) → IsLongestRun IsWordByte bytes n → ((w : Keyword) → take n bytes ≡ word_spelling w → ⊥) → IsFirst (Lexeme kind.Name (take n bytes)) bytes n
name_first bytes n some letter run reserved =
    record {
      within = run.within;
      spelled = refl;
      piece = (Begins-from_run IsLetter IsWordByte (λ b h. inl h) bytes n some letter run, run.ends, reserved);
    }

-- a longest run of digits is a number, if it is small enough
pub number_first : (bytes : List ℕ) (n : ℕ) (value : ℤ) → 0 < length bytes → IsDigit (get_or bytes 0 0) → IsLongestRun IsDigit bytes n → value ≡ pos (number_from 0 (take n bytes)) → number_from 0 (take n bytes) ≤ max_number → IsFirst (Lexeme (kind.Number value) (take n bytes)) bytes n
number_first bytes n value some digit run spelled small =
    record {
      within = run.within;
      spelled = refl;
      piece = (Begins-from_run IsDigit IsDigit (λ b h. h) bytes n some digit run, run.ends, spelled, small);
    }

-- and otherwise one that is too large
pub number_too_large : (bytes : List ℕ) (n : ℕ) → 0 < length bytes → IsDigit (get_or bytes 0 0) → IsLongestRun IsDigit bytes n → max_number < number_from 0 (take n bytes) → BeginsTooLarge bytes
number_too_large bytes n some digit run large =
    (take n bytes, drop n bytes, sym (take-append-drop n bytes), Begins-from_run IsDigit IsDigit (λ b h. h) bytes n some digit run, run.ends, large)

-- a byte that is none of these begins nothing
pub nothing_first : (bytes : List ℕ) → 0 < length bytes → (IsBlank (get_or bytes 0 0) → ⊥) → (get_or bytes 0 0 ≡ 35 → ⊥) → (IsLetter (get_or bytes 0 0) → ⊥) → (IsDigit (get_or bytes 0 0) → ⊥) → ((s : Sign) → BeginsWith (sign_spelling s) bytes → ⊥) → BeginsNothing bytes
nothing_first [] some blank hash letter digit sign = absurd (omega arith)
nothing_first (b ∷ rest) some blank hash letter digit sign = (blank, hash, λ word. ⊎_elim letter digit word, sign)
