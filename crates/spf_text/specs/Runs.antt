-- Runs of bytes of a kind, and the longest sign.
use Rattle.std.specs.Prelude.{◌≡◌, ℕ, ◌≤◌, List, length, take, drop}
use Rattle.std.specs.List.{All}
use Rattle.spf_text.specs.declared.token.Sign.{Sign}
use Rattle.spf_text.specs.Tokens.{EndsBefore, BeginsWith, sign_spelling}

-- the first `n` bytes are of this kind, and there they end or go on with a byte that isn't
pub record IsLongestRun (P : ℕ → Type 0) (bytes : List ℕ) (n : ℕ) : Type 0 where
  pub within : n ≤ length bytes
  pub run : All P (take n bytes)
  pub ends : EndsBefore P (drop n bytes)

-- the first `n` bytes are this sign, and no longer one stands there
pub record IsLongestSign (s : Sign) (n : ℕ) (bytes : List ℕ) : Type 0 where
  pub within : n ≤ length bytes
  pub spelled : take n bytes ≡ sign_spelling s
  pub longest : (other : Sign) → BeginsWith (sign_spelling other) bytes → length (sign_spelling other) ≤ n
