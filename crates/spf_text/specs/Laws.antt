-- That each text has tokens or a fault, and one of them alone.
use Rattle.std.specs.Prelude.{◌≡◌, ◌⊎◌, ℕ, List}
use Rattle.std.specs.List.{All}
use Rattle.spf_text.specs.declared.token.Token.{Token}
use Rattle.spf_text.specs.Tokens.{AreTokensOf, IsFaultyAt, BeginsNothing, BeginsTooLarge, IsSpelledIn}

-- a text has at most one list of tokens
abbrev pub TextsDetermineTheirTokens : Type 0
TextsDetermineTheirTokens = (text : List ℕ) (tokens others : List Token) → AreTokensOf text tokens → AreTokensOf text others → tokens ≡ others

-- each token is spelled by its slice of the text
abbrev pub TokensAreSpelledByTheirSlices : Type 0
TokensAreSpelledByTheirSlices = (text : List ℕ) (tokens : List Token) → AreTokensOf text tokens → All (IsSpelledIn text) tokens

-- a text has tokens, or a byte at which nothing begins, or a number that is too large
abbrev pub TextsHaveTokensOrAFault : Type 0
TextsHaveTokensOrAFault =
    (text : List ℕ) → ((tokens : List Token) × AreTokensOf text tokens)
    ⊎ ((at : ℕ) × IsFaultyAt BeginsNothing text at) ⊎ ((at : ℕ) × IsFaultyAt BeginsTooLarge text at)

-- a text has a fault at one offset and of one kind, and none where it has tokens
pub record HasOneFault (text : List ℕ) : Type 0 where
  pub bad_byte : (at other : ℕ) → IsFaultyAt BeginsNothing text at → IsFaultyAt BeginsNothing text other → at ≡ other
  pub too_large : (at other : ℕ) → IsFaultyAt BeginsTooLarge text at → IsFaultyAt BeginsTooLarge text other → at ≡ other
  pub not_both : (at other : ℕ) → IsFaultyAt BeginsNothing text at → IsFaultyAt BeginsTooLarge text other → ⊥
  pub no_tokens : (at : ℕ) → IsFaultyAt BeginsNothing text at ⊎ IsFaultyAt BeginsTooLarge text at → (tokens : List Token) → AreTokensOf text tokens → ⊥

abbrev pub TextsHaveOneFault : Type 0
TextsHaveOneFault = (text : List ℕ) → HasOneFault text
