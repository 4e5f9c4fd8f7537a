-- The words that ask for hosts: predictors that are supplied.
use Rattle.std.specs.Prelude.{◌≡◌, ◌≢◌, ◌⊎◌, ℕ, ◌*◌, List, [], ◌∷◌, ◌++◌, length, drop, codes, ℤ, pos, neg_ℤ, ◌≤ℤ◌, ◌<ℤ◌, ◌^◌, ⊤}
use Rattle.std.specs.Str.Parse.{IsNumeral, digits_value}

-- a kind of predictor: one that guesses a number, the last value, the value told most often, a table, or votes by blocks
pub data Kind : Type 0 where
  Fixed : ℤ → Kind
  Last : Kind
  Most : Kind
  Table : Kind
  Vote : Kind

-- a text is this number: decimal digits, one or more, optionally after a minus
abbrev pub IsNumber : List ℕ → ℤ → Type 0
IsNumber text n =
    (IsNumeral 10 text × (n ≡ pos (digits_value 10 text)))
    ⊎ ((digits : List ℕ) × (text ≡ codes "-" ++ digits) × IsNumeral 10 digits × (n ≡ neg_ℤ (pos (digits_value 10 digits))))

-- a number fits a word of 64 bits
abbrev pub IsWord : ℤ → Type 0
IsWord n = (neg_ℤ (pos (2 ^ 63)) ≤ℤ n) × (n <ℤ pos (2 ^ 63))

-- a text names this kind
abbrev pub Names : List ℕ → Kind → Type 0
Names text (Fixed n) = (number : List ℕ) × (text ≡ codes "fixed:" ++ number) × IsNumber number n × IsWord n
Names text Last = text ≡ codes "last"
Names text Most = text ≡ codes "most"
Names text Table = text ≡ codes "table"
Names text Vote = text ≡ codes "vote"

-- words begin with pairs that ask for these kinds, and these words are left
abbrev pub AskFor : List (List ℕ) → List Kind → List (List ℕ) → Type 0
AskFor words [] left = words ≡ left
AskFor words (kind ∷ kinds) left = (text : List ℕ) × (others : List (List ℕ))
    × (words ≡ codes "--host" ∷ text ∷ others) × Names text kind × AskFor others kinds left

-- words don't begin with a pair
abbrev pub EndPairs : List (List ℕ) → Type 0
EndPairs [] = ⊤
EndPairs (word ∷ words) = word ≢ codes "--host"

-- what was read: the kinds, in order, and how many words their pairs take
pub record Reading : Type 0 where
  pub kinds : List Kind
  pub rest : ℕ

-- words say this: they begin with pairs for these kinds, and with no further pair
pub record Say (words : List (List ℕ)) (reading : Reading) : Type 0 where
  pub pairs : AskFor words reading.kinds (drop reading.rest words)
  pub count : reading.rest ≡ 2 * length reading.kinds
  pub ends : EndPairs (drop reading.rest words)

-- a pair is broken: its first word is the last one, or the other one names no kind
abbrev pub IsBroken : List (List ℕ) → Type 0
IsBroken [] = ⊥
IsBroken (word ∷ []) = word ≡ codes "--host"
IsBroken (word ∷ text ∷ others) = (word ≡ codes "--host") × ((kind : Kind) → Names text kind → ⊥)

-- after some pairs comes a broken one
pub record HaveBrokenPair (words : List (List ℕ)) : Type 0 where
  pub kinds : List Kind
  pub left : List (List ℕ)
  pub pairs : AskFor words kinds left
  pub broken : IsBroken left

-- words say this and nothing else
pub record SayOnly (words : List (List ℕ)) (reading : Reading) : Type 0 where
  pub says : Say words reading
  pub only : (other : Reading) → Say words other → other ≡ reading

-- words say nothing, since a pair is broken
pub record SayNothing (words : List (List ℕ)) : Type 0 where
  pub broken : HaveBrokenPair words
  pub nothing : (reading : Reading) → Say words reading → ⊥

-- the words of the next pair, which names a kind
pub record NextPair (words : List (List ℕ)) (kind : Kind) : Type 0 where
  pub text : List ℕ
  pub others : List (List ℕ)
  pub words_are : words ≡ codes "--host" ∷ text ∷ others
  pub names : Names text kind
