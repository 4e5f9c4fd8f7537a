-- What predictors that are supplied answer, and what they were told.
use Rattle.std.specs.Prelude.{◌≡◌, ℕ, List, ◌∷◌, ◌++◌, map, ℤ, pos, slice_get, unwrap_or}
use Rattle.spf_guess_statistics.specs.Guess.{Told, Hosts, Telling, told_to}

-- what a predictor answers for a block number, after it was told these pairs besides, the oldest first
abbrev pub Answers : Type 0
Answers = List Told → ℤ → ℤ

-- it answers as before, whatever it is told from now on
abbrev pub AnswersAlike : Answers → Answers → Type 0
AnswersAlike before now = (pairs : List Told) (block : ℤ) → now pairs block ≡ before pairs block

-- it was told this pair: it answers what it answered before after the pair
abbrev pub WasTold : Answers → Told → Answers → Type 0
WasTold before told now = (pairs : List Told) (block : ℤ) → now pairs block ≡ before (told ∷ pairs) block

-- the hosts that these predictors are, by their indices; a host that isn't supplied answers 0
abbrev pub handed_in : List Answers → Hosts
handed_in predictors host = unwrap_or (slice_get predictors host) (λ pairs block. pos 0)

-- the hosts were told so: each answers what it answered before after the pairs that it was told
abbrev pub WereTold : Hosts → List Telling → Hosts → Type 0
WereTold before telling now = (host : ℕ) (pairs : List Told) (block : ℤ) → now host pairs block ≡ before host (told_to host telling ++ pairs) block

-- the hosts that boxed predictors are, where this is what each box answers
abbrev pub supplied : {Box : Type 0} → (Box → Answers) → List Box → Hosts
supplied answer boxes = handed_in (map answer boxes)

-- whatever hosts were told by then, they were told no more since
abbrev pub WereToldNoMore : Hosts → Hosts → Type 0
WereToldNoMore then now = (before : Hosts) (telling : List Telling) → WereTold before telling then → WereTold before telling now
