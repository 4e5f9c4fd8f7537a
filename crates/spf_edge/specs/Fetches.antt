-- What files tell, and what a fetch gives.
use Rattle.std.specs.Prelude.{◌≡◌, ℕ, ◌≤◌, ⊤, List, ◌++◌, length, map, Option, Some, Result, Ok, Err, Vec}
use Rattle.std.specs.List.{AllByRecursion}
use Rattle.std.specs.declared.alloc.Global.{Global}
use Rattle.spf_edge.specs.declared.files.FetchError.{FetchError}
use Rattle.spf_edge.specs.declared.files.FetchError.TheVariants.{Missing, Failed, TooLong, OutOfMemory}
use Rattle.spf_edge.specs.Entries.{Entry, HasContent, IsMissing, IsLongerThan}
use Rattle.spf_edge.specs.Faults.{Rose}

-- what files tell: their names and contents and the names that were fetched, where they do, and how often a fetch has failed
pub record FilesState : Type 0 where
  pub told : Option (List Entry)
  pub fetches : Option (List (List ℕ))
  pub faults : ℕ

-- a fetch: the name, the limit of the content's length, and what it gave
pub record Fetch : Type 0 where
  pub name : List ℕ
  pub limit : ℕ
  pub gave : Result (List ℕ) FetchError

-- a fetch of this name gives this: where the files are told, what they hold; and it fails only because of a fault
abbrev pub Gives : Option (List Entry) → Type 0 → List ℕ → ℕ → Result (List ℕ) FetchError → Type 0
Gives told Fault name limit (Ok content) = HasContent told name content × (length content ≤ limit)
Gives told Fault name limit (Err Missing) = IsMissing told name
Gives told Fault name limit (Err Failed) = Fault
Gives told Fault name limit (Err TooLong) = IsLongerThan limit told name
Gives told Fault name limit (Err OutOfMemory) = ⊤

abbrev pub IsGiven : Option (List Entry) → Type 0 → Fetch → Type 0
IsGiven told Fault fetch = Gives told Fault fetch.name fetch.limit fetch.gave

-- these names were fetched, in order: where they are told now, they were told before, and these were added at their end
abbrev pub HasFetched : Option (List (List ℕ)) → Option (List (List ℕ)) → List (List ℕ) → Type 0
HasFetched old new names = (all : List (List ℕ)) → new ≡ Some all → (before : List (List ℕ)) × (old ≡ Some before) × (all ≡ before ++ names)

-- these fetches were made, in order, and no others
pub record AreMade (old new : FilesState) (fetches : List Fetch) : Type 0 where
  pub told : new.told ≡ old.told
  pub names : HasFetched old.fetches new.fetches (map (λ fetch. fetch.name) fetches)
  pub given : AllByRecursion (IsGiven old.told (Rose old.faults new.faults)) fetches
  pub later : old.faults ≤ new.faults

-- what contracts see of the result of a fetch
abbrev pub seen_result : Result (Vec ℕ Global) FetchError → Result (List ℕ) FetchError
seen_result (Ok content) = Ok content.items
seen_result (Err error) = Err error

-- a fetch that was answered so
abbrev pub fetch_of : List ℕ → ℕ → Result (Vec ℕ Global) FetchError → Fetch
fetch_of name limit result = record { name = name; limit = limit; gave = seen_result result }
