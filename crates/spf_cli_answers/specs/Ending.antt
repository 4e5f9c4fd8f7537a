-- How a batch ends, after the answers of its files.
use Rattle.std.specs.Prelude.{◌≡◌, ℕ, List, [], ◌∷◌, slice_get, Some, Result, Ok, Err, ⊤}
use Rattle.spf_ast.specs.Syntax.{Program}
use Rattle.spf_ast.specs.Program.{max_cells}
use Rattle.spf_batch.specs.Batch.{max_input}
use Rattle.spf_batch.specs.declared.batch.Totals.{Totals}
use Rattle.spf_batch.specs.declared.error.BatchError.{BatchError}
use Rattle.spf_batch.specs.declared.error.BatchError.TheVariants.{Fetch, TooLong, TooManyCells, NoHost, Put, OutOfMemory}
use Rattle.spf_cli_answers.specs.Message.{failed_line, long_line, too_many_line, host_line, files_line}

-- one line, of the name at this index
abbrev pub IsLineOf : (List ℕ → List ℕ) → List (List ℕ) → ℕ → List (List ℕ) → Type 0
IsLineOf line_of names place said = (name : List ℕ) × (slice_get names place ≡ Some name) × (said ≡ line_of name ∷ [])

-- the status, and the line for the error stream; after a put that failed, and without memory, there is none
abbrev pub EndsWith : Program → List (List ℕ) → Result Totals BatchError → (status : ℕ) → (said : List (List ℕ)) → Type 0
EndsWith p names (Ok totals) status said = (status ≡ 0) × (said ≡ files_line totals.files totals.stats ∷ [])
EndsWith p names (Err (Fetch place)) status said = (status ≡ 5) × IsLineOf failed_line names place said
EndsWith p names (Err (TooLong place)) status said = (status ≡ 7) × IsLineOf (λ name. long_line name max_input) names place said
EndsWith p names (Err (TooManyCells place count)) status said = (status ≡ 7) × (said ≡ too_many_line count (max_cells p) ∷ [])
EndsWith p names (Err (NoHost number)) status said = (status ≡ 7) × (said ≡ host_line number ∷ [])
EndsWith p names (Err Put) status said = ⊥
EndsWith p names (Err OutOfMemory) status said = ⊥

-- the status where there is no line
abbrev pub BreaksWith : Result Totals BatchError → ℕ → Type 0
BreaksWith (Err Put) status = status ≡ 6
BreaksWith came status = status ≡ 8

-- an error names a file by its index
abbrev pub NamesOneOf : List (List ℕ) → BatchError → Type 0
NamesOneOf names (Fetch place) = (name : List ℕ) × (slice_get names place ≡ Some name)
NamesOneOf names (TooLong place) = (name : List ℕ) × (slice_get names place ≡ Some name)
NamesOneOf names error = ⊤
