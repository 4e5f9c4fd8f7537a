-- Files and a sink in memory, with the numbers of the calls that fail.
use Rattle.std.specs.Prelude.{ℕ, List, map, string_bytes, String, Vec, Option, option_map}
use Rattle.std.specs.declared.alloc.Global.{Global}
use Rattle.spf_edge.specs.Entries.{Entry}
use Rattle.spf_edge.specs.Puts.{Put}
use Rattle.spf_edge.specs.declared.memory.PutMade.{PutMade}

-- the file of a name and its content
abbrev pub entry_of : String Global × Vec ℕ Global → Entry
entry_of held = record { name = string_bytes held.0; content = held.1.items }

-- the files of a list of names with their contents
abbrev pub entries_of : List (String Global × Vec ℕ Global) → List Entry
entries_of held = map entry_of held

-- the names of calls, where they are known
abbrev pub names_of : Option (Vec (String Global) Global) → Option (List (List ℕ))
names_of names = option_map (λ known. map string_bytes known.items) names

-- the puts that a sink was given
abbrev pub puts_of : List PutMade → List Put
puts_of made = map (λ put. record { piece = put.piece.items; whole = put.whole }) made

-- files in memory: what they hold, the numbers of the calls that fail, how many calls were made and failed, and their names
pub record FilesInMemory : Type 0 where
  pub entries : List Entry
  pub failing : List ℕ
  pub calls : ℕ
  pub faults : ℕ
  pub fetches : Option (List (List ℕ))

-- a sink in memory: what it took, its puts, the numbers of those that fail, what these keep, and how many puts were made and failed
pub record SinkInMemory : Type 0 where
  pub taken : List ℕ
  pub puts : List Put
  pub failing : List ℕ
  pub keeps : ℕ
  pub calls : ℕ
  pub faults : ℕ
