-- Files as they are told: names with their contents. Where nothing is told, nothing is claimed.
use Rattle.std.specs.Prelude.{
  ◌≡◌,
  ℕ,
  ◌<◌,
  List,
  length,
  bytes_eq,
  find,
  option_map,
  Option,
  None,
  Some,
  ⊤,
}

-- a file: its name and its content, both in bytes
pub record Entry : Type 0 where
  pub name : List ℕ
  pub content : List ℕ

-- the content of the first file of that name
abbrev pub lookup : List Entry → List ℕ → Option (List ℕ)
lookup entries name = option_map (λ entry. entry.content) (find (λ entry. bytes_eq entry.name name) entries)

-- the names are told, and this one isn't among them
abbrev pub IsMissing : Option (List Entry) → List ℕ → Type 0
IsMissing None name = ⊥
IsMissing (Some entries) name = lookup entries name ≡ None

-- where the files are told, the one of that name has this content
abbrev pub HasContent : Option (List Entry) → List ℕ → List ℕ → Type 0
HasContent None name content = ⊤
HasContent (Some entries) name content = lookup entries name ≡ Some content

-- where the files are told, the one of that name is longer than the limit
abbrev pub IsLongerThan : ℕ → Option (List Entry) → List ℕ → Type 0
IsLongerThan limit None name = ⊤
IsLongerThan limit (Some entries) name = (content : List ℕ) × (lookup entries name ≡ Some content) × (limit < length content)
