-- Laws of lists of names.
use Rattle.std.specs.Prelude.{◌≡◌, ℕ, List}
use Rattle.spf_batch_lists.specs.Lists.{AreNames, IsBadAt}

-- each list is names or has a first bad line, never both, and neither in two ways
pub record ListsHaveOneVerdict : Type 0 where
  pub apart : (list : List ℕ) (names : List (List ℕ)) (number : ℕ) → AreNames list names → IsBadAt list number → ⊥
  pub names : (list : List ℕ) (names others : List (List ℕ)) → AreNames list names → AreNames list others → names ≡ others
  pub one : (list : List ℕ) (number other : ℕ) → IsBadAt list number → IsBadAt list other → number ≡ other
  pub some : (list : List ℕ) → ((names : List (List ℕ)) → AreNames list names → ⊥) → ((number : ℕ) → IsBadAt list number → ⊥) → ⊥
