-- What the code's maps have at a name.
use Rattle.std.specs.Prelude.{ℕ, List, Option}
use Rattle.std.specs.Ordering.{nat_cmp}
use Rattle.std.specs.Cmp.Lexicographic.{slice_cmp}
use Rattle.std.specs.BTreeMap as tree
use denote.Ref.{Bor}

-- what the map has at this name
abbrev pub found : {X : Type 0} → tree.BTreeMap (Bor (List ℕ)) X → Bor (List ℕ) → Option X
found m q = tree.get (λ x y. slice_cmp nat_cmp x.now y.now) m q
