-- Which blocks are mispredicted, as a list.
use Rattle.std.specs.Prelude.{ℕ, zero, suc, Bool, true, not, if◌then◌else◌, List, [], ◌∷◌, Option, Some, None, slice_get}
use Rattle.spf_ast.specs.Carried.{Carried, same_carried}
use Rattle.spf_speculation_entry.specs.declared.site.Site.{Site}
use Rattle.spf_speculation_entry.specs.Entry.{plain_blocks, begins_at}
use Rattle.spf_speculation_entry.specs.Sites.{entry_at, guess_at}

-- the real row, where there is one, isn't this
abbrev pub is_other : Option Carried → Carried → Bool
is_other None v = true
is_other (Some w) v = not (same_carried w v)

-- whether the first attempt of a block is mispredicted
abbrev pub mispredicted_at : Site → ℕ → Bool
mispredicted_at s n = is_other (slice_get (plain_blocks (entry_at s)).values n) (begins_at (entry_at s) (guess_at s) n)

-- the numbers below this one with this property
abbrev pub those_below : (ℕ → Bool) → ℕ → List ℕ
those_below f zero = []
those_below f (suc n) = if f n then n ∷ those_below f n else those_below f n

-- the mispredicted blocks of a site
abbrev pub mispredicted_blocks : Site → List ℕ
mispredicted_blocks s = those_below (mispredicted_at s) s.blocks
