-- Why bytes are not a list of names.
use Rattle.std.specs.Prelude.{ℕ, List}
use Rattle.spf_batch_lists.specs.declared.names.ListError.{ListError}
use Rattle.spf_batch_lists.specs.declared.names.ListError.TheVariants.{NotAName, OutOfMemory}
use Rattle.spf_batch_lists.specs.Lists.{IsBadAt}

-- the cause of each error; running out of memory has none
abbrev pub IsRefusedWith : List ℕ → ListError → Type 0
IsRefusedWith list (NotAName line) = IsBadAt list line
IsRefusedWith list OutOfMemory = Unit {0}
