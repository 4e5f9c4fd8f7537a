use Rattle.spf_region.proofs.Entries.{arrays-of}
use Rattle.spf_region.proofs.laws.arrays_of_entries.Goals as goal

pub returns : goal.returns
returns c = λ xs a n. arrays-of xs a n
