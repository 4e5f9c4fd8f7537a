-- What the parts of the resolver answer.
use Rattle.std.specs.Prelude.{◌≡◌, List, [], Some, Result, Ok, Err}
use Rattle.spf_types_names.specs.declared.fault.TypeError.{TypeError}
use Rattle.spf_types_names.specs.declared.fault.TypeError.TheVariants.{Refused, OutOfMemory}
use Rattle.spf_types_names.specs.Faults.{Fault, first}

-- a refusal is right where it tells the first of the faults; memory may run out at any time
abbrev pub Refuses : List Fault → TypeError → Type 0
Refuses faults (Refused fault line) = first faults ≡ Some (record { what = fault; line = line })
Refuses faults OutOfMemory = Unit {0}

-- a part of the resolver gives this form where there are no faults, or refuses
abbrev pub Answers : {X A : Type 0} → List Fault → (X → A) → A → Result X TypeError → Type 0
Answers faults seen form (Ok x) = (faults ≡ []) × (seen x ≡ form)
Answers faults seen form (Err why) = Refuses faults why
