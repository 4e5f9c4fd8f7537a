-- What a put that failed means for the status.
use Rattle.std.specs.Prelude.{ℕ}
use Rattle.spf_edge.specs.declared.sink.PutError.{PutError}
use Rattle.spf_edge.specs.declared.sink.PutError.TheVariants.{Failed, OutOfMemory}

-- the status of a put that failed
abbrev pub put_status : PutError → ℕ
put_status Failed = 6
put_status OutOfMemory = 8
