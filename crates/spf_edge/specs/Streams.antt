-- What a clause reads of a sink over a stream of the machine.
use Rattle.std.specs.Prelude.{ℕ}
use Rattle.spf_edge.specs.declared.real.RealSink.{RealSink}

-- the stream that the sink writes to
abbrev pub stream_of : {W : Type 0} → RealSink W → W
stream_of sink = sink.stream

-- how often a put has failed
abbrev pub failure_count : {W : Type 0} → RealSink W → ℕ
failure_count sink = sink.faults
