use Rattle.std.specs.Prelude.{flat_map, take}
use Rattle.byte_streams.specs.Written.{Goes}
use Rattle.rtlsim_refusals.specs.Places.{blank}
use Rattle.rtlsim_refusals.proofs.place.push_blanks.Given as goal

-- the blanks of the bytes before this one went out
abbrev pub invariant-loop-byte : goal.invariant-loop-byte
invariant-loop-byte g l = Goes (g.S.Sink.state l.initial.sink) (g.S.Sink.state l.sink) (flat_map blank (take l.byte-index l.bytes))
