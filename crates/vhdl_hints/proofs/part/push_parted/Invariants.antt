use Rattle.std.specs.Prelude.{flat_map, take}
use Rattle.byte_streams.specs.Written.{Goes}
use Rattle.vhdl_hints.specs.Sayings.{parted}
use Rattle.vhdl_hints.proofs.part.push_parted.Given as goal

-- the tokens before this one went out
abbrev pub invariant-loop-token : goal.invariant-loop-token
invariant-loop-token g l = Goes (g.S.Sink.state l.initial.sink) (g.S.Sink.state l.sink) (flat_map (parted l.text) (take l.token-index l.tokens))
