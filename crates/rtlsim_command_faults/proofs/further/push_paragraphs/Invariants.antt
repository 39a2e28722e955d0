use Rattle.std.specs.Prelude.{flat_map, take}
use Rattle.byte_streams.specs.Written.{Goes}
use Rattle.rtlsim_refusals.specs.Explained.{paragraph, told_view}
use Rattle.rtlsim_command_faults.proofs.further.push_paragraphs.Given as goal

-- the paragraphs before this one went out
abbrev pub invariant-loop-one : goal.invariant-loop-one
invariant-loop-one g l = Goes (g.S.Sink.state l.initial.sink) (g.S.Sink.state l.sink) (flat_map (λ t. paragraph (told_view t)) (take l.one-index l.told))
