use Rattle.std.specs.Prelude.{flat_map, take}
use Rattle.byte_streams.specs.Written.{Goes}
use Rattle.vhdl_slips.specs.Words.{read_of}
use Rattle.vhdl_hints.specs.Sayings.{code_text}
use Rattle.vhdl_hints.proofs.part.push_parts.Given as goal

-- the parts before this one went out
abbrev pub invariant-loop-part : goal.invariant-loop-part
invariant-loop-part g l = Goes (g.S.Sink.state l.initial.sink) (g.S.Sink.state l.sink) (flat_map (code_text (read_of l.words)) (take l.part-index l.parts))
