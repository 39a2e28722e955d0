use Rattle.byte_streams.specs.Written.{Goes}
use Rattle.rtlsim_listing.specs.DotText.{column_text}
use Rattle.rtlsim_listing.specs.NetText.{lines}
use Rattle.rtlsim_listing.proofs.graph.push_heads.Given as goal

-- the heads of the columns before this one went out
abbrev pub invariant-loop-before : goal.invariant-loop-before
invariant-loop-before g l = Goes (g.W.Sink.state l.initial.out) (g.W.Sink.state l.out) (lines column_text l.before)
