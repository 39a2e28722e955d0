use Rattle.std.proofs.Common.{◌≡◌}
use Rattle.byte_streams.specs.Written.{Goes}
use Rattle.rtlsim_listing.specs.DotText.{arrow_before, next_arrow}
use Rattle.rtlsim_listing.specs.NetText.{lines}
use Rattle.rtlsim_listing.proofs.graph.push_arrows_by.Given as goal

-- the arrows by the nets before this one went out
abbrev pub invariant-loop-place : goal.invariant-loop-place
invariant-loop-place g l =
    Goes (g.W.Sink.state l.initial.out) (g.W.Sink.state l.out) (lines (next_arrow l.net l.to l.nets) l.place)
    × (l.before.items ≡ arrow_before l.net l.to l.nets l.place)
