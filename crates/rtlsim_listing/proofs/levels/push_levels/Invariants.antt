use Rattle.byte_streams.specs.Written.{Goes}
use Rattle.rtlsim_listing.specs.NetText.{lines}
use Rattle.rtlsim_listing.specs.CheckText.{level_line, shown_view}
use Rattle.rtlsim_listing.proofs.levels.push_levels.Given as goal

-- the lines of the processes before this one went out
abbrev pub invariant-loop-number : goal.invariant-loop-number
invariant-loop-number g l =
    Goes (g.W.Sink.state l.initial.out) (g.W.Sink.state l.out) (lines (level_line l.net (shown_view l.shown)) l.number)
