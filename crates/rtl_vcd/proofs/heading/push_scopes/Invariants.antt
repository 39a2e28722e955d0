use Rattle.std.specs.Prelude.{map}
use Rattle.byte_streams.specs.Written.{Goes}
use Rattle.rtl_net.specs.Nets.{scope_view, signal_view}
use Rattle.rtl_vcd.specs.Header.{scopes_text}
use Rattle.rtl_vcd.specs.Shown.{StartsScope}
use Rattle.rtl_vcd.proofs.heading.push_scopes.Given as goal

-- the scopes before this one are printed, and here its names start
abbrev pub invariant-loop-number : goal.invariant-loop-number
invariant-loop-number g l =
    Goes (g.W.Sink.state l.initial.out) (g.W.Sink.state l.out) (scopes_text (map scope_view l.scopes) (map signal_view l.signals) l.number)
    × StartsScope l.signals l.number l.next
