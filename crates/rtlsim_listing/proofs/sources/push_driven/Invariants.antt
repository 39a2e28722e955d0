use Rattle.std.specs.Prelude.{◌++◌, codes, flat_map, take}
use Rattle.byte_streams.specs.Written.{Goes}
use Rattle.rtl_net.specs.Nets.{source_view}
use Rattle.rtl_net.specs.declared.net.Source.{Source}
use Rattle.rtlsim_listing.specs.NetText.{source_text}
use Rattle.rtlsim_listing.proofs.sources.push_driven.Given as goal

-- the sources before this one went out
abbrev pub invariant-loop-source : goal.invariant-loop-source
invariant-loop-source g l =
    Goes (g.W.Sink.state l.initial.out) (g.W.Sink.state l.out)
    (flat_map (λ (s : Source). codes " " ++ source_text (source_view s)) (take l.source-index l.rest))
