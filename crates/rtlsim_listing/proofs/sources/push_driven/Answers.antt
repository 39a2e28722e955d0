use Rattle.std.proofs.Common.{◌++◌, map}
use Rattle.std.specs.Prelude.{codes, flat_map}
use Rattle.std.proofs.lemmas.List.{take_all}
use Rattle.std.proofs.lemmas.List.Folds.{flat_map-map}
use Rattle.byte_streams.specs.Written.{Goes}
use Rattle.byte_streams.proofs.Writing.{Goes-append}
use Rattle.rtl_net.specs.Nets.{source_view}
use Rattle.rtl_net.specs.declared.net.Source.{Source}
use Rattle.rtlsim_listing.specs.NetText.{source_text}
use Rattle.rtlsim_listing.proofs.Printing.{next_text}
use Rattle.rtlsim_listing.proofs.sources.push_driven.Goals as goal

pub loop-source-preserved : goal.loop-source-preserved
loop-source-preserved g c =
    next_text _ _ _ (λ (s : Source). codes " " ++ source_text (source_view s)) c.in-Some.rest.now c.loop-source.source-index _ c.loop-source-test.true c.loop-source.invariant
    (Goes-append _ _ _ _ _ c.push_text-in-loop-source.ensures c.push_source-in-loop-source.ensures)

pub returns : goal.returns
returns g c =
    let state = g.W.Sink.state in
    let rest : Goes (state c.push_source.new.out) (state c.loop-source.out) (flat_map (λ t. codes " " ++ source_text t) (map source_view c.in-Some.rest.now)) =
    rw (flat_map-map, ← take_all c.loop-source.source-index c.in-Some.rest.now c.loop-source-test.false) c.loop-source.invariant in
    rw c.in-Some.ensures.cases.0 (Goes-append _ _ _ _ _ c.push_source.ensures rest)
