use Rattle.std.proofs.Common.{List, map, sym, ap, ◌∙◌}
use Rattle.std.proofs.lemmas.List.{at_drop_all}
use Rattle.rtl_net.specs.declared.net.Source.{Source}
use Rattle.rtl_net.specs.Nets.{source_view}
use Rattle.rtl_check.specs.Standing as s
use Rattle.rtl_process_kinds.proofs.Sources.{sources_there}
use Rattle.rtl_check.proofs.standing.with_sources.Goals as goal

pub returns : goal.returns
returns c =
    let ss = c.sources-sources.result.now in
    let levels = c.args.levels.now in
    sym (at_drop_all (λ (xs : List Source). s.with_sources levels c.loop-source.highest (map source_view xs)) ss c.loop-source.source-index c.loop-source-test.false)
    ∙ (c.loop-source.invariant ∙ ap (s.with_sources levels c.args.start) (c.sources-sources.ensures ∙ sym (sources_there c.args.net.now c.args.number c.requires)))
