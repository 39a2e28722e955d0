use Rattle.std.proofs.Common.{sym, ◌∙◌}
use Rattle.rtl_model.specs.simulation.Levels.{is_driver}
use Rattle.rtl_net.specs.declared.net.Source.{Source}
use Rattle.rtl_net.specs.Nets.{source_view}
use Rattle.rtl_body_facts.proofs.Anys.{any_end}
use Rattle.rtl_process_kinds.proofs.Sources.{any_here, driven_by}
use Rattle.rtl_process_kinds.proofs.driven.is_driven.Goals as goal

pub returns-then-is_driver : goal.returns-then-is_driver
returns-then-is_driver c =
    let ss = c.sources-sources.result.now in
    sym (any_here (λ (s : Source). is_driver (source_view s)) ss c.loop-source.source-index _ c.loop-source-test.true (sym c.is_driver.ensures ∙ c.if-is_driver.true))
    ∙ driven_by c.args.net.now c.args.number ss c.requires c.sources-sources.ensures

pub returns : goal.returns
returns c =
    let ss = c.sources-sources.result.now in
    any_end (λ (s : Source). is_driver (source_view s)) ss c.loop-source.source-index c.loop-source-test.false c.loop-source.invariant
    ∙ driven_by c.args.net.now c.args.number ss c.requires c.sources-sources.ensures
