use Rattle.std.proofs.Common.{sym, ◌∙◌}
use Rattle.rtl_net.specs.Nets.{source_view}
use Rattle.rtl_net.specs.declared.net.Source.{Source}
use Rattle.rtl_body_facts.proofs.Anys.{any_end}
use Rattle.rtl_remarks.specs.Remarks.{is_idle}
use Rattle.rtl_remarks.proofs.Listed.{any_here, any_mapped}
use Rattle.rtl_remarks.proofs.nets.has_idle.Goals as goal

pub returns-then-is_idle : goal.returns-then-is_idle
returns-then-is_idle c =
    let ss = c.args.sources.now in
    sym (any_mapped is_idle source_view ss
    ∙ any_here (λ (s : Source). is_idle (source_view s)) ss c.loop-source.source-index _ c.loop-source-test.true (sym c.is_idle.ensures ∙ c.if-is_idle.true))

pub returns : goal.returns
returns c =
    let ss = c.args.sources.now in
    any_end (λ (s : Source). is_idle (source_view s)) ss c.loop-source.source-index c.loop-source-test.false c.loop-source.invariant ∙ sym (any_mapped is_idle source_view ss)
