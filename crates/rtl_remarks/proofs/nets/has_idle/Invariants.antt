use Rattle.std.proofs.Common.{◌≡◌, drop}
use Rattle.std.specs.List.{list_any}
use Rattle.rtl_net.specs.Nets.{source_view}
use Rattle.rtl_remarks.specs.Remarks.{is_idle}
use Rattle.rtl_remarks.proofs.nets.has_idle.Given as goal

abbrev pub invariant-loop-source : goal.invariant-loop-source
invariant-loop-source l = list_any (λ s. is_idle (source_view s)) (drop l.source-index l.sources) ≡ list_any (λ s. is_idle (source_view s)) l.sources
