use Rattle.std.proofs.Common.{◌≡◌, drop}
use Rattle.std.specs.List.{list_any}
use Rattle.rtl_model.specs.simulation.Levels.{is_driver}
use Rattle.rtl_net.specs.Nets.{source_view}
use Rattle.rtl_process_kinds.proofs.driven.is_driven.Given as goal

abbrev pub invariant-loop-source : goal.invariant-loop-source
invariant-loop-source l = list_any (λ s. is_driver (source_view s)) (drop l.source-index l.sources) ≡ list_any (λ s. is_driver (source_view s)) l.sources
