use Rattle.std.proofs.Common.{◌≡◌, drop, map}
use Rattle.rtl_net.specs.Nets.{source_view}
use Rattle.rtl_check.specs.Standing as s
use Rattle.rtl_check.proofs.standing.with_sources.Given as goal

abbrev pub invariant-loop-source : goal.invariant-loop-source
invariant-loop-source l = s.with_sources l.levels l.highest (map source_view (drop l.source-index l.sources)) ≡ s.with_sources l.levels l.fn.start (map source_view l.sources)
