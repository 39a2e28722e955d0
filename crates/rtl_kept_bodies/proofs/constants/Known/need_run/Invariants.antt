use Rattle.std.specs.List.{list_all, range_with_len}
use Rattle.rtl_kept_bodies.specs.Steps.{knows, NeedsKnown}
use Rattle.rtl_kept_bodies.proofs.constants.Known.need_run.Given as goal

abbrev pub invariant-loop-k : goal.invariant-loop-k
invariant-loop-k l = NeedsKnown (list_all (knows l.initial.self.elements.items) (range_with_len l.first l.k)) l.initial.self l.self
