use Rattle.std.proofs.Common.{take}
use Rattle.std.specs.List.{list_all}
use Rattle.rtl_kept_bodies.specs.Steps.{knows, NeedsKnown}
use Rattle.rtl_kept_bodies.proofs.constants.Known.need_listed.Given as goal

abbrev pub invariant-loop-element : goal.invariant-loop-element
invariant-loop-element l = NeedsKnown (list_all (knows l.initial.self.elements.items) (take l.element-index l.elements)) l.initial.self l.self
