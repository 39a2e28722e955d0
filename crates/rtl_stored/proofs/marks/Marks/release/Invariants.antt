use Rattle.std.proofs.Common.{take}
use Rattle.rtl_stored.specs.Walks.{Released}
use Rattle.rtl_stored.proofs.marks.Marks.release.Given as goal

abbrev pub invariant-loop-element : goal.invariant-loop-element
invariant-loop-element l = Released (take l.element-index l.elements) l.initial.self.marks.items l.self.marks.items
