use Rattle.std.proofs.Common.{◌==◌, take}
use Rattle.std.specs.List.{list_any}
use Rattle.rtl_kept_bodies.specs.Steps.{Marked}
use Rattle.rtl_kept_bodies.proofs.marks.mark_listed.Given as goal

abbrev pub invariant-loop-element : goal.invariant-loop-element
invariant-loop-element l = Marked (λ e. list_any (λ d. d == e) (take l.element-index l.elements)) l.initial.marks l.marks
