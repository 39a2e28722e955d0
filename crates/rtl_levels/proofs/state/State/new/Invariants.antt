use Rattle.std.proofs.Common.{◌≡◌, map, take}
use Rattle.rtl_levels.specs.declared.order.Visit.{Visit}
use Rattle.rtl_levels.proofs.state.State.new.Given as goal

abbrev pub invariant-loop-visit : goal.invariant-loop-visit
invariant-loop-visit l = l.dirty.items ≡ map (λ (visit : Visit). visit.first) (take l.visit-index l.visits)
