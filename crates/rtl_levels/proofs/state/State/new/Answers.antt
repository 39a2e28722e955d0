use Rattle.std.proofs.Common.{map, ap, ◌∙◌}
use Rattle.std.proofs.lemmas.List.{take_all}
use Rattle.rtl_levels.specs.declared.order.Visit.{Visit}
use Rattle.rtl_levels.proofs.state.State.new.Goals as goal

pub returns-clause-first_dirty : goal.returns-clause-first_dirty
returns-clause-first_dirty c = c.loop-visit.invariant ∙ ap (map (λ (visit : Visit). visit.first)) (take_all c.loop-visit.visit-index c.args.visits.now c.loop-visit-test.false)
