use Rattle.std.proofs.Common.{◌+◌, map, drop}
use Rattle.vhdl_names_trees.specs.views.Integers.{range_view}
use Rattle.vhdl_names_units.specs.views.Concurrent as units
use Rattle.vhdl_expand_rules.specs.Integers.{numbers_from}
use Rattle.vhdl_expand_tree.proofs.Alike.{Alike}
use Rattle.vhdl_expand.specs.Making.{TurnsFit, adding, progress_view}
use Rattle.vhdl_expand.specs.Spots.{spot_view}
use Rattle.vhdl_expand.specs.Walks.{units_of}
use Rattle.vhdl_expand.proofs.Weights.{weight, weights, levels_weight}
use Rattle.vhdl_expand.proofs.Statements.{listed}
use Rattle.vhdl_expand.proofs.Generates.{for_each, all_turned}
use Rattle.vhdl_expand.proofs.walk.Walk.+concurrent.Given as goal

-- those that are left, behind what is made so far
abbrev pub invariant-concurrents-loop-item : goal.invariant-concurrents-loop-item
invariant-concurrents-loop-item l = record {
  leads : Alike (adding (progress_view l.fn.so_far) (listed (units_of l.self) l.self.levels (spot_view l.spot) l.list))
      (adding (progress_view l.so_far) (listed (units_of l.self) l.self.levels (spot_view l.spot) (drop l.item-index l.list)));
  fits : TurnsFit l.so_far;
}

-- the turns that are left, behind what is made so far
abbrev pub invariant-turns-loop-turn : goal.invariant-turns-loop-turn
invariant-turns-loop-turn l = record {
  leads : Alike (adding (progress_view l.fn.so_far) (for_each (units_of l.self) l.self.levels (spot_view l.spot) l.written.at l.written.label.text.items (units.concurrents_of (units.concurrents_view l.written.statements)) (range_view l.range)))
      (adding (progress_view l.so_far) (all_turned (units_of l.self) l.self.levels (spot_view l.spot) l.written.at l.written.label.text.items (units.concurrents_of (units.concurrents_view l.written.statements))
      (drop l.turn (numbers_from l.turns.direction l.turns.first l.turns.count))));
  fits : TurnsFit l.so_far;
}

abbrev pub decreases-concurrents : goal.decreases-concurrents
decreases-concurrents l = levels_weight (units_of l.self.now) l.self.now.levels + weights (units.concurrents_of (map units.concurrent_view l.list.now))

abbrev pub decreases-concurrent : goal.decreases-concurrent
decreases-concurrent l = levels_weight (units_of l.self.now) l.self.now.levels + weight (units.concurrent_view l.item.now)

abbrev pub decreases-generate : goal.decreases-generate
decreases-generate l = levels_weight (units_of l.self.now) l.self.now.levels + (3 + weights (units.concurrents_of (units.concurrents_view l.written.now.statements)))

abbrev pub decreases-turns : goal.decreases-turns
decreases-turns l = levels_weight (units_of l.self.now) l.self.now.levels + (2 + weights (units.concurrents_of (units.concurrents_view l.written.now.statements)))

abbrev pub decreases-turn : goal.decreases-turn
decreases-turn l = levels_weight (units_of l.self.now) l.self.now.levels + (1 + weights (units.concurrents_of (units.concurrents_view l.written.now.statements)))

abbrev pub decreases-branch : goal.decreases-branch
decreases-branch l = levels_weight (units_of l.self.now) l.self.now.levels + (1 + weights (units.concurrents_of (units.concurrents_view l.written.now.statements)))

abbrev pub decreases-add_instance : goal.decreases-add_instance
decreases-add_instance l = levels_weight (units_of l.self.now) l.self.now.levels + 1

abbrev pub decreases-instance : goal.decreases-instance
decreases-instance l = levels_weight (units_of l.self.now) l.self.now.levels

abbrev pub decreases-body : goal.decreases-body
decreases-body l = levels_weight (units_of l.self.now) l.self.now.levels + (1 + weights (units.concurrents_of (map units.concurrent_view l.list.now)))
