use Rattle.std.proofs.Common.{◌≤◌, length}
use Rattle.rtl_model.specs.bodies.Rows.{row_count}
use Rattle.rtl_net.specs.Bodies.{spacing_view}
use Rattle.rtl_looks.proofs.Elements.{ChoosesFrom}
use Rattle.rtl_looks.proofs.values.chosen_looks.Given as goal

abbrev pub invariant-loop-left : goal.invariant-loop-left
invariant-loop-left l = record {
  rows : ChoosesFrom (spacing_view l.spacing) l.fn.index l.looks l.initial.hubs.hubs.items l.hubs.hubs.items l.left l.columns.items;
  left : l.left ≤ row_count (spacing_view l.spacing) (length l.looks);
}

abbrev pub decreases-loop-left : goal.decreases-loop-left
decreases-loop-left l = l.left
