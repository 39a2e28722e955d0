use Rattle.std.proofs.Common.{◌≡◌, ◌+◌, take}
use Rattle.rtl_model.specs.bodies.Rows.{all_rows}
use Rattle.rtl_net.specs.Bodies.{spacing_view}
use Rattle.rtl_looks.specs.Walks.{RowsAssigned}
use Rattle.rtl_looks.proofs.statements.assign_rows.Given as goal

abbrev pub invariant-loop-number : goal.invariant-loop-number
invariant-loop-number l = record {
  rows : RowsAssigned l.kind (take l.number (all_rows (spacing_view l.spacing) l.numbers)) l.looks l.round
      l.initial.hubs.hubs.items l.hubs.hubs.items l.initial.env l.env l.initial.ends l.ends;
  parts : l.ends.parts ≡ l.initial.ends.parts + l.number;
}
