use Rattle.std.proofs.Common.{◌<◌, ℕ, List, [], length, sym, ◌∙◌, subst, arith}
use Rattle.rtl_model.specs.bodies.Rows.{row_count, all_rows}
use Rattle.rtl_model.proofs.bodies.Rows.{length-all, at_row}
use Rattle.rtl_net.specs.Bodies.{spacing_view}
use Rattle.rtl_looks.specs.Walks.{PartAssigned}
use Rattle.rtl_looks.proofs.RowWalks.{rows_none, rows_more, rows_all}
use Rattle.rtl_looks.proofs.statements.assign_rows.Goals as goal

pub loop-number-init : goal.loop-number-init
loop-number-init c = record { rows = rows_none c.args.kind c.args.looks.now c.args.round c.args.hubs.now.hubs.items c.args.env.now c.args.ends.now; parts = omega arith }

pub loop-number-preserved : goal.loop-number-preserved
loop-number-preserved c =
    let l = c.loop-number in
    let s = spacing_view c.args.spacing in
    let ns = c.args.numbers.now in
    let below : l.number < row_count s (length ns) = omega (arith, c.loop-number-test.true, c.row_count-number-end.ensures) in
    let row = c.row-row.ensures ∙ sym (at_row s ns l.number [] below) in
    record {
      rows = rows_more c.args.kind c.args.looks.now c.args.round (all_rows s ns) l.number (omega (arith, below, length-all s ns)) l.invariant.rows
          (subst (λ (r : List ℕ). PartAssigned c.args.kind r c.args.looks.now c.args.round l.hubs.hubs.items c.assign_part.new.hubs.hubs.items l.env c.assign_part.new.env l.ends c.assign_part.new.ends) row c.in_ok-assign_part.ensures.parted);
      parts = omega (arith, l.invariant.parts, c.in_ok-assign_part.ensures.parts);
    }

pub returns-clause-rows : goal.returns-clause-rows
returns-clause-rows c =
    let l = c.loop-number in
    let s = spacing_view c.args.spacing in
    rows_all c.args.kind c.args.looks.now c.args.round (all_rows s c.args.numbers.now) l.number (omega (arith, c.loop-number-test.false, c.row_count-number-end.ensures, length-all s c.args.numbers.now)) l.invariant.rows
