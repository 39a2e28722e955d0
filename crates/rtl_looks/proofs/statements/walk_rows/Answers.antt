use Rattle.std.proofs.lemmas.Result.{on_ok_weaker}
use Rattle.std.proofs.Common.{length, ap, arith}
use Rattle.rtl_net.specs.Bodies.{spacing_view}
use Rattle.rtl_net.specs.Indices.{numbers}
use Rattle.rtl_looks.specs.declared.ends.Ends.{Ends}
use Rattle.rtl_looks.proofs.RowCounts.{few_rows}
use Rattle.rtl_looks.proofs.RowWalks.{rows_walk}
use Rattle.rtl_looks.proofs.statements.walk_rows.Goals as goal

pub assign_rows-requires : goal.assign_rows-requires
assign_rows-requires c =
    omega (
      arith,
      few_rows (spacing_view c.args.assignment.spacing) (length c.deref-2.result.now),
      c.in_ok-assign_part.ensures.parts,
      ap (λ (e : Ends). e.parts) c.skip.ensures,
      c.new-parts.ensures.parts,
    )

pub returns : goal.returns
returns c =
    let a = c.args.assignment in
    on_ok_weaker c.finish.result
    (λ f. rows_walk (spacing_view a.spacing) (numbers a.targets.now) c.in_ok-index.ensures c.in_ok-round.ensures c.in_ok-looks.ensures
    c.new-parts.ensures.parts c.new-parts.ensures.drivers c.new-parts.ensures.elements c.skip.ensures
    (rw (c.deref.ensures.value, c.in_ok-numbers.ensures) at c.in_ok-assign_part.ensures.parted)
    (rw (c.deref-2.ensures.value, c.deref-3.ensures.value, c.in_ok-numbers.ensures) at c.in_ok-assign_rows.ensures.rows)
    (omega (arith, c.in_ok-assign_part.ensures.parts, c.in_ok-assign_rows.ensures.parts)) f)
    c.finish.ensures
