use Rattle.std.proofs.Common.{ℕ, ◌+◌, ◌/◌, ap, ◌∙◌, arith}
use Rattle.rtl_net.specs.Bodies.{spacing_view}
use Rattle.rtl_looks.proofs.RowCounts.{quotient_is, some_rows, no_rows}
use Rattle.rtl_looks.proofs.rows.row_count.Goals as goal

pub returns-in-Some : goal.returns-in-Some
returns-in-Some c =
    let s = spacing_view c.args.spacing in
    let (within, further) = c.in-Some.ensures in
    ap (λ (n : ℕ). n + 1) (c.unwrap_or.ensures ∙ (quotient_is c.checked_div.result c.in-Some.further s.step c.checked_div.ensures ∙ ap (λ (n : ℕ). n / s.step) further))
    ∙ some_rows s c.args.elements within

pub returns-in-None : goal.returns-in-None
returns-in-None c = no_rows (spacing_view c.args.spacing) c.args.elements (omega (arith, c.in-None.ensures))
