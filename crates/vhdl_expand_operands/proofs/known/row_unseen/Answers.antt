use Rattle.std.proofs.Common.{ℕ, ◌∙◌, subst}
use Rattle.rtl_net.specs.Indices.{numbers}
use Rattle.rtl_net.specs.Bodies.{spacing_view}
use Rattle.rtl_eval.specs.Rows.{IsNowhere}
use Rattle.vhdl_expand_operands.proofs.Unseen.{row_read, row_missing}
use Rattle.vhdl_expand_operands.proofs.known.row_unseen.Goals as goal

pub returns-in-Some : goal.returns-in-Some
returns-in-Some c =
    let s = spacing_view c.args.spacing in
    c.fill.ensures.list ∙ row_read s (numbers c.args.places.now) c.args.index.now _ _ c.len.ensures c.in-Some.ensures.some

pub returns-in-None : goal.returns-in-None
returns-in-None c =
    let s = spacing_view c.args.spacing in
    c.fill-in-None.ensures.list ∙ row_missing s (numbers c.args.places.now) c.args.index.now (subst (λ (n : ℕ). IsNowhere s n c.args.index.now) c.len.ensures c.in-None.ensures.none)
