use Rattle.std.proofs.Common.{ap, sym, ◌∙◌}
use Rattle.vhdl_names_trees.specs.views.Vectors.{vector_view, start_view, linked}
use Rattle.vhdl_names_trees.proofs.rows.Vectors.{view_chain, chained-after}
use Rattle.vhdl_names_trees.proofs.vector.Vector.with_link.Goals as goal

pub returns-in_ok-push-in-Chain : goal.returns-in_ok-push-in-Chain
returns-in_ok-push-in-Chain c =
    let e = ap vector_view c.in-Chain.is ∙ view_chain c.in-Chain.start c.in-Chain.links in
    c.chain.ensures
    ∙ chained-after (start_view c.in-Chain.start.value) c.in-Chain.links.items _ _ c.in_ok-push-in-Chain.ensures.items
    ∙ ap (λ x. linked x c.args.link) (sym e)
