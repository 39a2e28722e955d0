use Rattle.std.proofs.Common.{ap, sym, ◌∙◌}
use Rattle.vhdl_names_rules.specs.units.Expressions as units
use Rattle.vhdl_names_trees.specs.views.Vectors.{computed_view, computed_start_view}
use Rattle.vhdl_names_trees.proofs.rows.Vectors.{view_computed_chain, computed_chained-after}
use Rattle.vhdl_names_trees.proofs.vector.Computed.binary.Goals as goal

pub returns-in_ok-push-in-Chain : goal.returns-in_ok-push-in-Chain
returns-in_ok-push-in-Chain c =
    let e = ap computed_view c.in-Chain.is ∙ view_computed_chain c.in-Chain.start c.in-Chain.links in
    c.computed_chain.ensures
    ∙ computed_chained-after (computed_start_view c.in-Chain.start.value) c.in-Chain.links.items _ _ c.in_ok-push-in-Chain.ensures.items
    ∙ ap (λ x. units.calculated c.args.at c.args.operator x (computed_view c.args.operand)) (sym e)
