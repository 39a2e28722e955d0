use Rattle.std.proofs.Common.{ap, sym, ◌∙◌}
use Rattle.vhdl_names_rules.specs.units.Expressions as units
use Rattle.vhdl_names_trees.specs.views.Integers.{static_view, start_view}
use Rattle.vhdl_names_trees.proofs.rows.Integers.{view_chain, chained-after}
use Rattle.vhdl_names_trees.proofs.integer.Static.binary.Goals as goal

pub returns-in_ok-push-in-Chain : goal.returns-in_ok-push-in-Chain
returns-in_ok-push-in-Chain c =
    let e = ap static_view c.in-Chain.is ∙ view_chain c.in-Chain.start c.in-Chain.links in
    c.chain.ensures
    ∙ chained-after (start_view c.in-Chain.start.value) c.in-Chain.links.items _ _ c.in_ok-push-in-Chain.ensures.items
    ∙ ap (λ x. units.Static.binary c.args.at c.args.operator x (static_view c.args.operand)) (sym e)
