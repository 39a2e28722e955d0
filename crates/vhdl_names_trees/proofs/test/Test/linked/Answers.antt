use Rattle.std.proofs.Common.{◌≡◌, ap, ◌∙◌}
use Rattle.vhdl_names_trees.specs.views.Tests.{test_view, start_view, test_chained}
use Rattle.vhdl_names_trees.proofs.rows.Tests.{view_chain}
use Rattle.vhdl_names_trees.proofs.test.Test.linked.Goals as goal

pub returns-in-Chain : goal.returns-in-Chain
returns-in-Chain c =
    let e : test_view c.args.self ≡ test_chained (start_view c.in-Chain.start.value) c.in-Chain.links.items = ap test_view c.in-Chain.is ∙ view_chain c.in-Chain.start c.in-Chain.links in
    rw (e) c.chain_with.ensures
