use Rattle.std.proofs.Common.{◌≡◌, ap, ◌∙◌}
use Rattle.vhdl_names_trees.specs.views.Tests.{static_test_view, static_start_view, static_test_chained}
use Rattle.vhdl_names_trees.proofs.rows.Tests.{view_static_chain}
use Rattle.vhdl_names_trees.proofs.test.StaticTest.both.Goals as goal

pub returns-in-Chain : goal.returns-in-Chain
returns-in-Chain c =
    let e : static_test_view c.args.self ≡ static_test_chained (static_start_view c.in-Chain.start.value) c.in-Chain.links.items = ap static_test_view c.in-Chain.is ∙ view_static_chain c.in-Chain.start c.in-Chain.links in
    rw (e) c.static_chain_with.ensures
