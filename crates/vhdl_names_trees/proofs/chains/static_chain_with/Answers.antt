use Rattle.std.proofs.Common.{◌∙◌}
use Rattle.vhdl_names_trees.specs.views.Tests.{static_start_view}
use Rattle.vhdl_names_trees.proofs.rows.Tests.{static_after}
use Rattle.vhdl_names_trees.proofs.chains.static_chain_with.Goals as goal

pub returns : goal.returns
returns c =
    c.static_chain.ensures ∙ static_after (static_start_view c.args.start.value) c.args.links.items _ _ c.in_ok-push.ensures.items
