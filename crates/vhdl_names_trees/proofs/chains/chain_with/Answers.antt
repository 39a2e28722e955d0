use Rattle.std.proofs.Common.{◌∙◌}
use Rattle.vhdl_names_trees.specs.views.Tests.{start_view}
use Rattle.vhdl_names_trees.proofs.rows.Tests.{chained-after}
use Rattle.vhdl_names_trees.proofs.chains.chain_with.Goals as goal

pub returns : goal.returns
returns c =
    c.chained.ensures ∙ chained-after (start_view c.args.start.value) c.args.links.items _ _ c.in_ok-push.ensures.items
