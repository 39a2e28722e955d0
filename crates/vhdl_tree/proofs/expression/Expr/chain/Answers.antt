use Rattle.std.proofs.Common.{ap, ◌∙◌}
use Rattle.vhdl_tree.specs.View.{chain_view}
use Rattle.vhdl_tree.proofs.Rows.{view_chain}
use Rattle.vhdl_tree.proofs.expression.Expr.chain.Goals as goal

pub returns : goal.returns
returns c = ap chain_view c.in_ok-new.ensures.ok ∙ view_chain c.args.first c.args.second c.args.rest
