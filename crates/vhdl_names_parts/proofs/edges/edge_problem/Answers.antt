use Rattle.std.proofs.Common.{sym}
use Rattle.vhdl_names_parts.proofs.Meant.{other_edge}
use Rattle.vhdl_names_parts.proofs.edges.edge_problem.Goals as goal

pub returns-in_default : goal.returns-in_default
returns-in_default c = sym (other_edge c.args.vector.now c.in_default.not-Variable c.in_default.not-Constant)
