use Rattle.vhdl_expand_tree.proofs.Counts.{each-design-costs-its-parts}
use Rattle.vhdl_expand_tree.proofs.count_laws.counts_are_costs.Goals as goal

pub returns : goal.returns
returns c = each-design-costs-its-parts
