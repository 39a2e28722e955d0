use Rattle.vhdl_expand_rules.proofs.laws.Labels.{each-tree-is-named}
use Rattle.vhdl_expand_rules.proofs.expansion_laws.trees_are_named.Goals as goal

pub returns : goal.returns
returns c = each-tree-is-named
