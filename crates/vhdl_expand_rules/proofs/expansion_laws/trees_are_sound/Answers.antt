use Rattle.vhdl_expand_rules.proofs.laws.Trees.{each-tree-is-sound}
use Rattle.vhdl_expand_rules.proofs.expansion_laws.trees_are_sound.Goals as goal

pub returns : goal.returns
returns c = each-tree-is-sound
