use Rattle.vhdl_elab_rules.proofs.Dotted.{each-tree-is-dotted}
use Rattle.vhdl_elab_rules.proofs.net_laws.prefixes_end_in_dots.Goals as goal

pub returns : goal.returns
returns c = each-tree-is-dotted
