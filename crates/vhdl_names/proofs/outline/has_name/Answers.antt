use Rattle.std.proofs.Common.{◌∙◌}
use Rattle.vhdl_names_units.proofs.Once.{contained}
use Rattle.vhdl_names.proofs.outline.has_name.Goals as goal

pub returns : goal.returns
returns c = c.contains.ensures ∙ contained c.args.name.now c.args.names.now.keys
