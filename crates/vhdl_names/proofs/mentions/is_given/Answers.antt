use Rattle.std.proofs.Common.{◌∙◌}
use Rattle.vhdl_names.proofs.Tabling.{among_entries}
use Rattle.vhdl_names.proofs.mentions.is_given.Goals as goal

pub returns : goal.returns
returns c = c.contains_key.ensures ∙ among_entries c.args.name.now c.args.entities.now.entries
