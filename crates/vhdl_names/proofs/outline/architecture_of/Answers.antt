use Rattle.std.proofs.Common.{◌∙◌}
use Rattle.vhdl_names.proofs.Describing.{returned, lent}
use Rattle.vhdl_names.proofs.outline.architecture_of.Goals as goal

pub returns : goal.returns
returns c = returned c.get.result ∙ lent c.args.name.now c.args.outline.now.architectures.entries _ c.get.ensures.value
