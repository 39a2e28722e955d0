use Rattle.vhdl_names_expressions.proofs.Choosing.{no_name}
use Rattle.vhdl_names_expressions.proofs.name.name_of.Goals as goal

pub returns-in_default : goal.returns-in_default
returns-in_default c = no_name c.args.e.now c.in_default.not-Name
