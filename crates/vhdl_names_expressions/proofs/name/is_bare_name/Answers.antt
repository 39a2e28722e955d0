use Rattle.vhdl_names_expressions.proofs.Choosing.{no_bare_name}
use Rattle.vhdl_names_expressions.proofs.name.is_bare_name.Goals as goal

pub returns-in_default : goal.returns-in_default
returns-in_default c = no_bare_name c.args.e.now c.in_default.not-Name
