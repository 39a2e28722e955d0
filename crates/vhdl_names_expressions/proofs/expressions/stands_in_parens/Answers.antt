use Rattle.vhdl_names_expressions.proofs.Choosing.{no_parens}
use Rattle.vhdl_names_expressions.proofs.expressions.stands_in_parens.Goals as goal

pub returns-in_default : goal.returns-in_default
returns-in_default c = no_parens c.args.e.now c.in_default.not-Parens c.in_default.not-Qualified
