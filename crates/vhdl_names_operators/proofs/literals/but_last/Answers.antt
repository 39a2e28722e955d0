use Rattle.vhdl_names_operators.proofs.Quotations.{but_last_take}
use Rattle.vhdl_names_operators.proofs.literals.but_last.Goals as goal

pub returns-in-len1-up : goal.returns-in-len1-up
returns-in-len1-up c = but_last_take c.args.text.now
