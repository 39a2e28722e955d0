use Rattle.std.proofs.Common.{rules, arith}
use Rattle.std.proofs.lemmas.Grind.{common_steps}
use Rattle.vhdl_names.proofs.units.analysed_units.Goals as goal

pub returns-clause-given : goal.returns-clause-given
returns-clause-given c = first_of (search rules, grind (arith, common_steps))
