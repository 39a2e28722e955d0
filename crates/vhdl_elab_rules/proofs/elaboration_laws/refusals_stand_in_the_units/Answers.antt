use Rattle.vhdl_elab_rules.proofs.laws.Standing.{refusals-stand}
use Rattle.vhdl_elab_rules.proofs.elaboration_laws.refusals_stand_in_the_units.Goals as goal

pub returns : goal.returns
returns c = refusals-stand
