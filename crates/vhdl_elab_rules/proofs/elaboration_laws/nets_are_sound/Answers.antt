use Rattle.vhdl_elab_rules.proofs.laws.Sound.{each-net-is-sound, each-net-is-within-limits}
use Rattle.vhdl_elab_rules.proofs.elaboration_laws.nets_are_sound.Goals as goal

pub returns-clause-sound : goal.returns-clause-sound
returns-clause-sound c = each-net-is-sound

pub returns-clause-limits : goal.returns-clause-limits
returns-clause-limits c = each-net-is-within-limits
