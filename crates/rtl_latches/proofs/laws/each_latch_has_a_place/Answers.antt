use Rattle.rtl_latches.proofs.There.{omission_there}
use Rattle.rtl_latches.proofs.laws.each_latch_has_a_place.Goals as goal

pub returns : goal.returns
returns c these xs t f = omission_there these xs t f
