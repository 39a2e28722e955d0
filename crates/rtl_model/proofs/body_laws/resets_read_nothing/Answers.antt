use Rattle.rtl_model.proofs.bodies.Clocking.{resets_read_nothing}
use Rattle.rtl_model.proofs.body_laws.resets_read_nothing.Goals as goal

pub returns : goal.returns
returns c = resets_read_nothing
