use Rattle.rtl_model.proofs.bodies.Sequences.{sequences_add_up}
use Rattle.rtl_model.proofs.body_laws.sequences_add_up.Goals as goal

pub returns : goal.returns
returns c = sequences_add_up
