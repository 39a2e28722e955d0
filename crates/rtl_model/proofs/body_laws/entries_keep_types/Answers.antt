use Rattle.rtl_model.proofs.bodies.Ranges.{entries_keep_types}
use Rattle.rtl_model.proofs.body_laws.entries_keep_types.Goals as goal

pub returns : goal.returns
returns c = entries_keep_types
