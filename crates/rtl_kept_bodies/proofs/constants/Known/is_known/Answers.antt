use Rattle.rtl_kept_bodies.proofs.Knowing.{told_needs}
use Rattle.rtl_kept_bodies.proofs.constants.Known.is_known.Goals as goal

pub returns-clause-same : goal.returns-clause-same
returns-clause-same c = (told_needs _ _ _ c.walk_value.ensures).same

pub returns-clause-is : goal.returns-clause-is
returns-clause-is c = (told_needs _ _ _ c.walk_value.ensures).all
