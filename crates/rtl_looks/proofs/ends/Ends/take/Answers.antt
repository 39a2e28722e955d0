use Rattle.std.proofs.Common.{refl}
use Rattle.rtl_looks.proofs.Walking.{taken_both}
use Rattle.rtl_looks.proofs.ends.Ends.take.Goals as goal

pub returns : goal.returns
returns c = taken_both c.in_ok-take_each.ensures c.in_ok-take_each-2.ensures refl
