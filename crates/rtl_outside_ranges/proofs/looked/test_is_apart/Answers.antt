use Rattle.rtl_outside_ranges.proofs.Looking.{told_apart}
use Rattle.rtl_outside_ranges.proofs.looked.test_is_apart.Goals as goal

pub returns : goal.returns
returns c = told_apart _ _ _ c.walk_test.ensures
