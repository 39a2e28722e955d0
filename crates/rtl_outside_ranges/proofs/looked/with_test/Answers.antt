use Rattle.std.proofs.Common.{sym, ◌∙◌}
use Rattle.rtl_outside_ranges.proofs.Looking.{looked_by}
use Rattle.rtl_outside_ranges.proofs.looked.with_test.Goals as goal

pub returns : goal.returns
returns c =
    let s = c.in_ok-found.ensures in
    (sym c.test_is_apart.ensures ∙ c.if-not-test_is_apart.false, s.rise, looked_by _ _ _ _ _ c.walk_test.ensures c.in_ok-looked.ensures s.there s.are)
