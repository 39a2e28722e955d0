use Rattle.std.proofs.Common.{rules}
use Rattle.rtl_drives.proofs.drives.Drives.set_each.Goals as goal

pub overflow_add-first : goal.overflow_add-first
overflow_add-first c =
    let there = c.requires.there c.loop-at.at c.loop-at-test.true in
    search (rules, there, c.drivers-drivers.ensures)
