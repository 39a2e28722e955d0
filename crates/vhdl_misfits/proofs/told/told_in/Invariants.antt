use Rattle.std.proofs.Common.{◌≡◌, map, length}
use Rattle.vhdl_misfits.specs.Misfits.{row_of, told_in}
use Rattle.vhdl_misfits.proofs.told.told_in.Given as goal

-- the rows that are left decide
abbrev pub invariant-loop-rows : goal.invariant-loop-rows
invariant-loop-rows l =
    told_in (map row_of l.rows) l.known l.text l.last_two l.from
    ≡ told_in (map row_of l.initial.rows) l.known l.text l.last_two l.from

abbrev pub decreases-loop-rows : goal.decreases-loop-rows
decreases-loop-rows l = length l.rows
