use Rattle.std.proofs.Common.{◌≡◌, map, length}
use Rattle.vhdl_misfits.specs.Misfits.{first_told, rows_of}
use Rattle.vhdl_misfits.proofs.told.first_told.Given as goal

-- the tables that are left decide
abbrev pub invariant-loop-tables : goal.invariant-loop-tables
invariant-loop-tables l =
    first_told (map rows_of l.tables) l.known l.text l.last_two l.from
    ≡ first_told (map rows_of l.initial.tables) l.known l.text l.last_two l.from

abbrev pub decreases-loop-tables : goal.decreases-loop-tables
decreases-loop-tables l = length l.tables
