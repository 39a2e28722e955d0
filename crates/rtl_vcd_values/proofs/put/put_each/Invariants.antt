use Rattle.std.specs.Prelude.{take}
use Rattle.rtl_vcd_values.specs.Puts.{IsPut}
use Rattle.rtl_vcd_values.proofs.put.put_each.Given as goal

-- the values before this place are put
abbrev pub invariant-loop-at : goal.invariant-loop-at
invariant-loop-at l = IsPut l.fn.room l.room l.from (take l.at l.old) (take l.at l.new) l.is_other
