use Rattle.std.proofs.Common.{◌≡◌, ◌++◌, drop}
use Rattle.std.specs.List.{zip}
use Rattle.vhdl_elab.specs.Tables.{idle_in}
use Rattle.vhdl_elab.proofs.tables.idle_ports.Given as goal

-- the idle ports so far, and those of the elements that are left
abbrev pub invariant-loop-i : goal.invariant-loop-i
invariant-loop-i l = idle_in (zip l.elements l.uses) ≡ l.idle.items ++ idle_in (zip (drop l.i l.elements) (drop l.i l.uses))
