use Rattle.std.proofs.Common.{◌≡◌, drop}
use Rattle.std.specs.List.{zip}
use Rattle.vhdl_elab.specs.Tables.{first_at, is_two_unresolved}
use Rattle.vhdl_elab.proofs.tables.two_unresolved.Given as goal

-- none of those so far
abbrev pub invariant-loop-i : goal.invariant-loop-i
invariant-loop-i l = first_at is_two_unresolved (zip l.elements l.uses) ≡ first_at is_two_unresolved (zip (drop l.i l.elements) (drop l.i l.uses))
