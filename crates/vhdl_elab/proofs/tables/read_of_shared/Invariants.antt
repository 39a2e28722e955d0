use Rattle.std.proofs.Common.{◌≡◌, drop}
use Rattle.std.specs.List.{zip}
use Rattle.vhdl_elab.specs.Tables.{first_at, is_read_of_shared}
use Rattle.vhdl_elab.proofs.tables.read_of_shared.Given as goal

-- none of those so far
abbrev pub invariant-loop-i : goal.invariant-loop-i
invariant-loop-i l = first_at (is_read_of_shared l.held) (zip l.elements l.uses) ≡ first_at (is_read_of_shared l.held) (zip (drop l.i l.elements) (drop l.i l.uses))
