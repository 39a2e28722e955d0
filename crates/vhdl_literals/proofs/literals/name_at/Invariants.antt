use Rattle.std.proofs.Common.{◌≡◌, drop}
use Rattle.std.specs.Prelude.{slice_get}
use Rattle.vhdl_literals.specs.Declarations.{literal_names}
use Rattle.vhdl_literals.proofs.literals.name_at.Given as goal

-- it is among the literals that are left
abbrev pub invariant-loop-token : goal.invariant-loop-token
invariant-loop-token l = slice_get (literal_names l.text l.literals) l.position ≡ slice_get (literal_names l.text (drop l.token-index l.literals)) l.left
