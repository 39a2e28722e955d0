use Rattle.std.proofs.Common.{ap, length, ◌∙◌}
use Rattle.std.proofs.lemmas.List.{length-map}
use Rattle.vhdl_values.specs.Scalar.{value_of_code}
use Rattle.vhdl_values.proofs.Kept.{IsPlanes-kept, values_at-kept}
use Rattle.vhdl_values.proofs.Coded.{IsKept-codes}
use Rattle.vhdl_values.proofs.vector.Vec9.of_codes.Goals as goal

pub invariant_of-result : goal.invariant_of-result
invariant_of-result c = IsPlanes-kept _ _ _ _ _ _ (IsKept-codes c.args.codes.now _ _ _ _ c.requires.some c.requires.room c.requires.codes c.of-planes.ensures)

pub returns-clause-list : goal.returns-clause-list
returns-clause-list c = values_at-kept _ _ _ _ _ _ (IsKept-codes c.args.codes.now _ _ _ _ c.requires.some c.requires.room c.requires.codes c.of-planes.ensures)

pub returns-clause-len : goal.returns-clause-len
returns-clause-len c = ap length (returns-clause-list c) ∙ length-map c.args.codes.now value_of_code
