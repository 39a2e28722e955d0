use Rattle.std.proofs.Common.{ap, length, ◌∙◌}
use Rattle.vhdl_values.proofs.Kept.{IsPlanes-kept, values_at-kept}
use Rattle.vhdl_values.proofs.Digits.{length-digits_of, good-digits_of, number_of-digits_of}
use Rattle.vhdl_values.proofs.Numbered.{IsKept-digits}
use Rattle.vhdl_values.proofs.vector.Vec9.of_nat.Goals as goal

pub invariant_of-result : goal.invariant_of-result
invariant_of-result c = IsPlanes-kept _ _ _ _ _ _ (IsKept-digits c.args.len c.args.number _ c.requires.some c.requires.room c.mask-all.ensures)

pub returns-clause-list : goal.returns-clause-list
returns-clause-list c = values_at-kept _ _ _ _ _ _ (IsKept-digits c.args.len c.args.number _ c.requires.some c.requires.room c.mask-all.ensures)

pub returns-clause-len : goal.returns-clause-len
returns-clause-len c = ap length (returns-clause-list c) ∙ length-digits_of c.args.len c.args.number

pub returns-clause-good : goal.returns-clause-good
returns-clause-good c = rw (returns-clause-list c) (good-digits_of c.args.len c.args.number)

pub returns-clause-number : goal.returns-clause-number
returns-clause-number c = rw (returns-clause-list c) (number_of-digits_of c.args.len c.args.number)
