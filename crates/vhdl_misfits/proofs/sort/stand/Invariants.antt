use Rattle.std.proofs.Common.{◌≡◌, length}
use Rattle.vhdl_misfits.specs.Sorts as spec
use Rattle.vhdl_misfits.proofs.sort.stand.Given as goal

-- what is left of both decides
abbrev pub invariant-loop-sorts : goal.invariant-loop-sorts
invariant-loop-sorts l = spec.stand l.sorts l.tokens ≡ spec.stand l.initial.sorts l.initial.tokens

abbrev pub decreases-loop-sorts : goal.decreases-loop-sorts
decreases-loop-sorts l = length l.sorts
