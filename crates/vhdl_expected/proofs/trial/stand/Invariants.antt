use Rattle.std.proofs.Common.{◌≡◌, length}
use Rattle.vhdl_expected.specs.Told as spec
use Rattle.vhdl_expected.proofs.trial.stand.Given as goal

-- what is left of both decides
abbrev pub invariant-loop-kinds : goal.invariant-loop-kinds
invariant-loop-kinds l = spec.stand l.kinds l.tokens ≡ spec.stand l.initial.kinds l.initial.tokens

abbrev pub decreases-loop-kinds : goal.decreases-loop-kinds
decreases-loop-kinds l = length l.kinds
