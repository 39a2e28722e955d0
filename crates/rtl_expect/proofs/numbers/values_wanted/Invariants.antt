use Rattle.std.proofs.Common.{◌≡◌, take}
use Rattle.rtl_expect.specs.Expected as spec
use Rattle.rtl_expect.proofs.numbers.values_wanted.Given as goal

-- what is wanted of the nets before this place is there
abbrev pub invariant-loop-place : goal.invariant-loop-place
invariant-loop-place l = l.wanted.items ≡ spec.values_wanted (take l.place l.nets) l.values
