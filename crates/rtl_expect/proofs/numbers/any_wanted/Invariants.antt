use Rattle.std.proofs.Common.{◌≡◌, take}
use Rattle.rtl_expect.specs.Expected as spec
use Rattle.rtl_expect.proofs.numbers.any_wanted.Given as goal

-- what is wanted of the nets before this one is there
abbrev pub invariant-loop-net : goal.invariant-loop-net
invariant-loop-net l = l.wanted.items ≡ spec.any_wanted (take l.net-index l.nets)
