use Rattle.std.proofs.Common.{◌≡◌, take}
use Rattle.rtl_copy_ends.specs.Inside.{clocks}
use Rattle.rtl_copy_ends.proofs.inside.listed_clocks.Given as goal

abbrev pub invariant-loop-kind : goal.invariant-loop-kind
invariant-loop-kind l = l.clocks.items ≡ clocks (take l.kind-index l.kinds)
