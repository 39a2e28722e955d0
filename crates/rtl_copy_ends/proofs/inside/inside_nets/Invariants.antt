use Rattle.std.proofs.Common.{◌≡◌, map}
use Rattle.std.specs.List.{range_with_len}
use Rattle.rtl_copy_ends.specs.Inside.{is_inside}
use Rattle.rtl_copy_ends.proofs.inside.inside_nets.Given as goal

abbrev pub invariant-loop-number : goal.invariant-loop-number
invariant-loop-number l = l.inside.items ≡ map (is_inside l.net) (range_with_len 0 l.number)
