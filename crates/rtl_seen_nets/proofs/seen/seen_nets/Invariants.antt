use Rattle.std.proofs.Common.{◌≡◌, map}
use Rattle.std.specs.List.{range_with_len}
use Rattle.rtl_seen_nets.specs.Drivers.{seen_among}
use Rattle.rtl_seen_nets.proofs.seen.seen_nets.Given as goal

abbrev pub invariant-loop-number : goal.invariant-loop-number
invariant-loop-number l = l.seen.items ≡ map (seen_among l.net l.wanted) (range_with_len 0 l.number)
