use Rattle.std.proofs.Common.{◌≡◌, take}
use Rattle.rtl_calm_nets.proofs.entries.starting_codes.Given as goal

abbrev pub invariant-loop-number : goal.invariant-loop-number
invariant-loop-number l = l.codes.items ≡ take l.number l.net.starts
