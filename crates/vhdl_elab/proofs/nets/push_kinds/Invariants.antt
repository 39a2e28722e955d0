use Rattle.std.proofs.Common.{◌≡◌, ◌++◌, map, replicate}
use Rattle.rtl_net.specs.Nets.{type_of}
use Rattle.vhdl_elab.proofs.nets.push_kinds.Given as goal

abbrev pub invariant-loop : goal.invariant-loop
invariant-loop l = map type_of l.kinds.items ≡ map type_of l.initial.kinds.items ++ replicate l.counter (type_of l.net)
