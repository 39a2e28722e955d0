use Rattle.std.specs.Prelude.{◌≡◌, map, take}
use Rattle.rtl_net.specs.Nets.{signal_view}
use Rattle.rtl_vcd.proofs.Listed.{all_nets}
use Rattle.rtl_vcd.proofs.blocks.nets_in.Given as goal

abbrev pub invariant-loop-name : goal.invariant-loop-name
invariant-loop-name l = l.nets.items ≡ all_nets (take l.name-index (map signal_view l.names))
