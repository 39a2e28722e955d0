use Rattle.std.proofs.Common.{◌≡◌, map, take}
use Rattle.rtl_net.specs.Names.{net_name}
use Rattle.rtlsim_circles.proofs.nets.names_of.Given as goal

abbrev pub invariant-loop-number : goal.invariant-loop-number
invariant-loop-number l = map (λ t. t.items) l.names.items ≡ map (net_name l.net) (take l.number-index l.nets)
