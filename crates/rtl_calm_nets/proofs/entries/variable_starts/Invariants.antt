use Rattle.std.proofs.Common.{◌≡◌, take, map}
use Rattle.rtl_model.specs.nets.FlatNetlist.{element_starts}
use Rattle.rtl_net.specs.Nets.{variable_view}
use Rattle.rtl_calm_nets.proofs.entries.variable_starts.Given as goal

abbrev pub invariant-loop-variable : goal.invariant-loop-variable
invariant-loop-variable l = l.starts.items ≡ element_starts (take l.variable-index (map variable_view l.variables))
