use Rattle.std.proofs.Common.{◌≡◌, ◌++◌, drop, map}
use Rattle.rtl_model.specs.nets.FlatNetlist.{element_starts}
use Rattle.rtl_net.specs.Nets.{variable_view}
use Rattle.rtl_kept_bodies.proofs.kept.starts_of.Given as goal

-- what those so far start with, and those that are left
abbrev pub invariant-loop-variable : goal.invariant-loop-variable
invariant-loop-variable l = l.starts.items ++ element_starts (map variable_view (drop l.variable-index l.variables)) ≡ element_starts (map variable_view l.variables)
