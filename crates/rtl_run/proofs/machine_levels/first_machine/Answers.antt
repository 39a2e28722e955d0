use Rattle.std.proofs.Common.{ℕ, List, sym, subst}
use Rattle.rtl_model.proofs.nets.Connected.{connected_is_elaborated}
use Rattle.rtl_net.specs.Core.{core}
use Rattle.rtl_net.specs.Nets.{flat}
use Rattle.rtl_levels.specs.Visits.{AreNetLevels}
use Rattle.rtl_run.specs.Admitted.{AreMachineLevels}
use Rattle.rtl_run.proofs.machine_levels.first_machine.Goals as goal

pub new-requires-clause-by_processes : goal.new-requires-clause-by_processes
new-requires-clause-by_processes g c = (subst (AreMachineLevels (core c.args.net.now)) c.in-OfProcesses.is c.requires.levels).0

pub leveled-requires-clause-nets : goal.leveled-requires-clause-nets
leveled-requires-clause-nets g c =
    let is_net = c.is_elaborated.ensures in
    let wired = (connected_is_elaborated (flat c.args.net.now) is_net.in_range is_net.connected).wiring in
    let (levels, greatest, are) = subst (AreMachineLevels (core c.args.net.now)) c.in-OfNets.is c.requires.levels in
    let shown = c.levels_by_nets_rise.ensures (core c.args.net.now) levels c.in-OfNets.nets.items greatest wired are in
    subst (λ (nets : List ℕ). AreNetLevels (core c.args.net.now) nets) (sym c.deref-in-OfNets.ensures.value)
    (record { each_net = are.each_net; rise = shown.rise; derived = shown.derived })
