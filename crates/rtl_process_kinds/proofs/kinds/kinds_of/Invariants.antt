use Rattle.std.proofs.Common.{◌≡◌, ◌<◌, ℕ, length, get_or}
use Rattle.rtl_model.specs.simulation.Netlist.{process}
use Rattle.rtl_body_facts.specs.declared.kinds.ProcessKind.TheVariants as k
use Rattle.rtl_net.specs.Core.{core}
use Rattle.rtl_process_kinds.specs.KindViews.{IsKind}
use Rattle.rtl_process_kinds.proofs.kinds.kinds_of.Given as goal

abbrev pub invariant-loop-process : goal.invariant-loop-process
invariant-loop-process l = record {
  so_many : length l.kinds.items ≡ l.process;
  so_far : (p : ℕ) → p < l.process → IsKind (process (core l.net) p) (get_or l.kinds.items p k.Mixed);
}
