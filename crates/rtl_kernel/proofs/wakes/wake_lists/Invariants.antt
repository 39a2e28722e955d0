use Rattle.std.proofs.Common.{◌≡◌, map, take}
use Rattle.rtl_net.specs.declared.process.Process.{Process}
use Rattle.rtl_kernel.proofs.wakes.wake_lists.Given as goal

abbrev pub invariant-loop-process : goal.invariant-loop-process
invariant-loop-process l = l.wakes ≡ map (λ (p : Process). p.wakes.items) (take l.process-index l.processes)
