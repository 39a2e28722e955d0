use Rattle.std.proofs.Common.{◌<◌, ℕ}
use Rattle.rtl_net.specs.Core.{core}
use Rattle.rtl_recheck.specs.Kept.{KeepsRules, StoresNothing}
use Rattle.rtl_recheck.proofs.rules.all_keep.Given as goal

abbrev pub invariant-loop-process : goal.invariant-loop-process
invariant-loop-process l = (p : ℕ) → p < l.process → KeepsRules (core l.net) p × StoresNothing (core l.net) p
