use Rattle.std.proofs.Common.{◌≡◌, ◌++◌, map, take}
use Rattle.rtlsim_findings.specs.Sayings.{one}
use Rattle.rtlsim_findings.proofs.saying.push_round.Given as goal

abbrev pub invariant-loop-process : goal.invariant-loop-process
invariant-loop-process l = l.processes.items ≡ l.initial.processes.items ++ map one (take l.process-index l.circle)
