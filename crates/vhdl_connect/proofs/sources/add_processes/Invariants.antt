use Rattle.std.proofs.Common.{ℕ, List, ◌++◌, take}
use Rattle.vhdl_connect.specs.Held.{Holds, processes_hold}
use Rattle.vhdl_connect.proofs.sources.add_processes.Given as goal

-- the values so far
abbrev pub invariant-loop-process : goal.invariant-loop-process
invariant-loop-process l = (f : ℕ → List ℕ) → Holds f l.initial.table → Holds (λ n. f n ++ processes_hold (take l.process-index l.processes) n) l.table
