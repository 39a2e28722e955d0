use Rattle.std.proofs.Common.{ℕ, List, ◌++◌, take}
use Rattle.vhdl_connect.specs.Held.{Holds, idle_hold}
use Rattle.vhdl_connect.proofs.sources.add_idle.Given as goal

-- the values so far
abbrev pub invariant-loop-port : goal.invariant-loop-port
invariant-loop-port l = (f : ℕ → List ℕ) → Holds f l.initial.table → Holds (λ n. f n ++ idle_hold (take l.port-index l.idle) n) l.table
