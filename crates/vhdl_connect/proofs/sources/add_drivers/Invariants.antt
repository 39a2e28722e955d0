use Rattle.std.proofs.Common.{ℕ, List, ◌++◌, take}
use Rattle.vhdl_connect.specs.Held.{Holds, drivers_hold}
use Rattle.vhdl_connect.proofs.sources.add_drivers.Given as goal

-- the values so far
abbrev pub invariant-loop-driver : goal.invariant-loop-driver
invariant-loop-driver l = (f : ℕ → List ℕ) → Holds f l.initial.table → Holds (λ n. f n ++ drivers_hold (take l.driver-index l.drives) n) l.table
