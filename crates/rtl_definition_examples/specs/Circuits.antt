-- Flat netlists of std_logic signals whose processes have one driver each. The values are those of std_logic by place:
-- 0 is 'U', 1 is 'X', 2 is '0' and 3 is '1'.
use Rattle.std.specs.Prelude.{◌≡◌, ℕ, List, [], ◌∷◌, map, false}
use Rattle.rtl_model.specs.bodies.Body.{Stmts}
use Rattle.rtl_model.specs.bodies.Types.{nine_valued}
use Rattle.rtl_model.specs.nets.FlatNetlist.{FlatProcess, FlatNetlist}
use Rattle.rtl_model.specs.simulation.Netlist.{Netlist}
use Rattle.rtl_model.specs.simulation.Cycle.{State}
use Rattle.rtl_model.specs.simulation.Moments.{HasSettled}

-- a process whose body assigns place 0, which is the driver of this net
abbrev pub drives_one : (target start : ℕ) → (wakes : List ℕ) → Stmts → FlatProcess
drives_one target start wakes body =
    record { drivers = record { net = target; start = start } ∷ []; wakes = wakes; variables = []; body = body }

-- without idle ports
abbrev pub circuit : (inputs start : List ℕ) → List FlatProcess → FlatNetlist
circuit inputs start processes = record {
  types = map (λ n. nine_valued) start;
  start = start;
  inputs = inputs;
  idle = map (λ n. []) start;
  wide = false;
  processes = processes;
}

-- at the moment m the netlist settles in this valuation
abbrev pub SettlesAs : Netlist → (stimulus : ℕ → ℕ → ℕ) → (m : ℕ) → (v : List ℕ) → Type 0
SettlesAs net stimulus m v = (k : ℕ) × (t : State) × HasSettled net stimulus m k t × (t.now ≡ v)
