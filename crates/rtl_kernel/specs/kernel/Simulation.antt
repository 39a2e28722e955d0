-- What callers see of a kernel: the netlist that it simulates, and the state of the simulation
-- (IEEE 1076-2008, 14.7.5).
use Rattle.std.specs.Prelude.{ℕ, List, [], ◌∷◌, map}
use Rattle.vhdl_values.specs.declared.scalar.Nine.{Nine}
use Rattle.vhdl_values.specs.Scalar.{code_of}
use Rattle.rtl_model.specs.nets.FlatNetlist.{FlatNetlist}
use Rattle.rtl_model.specs.simulation.Cycle.{State, with_changes}
use Rattle.rtl_net.specs.Nets.{NetlistView}

pub record Simulation : Type 0 where
  pub net : NetlistView
  pub state : State

-- a change of a net, by the code of its value
abbrev pub change_of : ℕ × Nine → ℕ × ℕ
change_of c = (c.0, code_of c.1)

abbrev pub changes_of : List (ℕ × Nine) → List (ℕ × ℕ)
changes_of cs = map {B = ℕ × ℕ} change_of cs

-- a change for each of these nets, to the value at the same place
abbrev pub each_given : (nets : List ℕ) → List Nine → List (ℕ × ℕ)
each_given [] values = []
each_given (n ∷ nets) [] = []
each_given (n ∷ nets) (v ∷ values) = (n, code_of v) ∷ each_given nets values

-- the inputs' values at the start: these, in the order of the inputs
abbrev pub initial_inputs : FlatNetlist → List Nine → (net : ℕ) → ℕ
initial_inputs net values = with_changes (each_given net.inputs values) net.start
