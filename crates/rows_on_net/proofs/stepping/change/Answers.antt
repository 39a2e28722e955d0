use Rattle.std.proofs.Common.{List, [], ◌∷◌}
use Rattle.std.specs.Prelude.{ℕ, slice_index}
use Rattle.vhdl_values.specs.declared.scalar.Nine.{Nine}
use Rattle.rtl_model.proofs.simulation.Order.{HasRun-done}
use Rattle.rtl_model.specs.nets.CoreNetlist.{core_netlist}
use Rattle.rtl_model.specs.simulation.Cycle.{State, after_inputs, with_changes}
use Rattle.rtl_kernel.specs.kernel.Simulation.{Simulation, changes_of}
use Rattle.rtl_net.specs.Nets.{flat}
use Rattle.rows_on_net.proofs.stepping.change.Goals as goal

-- what a kernel is to run after its inputs have changed
abbrev changed : Simulation → List (ℕ × Nine) → State
changed k changes = after_inputs (core_netlist (flat k.net)) (with_changes (changes_of changes) k.state.now) k.state

pub returns-in-Value-clause-ready : goal.returns-in-Value-clause-ready
returns-in-Value-clause-ready g c =
    HasRun-done (core_netlist (flat c.args.kernel.now.net)) (changed c.args.kernel.now ((slice_index c.inputs-inputs.result.now 0, c.in-Value.value) ∷ []))
    c.apply.new.self.state c.apply.ensures.ran

pub returns-in-Both-clause-ready : goal.returns-in-Both-clause-ready
returns-in-Both-clause-ready g c =
    let input = slice_index c.inputs-inputs.result.now 0 in
    HasRun-done (core_netlist (flat c.args.kernel.now.net)) (changed c.args.kernel.now ((input, c.in-Both.first) ∷ (input, c.in-Both.last) ∷ []))
    c.apply-in-Both.new.self.state c.apply-in-Both.ensures.ran
