-- New values of in ports are in range.
use Rattle.std.proofs.Common.{ℕ, ◌<◌, List, length, Contains, All}
use Rattle.std.proofs.lemmas.List.Elements.{All-contains, All-map}
use Rattle.std.proofs.lemmas.Option.{slice_get_within}
use Rattle.vhdl_values.specs.declared.scalar.Nine.{Nine}
use Rattle.vhdl_values.proofs.Codes.{code_of_below}
use Rattle.rtl_model.specs.bodies.Types.{HasType, nine_valued}
use Rattle.rtl_model.specs.nets.FlatNetlist.{FlatNetlist, IsInRange}
use Rattle.rtl_model.specs.nets.CoreNetlist.{core_netlist}
use Rattle.rtl_model.specs.simulation.Netlist.{IsInput}
use Rattle.rtl_model.specs.simulation.Cycle.{with_changes}
use Rattle.rtl_model.specs.simulation.Range.{AreInputs, IsValuation}
use Rattle.rtl_model.proofs.basics.Lists.{in_contains, contains_in}
use Rattle.rtl_model.proofs.nets.InRange.{limit-at}
use Rattle.rtl_kernel.specs.kernel.Simulation.{change_of, changes_of}
use Rattle.rtl_kernel.proofs.Changing.{changed_below}

module _ (net : FlatNetlist) (R : IsInRange net) where
  pub input_has : (n : ℕ) → Contains net.inputs n → HasType net.types nine_valued n
  input_has n h = All-contains (HasType net.types nine_valued) net.inputs n R.inputs h

  pub inputs_there : (cs : List (ℕ × Nine)) → All (λ (c : ℕ × Nine). Contains net.inputs c.0) cs → All (λ (c : ℕ × Nine). c.0 < length net.types) cs
  inputs_there cs h k d l = slice_get_within net.types _ nine_valued (input_has _ (h k d l))

  pub named : (cs : List (ℕ × Nine)) → All (λ (c : ℕ × Nine). Contains net.inputs c.0) cs → (n value : ℕ) → Contains (changes_of cs) (n, value) → IsInput (core_netlist net) n
  named cs h n value there =
      contains_in net.inputs n (All-contains (λ (c : ℕ × ℕ). Contains net.inputs c.0) (changes_of cs) (n, value) (All-map (λ (c : ℕ × ℕ). Contains net.inputs c.0) change_of cs h) there)

  pub are_inputs : (cs : List (ℕ × Nine)) (old : List ℕ) → IsValuation (core_netlist net) old → AreInputs (core_netlist net) (with_changes (changes_of cs) old)
  are_inputs cs old V n is_input =
      let has = input_has n (in_contains net.inputs n is_input) in
      let limit = limit-at net.types n nine_valued has in
      let there : n < length net.start = rw (R.each_starts) (slice_get_within net.types n nine_valued has) in
      rw limit (changed_below (changes_of cs) old n 9 (All-map (λ (c : ℕ × ℕ). c.1 < 9) change_of cs (λ k d l. code_of_below _)) (rw limit at (V.in_range n there)))
