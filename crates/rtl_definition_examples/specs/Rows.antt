-- Netlists whose delta cycles are known.
use Rattle.std.specs.Prelude.{◌≡◌, ℕ, ◌==◌, [], ◌∷◌, if◌then◌else◌}
use Rattle.rtl_model.specs.bodies.Body.{inverse}
use Rattle.rtl_model.specs.nets.FlatNetlist.{FlatNetlist}
use Rattle.rtl_model.specs.nets.CoreNetlist.{core_netlist}
use Rattle.rtl_model.specs.simulation.Netlist.{Netlist}
use Rattle.rtl_model.specs.simulation.Cycle.{State}
use Rattle.rtl_model.specs.simulation.Moments.{HasDeltas, IsUnsettled, Begun, Takes}
use Rattle.rtl_definition_examples.specs.Bodies.{one_signal, assigned}
use Rattle.rtl_definition_examples.specs.Circuits.{circuit, drives_one}

-- y <= not y, from this value
abbrev pub oscillator : (start : ℕ) → Netlist
oscillator start =
    core_netlist (circuit [] (start ∷ []) (drives_one 0 start (0 ∷ []) (assigned (inverse (one_signal 0))) ∷ []))

abbrev pub no_inputs : ℕ → ℕ → ℕ
no_inputs m n = 0

-- From 'U' it settles after one delta cycle, in which y is active and has no event; from '0' not within nine.
pub record OscillatorSettles : Type 0 where
  pub from_u : Takes (oscillator 0) no_inputs 0 1
  pub from_0 : (s : State) → Begun (oscillator 2) no_inputs 0 s → (t : State) × IsUnsettled (oscillator 2) s 9 t

-- z <= not a;  process (a, z) begin y <= a; end process;  the nets are a, y and z
abbrev pub sibling : FlatNetlist
sibling = circuit (0 ∷ []) (0 ∷ 0 ∷ 0 ∷ [])
    (drives_one 2 0 (0 ∷ []) (assigned (inverse (one_signal 0)))
    ∷ drives_one 1 0 (0 ∷ 2 ∷ []) (assigned (one_signal 0)) ∷ [])

-- a is '0' and from moment 1 on '1'
abbrev pub a_rises : ℕ → ℕ → ℕ
a_rises m n = if m == 0 then 2 else 3

-- The change takes two delta cycles: the second process is resumed again by z, and assigns y the value that it has.
pub record SiblingWakes : Type 0 where
  pub takes_two : Takes (core_netlist sibling) a_rises 1 2
  pub second_has_no_event : (s mid t : State) → Begun (core_netlist sibling) a_rises 1 s
      → HasDeltas (core_netlist sibling) 1 s mid
      → HasDeltas (core_netlist sibling) 2 s t → t.now ≡ mid.now
