-- What processes with variables compute and store.
use Rattle.std.proofs.Common.{[], ◌∷◌, refl, arith}
use Rattle.rtl_model.specs.nets.CoreNetlist.{core_netlist}
use Rattle.rtl_definition_examples.specs.Variables.{par, inputs_of, VariablesOfNets, VariableWouldBeKept, StoredWouldPass}
use Rattle.rtl_model.proofs.simulation.Deltas.{after}
use Rattle.rtl_definition_examples.proofs.Computing.{first_cycle, starts_in}
use Rattle.rtl_definition_examples.proofs.Sound.{sound_by}

pub variables_of_nets : VariablesOfNets
variables_of_nets = record {
  sound = sound_by par (λ p. 1) refl;
  of_bits = (1, after (core_netlist par) 1 (first_cycle (core_netlist par) (inputs_of (3 ∷ 2 ∷ 3 ∷ 3 ∷ []) 0)), starts_in (core_netlist par) (inputs_of (3 ∷ 2 ∷ 3 ∷ 3 ∷ [])) 1 refl, refl);
  of_unknown = (1, after (core_netlist par) 1 (first_cycle (core_netlist par) (inputs_of (3 ∷ 2 ∷ 1 ∷ 3 ∷ []) 0)), starts_in (core_netlist par) (inputs_of (3 ∷ 2 ∷ 1 ∷ 3 ∷ [])) 1 refl, refl);
  without_first = refl;
  with_if = refl;
  of_vector = refl;
  numbers = (refl, refl, refl, refl);
  of_second = refl;
  not_of_first = λ h. cc;
  starts_with = refl;
  two_literals = λ h. let e = h.one_literal 3 refl in cc;
  no_element = λ h. let l = h.width.0 in absurd (omega arith);
  literal_past = λ h. let l = h.starts 0 0 (omega arith) in absurd (omega arith);
}

pub variable_would_be_kept : VariableWouldBeKept
variable_would_be_kept = record { is_fault = refl; right = refl; wrong = refl }

pub stored_would_pass : StoredWouldPass
stored_would_pass = record { right = refl; wrong = refl; is_stored = refl; from_one = refl; from_other = refl }
