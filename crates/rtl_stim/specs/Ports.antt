-- The inputs of a netlist that a stimulus speaks of: the top's in ports.
use Rattle.std.specs.Prelude.{◌≡◌, ◌≢◌, ℕ, ◌==◌, ◌&&◌, Bool, true, false, List, map, filter, slice_index, AllPairs}
use Rattle.std.specs.List.{list_any}
use Rattle.vhdl_values.specs.Scalar.{value_of_code}
use Rattle.rtl_net.specs.declared.signal.SignalKind.{SignalKind}
use Rattle.rtl_net.specs.declared.signal.SignalKind.TheVariants.{One, Vector, Enumeration, Integer, Boolean}
use Rattle.rtl_net.specs.Nets.{NetlistView, SignalView}
use Rattle.rtl_stim_lines.specs.Inputs.{ValueType, nines, integers, truths, Input, Element, small}
use Rattle.rtl_stim_lines.specs.Times.{all_nets}

abbrev pub is_input : NetlistView → (net : ℕ) → Bool
is_input net n = list_any (λ m. m == n) net.inputs

-- The nets of a port of the top are inputs, all or none.
abbrev pub is_in_port : NetlistView → SignalView → Bool
is_in_port net s = s.scope == 0 && (s.port && is_input net (slice_index s.nets 0))

abbrev pub is_one : SignalKind → Bool
is_one One = true
is_one (Vector left right) = false
is_one (Enumeration count) = false
is_one (Integer least greatest) = false
is_one Boolean = false

-- what its values are; no port is of an enumeration
abbrev pub value_type : SignalKind → ValueType
value_type (Integer least greatest) = integers least greatest
value_type Boolean = truths
value_type _ = nines

-- an element with this net, whose default the net starts with
abbrev pub element_on : NetlistView → (net : ℕ) → Element
element_on net n = record { net = n; start = value_of_code (slice_index net.starts n) }

abbrev pub input_of : NetlistView → SignalView → Input
input_of net s = record {
  name = small s.name;
  is_scalar = is_one s.kind;
  values = value_type s.kind;
  elements = map (element_on net) s.nets;
}

-- in order of declaration
abbrev pub inputs_of : NetlistView → List Input
inputs_of net = map (input_of net) (filter (is_in_port net) net.signals)

-- What an elaborated design has beside what holds of every `Net`: the ports of the top have names of their own, and the
-- elements of its in ports are the inputs, in their order.
pub record HasOwnPorts (net : NetlistView) : Type 0 where
  pub names : AllPairs (λ i j. i.name ≢ j.name) (inputs_of net)
  pub elements : all_nets (inputs_of net) ≡ net.inputs
