-- What a flat netlist is to a simulation: bodies as their effects, values resolved by std_logic_1164's table, and
-- its edges.
use Rattle.std.specs.Prelude.{ℕ, zero, suc, ◌+◌, Bool, false, ◌&&◌, ◌==◌, nat_lt, if◌then◌else◌, List, [], ◌∷◌, length, map, slice_index, Option, Some, None}
use Rattle.std.specs.List.{range_with_len}
use Rattle.vhdl_values.specs.Scalar.{code_of, value_of_code}
use Rattle.vhdl_values.specs.Resolution.{resolved}
use Rattle.vhdl_values.specs.Edges.{has_edge}
use Rattle.rtl_model.specs.bodies.Body.{Stmts, done}
use Rattle.rtl_model.specs.bodies.Values.{Seen}
use Rattle.rtl_model.specs.bodies.Effect.{effect_of}
use Rattle.rtl_model.specs.bodies.Reads.{reads, events}
use Rattle.rtl_model.specs.bodies.Looks.{looked_nets}
use Rattle.rtl_model.specs.bodies.Assigns.{of_drivers, must_assign}
use Rattle.rtl_model.specs.bodies.Stored.{stores_element}
use Rattle.rtl_model.specs.bodies.Kinds.{ResetPart, Clocking, clocking}
use Rattle.rtl_model.specs.bodies.Copies.{CopyPart, copying, passed_on}
use Rattle.rtl_model.specs.bodies.Types.{limit_of}
use Rattle.rtl_model.specs.nets.FlatNetlist.{FlatNetlist, FlatProcess, FlatVariable, targets, starts, element_starts, flat_sources}
use Rattle.rtl_model.specs.simulation.Netlist.{Netlist, Process, ProcessKind, Combinational, Clocked, Mixed, Reset, Copy, Edge}

-- ---- processes

-- what a run of a process sees that starts with these valuations: its variables have their initial values
abbrev pub seen_from : FlatProcess → (before now : List ℕ) → Seen
seen_from p before now = record { before = before; now = now; variables = element_starts p.variables }

-- the entries of a part of a process's body
abbrev pub part_effect : FlatProcess → Stmts → (before now : List ℕ) → List (Option ℕ)
part_effect p part before now = effect_of (length p.drivers) part (seen_from p before now)

-- a reset's branch reads no net, so its entries are the same in all valuations
abbrev pub core_reset : FlatProcess → Option ResetPart → Option Reset
core_reset p None = None
core_reset p (Some r) = Some (record {
  net = r.test.net;
  value = r.test.value;
  entries = part_effect p r.branch [] [];
  gates = r.gates;
})

-- clocked; else combinational, where no edge test and no `'event` stands in the body; else mixed
abbrev pub core_kind : FlatProcess → Option Clocking → (events : List ℕ) → ProcessKind
core_kind p (Some c) ns = Clocked c.test.clock c.test.edge (core_reset p c.reset)
core_kind p None [] = Combinational
core_kind p None (n ∷ ns) = Mixed

-- the branch under the edge of a clocked body
abbrev pub acting_branch : Option Clocking → Stmts
acting_branch (Some c) = c.branch
acting_branch None = done

-- what the driver at a place copies
abbrev pub copied_at : Option CopyPart → (place : ℕ) → Option Copy
copied_at None place = None
copied_at (Some c) place =
    if c.place == place then Some (record { net = c.net; passed = passed_on c.inverted }) else None

-- whether the driver at this place is one of this net
abbrev pub drives_net : (targets : List ℕ) → (net place : ℕ) → Bool
drives_net nets net place = nat_lt place (length nets) && slice_index nets place == net

-- the number of the element at this place of this variable, if there is one: elements are numbered through
-- the variables
abbrev pub raised_by : ℕ → Option ℕ → Option ℕ
raised_by n None = None
raised_by n (Some e) = Some (n + e)

abbrev pub element_number : List FlatVariable → (variable place : ℕ) → Option ℕ
element_number [] variable place = None
element_number (v ∷ vs) zero place = if nat_lt place (length v.starts) then Some place else None
element_number (v ∷ vs) (suc variable) place = raised_by (length v.starts) (element_number vs variable place)

abbrev pub stores_one : Stmts → Option ℕ → Bool
stores_one body None = false
stores_one body (Some e) = stores_element e body

-- of a process that is clocked so, if at all
abbrev pub process_of : FlatProcess → Option Clocking → Process
process_of p clocked = record {
  drives = targets p;
  starts = starts p;
  wakes = p.wakes;
  reads = reads p.body;
  acting_reads = reads (acting_branch clocked);
  looks = looked_nets p.body;
  copies = copied_at (copying p.body);
  kind = core_kind p clocked (events p.body);
  effect = part_effect p p.body;
  acting_effect = λ now. part_effect p (acting_branch clocked) now now;
  assigns = λ net. must_assign (of_drivers (drives_net (targets p) net)) p.body;
  stores = λ variable place. stores_one p.body (element_number p.variables variable place);
}

abbrev pub core_process : (wide : Bool) → (inputs : List ℕ) → FlatProcess → Process
core_process wide inputs p = process_of p (clocking wide inputs p.body)

-- ---- the netlist

-- one value is passed on as it is, an enumeration's too; several are of the nine and are resolved by the table
abbrev pub core_resolve : List ℕ → ℕ
core_resolve (v ∷ []) = v
core_resolve vs = code_of (resolved (map value_of_code vs))

abbrev pub core_edges : Edge → (old new : ℕ) → Bool
core_edges edge old new = has_edge edge (value_of_code old) (value_of_code new)

abbrev pub core_netlist : FlatNetlist → Netlist
core_netlist net = record {
  inputs = net.inputs;
  start = net.start;
  limits = map limit_of net.types;
  sources = map (flat_sources net) (range_with_len 0 (length net.types));
  processes = map (core_process net.wide net.inputs) net.processes;
  resolve = core_resolve;
  edge = core_edges;
  wide = net.wide;
}
