-- The flat netlist whose variables are kept: behind its nets stand those of the elements that are kept, by process, and
-- in each in order of declaration and from the left.
use Rattle.std.specs.Prelude.{ℕ, ◌+◌, List, [], ◌∷◌, ◌++◌, length, flat_map, take, replicate}
use Rattle.rtl_model.specs.nets.FlatNetlist.{FlatProcess, FlatNetlist}
use Rattle.rtl_variable_registers.specs.Processes.{kept_elements, kept_starts, kept_types, kept_process}

-- processes, the first of whose elements that are kept has this net
abbrev pub kept_processes : (first : ℕ) → List FlatProcess → List FlatProcess
kept_processes first [] = []
kept_processes first (p ∷ ps) = kept_process first p ∷ kept_processes (first + length (kept_elements p)) ps

abbrev pub kept_flat : FlatNetlist → FlatNetlist
kept_flat net = record {
  types = net.types ++ flat_map kept_types net.processes;
  start = net.start ++ flat_map kept_starts net.processes;
  inputs = net.inputs;
  idle = net.idle ++ replicate (length (flat_map kept_elements net.processes)) [];
  processes = kept_processes (length net.types) net.processes;
  wide = net.wide;
}

-- the net of the first element that is kept of the process of this number
abbrev pub first_net : FlatNetlist → (p : ℕ) → ℕ
first_net net p = length net.types + length (flat_map kept_elements (take p net.processes))
