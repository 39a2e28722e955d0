-- The netlist whose variables are kept, with its names. The net of a variable's element is `path.LABEL.NAME`, or
-- `path.LABEL.NAME(i)`, where `path.LABEL` is the process.
use Rattle.std.specs.Prelude.{◌≡◌, ℕ, suc, ◌+◌, ◌==◌, false, if◌then◌else◌, List, [], ◌∷◌, ◌++◌, length, filter, flat_map, option_map, codes}
use Rattle.std.specs.List.{AllZip, list_any, range_with_len}
use Rattle.rtl_model.specs.nets.FlatNetlist.{FlatProcess, FlatNetlist}
use Rattle.rtl_kept_bodies.specs.Rules.{HasRoom, NamedAlike}
use Rattle.rtl_net.specs.declared.process.Process.{Process}
use Rattle.rtl_net.specs.declared.process.Variable.{Variable}
use Rattle.rtl_net.specs.Names.{generates_prefix, label_or_number}
use Rattle.rtl_net.specs.Nets.{SignalView, NetlistView, flat, process_view, body_of}
use Rattle.rtl_variable_registers.specs.Bodies.{keeps_element}
use Rattle.rtl_variable_registers.specs.Nets.{kept_flat}
use Rattle.rtl_variable_registers.specs.Processes.{kept_elements}

-- ---- names

-- behind the name of the process of this number
abbrev pub kept_name : Process → (number : ℕ) → Variable → List ℕ
kept_name p number v =
    generates_prefix p.generates.items ++ label_or_number number (option_map (λ l. l.items) p.label)
    ++ codes "." ++ v.name.items

-- the signal that a kept variable of a process is, whose elements have the nets from this one on
abbrev pub kept_signal : Process → (number net : ℕ) → Variable → SignalView
kept_signal p number net v = record {
  scope = p.scope;
  name = kept_name p number v;
  port = false;
  kind = v.kind;
  nets = range_with_len net (length v.starts.items);
  at = p.at;
}

-- those of these variables, whose elements are numbered from `first` on
abbrev pub variables_kept : Process → (number first net : ℕ) → List Variable → List SignalView
variables_kept p number first net [] = []
variables_kept p number first net (v ∷ vs) =
    let len = length v.starts.items in
    if list_any (keeps_element (body_of p)) (range_with_len first len)
    then kept_signal p number net v ∷ variables_kept p number (first + len) (net + len) vs
    else variables_kept p number (first + len) net vs

-- of these processes, the first of which has this number
abbrev pub signals_kept : (number net : ℕ) → List Process → List SignalView
signals_kept number net [] = []
signals_kept number net (p ∷ ps) =
    variables_kept p number 0 net p.variables.items
    ++ signals_kept (suc number) (net + length (kept_elements (process_view p))) ps

-- by scope, and in each in order
abbrev pub by_scope : (scopes : ℕ) → List SignalView → List SignalView
by_scope scopes signals =
    flat_map (λ k. filter (λ (s : SignalView). s.scope == k) signals) (range_with_len 0 scopes)

-- ---- the netlist

-- there is room for what these processes keep, the first of whose elements that are kept has this net
abbrev pub HaveRoom : (first : ℕ) → List FlatProcess → Type 0
HaveRoom first [] = Unit {0}
HaveRoom first (p ∷ ps) = HasRoom first p × HaveRoom (first + length (kept_elements p)) ps

abbrev pub HasRoomForKept : FlatNetlist → Type 0
HasRoomForKept net = HaveRoom (length net.types) net.processes

-- In each scope the kept variables stand behind its other signals. All other nets, and all processes and scopes, have
-- the numbers and names that they had.
pub record KeepsVariables (old new : NetlistView) : Type 0 where
  pub flat_is : flat new ≡ kept_flat (flat old)
  pub scopes_are : new.scopes ≡ old.scopes
  pub signals_are : new.signals
      ≡ by_scope (length old.scopes) (old.signals ++ signals_kept 0 (length old.types) old.processes)
  pub named_alike : AllZip NamedAlike old.processes new.processes
