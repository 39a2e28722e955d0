-- A process of the flat netlist, and the process of the tree that it is.
use Rattle.std.specs.Prelude.{◌≡◌, ℕ, List, map, slice_index, option_map}
use Rattle.rtl_model.specs.nets.FlatNetlist.{FlatDriver}
use Rattle.rtl_net.specs.declared.process.Process.{Process}
use Rattle.rtl_net.specs.declared.process.Variable.{Variable}
use Rattle.rtl_net.specs.declared.signal.SignalKind.{SignalKind}
use Rattle.rtl_net.specs.Nets.{driver_view, body_of}
use Rattle.rtl_net.specs.Names.{generates_prefix}
use Rattle.rtl_net.specs.Elaborated.{ReadsOfBody}
use Rattle.vhdl_expand_rules.specs.Bytes.{kept}
use Rattle.vhdl_expand_rules.specs.Tree as tree
use Rattle.vhdl_elab_rules.specs.Bodies.{connected_body}
use Rattle.vhdl_elab_rules.specs.Wiring.{sensitive_to}
use Rattle.vhdl_elab_rules.specs.laws.Signals as elab
use Rattle.vhdl_connect_processes.specs.Woken.{IsInOrder}

-- the driver of an element, where the elements have these nets and defaults
abbrev pub driver_in : (nets defaults : List ℕ) → (e : ℕ) → FlatDriver
driver_in nets defaults e = record { net = slice_index nets e; start = slice_index defaults e }

-- ---- variables

pub record VariableView : Type 0 where
  pub name : List ℕ
  pub kind : SignalKind
  pub starts : List ℕ

abbrev pub net_variable : Variable → VariableView
net_variable v = record { name = v.name.items; kind = v.kind; starts = v.starts.items }

abbrev pub of_variable : tree.Variable → VariableView
of_variable v = record { name = v.name; kind = elab.kind_view v.kind; starts = v.starts }

-- ---- processes

-- labels, each with a dot behind it
pub record IsDotted (prefix : List ℕ) : Type 0 where
  pub labels : List ℕ
  pub is : prefix ≡ generates_prefix labels

-- p is the process x, which stands in this scope, where elements have these nets and defaults
pub record IsOf (scope : ℕ) (nets defaults : List ℕ) (x : tree.Process) (p : Process) : Type 0 where
  pub drivers : map driver_view p.drives.items ≡ map (driver_in nets defaults) x.drives
  pub reads : ReadsOfBody p
  pub wakes : IsInOrder (map (slice_index nets) (sensitive_to x)) p.wakes.items
  pub variables : map net_variable p.variables.items ≡ map of_variable x.variables
  pub body : body_of p ≡ connected_body nets x.drives x.body
  pub scope_is : p.scope ≡ scope
  pub prefix : generates_prefix p.generates.items ≡ x.prefix
  pub label : option_map (λ l. l.items) p.label ≡ x.label
  pub at : p.at ≡ kept x.at
