-- What contracts see of a netlist: the flat netlist of rtl_model, and beside it the names of its parts.
use Rattle.std.specs.Prelude.{ℕ, Bool, List, [], map, slice_index_or, Option, None}
use Rattle.rtl_model.specs.bodies.Body.{Stmts}
use Rattle.rtl_model.specs.bodies.Types.{ElementType, nine_valued, enumeration}
use Rattle.rtl_model.specs.nets.FlatNetlist as m
use Rattle.rtl_model.specs.simulation.Netlist as core
use Rattle.rtl_net.specs.declared.net.NetKind.{NetKind}
use Rattle.rtl_net.specs.declared.net.NetKind.TheVariants as k
use Rattle.rtl_net.specs.declared.net.Source.{Source}
use Rattle.rtl_net.specs.declared.net.Source.TheVariants as s
use Rattle.rtl_net.specs.declared.process.Driver.{Driver}
use Rattle.rtl_net.specs.declared.process.Variable.{Variable}
use Rattle.rtl_net.specs.declared.process.Process.{Process}
use Rattle.rtl_net.specs.declared.signal.SignalKind.{SignalKind}
use Rattle.rtl_net.specs.declared.signal.SignalKind.TheVariants as g
use Rattle.rtl_net.specs.declared.signal.Scope.{Scope}
use Rattle.rtl_net.specs.declared.signal.Signal.{Signal}
use Rattle.rtl_net.specs.Bodies.{statements_of}

-- an instance, or the top, which stands in no other scope
pub record ScopeView : Type 0 where
  pub label : List ℕ
  pub parent : Option ℕ

abbrev pub label_at : List ScopeView → (scope : ℕ) → List ℕ
label_at scopes k = slice_index_or (map (λ (s : ScopeView). s.label) scopes) k []

abbrev pub parent_of : List ScopeView → (scope : ℕ) → Option ℕ
parent_of scopes k = slice_index_or (map (λ (s : ScopeView). s.parent) scopes) k None

-- a signal, or a port as its scope names it: its nets from the left
pub record SignalView : Type 0 where
  pub scope : ℕ
  pub name : List ℕ
  pub port : Bool
  pub kind : SignalKind
  pub nets : List ℕ
  -- the byte of the source at which it is declared
  pub at : ℕ

-- Nets, processes, scopes and signals are numbered by their places in these lists.
pub record NetlistView : Type 0 where
  -- the type of each net, what it starts with, and the values that its idle ports hold
  pub types : List ElementType
  pub starts : List ℕ
  pub idle : List (List ℕ)
  -- the nets of the top's in ports
  pub inputs : List ℕ
  pub processes : List Process
  pub scopes : List ScopeView
  pub signals : List SignalView
  -- whether it was read by the wider language
  pub wide : Bool

-- ---- its parts

abbrev pub type_of : NetKind → ElementType
type_of k.Nine = nine_valued
type_of (k.Enumeration count) = enumeration count

-- the type of the elements of a signal or variable
abbrev pub element_type : SignalKind → ElementType
element_type g.One = nine_valued
element_type (g.Vector left right) = nine_valued
element_type (g.Enumeration count) = enumeration count
element_type (g.Integer least greatest) = nine_valued
element_type g.Boolean = nine_valued

abbrev pub driver_view : Driver → m.FlatDriver
driver_view d = record { net = d.net; start = d.start }

abbrev pub variable_view : Variable → m.FlatVariable
variable_view v = record { type_of = element_type v.kind; starts = v.starts.items }

abbrev pub body_of : Process → Stmts
body_of p = statements_of p.body.items

abbrev pub process_view : Process → m.FlatProcess
process_view p = record {
  drivers = map driver_view p.drives.items;
  wakes = p.wakes.items;
  variables = map variable_view p.variables.items;
  body = body_of p;
}

abbrev pub source_view : Source → core.Source
source_view (s.Driven process place) = core.Driver process place
source_view (s.Idle start) = core.Idle start

abbrev pub scope_view : Scope → ScopeView
scope_view s = record { label = s.label.items; parent = s.parent }

abbrev pub signal_view : Signal → SignalView
signal_view s = record {
  scope = s.scope;
  name = s.name.items;
  port = s.port;
  kind = s.kind;
  nets = s.nets.items;
  at = s.at;
}

-- ---- the flat netlist

abbrev pub flat : NetlistView → m.FlatNetlist
flat net = record {
  types = net.types;
  start = net.starts;
  inputs = net.inputs;
  idle = net.idle;
  processes = map process_view net.processes;
  wide = net.wide;
}
