-- What an elaborated netlist and a `Net` of the code have in common: a flat netlist, and beside it scopes, signals, and
-- of processes their bytes, their names and those of their variables. The one shows the other where these are the same.
use Rattle.std.specs.Prelude.{◌≡◌, ℕ, List, map, Option, option_map, Ok}
use Rattle.rtl_model.specs.nets.FlatNetlist.{FlatNetlist}
use Rattle.rtl_net.specs.declared.process.Variable.{Variable}
use Rattle.rtl_net.specs.declared.process.Process.{Process}
use Rattle.rtl_net.specs.declared.signal.SignalKind.{SignalKind}
use Rattle.rtl_net.specs.Nets.{ScopeView, SignalView, NetlistView, flat}
use Rattle.rtl_net.specs.Names.{generates_prefix}
use Rattle.vhdl_expand_rules.specs.Bytes.{kept}
use Rattle.vhdl_expand_rules.specs.Elab.{Elab, ◌>>=◌}
use Rattle.vhdl_elab_rules.specs.Names.{Signal, NamedVariable, NamedProcess}
use Rattle.vhdl_elab_rules.specs.Elaboration.{Elaborated}
use Rattle.vhdl_elab_rules.specs.laws.Scopes.{scope_views}
use Rattle.vhdl_elab_rules.specs.laws.Signals.{kind_view}

pub record ShownProcess : Type 0 where
  -- the byte at which it starts, as a netlist keeps it
  pub at : ℕ
  pub scope : ℕ
  -- the labels of the generates round it, each with a dot behind it
  pub prefix : List ℕ
  pub label : Option (List ℕ)
  -- the name and kind of each
  pub variables : List (List ℕ × SignalKind)

pub record Shown : Type 0 where
  pub flat : FlatNetlist
  pub scopes : List ScopeView
  pub signals : List SignalView
  pub processes : List ShownProcess

-- ---- of an elaborated netlist

abbrev pub signal_shown : Signal → SignalView
signal_shown s = record {
  scope = s.scope;
  name = s.name;
  port = s.is_port;
  kind = kind_view s.kind;
  nets = s.nets;
  at = kept s.at;
}

abbrev pub variable_shown : NamedVariable → List ℕ × SignalKind
variable_shown v = (v.name, kind_view v.kind)

abbrev pub process_shown : NamedProcess → ShownProcess
process_shown p = record {
  at = kept p.at;
  scope = p.scope;
  prefix = p.prefix;
  label = p.label;
  variables = map variable_shown p.variables;
}

abbrev pub shown : Elaborated → Shown
shown x = record {
  flat = x.flat;
  scopes = scope_views x.scopes;
  signals = map signal_shown x.signals;
  processes = map process_shown x.processes;
}

-- what is elaborated, as it is shown
abbrev pub as_shown : Elab Elaborated → Elab Shown
as_shown given = do
  x ← given
  Ok (shown x)

-- ---- of a netlist of the code

abbrev pub net_variable_shown : Variable → List ℕ × SignalKind
net_variable_shown v = (v.name.items, v.kind)

abbrev pub net_process_shown : Process → ShownProcess
net_process_shown p = record {
  at = p.at;
  scope = p.scope;
  prefix = generates_prefix p.generates.items;
  label = option_map (λ l. l.items) p.label;
  variables = map net_variable_shown p.variables.items;
}

abbrev pub net_shown : NetlistView → Shown
net_shown net = record {
  flat = flat net;
  scopes = net.scopes;
  signals = net.signals;
  processes = map net_process_shown net.processes;
}

abbrev pub Shows : Elaborated → NetlistView → Type 0
Shows x net = net_shown net ≡ shown x
