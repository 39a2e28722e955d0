-- The tables of the code, and the numbered design that they are made of.
use Rattle.std.specs.Prelude.{◌≡◌, ℕ, Bool, true, false, List, length, map, flat_map}
use Rattle.std.specs.List.{AllZip, enumerate_from}
use Rattle.rtl_net.specs.Nets.{scope_view, signal_view, type_of}
use Rattle.rtl_net.specs.declared.process.Process.{Process}
use Rattle.vhdl_expand_rules.specs.Tree as tree
use Rattle.vhdl_elab_rules.specs.Names.{scope_of, signals_of}
use Rattle.vhdl_elab_rules.specs.Numbering.{Placed, Located, Numbered}
use Rattle.vhdl_elab_rules.specs.Wiring as wiring
use Rattle.vhdl_elab_rules.specs.Wiring.{elements_of, own_elements, defaults_of, is_top}
use Rattle.vhdl_elab_rules.specs.laws.Scopes.{scope_views}
use Rattle.vhdl_elab_rules.specs.Shown.{signal_shown}
use Rattle.vhdl_connect_processes.specs.Located.{IsOf}
use Rattle.vhdl_connect.specs.Uses.{sources_of}
use Rattle.vhdl_connect.specs.declared.uses.Use.{Use}
use Rattle.vhdl_elab.specs.declared.made.Element.{Element}
use Rattle.vhdl_elab.specs.declared.made.ElementRole.{ElementRole}
use Rattle.vhdl_elab.specs.declared.made.ElementRole.TheVariants.{InputOfTop, OutputOfTop, SignalOfTop, Input, Output}
use Rattle.vhdl_elab.specs.declared.made.Made.{Made}

-- ---- elements

-- what the code knows of an element beside what is done with it, and whether its instance is the top
pub record Static : Type 0 where
  pub at : ℕ
  pub role : tree.Role
  pub is_resolved : Bool
  pub start : ℕ
  pub net : ℕ
  pub is_own : Bool
  pub is_top : Bool

abbrev pub role_of : ElementRole → tree.Role
role_of InputOfTop = tree.input
role_of OutputOfTop = tree.output
role_of Input = tree.input
role_of Output = tree.output
role_of _ = tree.internal

abbrev pub is_of_top : ElementRole → Bool
is_of_top InputOfTop = true
is_of_top OutputOfTop = true
is_of_top SignalOfTop = true
is_of_top _ = false

abbrev pub element_view : Element → Static
element_view e = record {
  at = e.at;
  role = role_of e.role;
  is_resolved = e.is_resolved;
  start = e.start;
  net = e.net;
  is_own = e.is_own;
  is_top = is_of_top e.role;
}

abbrev pub static_of : (top : Bool) → wiring.Element → Static
static_of top e = record {
  at = e.at;
  role = e.role;
  is_resolved = e.is_resolved;
  start = e.start;
  net = e.net;
  is_own = e.is_own;
  is_top = top;
}

abbrev pub statics_of : Placed → List Static
statics_of p = map (static_of (is_top p)) (elements_of p)

-- what is done with it
abbrev pub use_of : wiring.Element → Use
use_of e = record { sources = sources_of e.sources; is_read = e.is_read }

abbrev pub uses_of : Placed → List Use
uses_of p = map use_of (elements_of p)

-- ---- processes

abbrev pub IsLocated : Located → Process → Type 0
IsLocated x p = IsOf x.scope x.round.nets (defaults_of x.round.objects) x.process p

-- ---- all

pub record IsMade (d : Numbered) (m : Made) : Type 0 where
  pub scopes : map scope_view m.scopes.items ≡ scope_views (map scope_of d.instances)
  pub signals : map signal_view m.signals.items
      ≡ map signal_shown (flat_map signals_of (enumerate_from 0 d.instances))
  pub processes : AllZip IsLocated d.processes m.processes.items
  pub kinds : map type_of m.kinds.items ≡ map (λ (e : wiring.Element). e.type) (own_elements d)
  pub defaults : m.defaults.items ≡ map (λ (e : wiring.Element). e.start) (own_elements d)
  pub nets : length m.kinds.items ≡ d.nets
  pub elements : map element_view m.elements.items ≡ flat_map statics_of d.instances
  pub uses : m.uses.items ≡ flat_map uses_of d.instances
