-- In an expanded tree the ports of an instance stand before its signals, in the order of its unit's.
use Rattle.std.proofs.Common.{◌≡◌, true, false, List, ◌++◌, Some, Ok, All, refl, sym, ap, ◌∙◌, subst}
use Rattle.std.specs.List.{AllZip}
use Rattle.vhdl_tree.specs.declared.declaration.Mode.{Mode}
use Rattle.vhdl_tree.specs.declared.declaration.Mode.TheVariants.{In, Out}
use Rattle.vhdl_names_rules.specs.units.Units as u
use Rattle.vhdl_names_rules.specs.units.Units.{Port, Entity, Units}
use Rattle.vhdl_expand_rules.specs.Site.{Site}
use Rattle.vhdl_expand_rules.specs.Tree.{Role, internal, Object, Instance, Parts, EachInstance, EachInner, objects_of}
use Rattle.vhdl_expand_rules.specs.Declarations.{object, role_of}
use Rattle.vhdl_expand_rules.specs.Expansion.{entity_named, Design, expanded_design}
use Rattle.vhdl_expand_rules.specs.laws.Trees.{is_port}
use Rattle.vhdl_expand_rules.specs.Tops.{Top}
use Rattle.vhdl_expand_rules.proofs.Items.{all_any, all_of_zip}
use Rattle.vhdl_expand_rules.proofs.laws.Expanded.{object_made, OfObjects, Any, any_ports, any_signals, OfInstances, instance_holds, each_filled}

-- ---- objects

abbrev pub IsPort : Object → Type 0
IsPort o = is_port o.role ≡ true

abbrev pub IsSignal : Object → Type 0
IsSignal o = is_port o.role ≡ false

-- ports, and behind them signals
pub record PortsFirst (os : List Object) : Type 0 where
  pub ports : List Object
  pub signals : List Object
  pub are : os ≡ ports ++ signals
  pub are_ports : All IsPort ports
  pub are_signals : All IsSignal signals

-- an object of this port
abbrev pub PortOf : Port → Object → Type 0
PortOf p o = (o.role ≡ role_of p.mode) × (o.name ≡ p.object.name)

object-is : (at : Site) (role : Role) (o : u.Object) (x : Object) → object at role o ≡ Ok x → (x.role ≡ role) × (x.name ≡ o.name)
object-is at role o x h = subst (λ (y : Object). (y.role ≡ role) × (y.name ≡ o.name)) (object_made at role o x h).is (refl, refl)

objects : OfObjects Any PortOf IsSignal
objects = record {
  of_port = λ at p x s h. object-is at (role_of p.mode) p.object x h;
  of_actual = λ p o es h e. h;
  of_signal = λ at o x s h. ap is_port (object-is at internal o x h).0;
}

port-role : (m : Mode) → is_port (role_of m) ≡ true
port-role In = refl
port-role Out = refl

-- ---- the tree

abbrev pub InstanceIsOrdered : Instance → Type 0
InstanceIsOrdered i = EachInstance PortsFirst i

abbrev pub PartsAreOrdered : Parts → Type 0
PartsAreOrdered ps = EachInner PortsFirst ps

ports-first : (unit : Entity) (ports signals : List Object) → AllZip PortOf unit.ports ports → All IsSignal signals → PortsFirst (ports ++ signals)
ports-first unit ports signals h k =
    let are_ports = all_of_zip PortOf IsPort (λ p o is. ap is_port is.0 ∙ port-role p.mode) unit.ports ports h in
    record { ports = ports; signals = signals; are = refl; are_ports = are_ports; are_signals = k }

instances : OfInstances Any Any PortOf IsSignal PortsFirst
instances = record {
  objects = objects;
  of_unit = λ unit k. any_ports unit.ports;
  of_architecture = λ unit a k there. any_signals a.declarations;
  of_instance = ports-first;
}

-- ---- the top

-- a tree of a unit's, whose ports are the top's
pub record IsOrdered (units : Units) (top : Top) (design : Design) : Type 0 where
  pub unit : Entity
  pub named : entity_named units top.name ≡ Some unit
  pub tree : InstanceIsOrdered design.top
  -- the ports of the top, and its signals
  pub ports : List Object
  pub signals : List Object
  pub are : objects_of design.top ≡ ports ++ signals
  pub are_ports : AllZip PortOf unit.ports ports
  pub are_signals : All IsSignal signals

pub is-ordered : (units : Units) (top : Top) (design : Design) → expanded_design units top ≡ Ok design → IsOrdered units top design
is-ordered units top design h =
    let m = each_filled Any Any PortOf IsSignal PortsFirst instances units (all_any Any (λ x. tt) units) top design h in
    let f = m.filled in
    subst (IsOrdered units top) m.is (record {
      unit = m.unit;
      named = m.there;
      tree = instance_holds Any Any PortOf IsSignal PortsFirst instances m.unit m.tree f;
      ports = f.ports;
      signals = f.signals;
      are = ap objects_of (sym f.is);
      are_ports = f.of_ports;
      are_signals = f.of_signals;
    })
