-- The signals and variables of an elaborated netlist: each signal has as many nets as its kind has elements, and these
-- are of its elements' type; each variable starts with as many values.
use Rattle.std.specs.Prelude.{◌≡◌, ℕ, ◌<◌, All, List, length, Ok, IsTrue}
use Rattle.std.specs.List.{AllZip}
use Rattle.rtl_model.specs.bodies.Types.{ElementType, HasType}
use Rattle.rtl_model.specs.bodies.Fits.{IsWidth}
use Rattle.rtl_model.specs.nets.FlatNetlist.{FlatVariable, FlatProcess}
use Rattle.rtl_net.specs.Elaborated.{width_of}
use Rattle.rtl_net.specs.declared.signal.SignalKind.{SignalKind}
use Rattle.rtl_net.specs.declared.signal.SignalKind.TheVariants as g
use Rattle.vhdl_names_rules.specs.units.Units.{Units}
use Rattle.vhdl_names_rules.specs.sound.Units.{are_sound}
use Rattle.vhdl_expand_rules.specs.Kinds.{ObjectKind, one, vector, enumeration, integer, boolean, element_type}
use Rattle.vhdl_expand_rules.specs.Integers.{lower, upper}
use Rattle.vhdl_expand_rules.specs.Tops.{Top}
use Rattle.vhdl_elab_rules.specs.Names.{Signal, NamedVariable, NamedProcess}
use Rattle.vhdl_elab_rules.specs.Elaboration.{Elaborated, elaborated_net}

-- what contracts see of a kind in a netlist
abbrev pub kind_view : ObjectKind → SignalKind
kind_view one = g.One
kind_view (vector b) = g.Vector b.left b.right
kind_view (enumeration count) = g.Enumeration count
kind_view (integer r) = g.Integer (lower r) (upper r)
kind_view boolean = g.Boolean

-- of a netlist with these types and so many scopes
pub record SignalFits (types : List ElementType) (scopes : ℕ) (s : Signal) : Type 0 where
  pub scope : s.scope < scopes
  pub width : IsWidth (length s.nets)
  pub as_declared : length s.nets ≡ width_of (kind_view s.kind)
  pub nets : All (HasType types (element_type s.kind)) s.nets

abbrev pub EachSignalFits : Type 0
EachSignalFits =
    (units : Units) (top : Top) (x : Elaborated) → IsTrue (are_sound units) → elaborated_net units top ≡ Ok x
    → All (SignalFits x.flat.types (length x.scopes)) x.signals

-- a variable has the type of its kind's elements, and as many values
abbrev pub VariableFits : NamedVariable → FlatVariable → Type 0
VariableFits v f = (length f.starts ≡ width_of (kind_view v.kind)) × (f.type_of ≡ element_type v.kind)

abbrev pub VariablesFit : NamedProcess → FlatProcess → Type 0
VariablesFit p q = AllZip VariableFits p.variables q.variables

abbrev pub EachVariableFits : Type 0
EachVariableFits =
    (units : Units) (top : Top) (x : Elaborated) → IsTrue (are_sound units) → elaborated_net units top ≡ Ok x
    → AllZip VariablesFit x.processes x.flat.processes
