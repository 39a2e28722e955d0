-- A site whose declarations are as the units have them, and the types of their elements.
use Rattle.std.specs.Prelude.{◌≡◌, ◌+◌, ◌≤◌, ⊤, not, IsTrue, List, [], ◌∷◌, ◌++◌, map, replicate}
use Rattle.std.specs.List.{AllZip, range_with_len}
use Rattle.rtl_model.specs.bodies.Types.{ElementType}
use Rattle.rtl_model.specs.bodies.Fits.{Scope, IsWidth}
use Rattle.vhdl_names_rules.specs.units.Units as u
use Rattle.vhdl_names_rules.specs.units.Units.{Form}
use Rattle.vhdl_names_rules.specs.sound.Expressions.{Inside, port_form}
use Rattle.vhdl_expand_rules.specs.Kinds.{ObjectKind, one, vector, enumeration, integer, boolean, bounds_size, range_span, size, element_type}
use Rattle.vhdl_expand_rules.specs.Integers.{IntegerRange, is_null}
use Rattle.vhdl_expand_rules.specs.Computed.{integers, covers}
use Rattle.vhdl_expand_rules.specs.Site.{Constant, Site, elements_count}

-- the range of an object of an integer type: it has a number, and integers alone
pub record HasIntegers (r : IntegerRange) : Type 0 where
  pub some : IsTrue (not (is_null r.direction r.left r.right))
  pub within : IsTrue (covers integers (range_span r))

-- What a form has become: a vector has 1 to 64 elements, an enumeration 1 to 256 literals.
abbrev pub IsOf : Form → ObjectKind → Type 0
IsOf u.element one = ⊤
IsOf (u.vector r) (vector b) = IsWidth (bounds_size b)
IsOf (u.enumeration m) (enumeration n) = (m ≡ n) × (1 ≤ n) × (n ≤ 256)
IsOf (u.Form.number s) (integer r) = HasIntegers r
IsOf u.boolean boolean = ⊤
IsOf _ _ = ⊥

abbrev pub IsConstant : Form → Constant → Type 0
IsConstant f c = IsOf f c.kind

-- What stands in the text where this site is known has become what the site has.
pub record IsSite (i : Inside) (here : Site) : Type 0 where
  pub constants : AllZip IsConstant i.constants here.constants
  pub ports : AllZip IsOf (map port_form i.ports) here.ports
  pub signals : AllZip IsOf i.signals here.signals
  pub variables : AllZip IsOf i.variables here.variables

-- the types of the elements of things of these kinds, in order
abbrev pub kinds_types : List ObjectKind → List ElementType
kinds_types [] = []
kinds_types (k ∷ ks) = replicate (size k) (element_type k) ++ kinds_types ks

-- In an expanded body an element of a port or signal stands where a flat netlist's body has a net, and each is its
-- own target.
abbrev pub scope_at : Site → Scope
scope_at here = record {
  nets = kinds_types here.ports ++ kinds_types here.signals;
  variables = kinds_types here.variables;
  targets = range_with_len 0 (elements_count here.ports + elements_count here.signals);
}
