-- Instances (IEEE 1076-2008, 11.7) and their associations of formals with actuals (6.5.7).
use Rattle.std.specs.Prelude.{ℕ, Bool, true, false, not, List, [], ◌∷◌, map, filter_map, Option, Some, None, option_map, bytes_eq, codes, if◌then◌else◌, slice_get, drop}
use Rattle.std.specs.List.{list_all}
use Rattle.vhdl_tree.specs.declared.declaration.Mode.{Mode}
use Rattle.vhdl_tree.specs.declared.declaration.Mode.TheVariants.{In, Out}
use Rattle.vhdl_tree.specs.Tree as t
use Rattle.vhdl_tree.specs.Tree.{Ident, Expr, Association}
use Rattle.vhdl_names_rules.specs.declared.kind.ElementKind.{ElementKind}
use Rattle.vhdl_names_rules.specs.declared.kind.ElementKind.TheVariants.{Element, LogicVector, Unsigned}
use Rattle.vhdl_names_rules.specs.declared.kind.ObjectType.{ObjectType}
use Rattle.vhdl_names_rules.specs.declared.kind.ObjectType.TheVariants.{Elements, Integers, Booleans}
use Rattle.vhdl_names_rules.specs.units.Expressions.{SignalPart}
use Rattle.vhdl_names_rules.specs.units.Units as u
use Rattle.vhdl_names_rules.specs.units.Units.{Fixed}
use Rattle.vhdl_names_rules.specs.declared.fault.NameProblem.TheVariants.{Undeclared, Twice, WrongKind, TypeMismatch, WriteOfIn, LeftOut}
use Rattle.vhdl_names_rules.specs.Rules.{◌>>=◌, ◌>>◌, rule, if_any, given_that, all_of}
use Rattle.vhdl_names_rules.specs.Visibility as visibility
use Rattle.vhdl_names_rules.specs.Visibility.{Name, Meaning, Declared, Sight, meaning, is_among, are_distinct}
use Rattle.vhdl_names_rules.specs.Types.{Typed, composite, TypedElements}
use Rattle.vhdl_names_rules.specs.Operators.{is_vector}
use Rattle.vhdl_names_rules.specs.Aggregates.{arranged}
use Rattle.vhdl_names_rules.specs.Expressions.{typed, static, as_value}
use Rattle.vhdl_names_rules.specs.Known.{are_known}
use Rattle.vhdl_names_rules.specs.Subtypes.{is_known_value}
use Rattle.vhdl_names_rules.specs.Declarations.{static_test}
use Rattle.vhdl_names_rules.specs.Statements.{signal, is_input}
use Rattle.vhdl_names_rules.specs.Interfaces.{EntityView, entity_named}

-- ---- which formal each association is for

abbrev pub is_named : Association → Bool
is_named a = has_formal a.formal
  where
    has_formal : Option Ident → Bool
    has_formal None = false
    has_formal (Some n) = true

-- positional associations come before named ones
abbrev pub positional_first : List Association → Bool
positional_first [] = true
positional_first (a ∷ as') = if is_named a then list_all is_named as' else positional_first as'

-- a named association is for the formal of its name, any other for the one of its place
abbrev pub formal_of : List Name → Option Ident → Option Name
formal_of formals (Some n) = Some n.text
formal_of [] None = None
formal_of (f ∷ fs) None = Some f

abbrev pub formals_of : List Name → List Association → Option (List Name)
formals_of formals [] = Some []
formals_of formals (a ∷ as') = do
  f ← formal_of formals a.formal
  fs ← formals_of (drop 1 formals) as'
  Some (f ∷ fs)

-- open is no actual
abbrev pub expression_of : t.Actual → Option Expr
expression_of (t.actual e) = Some e
expression_of (t.left_open at) = None

-- what is associated with a formal
abbrev pub actual_of : Name → List Name → List Association → Option Expr
actual_of n (f ∷ fs) (a ∷ as') = if bytes_eq n f then expression_of a.actual else actual_of n fs as'
actual_of n _ _ = None

-- the actual of each formal: every association is for a formal, and each formal is associated once at most
unfoldable pub associated : List Name → List Association → Option (List (Option Expr))
associated formals as' = do
  rule WrongKind (positional_first as')
  fs ← formals_of formals as'
  rule Undeclared (list_all (λ f. is_among f formals) fs)
  rule Twice (are_distinct fs)
  Some (map (λ n. actual_of n fs as') formals)

-- ---- actuals

-- a port as it is associated: its mode and type
pub record Formal : Type 0 where
  pub name : Name
  pub mode : Mode
  pub type : ObjectType

-- a generic as it is associated: an integer, a boolean, or of a kind of the nine values
pub data GenericKind : Type 0 where
  integer : GenericKind
  boolean : GenericKind
  elements : ElementKind → GenericKind

pub record GenericFormal : Type 0 where
  pub name : Name
  pub kind : GenericKind

abbrev pub generic_kind : Meaning → Option GenericKind
generic_kind (visibility.generic k) = Some integer
generic_kind (visibility.boolean_generic k) = Some boolean
generic_kind (visibility.constant k kind values) = Some (elements kind)
generic_kind _ = None

abbrev pub generic_formal : Declared → Option GenericFormal
generic_formal d = option_map (λ kind. record { name = d.name; kind = kind }) (generic_kind d.meaning)

abbrev pub port_formal : Declared → Option Formal
port_formal d = by d.name d.meaning
  where
    by : Name → Meaning → Option Formal
    by n (visibility.port k mode type) = Some (record { name = n; mode = mode; type = type })
    by n _ = None

-- The actual of a generic is a static integer, a truth over such, or a value that names no signal. An aggregate has the
-- indexes of the formal, which expansion computes.
abbrev pub aggregate_actual : ElementKind → (at : ℕ) → TypedElements → Option Fixed
aggregate_actual k at es = do
  rule TypeMismatch (is_vector k)
  all ← arranged k true es
  given_that LeftOut (are_known all) (u.Fixed.aggregate at all)

abbrev pub value_as_actual : ElementKind → Typed → Option Fixed
value_as_actual k (composite at es) = aggregate_actual k at es
value_as_actual k x = do
  g ← as_value (Elements k) None x
  given_that LeftOut (is_known_value g) (u.Fixed.given g)

abbrev pub value_actual : Sight → ElementKind → Expr → Option Fixed
value_actual sight k e = typed sight e >>= value_as_actual k

unfoldable pub generic_actual : Sight → GenericFormal → Expr → Option Fixed
generic_actual sight f e = by f.kind
  where
    by : GenericKind → Option Fixed
    by integer = option_map u.Fixed.integer (static sight e)
    by boolean = option_map u.Fixed.truth (static_test sight e)
    by (elements k) = value_actual sight k e

abbrev pub generic_actuals : Sight → List GenericFormal → List (Option Expr) → Option (List (Option Fixed))
generic_actuals sight (f ∷ fs) (e ∷ es) = do
  x ← if_any (generic_actual sight f) e
  xs ← generic_actuals sight fs es
  Some (x ∷ xs)
generic_actuals sight _ _ = Some []

-- a name as it stands, in no parentheses
abbrev pub as_name : Expr → Option t.Name
as_name (t.named n suffix attribute) = Some (record { identifier = n; suffix = suffix; attribute = attribute })
as_name _ = None

-- an actual has the type of the formal
abbrev pub is_type : ObjectType → ObjectType → Bool
is_type (Elements Element) (Elements Element) = true
is_type (Elements LogicVector) (Elements LogicVector) = true
is_type (Elements Unsigned) (Elements Unsigned) = true
is_type Integers Integers = true
is_type Booleans Booleans = true
is_type _ _ = false

-- an out port drives no in port
abbrev pub may_join : Mode → Option Mode → Bool
may_join In mode = true
may_join Out mode = not (is_input mode)

-- the actual of a port is the name of a signal or port, with a static index or slice
unfoldable pub port_actual : Sight → Formal → Expr → Option SignalPart
port_actual sight f e = do
  n ← as_name e
  x ← signal sight n
  rule TypeMismatch (is_type f.type x.type)
  rule WriteOfIn (may_join f.mode x.mode)
  Some x.place

abbrev pub port_actuals : Sight → List Formal → List (Option Expr) → Option (List (Option SignalPart))
port_actuals sight (f ∷ fs) (e ∷ es) = do
  p ← if_any (port_actual sight f) e
  ps ← port_actuals sight fs es
  Some (p ∷ ps)
port_actuals sight _ _ = Some []

-- ---- which unit is instantiated

abbrev pub as_component : Meaning → Option ℕ
as_component (visibility.component k) = Some k
as_component _ = None

-- an architecture that is named is the one that the entity has
abbrev pub is_architecture : Option Ident → Option Name → Bool
is_architecture None a = true
is_architecture (Some n) None = false
is_architecture (Some n) (Some a) = bytes_eq n.text a

-- work . entity ( architecture ), or a component in sight
unfoldable pub instantiated : List EntityView → Sight → t.Instantiated → Option ℕ
instantiated entities sight (t.entity_unit library n architecture) = do
  rule Undeclared (bytes_eq library.text (codes "work"))
  e ← entity_named entities n.text
  rule WrongKind (is_architecture architecture e.1.architecture)
  Some e.0
instantiated entities sight (t.component_unit word n) = meaning sight n.text >>= as_component

-- ---- instances

unfoldable pub instance : List EntityView → Sight → Ident → t.Instance → Option u.Instance
instance entities sight label i = do
  k ← instantiated entities sight i.unit
  e ← slice_get entities k
  gs ← associated (map (λ f. f.name) (filter_map generic_formal e.interface.declared)) (all_of i.generics)
  generics ← generic_actuals sight (filter_map generic_formal e.interface.declared) gs
  ps ← associated (map (λ f. f.name) (filter_map port_formal e.interface.declared)) (all_of i.ports)
  ports ← port_actuals sight (filter_map port_formal e.interface.declared) ps
  Some (record { at = label.at; label = label.text; unit = k; generics = generics; ports = ports })
