-- Which rule an instance breaks first (IEEE 1076-2008, 6.5.7 and 11.7): its maps are read association by association.
use Rattle.std.specs.Prelude.{ℕ, Bool, true, false, not, ◌||◌, if◌then◌else◌, drop, filter, List, [], ◌∷◌, ◌++◌, map, filter_map, slice_get, Option, Some, None, bytes_eq, codes}
use Rattle.vhdl_tree.specs.Tree as t
use Rattle.vhdl_tree.specs.Tree.{Ident, Expr, Association}
use Rattle.vhdl_names_rules.specs.declared.fault.NameProblem.TheVariants.{Undeclared, Twice, WrongKind, TypeMismatch, WriteOfIn, LeftOut}
use Rattle.vhdl_names_rules.specs.declared.kind.ElementKind.{ElementKind}
use Rattle.vhdl_names_rules.specs.declared.kind.ObjectType.TheVariants.{Elements}
use Rattle.vhdl_names_rules.specs.Rules.{all_of}
use Rattle.vhdl_names_rules.specs.Operators.{Typed, composite, is_vector}
use Rattle.vhdl_names_rules.specs.Expressions as expressions
use Rattle.vhdl_names_rules.specs.Expressions.{as_value}
use Rattle.vhdl_names_rules.specs.Visibility as visibility
use Rattle.vhdl_names_rules.specs.Visibility.{Name, Meaning, Sight, is_among}
use Rattle.vhdl_names_rules.specs.Interfaces.{EntityView, entity_named}
use Rattle.vhdl_names_rules.specs.Statements as statements
use Rattle.vhdl_names_rules.specs.Instances as are
use Rattle.vhdl_names_rules.specs.Instances.{Formal, is_named, formal_of, expression_of, as_name, is_type, may_join, is_architecture, as_component, GenericKind, GenericFormal, generic_formal, port_formal, value_as_actual}
use Rattle.vhdl_names_rules.specs.problems.Broken.{Broken, nothing, refused, ◌▸◌, unless, lacking, where_given, any_of, of_any}
use Rattle.vhdl_names_rules.specs.problems.Places.{start, association_place}
use Rattle.vhdl_names_rules.specs.problems.Expressions.{meaning, typed, static, static_condition}
use Rattle.vhdl_names_rules.specs.problems.Aggregates.{aggregate}
use Rattle.vhdl_names_rules.specs.problems.Statements.{named, signal}

-- ---- which unit is instantiated

-- an architecture that is named is the one that the entity has
abbrev pub architecture : Option Ident → Option Name → Broken
architecture a own = of_any (λ n. unless WrongKind n.at (is_architecture a own)) a

abbrev pub instantiated : List EntityView → Sight → t.Instantiated → Broken
instantiated entities sight (t.entity_unit library n a) =
    unless Undeclared library.at (bytes_eq library.text (codes "work"))
    ▸ lacking Undeclared n.at (entity_named entities n.text)
    ▸ where_given (entity_named entities n.text) (λ e. architecture a e.1.architecture)
instantiated entities sight (t.component_unit word n) =
    meaning sight n ▸ where_given (visibility.meaning sight n.text) (λ d. lacking WrongKind n.at (as_component d))

-- ---- actuals of ports

-- a name of this meaning is a value, with what follows it
abbrev pub is_value : Meaning → t.Suffix → Bool
is_value (visibility.generic k) suffix = true
is_value (visibility.integer_constant k) suffix = true
is_value (visibility.boolean_generic k) suffix = true
is_value (visibility.boolean_constant k) suffix = true
is_value (visibility.boolean_literal b) suffix = true
is_value (visibility.generate_parameter k) suffix = true
is_value (visibility.loop_parameter k) suffix = true
is_value (visibility.constant k kind values) suffix = true
is_value (visibility.literal number count position) suffix = true
is_value (visibility.function f) suffix = true
is_value (visibility.vector_type kind resolved) (t.arguments es) = true
is_value _ _ = false

abbrev pub names_value : Option Meaning → t.Suffix → Bool
names_value None suffix = false
names_value (Some d) suffix = is_value d suffix

-- the name of a signal; that of a value is an expression, and left out
abbrev pub actual_signal : Sight → t.Name → Broken
actual_signal sight n =
    if names_value (visibility.meaning sight n.identifier.text) n.suffix
    then named sight n ▸ refused LeftOut n.identifier.at else signal sight n

-- an expression that is no name is left out too
abbrev pub port_actual : Sight → Formal → Expr → Broken
port_actual sight f e = lacking LeftOut (start e) (as_name e) ▸ where_given (as_name e) (λ n.
    actual_signal sight n
    ▸ where_given (statements.signal sight n) (λ x. unless TypeMismatch n.identifier.at (is_type f.type x.type)
    ▸ unless WriteOfIn n.identifier.at (may_join f.mode x.mode)))

-- the ports of a name
abbrev pub ports_named : List Formal → Name → List Formal
ports_named fs n = filter (λ f. bytes_eq n f.name) fs

-- ---- maps of these formals, with what an actual of one breaks

module _ (formals : List Name) (actual : Name → Expr → Broken) where
  -- an association, where these formals are left from its place on: which formal it is for, and then its actual. It may
  -- stand behind one that names its formal, and those before it are for the formals that are taken.
  abbrev pub association : (left : List Name) → (is_behind_named : Bool) → (taken : List Name) → Association → Broken
  association left is_behind_named taken a =
      unless WrongKind (association_place a) (not is_behind_named || is_named a)
      ▸ lacking WrongKind (association_place a) (formal_of left a.formal)
      ▸ where_given (formal_of left a.formal) (λ n.
      unless Undeclared (association_place a) (is_among n formals)
      ▸ unless Twice (association_place a) (not (is_among n taken))
      ▸ of_any (actual n) (expression_of a.actual))

  abbrev pub associations : (left : List Name) → (is_behind_named : Bool)
      → (taken : List Name) → List Association → Broken
  associations left is_behind_named taken [] = nothing
  associations left is_behind_named taken (a ∷ as') =
      association left is_behind_named taken a
      ▸ where_given (formal_of left a.formal) (λ n. associations (drop 1 left) (is_named a) (taken ++ n ∷ []) as')

  abbrev pub associated : List Association → Broken
  associated as' = associations formals false [] as'

-- ---- actuals of generics

-- an aggregate has a range, the formal's
abbrev pub given_value : ElementKind → (at : ℕ) → Typed → Broken
given_value k at (composite p es) =
    unless TypeMismatch p (is_vector k) ▸ aggregate k true es ▸ lacking LeftOut at (value_as_actual k (composite p es))
given_value k at x = lacking TypeMismatch at (as_value (Elements k) None x) ▸ lacking LeftOut at (value_as_actual k x)

abbrev pub value_actual : Sight → ElementKind → Expr → Broken
value_actual sight k e = typed sight e ▸ where_given (expressions.typed sight e) (given_value k (start e))

abbrev pub generic_actual : Sight → Expr → GenericFormal → Broken
generic_actual sight e f = by f.kind
  where
    by : GenericKind → Broken
    by are.integer = static sight e
    by are.boolean = static_condition sight e
    by (are.GenericKind.elements k) = value_actual sight k e

-- the generics of a name
abbrev pub generics_named : List GenericFormal → Name → List GenericFormal
generics_named fs n = filter (λ f. bytes_eq n f.name) fs

abbrev pub generic_map : Sight → List GenericFormal → List Association → Broken
generic_map sight fs as' =
    associated (map (λ f. f.name) fs) (λ n e. any_of (generic_actual sight e) (generics_named fs n)) as'

abbrev pub port_map : Sight → List Formal → List Association → Broken
port_map sight fs as' =
    associated (map (λ f. f.name) fs) (λ n e. any_of (λ f. port_actual sight f e) (ports_named fs n)) as'

-- ---- instances

abbrev pub maps : Sight → EntityView → t.Instance → Broken
maps sight e i =
    generic_map sight (filter_map generic_formal e.interface.declared) (all_of i.generics)
    ▸ port_map sight (filter_map port_formal e.interface.declared) (all_of i.ports)

-- an instance behind its label
abbrev pub instance : List EntityView → Sight → Ident → t.Instance → Broken
instance entities sight label i =
    instantiated entities sight i.unit
    ▸ where_given (are.instantiated entities sight i.unit)
    (λ k. lacking Undeclared label.at (slice_get entities k) ▸ of_any (λ e. maps sight e i) (slice_get entities k))
