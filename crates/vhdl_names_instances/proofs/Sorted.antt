-- Generics and ports, as formals of a kind.
use Rattle.std.proofs.Common.{◌≡◌, ℕ, true, None, Some, refl, ap}
use Rattle.vhdl_tree.specs.Tree.{Expr}
use Rattle.vhdl_names_rules.specs.units.Expressions.{SignalPart}
use Rattle.vhdl_names_rules.specs.units.Units as u
use Rattle.vhdl_names_rules.specs.units.Units.{Fixed}
use Rattle.vhdl_names_rules.specs.declared.kind.ElementKind.{ElementKind}
use Rattle.vhdl_names_rules.specs.declared.kind.ObjectType.TheVariants.{Elements}
use Rattle.vhdl_names_rules.specs.declared.fault.NameProblem.TheVariants.{TypeMismatch, LeftOut}
use Rattle.vhdl_names_rules.specs.Types as types
use Rattle.vhdl_names_rules.specs.Types.{Typed}
use Rattle.vhdl_names_rules.specs.Rules.{given_that}
use Rattle.vhdl_names_rules.specs.Subtypes.{is_known_value}
use Rattle.vhdl_names_rules.specs.Operators.{is_vector}
use Rattle.vhdl_names_rules.specs.Aggregates.{arranged}
use Rattle.vhdl_names_rules.specs.Expressions.{typed, static, as_value}
use Rattle.vhdl_names_rules.specs.Declarations.{static_test}
use Rattle.vhdl_names_rules.specs.problems.Places.{start}
use Rattle.vhdl_names_rules.specs.Visibility.{Name, Sight}
use Rattle.vhdl_names_rules.specs.Instances as rules
use Rattle.vhdl_names_rules.specs.Instances.{Formal, GenericFormal}
use Rattle.vhdl_names_rules.specs.problems.Instances as broken
use Rattle.vhdl_names_rules.proofs.laws.Rules.{comes, kept}
use Rattle.vhdl_names_rules.proofs.Telling.{IsKept, both_kept, unless_kept, lacking_kept, given_kept}
use Rattle.vhdl_names_rules.proofs.kept.Keeping.{mapped}
use Rattle.vhdl_names_rules.proofs.kept.Aggregates.{arranged_kept}
use Rattle.vhdl_names_rules.proofs.kept.Expressions.{typed_kept, static_kept, static_condition_kept}
use Rattle.vhdl_names_rules.proofs.kept.Instances.{port_actual_kept}
use Rattle.vhdl_names_instances.specs.declared.actuals.PortType.{PortType}
use Rattle.vhdl_names_instances.specs.declared.generics.GenericKind.{GenericKind}
use Rattle.vhdl_names_instances.specs.Table.{type_of, kind_of}
use Rattle.vhdl_names_instances.specs.steps.Actuals as actuals
use Rattle.vhdl_names_instances.specs.steps.Generics as generics
use Rattle.vhdl_names_instances.specs.steps.Generics.{kind_view}
use Rattle.vhdl_names_instances.proofs.Porting.{Kind}

-- ---- ports: nothing rests on a port's name

pub same_port : (sight : Sight) (f : Formal) (e : Expr) → rules.port_actual sight (actuals.formal (type_of f)) e ≡ rules.port_actual sight f e
unfolding rules.port_actual
same_port sight f e = refl

abbrev pub port_name : Formal → Name
port_name f = f.name

abbrev pub ports : Sight → Kind Formal PortType SignalPart
ports sight = record {
  name = port_name;
  type = type_of;
  formal = actuals.formal;
  actual = broken.port_actual sight;
  given = rules.port_actual sight;
  same_actual = λ f e. refl;
  same_given = same_port sight;
  keeps = port_actual_kept sight;
}

-- ---- generics

pub same_kind : (f : GenericFormal) → kind_view (kind_of f) ≡ f.kind
same_kind f = go f.name f.kind
  where
    go : (n : Name) (k : rules.GenericKind) → kind_view (kind_of (record { name = n; kind = k })) ≡ k
    go n rules.integer = refl
    go n rules.boolean = refl
    go n (rules.GenericKind.elements kind) = refl

pub generic_by : (sight : Sight) (f : GenericFormal) (e : Expr) → rules.generic_actual sight (generics.formal (kind_of f)) e ≡ rules.generic_actual sight f e
unfolding rules.generic_actual
generic_by sight f e = ap (λ k. rules.generic_actual sight (record { name = f.name; kind = k }) e) (same_kind f)

-- an actual that is given breaks nothing
value_kept : (k : ElementKind) (at : ℕ) (x : Typed) (y : Fixed) → rules.value_as_actual k x ≡ Some y → IsKept (broken.given_value k at x)
value_kept k at (types.composite p es) y h =
    let v = kept (is_vector k) _ y h in
    let a = comes (arranged k true es) _ y v.1 in
    both_kept _ _ (unless_kept TypeMismatch p (is_vector k) v.0)
    (both_kept _ _ (arranged_kept k true es a.value a.is) (lacking_kept LeftOut at (rules.value_as_actual k (types.composite p es)) y h))
value_kept k at x y h =
    let g = comes (as_value (Elements k) None x) (λ g. given_that LeftOut (is_known_value g) (u.Fixed.given g)) y h in
    both_kept _ _ (lacking_kept TypeMismatch at (as_value (Elements k) None x) g.value g.is) (lacking_kept LeftOut at (rules.value_as_actual k x) y h)

kept_by : (sight : Sight) (n : Name) (k : rules.GenericKind) (e : Expr) (x : Fixed) → rules.generic_actual sight (record { name = n; kind = k }) e ≡ Some x
    → IsKept (broken.generic_actual sight e (record { name = n; kind = k }))
unfolding rules.generic_actual
kept_by sight n rules.integer e x h = let m = mapped u.Fixed.integer (static sight e) x h in static_kept sight e m.value m.from
kept_by sight n rules.boolean e x h = let m = mapped u.Fixed.truth (static_test sight e) x h in static_condition_kept sight e m.value m.from
kept_by sight n (rules.GenericKind.elements k) e x h =
    let a = comes (typed sight e) (rules.value_as_actual k) x h in
    both_kept _ _ (typed_kept e sight a.value a.is)
    (given_kept (broken.given_value k (start e)) (typed sight e) a.value a.is (value_kept k (start e) a.value x a.rest))

pub generic_kept : (sight : Sight) (f : GenericFormal) (e : Expr) (x : Fixed) → rules.generic_actual sight f e ≡ Some x → IsKept (broken.generic_actual sight e f)
generic_kept sight f e x h = kept_by sight f.name f.kind e x h

abbrev pub generic_name : GenericFormal → Name
generic_name f = f.name

abbrev pub generics_of : Sight → Kind GenericFormal GenericKind Fixed
generics_of sight = record {
  name = generic_name;
  type = kind_of;
  formal = generics.formal;
  actual = λ f e. broken.generic_actual sight e f;
  given = rules.generic_actual sight;
  same_actual = λ f e. ap (λ k. broken.generic_actual sight e (record { name = f.name; kind = k })) (same_kind f);
  same_given = generic_by sight;
  keeps = generic_kept sight;
}
