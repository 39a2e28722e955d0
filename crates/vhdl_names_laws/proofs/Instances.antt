-- Each instance fits the unit that it is of (IEEE 1076-2008, 11.7 and 6.5.7).
use Rattle.std.proofs.Common.{◌≡◌, ℕ, true, ◌&&◌, List, [], ◌∷◌, length, map, Option, Some, None, refl, ap, sym, ◌∙◌, subst, arith}
use Rattle.std.specs.List.{slice_get, filter_map}
use Rattle.std.proofs.lemmas.Bool.{and_from}
use Rattle.std.proofs.lemmas.List.{length-map}
use Rattle.vhdl_tree.specs.declared.declaration.Mode.{Mode}
use Rattle.vhdl_tree.specs.declared.declaration.Mode.TheVariants.{In, Out}
use Rattle.vhdl_tree.specs.Tree as t
use Rattle.vhdl_tree.specs.Tree.{Ident, Expr}
use Rattle.vhdl_names_rules.specs.declared.kind.ElementKind.{ElementKind}
use Rattle.vhdl_names_rules.specs.declared.kind.ElementKind.TheVariants.{Element, LogicVector, Unsigned}
use Rattle.vhdl_names_rules.specs.declared.kind.ObjectType.{ObjectType}
use Rattle.vhdl_names_rules.specs.declared.kind.ObjectType.TheVariants.{Elements, Integers, Booleans}
use Rattle.vhdl_names_rules.specs.declared.fault.NameProblem.TheVariants.{LeftOut}
use Rattle.vhdl_names_rules.specs.units.Expressions.{SignalPart}
use Rattle.vhdl_names_rules.specs.units.Units as u
use Rattle.vhdl_names_rules.specs.units.Units.{Form, Fixed, Units}
use Rattle.vhdl_names_rules.specs.Rules.{◌>>=◌, if_any, given_that, all_of}
use Rattle.vhdl_names_rules.specs.Visibility.{Name, Sight}
use Rattle.vhdl_names_rules.specs.Types as types
use Rattle.vhdl_names_rules.specs.Types.{Typed, TypedElements}
use Rattle.vhdl_names_rules.specs.Operators.{is_vector}
use Rattle.vhdl_names_rules.specs.Aggregates.{arranged}
use Rattle.vhdl_names_rules.specs.Expressions.{typed, static, as_value}
use Rattle.vhdl_names_rules.specs.Known.{are_known}
use Rattle.vhdl_names_rules.specs.Subtypes.{is_known_value}
use Rattle.vhdl_names_rules.specs.Declarations.{static_test}
use Rattle.vhdl_names_rules.specs.Statements.{SignalName, signal, is_input}
use Rattle.vhdl_names_rules.specs.Interfaces.{EntityView}
use Rattle.vhdl_names_rules.specs.Instances as n
use Rattle.vhdl_names_rules.specs.Instances.{Formal, GenericKind, GenericFormal, generic_formal, aggregate_actual, value_as_actual, generic_actual, generic_actuals, port_formal, as_name, is_type, port_actual, port_actuals, instance}
use Rattle.vhdl_names_rules.specs.sound.Expressions.{Inside, vector, shape_of, place_shape, fits_shape}
use Rattle.vhdl_names_rules.specs.sound.Units as w
use Rattle.vhdl_names_rules.specs.sound.Units.{fixed_fits, generic_value_fits, generic_default_fits, generic_actuals_fit, actual_fits, actuals_fit, instance_fits}
use Rattle.vhdl_names_laws.specs.Meanings.{Counts, kind_shape, type_shape, TypedFits, ElementsFit, IsInside}
use Rattle.vhdl_names_laws.proofs.Statics.{some_same}
use Rattle.vhdl_names_laws.proofs.Shapes.{given, fits_self, kind_is_vector}
use Rattle.vhdl_names_laws.proofs.Aggregates.{arranged_fits}
use Rattle.vhdl_names_laws.proofs.More.{known_elements}
use Rattle.vhdl_names_laws.proofs.Served.{served}
use Rattle.vhdl_names_laws.proofs.Expressions.{typed_fits, static_integer_fits}
use Rattle.vhdl_names_laws.proofs.Values.{as_value_fits}
use Rattle.vhdl_names_rules.proofs.kept.Keeping.{mapped}
use Rattle.vhdl_names_laws.proofs.Statements.{SignalFits, signal_fits}
use Rattle.vhdl_names_laws.proofs.Subtypes.{known_fits}
use Rattle.vhdl_names_laws.proofs.Ports.{test_is}
use Rattle.vhdl_names_laws.proofs.Formals.{IsOfType, IsFormal, IsGeneric, AreFormals, AreGenerics}
use Rattle.vhdl_names_rules.proofs.laws.Rules.{comes, kept, not_true}
use Rattle.vhdl_names_rules.proofs.laws.Associations.{formals_have_actuals}
use Rattle.vhdl_names_rules.proofs.laws.Parts.{instance_parts}

-- the unit of a number has the formals of an entity
pub record IsUnit (units : Units) (k : ℕ) (e : EntityView) : Type 0 where
  pub unit : u.Entity
  pub at : slice_get units k ≡ Some unit
  pub generics : AreGenerics (filter_map generic_formal e.interface.declared) unit.generics
  pub ports : AreFormals (filter_map port_formal e.interface.declared) unit.ports

abbrev pub AreUnits : Units → List EntityView → Type 0
AreUnits units entities = (k : ℕ) (e : EntityView) → slice_get entities k ≡ Some e → IsUnit units k e

-- ---- actuals of ports

type_is : (formal type : ObjectType) → is_type formal type ≡ true → type_shape type ≡ type_shape formal
type_is (Elements Element) (Elements Element) h = refl
type_is (Elements LogicVector) (Elements LogicVector) h = refl
type_is (Elements Unsigned) (Elements Unsigned) h = refl
type_is Integers Integers h = refl
type_is Booleans Booleans h = refl
type_is _ _ h = absurd cc

joins : (i : Inside) (counts : Counts) (mode : Mode) (x : SignalName) → SignalFits i counts x → n.may_join mode x.mode ≡ true → w.may_join i mode x.place.signal ≡ true
joins i counts In x h k = refl
joins i counts Out x h k = h.driven (not_true (is_input x.mode) k)

place_is : (i : Inside) (counts : Counts) (sight : Sight) (f : Formal) (p : u.Port) (d : Expr) (z : SignalPart) → IsInside i counts sight → IsFormal f p → port_actual sight f d ≡ Some z
    → (fits_shape (shape_of p.object.form) (place_shape i z) && w.may_join i p.mode z.signal) ≡ true
unfolding port_actual
place_is i counts sight f p d z h g q =
    let a = comes (as_name d) _ z q in
    let b = comes (signal sight a.value) _ z a.rest in
    let c = kept (is_type f.type b.value.type) _ z b.rest in
    let m = kept (n.may_join f.mode b.value.mode) _ z c.1 in
    let s = signal_fits i counts sight a.value b.value h b.is in
    subst (λ z. (fits_shape (shape_of p.object.form) (place_shape i z) && w.may_join i p.mode z.signal) ≡ true) (some_same b.value.place z m.1)
    (and_from (fits_shape (shape_of p.object.form) (place_shape i b.value.place)) (w.may_join i p.mode b.value.place.signal)
    (fits_self (shape_of p.object.form) (place_shape i b.value.place) (s.shape ∙ ap Some (type_is f.type b.value.type c.0 ∙ sym g.shape)))
    (ap (λ mode. w.may_join i mode b.value.place.signal) g.mode ∙ joins i counts f.mode b.value s m.0))

actual_is : (i : Inside) (counts : Counts) (sight : Sight) (f : Formal) (p : u.Port) (d : Option Expr) (z : Option SignalPart) → IsInside i counts sight → IsFormal f p
    → if_any (port_actual sight f) d ≡ Some z → actual_fits i p z ≡ true
actual_is i counts sight f p None z h g q = subst (λ z. actual_fits i p z ≡ true) (some_same None z q) refl
actual_is i counts sight f p (Some d) z h g q =
    let a = comes (port_actual sight f d) _ z q in
    subst (λ z. actual_fits i p z ≡ true) (some_same (Some a.value) z a.rest) (place_is i counts sight f p d a.value h g a.is)

actuals_are : (i : Inside) (counts : Counts) (sight : Sight) → IsInside i counts sight → (fs : List Formal) (ds : List (Option Expr)) (ps : List u.Port) (zs : List (Option SignalPart)) → AreFormals fs ps
    → length ds ≡ length fs → port_actuals sight fs ds ≡ Some zs → actuals_fit i ps zs ≡ true
actuals_are i counts sight h [] [] [] zs a l q = subst (λ zs. actuals_fit i [] zs ≡ true) (some_same [] zs q) refl
actuals_are i counts sight h [] ds (p ∷ ps) zs a l q = absurd a
actuals_are i counts sight h (f ∷ fs) ds [] zs a l q = absurd a
actuals_are i counts sight h (f ∷ fs) (d ∷ ds) (p ∷ ps) zs a l q =
    let c = comes (if_any (port_actual sight f) d) _ zs q in
    let b = comes (port_actuals sight fs ds) _ zs c.rest in
    subst (λ zs. actuals_fit i (p ∷ ps) zs ≡ true) (some_same (c.value ∷ b.value) zs b.rest)
    (and_from (actual_fits i p c.value) (actuals_fit i ps b.value) (actual_is i counts sight f p d c.value h a.0 c.is)
    (actuals_are i counts sight h fs ds ps b.value a.1 (omega (arith, l)) b.is))
actuals_are i counts sight h _ _ _ zs a l q = absurd (omega (arith, l))

-- ---- actuals of generics

module _ (i : Inside) (counts : Counts) (sight : Sight) (h : IsInside i counts sight) where
  aggregate_is : (k : ElementKind) (f : Form) (at : ℕ) (es : TypedElements) (v : Fixed) → shape_of f ≡ kind_shape k → ElementsFit i counts es → aggregate_actual k at es ≡ Some v
      → fixed_fits i (shape_of f) v ≡ true
  aggregate_is k f at es v s g q =
      let a = kept (is_vector k) _ v q in
      let b = comes (arranged k true es) _ v a.1 in
      let c = given (are_known b.value) (u.Fixed.aggregate at b.value) v b.rest in
      let z : shape_of f ≡ vector = s ∙ kind_is_vector k a.0 in
      subst (λ v. fixed_fits i (shape_of f) v ≡ true) c.is
      (ap (λ z. fixed_fits i z (u.Fixed.aggregate at b.value)) z ∙ known_elements i b.value c.holds (arranged_fits i counts k true es b.value g b.is))

  plain_is : (k : ElementKind) (f : Form) (x : Typed) (v : Fixed) → shape_of f ≡ kind_shape k → TypedFits i counts x
      → (as_value (Elements k) None x >>= λ g. given_that LeftOut (is_known_value g) (u.Fixed.given g)) ≡ Some v → fixed_fits i (shape_of f) v ≡ true
  plain_is k f x v s g q =
      let a = comes (as_value (Elements k) None x) _ v q in
      ap (λ z. fixed_fits i z v) s ∙ known_fits i (Elements k) a.value v (as_value_fits i counts (Elements k) None x a.value refl tt g a.is) a.rest

  value_is : (k : ElementKind) (f : Form) (x : Typed) (v : Fixed) → shape_of f ≡ kind_shape k → TypedFits i counts x → value_as_actual k x ≡ Some v → fixed_fits i (shape_of f) v ≡ true
  value_is k f (types.composite at es) v s g q = aggregate_is k f at es v s g q
  value_is k f x v s g q = plain_is k f x v s g q

  generic_is : (f : GenericFormal) (g : u.Generic) (e : Expr) (v : Fixed) → IsOfType f.kind g.type → generic_actual sight f e ≡ Some v → generic_value_fits i g.type v ≡ true
  unfolding generic_actual
  generic_is f g e v is q = by f.name f.kind g.type is q
    where
      by : (name : Name) (k : GenericKind) (type : u.GenericType) → IsOfType k type → generic_actual sight (record { name = name; kind = k }) e ≡ Some v → generic_value_fits i type v ≡ true
      by name n.integer (u.integers s) is q =
          let a = mapped u.Fixed.integer (static sight e) v q in
          subst (λ v. generic_value_fits i (u.integers s) v ≡ true) a.is (static_integer_fits i counts sight e a.value (served i counts sight h) a.from)
      by name n.boolean u.truths is q =
          let a = mapped u.Fixed.truth (static_test sight e) v q in
          subst (λ v. generic_value_fits i u.truths v ≡ true) a.is (test_is i counts sight (served i counts sight h) e a.value a.from)
      by name (n.elements k) (u.values z) is q =
          let a = comes (typed sight e) (value_as_actual k) v q in
          value_is k z a.value v is (typed_fits e i counts sight a.value (served i counts sight h) a.is) a.rest
      by name _ _ is q = absurd is

  any_generic_is : (f : GenericFormal) (g : u.Generic) (e : Option Expr) (v : Option Fixed) → IsGeneric f g → if_any (generic_actual sight f) e ≡ Some v → generic_default_fits i g.type v ≡ true
  any_generic_is f g None v is q = subst (λ v. generic_default_fits i g.type v ≡ true) (some_same None v q) refl
  any_generic_is f g (Some e) v is q =
      let a = comes (generic_actual sight f e) _ v q in
      subst (λ v. generic_default_fits i g.type v ≡ true) (some_same (Some a.value) v a.rest) (generic_is f g e a.value is.«type» a.is)

  generics_are : (fs : List GenericFormal) (es : List (Option Expr)) (gs : List u.Generic) (vs : List (Option Fixed)) → AreGenerics fs gs → length es ≡ length fs → generic_actuals sight fs es ≡ Some vs
      → generic_actuals_fit i gs vs ≡ true
  generics_are [] es [] vs a l q = subst (λ vs. generic_actuals_fit i [] vs ≡ true) (some_same [] vs q) refl
  generics_are [] es (g ∷ gs) vs a l q = absurd a
  generics_are (f ∷ fs) es [] vs a l q = absurd a
  generics_are (f ∷ fs) (e ∷ es) (g ∷ gs) vs a l q =
      let x = comes (if_any (generic_actual sight f) e) _ vs q in
      let y = comes (generic_actuals sight fs es) _ vs x.rest in
      subst (λ vs. generic_actuals_fit i (g ∷ gs) vs ≡ true) (some_same (x.value ∷ y.value) vs y.rest)
      (and_from (generic_default_fits i g.type x.value) (generic_actuals_fit i gs y.value) (any_generic_is f g e x.value a.0 x.is) (generics_are fs es gs y.value a.1 (omega (arith, l)) y.is))
  generics_are (f ∷ fs) [] (g ∷ gs) vs a l q = absurd (omega (arith, l))

pub instance_is : (units : Units) (entities : List EntityView) (i : Inside) (counts : Counts) (sight : Sight) (label : Ident) (y : t.Instance) (x : u.Instance) → AreUnits units entities
    → IsInside i counts sight → instance entities sight label y ≡ Some x → instance_fits i x (slice_get units x.unit) ≡ true
instance_is units entities i counts sight label y x all h q =
    let p = instance_parts entities sight label y x q in
    let generics = filter_map generic_formal p.view.value.interface.declared in
    let formals = filter_map port_formal p.view.value.interface.declared in
    let unit = all p.place.value p.view.value p.view.is in
    let made : u.Instance = record { at = label.at; label = label.text; unit = p.place.value; generics = p.values.value; ports = p.places.value } in
    let few : length p.generics.value ≡ length generics =
    (formals_have_actuals (map (λ (f : GenericFormal). f.name) generics) (all_of y.generics) p.generics.value p.generics.is).as_many ∙ length-map generics (λ (f : GenericFormal). f.name) in
    let many : length p.ports.value ≡ length formals =
    (formals_have_actuals (map (λ (f : Formal). f.name) formals) (all_of y.ports) p.ports.value p.ports.is).as_many ∙ length-map formals (λ (f : Formal). f.name) in
    subst (λ (x : u.Instance). instance_fits i x (slice_get units x.unit) ≡ true) p.is
    (ap (instance_fits i made) unit.at
    ∙ and_from (generic_actuals_fit i unit.unit.generics p.values.value) (actuals_fit i unit.unit.ports p.places.value)
    (generics_are i counts sight h generics p.generics.value unit.unit.generics p.values.value unit.generics few p.values.is)
    (actuals_are i counts sight h formals p.ports.value unit.unit.ports p.places.value unit.ports many p.places.is))
