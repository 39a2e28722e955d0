-- The bytes of an analysed instance are those of pieces of the instance.
use Rattle.std.proofs.Common.{◌≡◌, ℕ, Bool, true, false, cond, List, [], ◌∷◌, map, Option, Some, None, subst}
use Rattle.std.specs.List.{AllByRecursion, flat_map, list_all, filter_map}
use Rattle.std.specs.Str.{bytes_eq}
use Rattle.vhdl_lexer.specs.declared.token.TokenKind.TheVariants as k
use Rattle.vhdl_tree.specs.Tree as t
use Rattle.vhdl_tree.specs.Tree.{Ident, Expr, Association}
use Rattle.vhdl_tree.specs.Pieces.{spell_option}
use Rattle.vhdl_tree.specs.grammar.Expressions.{spell, spell_name, spell_actual, spell_formal, spell_association}
use Rattle.vhdl_tree.specs.grammar.Instance.{spell_instantiated, spell_map, spell_instance}
use Rattle.vhdl_names_rules.specs.units.Expressions.{SignalPart}
use Rattle.vhdl_names_rules.specs.declared.kind.ElementKind.{ElementKind}
use Rattle.vhdl_names_rules.specs.declared.kind.ObjectType.TheVariants.{Elements}
use Rattle.vhdl_names_rules.specs.declared.fault.NameProblem.TheVariants.{LeftOut}
use Rattle.vhdl_names_rules.specs.units.Units as u
use Rattle.vhdl_names_rules.specs.units.Units.{Fixed}
use Rattle.vhdl_names_rules.specs.units.Bytes.{if_any_bytes, place_bytes, fixed_bytes, instance_bytes}
use Rattle.vhdl_names_rules.specs.Rules.{◌>>=◌, if_any, given_that, all_of}
use Rattle.vhdl_names_rules.specs.Visibility.{Name, Sight, is_among, are_distinct}
use Rattle.vhdl_names_rules.specs.Types as types
use Rattle.vhdl_names_rules.specs.Types.{Typed, TypedElements}
use Rattle.vhdl_names_rules.specs.Operators.{is_vector}
use Rattle.vhdl_names_rules.specs.Aggregates.{arranged}
use Rattle.vhdl_names_rules.specs.Expressions.{typed, static, as_value}
use Rattle.vhdl_names_rules.specs.Known.{are_known}
use Rattle.vhdl_names_rules.specs.Subtypes.{is_known_value}
use Rattle.vhdl_names_rules.specs.Declarations.{static_test}
use Rattle.vhdl_names_rules.specs.Statements.{signal}
use Rattle.vhdl_names_rules.specs.Interfaces.{EntityView}
use Rattle.vhdl_names_rules.specs.Instances as n
use Rattle.vhdl_names_rules.specs.Instances.{Formal, GenericKind, GenericFormal, generic_formal, aggregate_actual, value_as_actual, generic_actual, generic_actuals, port_formal, positional_first, formals_of, expression_of, actual_of, associated, as_name, is_type, may_join, port_actual, port_actuals, instance}
use Rattle.vhdl_names_rules.proofs.laws.Rules.{comes, kept}
use Rattle.vhdl_names_rules.proofs.laws.Parts.{instance_parts}
use Rattle.vhdl_names_laws.proofs.Statics.{some_same}
use Rattle.vhdl_names_laws.proofs.Shapes.{given}
use Rattle.vhdl_names_rules.proofs.kept.Keeping.{mapped}
use Rattle.vhdl_names_laws.proofs.placed.Told.{Stand, EachStands, first, behind}
use Rattle.vhdl_names_laws.proofs.placed.Instances.{map_stands}
use Rattle.vhdl_names_laws.proofs.standing.Holding.{Hold, hold_both, hold_each, TypedHolds, ElementsHold}
use Rattle.vhdl_names_laws.proofs.standing.Aggregates.{arranged_holds}
use Rattle.vhdl_names_laws.proofs.standing.Expressions.{typed_holds, static_holds, as_value_holds}
use Rattle.vhdl_names_laws.proofs.standing.Values.{known_holds, test_holds}
use Rattle.vhdl_names_laws.proofs.standing.Statements.{signal_holds}
use Rattle.vhdl_names_laws.proofs.standing.Declarations.{EachHolds}

-- ---- which actual is associated

abbrev ActualStands : (ℕ → Type 0) → Option Expr → Type 0
ActualStands P None = Unit {0}
ActualStands P (Some d) = Stand P (spell d)

expression_stands : (P : ℕ → Type 0) (a : t.Actual) → Stand P (spell_actual a) → ActualStands P (expression_of a)
expression_stands P (t.actual e) h = h
expression_stands P (t.left_open at) h = tt

either : (P : ℕ → Type 0) (b : Bool) (x y : Option Expr) → ActualStands P x → ActualStands P y → ActualStands P (cond b x y)
either P true x y h g = h
either P false x y h g = g

actual_stands : (P : ℕ → Type 0) (n : Name) (fs : List Name) (as' : List Association) → EachStands P spell_association as' → ActualStands P (actual_of n fs as')
actual_stands P n (f ∷ fs) (a ∷ as') h =
    either P (bytes_eq n f) (expression_of a.actual) (actual_of n fs as') (expression_stands P a.actual (behind P (spell_option spell_formal a.formal) _ h.0)) (actual_stands P n fs as' h.1)
actual_stands _ n _ _ h = tt

each_stands : (P : ℕ → Type 0) (fs : List Name) (as' : List Association) (ns : List Name) → EachStands P spell_association as'
    → AllByRecursion (ActualStands P) (map (λ n. actual_of n fs as') ns)
each_stands P fs as' [] h = tt
each_stands P fs as' (n ∷ ns) h = (actual_stands P n fs as' h, each_stands P fs as' ns h)

associated_stand : (P : ℕ → Type 0) (ns : List Name) (as' : List Association) (ds : List (Option Expr)) → EachStands P spell_association as' → associated ns as' ≡ Some ds
    → AllByRecursion (ActualStands P) ds
unfolding associated
associated_stand P ns as' ds h q =
    let a = kept (positional_first as') _ ds q in
    let b = comes (formals_of ns as') _ ds a.1 in
    let c = kept (list_all (λ f. is_among f ns) b.value) _ ds b.rest in
    let d = kept (are_distinct b.value) _ ds c.1 in
    subst (AllByRecursion (ActualStands P)) (some_same _ ds d.1) (each_stands P b.value as' ns h)

-- ---- actuals of generics

aggregate_actual_holds : (P : ℕ → Type 0) (k : ElementKind) (at : ℕ) (es : TypedElements) (v : Fixed) → P at → ElementsHold P es → aggregate_actual k at es ≡ Some v → Hold P (fixed_bytes v)
aggregate_actual_holds P k at es v p h q =
    let a = kept (is_vector k) _ v q in
    let b = comes (arranged k true es) _ v a.1 in
    let c = given (are_known b.value) (u.Fixed.aggregate at b.value) v b.rest in
    subst (λ v. Hold P (fixed_bytes v)) c.is (p, arranged_holds P k true es b.value h b.is)

plain_actual_holds : (P : ℕ → Type 0) (k : ElementKind) (x : Typed) (v : Fixed) → TypedHolds P x
    → (as_value (Elements k) None x >>= λ g. given_that LeftOut (is_known_value g) (u.Fixed.given g)) ≡ Some v → Hold P (fixed_bytes v)
plain_actual_holds P k x v h q =
    let a = comes (as_value (Elements k) None x) _ v q in
    known_holds P a.value v (as_value_holds P (Elements k) None x a.value tt h a.is) a.rest

value_actual_holds : (P : ℕ → Type 0) (k : ElementKind) (x : Typed) (v : Fixed) → TypedHolds P x → value_as_actual k x ≡ Some v → Hold P (fixed_bytes v)
value_actual_holds P k (types.composite at es) v h q = aggregate_actual_holds P k at es v h.0 h.1 q
value_actual_holds P k x v h q = plain_actual_holds P k x v h q

generic_actual_holds : (P : ℕ → Type 0) (sight : Sight) (name : Name) (k : GenericKind) (d : Expr) (v : Fixed) → Stand P (spell d) → generic_actual sight (record { name = name; kind = k }) d ≡ Some v
    → Hold P (fixed_bytes v)
unfolding generic_actual
generic_actual_holds P sight name n.integer d v h q = let a = mapped u.Fixed.integer (static sight d) v q in subst (λ v. Hold P (fixed_bytes v)) a.is (static_holds P sight d a.value h a.from)
generic_actual_holds P sight name n.boolean d v h q = let a = mapped u.Fixed.truth (static_test sight d) v q in subst (λ v. Hold P (fixed_bytes v)) a.is (test_holds P sight d a.value h a.from)
generic_actual_holds P sight name (n.elements k) d v h q =
    let a = comes (typed sight d) (value_as_actual k) v q in
    value_actual_holds P k a.value v (typed_holds d P sight a.value h a.is) a.rest

generic_holds : (P : ℕ → Type 0) (sight : Sight) (f : GenericFormal) (d : Option Expr) (g : Option Fixed) → ActualStands P d → if_any (generic_actual sight f) d ≡ Some g → Hold P (if_any_bytes fixed_bytes g)
generic_holds P sight f None g h q = subst (λ g. Hold P (if_any_bytes fixed_bytes g)) (some_same None g q) tt
generic_holds P sight f (Some d) g h q =
    let a = comes (generic_actual sight f d) _ g q in
    subst (λ g. Hold P (if_any_bytes fixed_bytes g)) (some_same (Some a.value) g a.rest) (generic_actual_holds P sight f.name f.kind d a.value h a.is)

generics_hold : (P : ℕ → Type 0) (sight : Sight) (fs : List GenericFormal) (ds : List (Option Expr)) (gs : List (Option Fixed)) → AllByRecursion (ActualStands P) ds
    → generic_actuals sight fs ds ≡ Some gs → EachHolds P (if_any_bytes fixed_bytes) gs
generics_hold P sight [] ds gs h q = subst (EachHolds P (if_any_bytes fixed_bytes)) (some_same [] gs q) tt
generics_hold P sight (f ∷ fs) [] gs h q = subst (EachHolds P (if_any_bytes fixed_bytes)) (some_same [] gs q) tt
generics_hold P sight (f ∷ fs) (d ∷ ds) gs h q =
    let a = comes (if_any (generic_actual sight f) d) _ gs q in
    let b = comes (generic_actuals sight fs ds) _ gs a.rest in
    subst (EachHolds P (if_any_bytes fixed_bytes)) (some_same (a.value ∷ b.value) gs b.rest) (generic_holds P sight f d a.value h.0 a.is, generics_hold P sight fs ds b.value h.1 b.is)

-- ---- actuals of ports

name_stands : (P : ℕ → Type 0) (d : Expr) (m : t.Name) → Stand P (spell d) → as_name d ≡ Some m → Stand P (spell_name m)
name_stands P (t.named n suffix a) m h q = subst (λ m. Stand P (spell_name m)) (some_same (record { identifier = n; suffix = suffix; attribute = a }) m q) h
name_stands _ _ m h q = absurd cc

place_holds : (P : ℕ → Type 0) (sight : Sight) (f : Formal) (d : Expr) (z : SignalPart) → Stand P (spell d) → port_actual sight f d ≡ Some z → Hold P (place_bytes z)
unfolding port_actual
place_holds P sight f d z h q =
    let a = comes (as_name d) _ z q in
    let b = comes (signal sight a.value) _ z a.rest in
    let c = kept (is_type f.type b.value.type) _ z b.rest in
    let m = kept (may_join f.mode b.value.mode) _ z c.1 in
    subst (λ z. Hold P (place_bytes z)) (some_same b.value.place z m.1) (signal_holds P sight a.value b.value (name_stands P d a.value h a.is) b.is).place

port_holds : (P : ℕ → Type 0) (sight : Sight) (f : Formal) (d : Option Expr) (z : Option SignalPart) → ActualStands P d → if_any (port_actual sight f) d ≡ Some z
    → Hold P (if_any_bytes place_bytes z)
port_holds P sight f None z h q = subst (λ z. Hold P (if_any_bytes place_bytes z)) (some_same None z q) tt
port_holds P sight f (Some d) z h q =
    let a = comes (port_actual sight f d) _ z q in
    subst (λ z. Hold P (if_any_bytes place_bytes z)) (some_same (Some a.value) z a.rest) (place_holds P sight f d a.value h a.is)

ports_hold : (P : ℕ → Type 0) (sight : Sight) (fs : List Formal) (ds : List (Option Expr)) (zs : List (Option SignalPart)) → AllByRecursion (ActualStands P) ds
    → port_actuals sight fs ds ≡ Some zs → EachHolds P (if_any_bytes place_bytes) zs
ports_hold P sight [] ds zs h q = subst (EachHolds P (if_any_bytes place_bytes)) (some_same [] zs q) tt
ports_hold P sight (f ∷ fs) [] zs h q = subst (EachHolds P (if_any_bytes place_bytes)) (some_same [] zs q) tt
ports_hold P sight (f ∷ fs) (d ∷ ds) zs h q =
    let a = comes (if_any (port_actual sight f) d) _ zs q in
    let b = comes (port_actuals sight fs ds) _ zs a.rest in
    subst (EachHolds P (if_any_bytes place_bytes)) (some_same (a.value ∷ b.value) zs b.rest) (port_holds P sight f d a.value h.0 a.is, ports_hold P sight fs ds b.value h.1 b.is)

-- ---- instances

pub instance_holds : (P : ℕ → Type 0) (entities : List EntityView) (sight : Sight) (label : Ident) (i : t.Instance) (x : u.Instance) → P label.at → Stand P (spell_instance i)
    → instance entities sight label i ≡ Some x → Hold P (instance_bytes x)
instance_holds P entities sight label i x h g q =
    let generics = behind P (spell_instantiated i.unit) _ g in
    let ports = behind P (spell_option (spell_map k.Generic) i.generics) _ generics in
    let p = instance_parts entities sight label i x q in
    let takes = filter_map generic_formal p.view.value.interface.declared in
    let formals = filter_map port_formal p.view.value.interface.declared in
    subst (λ (x : u.Instance). Hold P (instance_bytes x)) p.is (
      h,
      hold_both P (flat_map (if_any_bytes fixed_bytes) p.values.value) (flat_map (if_any_bytes place_bytes) p.places.value)
          (hold_each P (if_any_bytes fixed_bytes) p.values.value
          (generics_hold P sight takes p.generics.value p.values.value
          (associated_stand P (map (λ (f : GenericFormal). f.name) takes) (all_of i.generics) p.generics.value
          (map_stands P k.Generic i.generics (first P (spell_option (spell_map k.Generic) i.generics) _ generics)) p.generics.is) p.values.is))
          (hold_each P (if_any_bytes place_bytes) p.places.value
          (ports_hold P sight formals p.ports.value p.places.value
          (associated_stand P (map (λ (f : Formal). f.name) formals) (all_of i.ports) p.ports.value
          (map_stands P k.Port i.ports (first P (spell_option (spell_map k.Port) i.ports) _ ports)) p.ports.is) p.places.is)),
    )
