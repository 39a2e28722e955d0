-- Values that are given, conditions, and literals as they stand (IEEE 1076-2008, 10.5, 10.8 and 9.3.2).
use Rattle.std.proofs.Common.{◌≡◌, ℕ, true, ◌==◌, not, List, [], ◌∷◌, Option, Some, refl, ap, sym, ◌∙◌, subst}
use Rattle.std.specs.Prelude.{◌||◌, is_some, filter}
use Rattle.std.specs.List.{slice_get}
use Rattle.std.proofs.lemmas.Bool.{and_from, eqb-true}
use Rattle.vhdl_values.specs.declared.scalar.Nine.{Nine}
use Rattle.vhdl_lexer.specs.Words.{base_class}
use Rattle.vhdl_lexer.specs.Bytes.{underscore}
use Rattle.vhdl_tree.specs.Tree as t
use Rattle.vhdl_tree.specs.Tree.{Expr}
use Rattle.vhdl_names_rules.specs.declared.kind.ElementKind.{ElementKind}
use Rattle.vhdl_names_rules.specs.declared.kind.ElementKind.TheVariants.{Element, LogicVector, Unsigned}
use Rattle.vhdl_names_rules.specs.declared.kind.ObjectType.{ObjectType}
use Rattle.vhdl_names_rules.specs.declared.kind.ObjectType.TheVariants.{Elements, Enumeration, Integers, Booleans}
use Rattle.vhdl_names_rules.specs.units.Expressions as e
use Rattle.vhdl_names_rules.specs.units.Expressions.{Range, Test, StaticTest}
use Rattle.vhdl_names_rules.specs.units.Statements as s
use Rattle.vhdl_names_rules.specs.units.Statements.{Given}
use Rattle.vhdl_names_rules.specs.units.Units as u
use Rattle.vhdl_names_rules.specs.Rules.{each, then_some}
use Rattle.vhdl_names_rules.specs.Visibility.{Sight}
use Rattle.vhdl_names_rules.specs.Literals.{nine_of, values_of_string, values_of_bits, values_by, quoted, at_least_one}
use Rattle.vhdl_names_rules.specs.Operators as o
use Rattle.vhdl_names_rules.specs.Operators.{Typed, as_computed}
use Rattle.vhdl_names_rules.specs.Types as types
use Rattle.vhdl_names_rules.specs.Types.{TypedElements}
use Rattle.vhdl_names_rules.specs.Aggregates.{is_named, aggregate}
use Rattle.vhdl_names_rules.specs.Expressions as to
use Rattle.vhdl_names_rules.specs.Expressions.{typed, fits, as_aggregate, as_composite, as_value, as_filled, value_given, Assigned, truth_of, as_boolean, value_assigned, as_test, condition, as_static_test}
use Rattle.vhdl_names_rules.specs.Subtypes.{literal_values}
use Rattle.vhdl_names_rules.specs.sound.Expressions.{Inside, Shape, one, vector, state, number, is_vector, any_range_fits, vector_shape, fits_shape, value_fits, test_fits, static_test_fits}
use Rattle.vhdl_names_rules.specs.sound.Statements.{given_fits}
use Rattle.vhdl_names_rules.specs.sound.Units.{fixed_fits}
use Rattle.vhdl_names_laws.specs.Meanings.{Counts, kind_shape, type_shape, IsCounted, TypedFits, ElementsFit}
use Rattle.vhdl_names_laws.proofs.Statics.{some_same}
use Rattle.vhdl_names_laws.proofs.Shapes as p
use Rattle.vhdl_names_laws.proofs.Shapes.{fits_self, fitting_kinds, kind_is_vector}
use Rattle.vhdl_names_laws.proofs.Aggregates.{aggregate_fits}
use Rattle.vhdl_names_laws.proofs.Operators.{as_computed_fits}
use Rattle.vhdl_names_rules.proofs.kept.Keeping.{mapped}
use Rattle.vhdl_names_laws.proofs.Served.{IsServed}
use Rattle.vhdl_names_laws.proofs.Expressions.{typed_fits}
use Rattle.vhdl_names_rules.proofs.laws.Rules.{comes, kept}

-- ---- values of a type

-- an enumeration of one number has one count
pub same_count : (counts : Counts) (d e m n : ℕ) → (d == e) ≡ true → slice_get counts d ≡ Some m → slice_get counts e ≡ Some n → m ≡ n
same_count counts d e m n h a b = some_same m n (sym a ∙ (ap (slice_get counts) (eqb-true d e h) ∙ b))

as_filled_fits : (i : Inside) (counts : Counts) (type : ObjectType) (y : Typed) (g : Given) → TypedFits i counts y
    → as_filled type y ≡ Some g → given_fits i (type_shape type) g ≡ true
as_filled_fits i counts (Elements k) (o.elements Element y) g h q =
    let a = p.given (o.is_vector k) (s.filled y) g q in
    subst (λ g. given_fits i (kind_shape k) g ≡ true) a.is
    (and_from (is_vector (kind_shape k)) (fits_shape one (vector_shape i y)) (ap is_vector (kind_is_vector k a.holds)) (fits_self one (vector_shape i y) h))
as_filled_fits i counts _ _ g h q = absurd cc

as_aggregate_fits : (i : Inside) (counts : Counts) (k : ElementKind) (at : ℕ) (r : Option Range) (es : TypedElements) (g : Given) → any_range_fits i r ≡ true → ElementsFit i counts es
    → as_aggregate k at r es ≡ Some g → given_fits i (kind_shape k) g ≡ true
as_aggregate_fits i counts k at r es g f h q =
    let v = kept (o.is_vector k) _ g q in
    let c = kept (is_some r || not (is_named es)) _ g v.1 in
    let a = comes (aggregate k at r es) _ g c.1 in
    subst (λ g. given_fits i (kind_shape k) g ≡ true) (some_same (s.single (e.Value.elements a.value)) g a.rest)
    (fits_self (kind_shape k) (vector_shape i a.value) (aggregate_fits i counts k at r es a.value f h a.is ∙ ap Some (sym (kind_is_vector k v.0))))

as_composite_fits : (i : Inside) (counts : Counts) (type : ObjectType) (at : ℕ) (r : Option Range) (es : TypedElements) (g : Given) → any_range_fits i r ≡ true → ElementsFit i counts es
    → as_composite type at r es ≡ Some g → given_fits i (type_shape type) g ≡ true
as_composite_fits i counts (Elements k) at r (types.element (types.others p ∷ []) q y types.no_elements) g f h w = as_filled_fits i counts (Elements k) y g h.1 w
as_composite_fits i counts (Elements k) at r es g f h w = as_aggregate_fits i counts k at r es g f h w
as_composite_fits i counts _ at r es g f h w = absurd cc

pub as_value_fits : (i : Inside) (counts : Counts) (type : ObjectType) (r : Option Range) (y : Typed) (g : Given) → any_range_fits i r ≡ true → IsCounted counts type → TypedFits i counts y
    → as_value type r y ≡ Some g → given_fits i (type_shape type) g ≡ true
as_value_fits i counts (Elements k) r (o.elements j y) g f c h q =
    let a = p.given (fits k j) (s.single (e.Value.elements y)) g q in
    subst (λ g. given_fits i (kind_shape k) g ≡ true) a.is (fits_self (kind_shape k) (vector_shape i y) (h ∙ ap Some (sym (fitting_kinds k j a.holds))))
as_value_fits i counts (Enumeration n count) r (o.enumerated d size y) g f c h q =
    let a = p.given (n == d) (s.single y) g q in
    let b = same_count counts n d count size a.holds c h.1 in
    subst (λ g. given_fits i (state count) g ≡ true) a.is (ap (λ m. value_fits i (state m) y) b ∙ h.0)
as_value_fits i counts type r (o.composite at es) g f c h q = as_composite_fits i counts type at r es g f h q
as_value_fits i counts Integers r y g f c h q =
    let a = mapped (λ j. s.single (e.Value.computed j)) (as_computed y) g q in
    subst (λ g. given_fits i number g ≡ true) a.is (ap (λ b. fits_shape number (then_some b number)) (as_computed_fits i counts y a.value h a.from))
as_value_fits i counts _ r _ g f c h q = absurd cc

pub given_is : (i : Inside) (counts : Counts) (sight : Sight) (type : ObjectType) (r : Option Range) (w : t.Value) (g : Given) → IsServed i counts sight → any_range_fits i r ≡ true
    → IsCounted counts type → value_given sight type r w ≡ Some g → given_fits i (type_shape type) g ≡ true
unfolding value_given
given_is i counts sight type r (t.single d) g h f c q =
    let a = comes (typed sight d) (as_value type r) g q in
    as_value_fits i counts type r a.value g f c (typed_fits d i counts sight a.value h a.is) a.rest
given_is i counts sight type r (t.others at d) g h f c q =
    let a = comes (typed sight d) (as_filled type) g q in
    as_filled_fits i counts type a.value g (typed_fits d i counts sight a.value h a.is) a.rest

-- ---- what statements assign

-- a value, or to a boolean a truth
abbrev pub AssignedFits : Inside → Shape → Assigned → Type 0
AssignedFits i x (to.given g) = given_fits i x g ≡ true
AssignedFits i x (truth_of t) = (x ≡ one) × (test_fits i t ≡ true)

as_boolean_fits : (i : Inside) (counts : Counts) (y : Typed) (a : Assigned) → TypedFits i counts y → as_boolean y ≡ Some a → AssignedFits i one a
as_boolean_fits i counts (o.truth (e.Test.fixed t)) a h q =
    subst (AssignedFits i one) (some_same (to.given (s.single (e.static_truth t))) a q) (ap (λ b. fits_shape one (then_some b one)) h)
as_boolean_fits i counts (o.truth t) a h q = subst (AssignedFits i one) (some_same (truth_of t) a q) (refl, h)
as_boolean_fits i counts _ a h q = absurd cc

pub assigned_is : (i : Inside) (counts : Counts) (sight : Sight) (type : ObjectType) (r : Option Range) (w : t.Value) (a : Assigned) → IsServed i counts sight → any_range_fits i r ≡ true
    → IsCounted counts type → value_assigned sight type r w ≡ Some a → AssignedFits i (type_shape type) a
unfolding value_assigned
assigned_is i counts sight Booleans r (t.single d) a h f c q =
    let b = comes (typed sight d) as_boolean a q in
    as_boolean_fits i counts b.value a (typed_fits d i counts sight b.value h b.is) b.rest
assigned_is i counts sight type r w a h f c q =
    let m = mapped to.given (value_given sight type r w) a q in
    subst (AssignedFits i (type_shape type)) m.is (given_is i counts sight type r w m.value h f c m.from)

-- ---- conditions

as_test_fits : (i : Inside) (counts : Counts) (y : Typed) (r : Test) → TypedFits i counts y → as_test y ≡ Some r → test_fits i r ≡ true
as_test_fits i counts (o.truth t) r h q = subst (λ r. test_fits i r ≡ true) (some_same t r q) h
as_test_fits i counts (o.elements Element y) r h q = subst (λ r. test_fits i r ≡ true) (some_same (e.holds y) r q) (fits_self one (vector_shape i y) h)
as_test_fits i counts _ r h q = absurd cc

pub condition_fits : (i : Inside) (counts : Counts) (sight : Sight) (d : Expr) (r : Test) → IsServed i counts sight → condition sight d ≡ Some r → test_fits i r ≡ true
unfolding condition
condition_fits i counts sight d r h q =
    let a = comes (typed sight d) as_test r q in
    as_test_fits i counts a.value r (typed_fits d i counts sight a.value h a.is) a.rest

pub static_condition_fits : (i : Inside) (counts : Counts) (y : Typed) (r : StaticTest) → TypedFits i counts y → as_static_test y ≡ Some r → static_test_fits i r ≡ true
static_condition_fits i counts (o.truth (e.Test.fixed t)) r h q = subst (λ r. static_test_fits i r ≡ true) (some_same t r q) h
static_condition_fits i counts _ r h q = absurd cc

-- ---- literals as they stand

at_least : (i : Inside) (ws vs : List Nine) → at_least_one ws ≡ Some vs → fixed_fits i vector (u.Fixed.literal vs) ≡ true
at_least i [] vs q = absurd cc
at_least i (w ∷ ws) vs q = subst (λ vs. fixed_fits i vector (u.Fixed.literal vs) ≡ true) (some_same (w ∷ ws) vs q) refl

string_fits : (i : Inside) (text : List ℕ) (vs : List Nine) → values_of_string text ≡ Some vs → fixed_fits i vector (u.Fixed.literal vs) ≡ true
string_fits i text vs q = let a = comes (each nine_of (quoted text)) at_least_one vs q in at_least i a.value vs a.rest

bits_fit : (i : Inside) (text : List ℕ) (vs : List Nine) → values_of_bits text ≡ Some vs → fixed_fits i vector (u.Fixed.literal vs) ≡ true
bits_fit i [] vs q = absurd cc
bits_fit i (base ∷ text) vs q =
    let a = comes (values_by (base_class base) (filter (λ b. not (b == underscore)) (quoted text))) at_least_one vs q in at_least i a.value vs a.rest

pub literal_values_fit : (i : Inside) (k : ElementKind) (d : Expr) (vs : List Nine) → literal_values k d ≡ Some vs → fixed_fits i (kind_shape k) (u.Fixed.literal vs) ≡ true
literal_values_fit i Element (t.character at c) vs q =
    let a = mapped (λ v. v ∷ []) (nine_of c) vs q in
    subst (λ vs. fixed_fits i one (u.Fixed.literal vs) ≡ true) a.is refl
literal_values_fit i LogicVector (t.string at text) vs q = string_fits i text vs q
literal_values_fit i LogicVector (t.bits at text) vs q = bits_fit i text vs q
literal_values_fit i Unsigned (t.string at text) vs q = string_fits i text vs q
literal_values_fit i Unsigned (t.bits at text) vs q = bits_fit i text vs q
literal_values_fit i _ _ vs q = absurd cc
