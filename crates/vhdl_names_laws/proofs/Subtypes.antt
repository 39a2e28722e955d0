-- Types of objects, values of constants and defaults fit (IEEE 1076-2008, 6.3 and 6.4.2).
use Rattle.std.proofs.Common.{◌≡◌, ℕ, ◌<◌, Bool, true, false, ◌&&◌, ◌==◌, List, [], ◌∷◌, Option, Some, None, refl, ap, sym, ◌∙◌, subst, arith}
use Rattle.std.specs.Prelude.{nat_lt, is_none}
use Rattle.std.specs.List.{slice_get}
use Rattle.std.specs.Option.{option_map}
use Rattle.std.proofs.lemmas.Bool.{and_parts, and_from, ltb-true, lt-ltb}
use Rattle.vhdl_tree.specs.Tree as t
use Rattle.vhdl_tree.specs.Tree.{Ident, Expr}
use Rattle.vhdl_names_rules.specs.declared.kind.ElementKind.{ElementKind}
use Rattle.vhdl_names_rules.specs.declared.kind.ElementKind.TheVariants.{Element, LogicVector, Unsigned}
use Rattle.vhdl_names_rules.specs.declared.kind.ObjectType.{ObjectType}
use Rattle.vhdl_names_rules.specs.declared.kind.ObjectType.TheVariants.{Elements, Enumeration, Integers, Booleans}
use Rattle.vhdl_names_rules.specs.declared.kind.Function.TheVariants.{ToUnsigned}
use Rattle.vhdl_names_rules.specs.declared.fault.NameProblem.TheVariants.{LeftOut}
use Rattle.vhdl_names_rules.specs.units.Expressions as e
use Rattle.vhdl_names_rules.specs.units.Expressions.{Range}
use Rattle.vhdl_names_rules.specs.units.Statements.{Given}
use Rattle.vhdl_names_rules.specs.units.Units as u
use Rattle.vhdl_names_rules.specs.units.Units.{Form, Fixed}
use Rattle.vhdl_names_rules.specs.Rules.{if_any, given_that, wider}
use Rattle.vhdl_names_rules.specs.Visibility as visibility
use Rattle.vhdl_names_rules.specs.Visibility.{Name, Meaning, DeclaredRange, Sight, declaration, meaning}
use Rattle.vhdl_names_rules.specs.Literals.{nine_of}
use Rattle.vhdl_names_rules.specs.Operators as o
use Rattle.vhdl_names_rules.specs.Operators.{Typed}
use Rattle.vhdl_names_rules.specs.Ranges.{declared_range}
use Rattle.vhdl_names_rules.specs.problems.Places.{range_start}
use Rattle.vhdl_names_rules.specs.Expressions.{typed, typed_each, static_range, value_given}
use Rattle.vhdl_names_rules.specs.Subtypes.{Subtype, TypeClass, integers, booleans, others, class_of, integer_object, boolean_object, subtype_of_class, object_subtype, static_value, single_value, marked, index_range, one_range, subtype, form_range, integers_of, is_range, value_range, integer_subtype, literal_values, named_value, encoded_value, literal_value, fixed, filled_value, plain_value, is_known_value, known_value, fixed_value, declaring_literal}
use Rattle.vhdl_names_rules.specs.sound.Expressions.{Inside, Shape, one, vector, state, number, static_fits, range_fits, any_range_fits, is_elements, shape_of, fits_shape}
use Rattle.vhdl_names_rules.specs.sound.Statements.{given_fits}
use Rattle.vhdl_names_rules.specs.sound.Units.{form_fits, fixed_fits, default_fits, may_be_resolved, object_fits, integers_fit, subtype_range_fits, subtype_fits, generic_type_fits, generic_value_fits, generic_default_fits}
use Rattle.vhdl_names_laws.specs.Meanings.{Counts, kind_shape, type_shape, IsCounted, IsLiteralOf, MeaningFits, TypedFits}
use Rattle.vhdl_names_laws.proofs.Statics.{some_same, Keeps, HasNumbers, static_more, range_more}
use Rattle.vhdl_names_laws.proofs.Shapes.{given, of_either, wider_is, fits_self, kind_is_vector}
use Rattle.vhdl_names_laws.proofs.Ranges.{EachFits, RangeFits, declared_range_fits}
use Rattle.vhdl_names_laws.proofs.More.{test_more, given_more, alone_elements_more, known_given}
use Rattle.vhdl_names_rules.proofs.kept.Keeping.{mapped}
use Rattle.vhdl_names_laws.proofs.Served.{IsServed, serving, meant}
use Rattle.vhdl_names_laws.proofs.Expressions.{typed_fits, each_fits, static_range_fits}
use Rattle.vhdl_names_laws.proofs.Values.{same_count, literal_values_fit, given_is}
use Rattle.vhdl_names_rules.proofs.laws.Rules.{comes, kept}

-- ---- more inside

integers_more : (i j : Inside) → HasNumbers i j → (b : u.Integers) → integers_fit i b ≡ true → integers_fit j b ≡ true
integers_more i j h (u.of_type w) k = refl
integers_more i j h (u.of_range m) k = let a : m < i.ranges = ltb-true m i.ranges k in lt-ltb m j.ranges (omega (arith, a, h.ranges))

subtype_range_more : (i j : Inside) → HasNumbers i j → (r : Option (ℕ × Range)) → subtype_range_fits i r ≡ true → subtype_range_fits j r ≡ true
subtype_range_more i j h None k = refl
subtype_range_more i j h (Some r) k = range_more i j h r.1 k

pub integer_subtype_more : (i j : Inside) → HasNumbers i j → (s : u.IntegerSubtype) → subtype_fits i s ≡ true → subtype_fits j s ≡ true
integer_subtype_more i j h s k =
    let a = and_parts (integers_fit i s.base) (subtype_range_fits i s.range) k in
    and_from (integers_fit j s.base) (subtype_range_fits j s.range) (integers_more i j h s.base a.0) (subtype_range_more i j h s.range a.1)

pub form_more : (i j : Inside) → HasNumbers i j → (f : Form) → form_fits i f ≡ true → form_fits j f ≡ true
form_more i j h u.element k = refl
form_more i j h (u.vector r) k = range_more i j h r k
form_more i j h (u.enumeration count) k = k
form_more i j h (u.Form.number s) k = integer_subtype_more i j h s k
form_more i j h u.boolean k = refl

constant_more : (z : Shape) (a b : Option Form) → ((f : Form) → a ≡ Some f → b ≡ Some f) → fits_shape z (option_map shape_of a) ≡ true → fits_shape z (option_map shape_of b) ≡ true
constant_more z None b h k = absurd cc
constant_more z (Some f) b h k = ap (λ b. fits_shape z (option_map shape_of b)) (h f refl) ∙ k

pub fixed_more : (i j : Inside) → HasNumbers i j → Keeps i.constants j.constants → (z : Shape) (v : Fixed) → fixed_fits i z v ≡ true → fixed_fits j z v ≡ true
fixed_more i j h c one (u.Fixed.literal (a ∷ [])) k = k
fixed_more i j h c vector (u.Fixed.literal (a ∷ vs)) k = k
fixed_more i j h c (state n) (u.Fixed.literal vs) k = absurd cc
fixed_more i j h c (state n) (u.Fixed.constant m) k = absurd cc
fixed_more i j h c number (u.Fixed.literal vs) k = absurd cc
fixed_more i j h c number (u.Fixed.constant m) k = absurd cc
fixed_more i j h c one (u.Fixed.encoded a b) k = absurd cc
fixed_more i j h c vector (u.Fixed.encoded a b) k =
    let p = and_parts (static_fits i a) (static_fits i b) k in
    and_from (static_fits j a) (static_fits j b) (static_more i j h a p.0) (static_more i j h b p.1)
fixed_more i j h c (state n) (u.Fixed.encoded a b) k = absurd cc
fixed_more i j h c number (u.Fixed.encoded a b) k = absurd cc
fixed_more i j h c one (u.Fixed.filled v) k = absurd cc
fixed_more i j h c vector (u.Fixed.filled v) k = refl
fixed_more i j h c (state n) (u.Fixed.filled v) k = absurd cc
fixed_more i j h c number (u.Fixed.filled v) k = absurd cc
fixed_more i j h c one (u.Fixed.given g) k = given_more i j h c one g k
fixed_more i j h c vector (u.Fixed.given g) k = given_more i j h c vector g k
fixed_more i j h c (state n) (u.Fixed.given g) k = given_more i j h c (state n) g k
fixed_more i j h c number (u.Fixed.given g) k = given_more i j h c number g k
fixed_more i j h c one (u.Fixed.aggregate at es) k = absurd cc
fixed_more i j h c vector (u.Fixed.aggregate at es) k = alone_elements_more i j h c es k
fixed_more i j h c (state n) (u.Fixed.aggregate at es) k = absurd cc
fixed_more i j h c number (u.Fixed.aggregate at es) k = absurd cc
fixed_more i j h c number (u.Fixed.integer n) k = static_more i j h n k
fixed_more i j h c one (u.Fixed.truth b) k = test_more i j h b k
fixed_more i j h c z (u.Fixed.constant m) k = constant_more z (slice_get i.constants m) (slice_get j.constants m) (c m) k
fixed_more i j h c _ _ k = k

pub default_more : (i j : Inside) → HasNumbers i j → Keeps i.constants j.constants → (z : Shape) (v : Option Fixed) → default_fits i z v ≡ true → default_fits j z v ≡ true
default_more i j h c z None k = refl
default_more i j h c z (Some v) k = fixed_more i j h c z v k

pub generic_type_more : (i j : Inside) → HasNumbers i j → (w : u.GenericType) → generic_type_fits i w ≡ true → generic_type_fits j w ≡ true
generic_type_more i j h (u.integers s) k = integer_subtype_more i j h s k
generic_type_more i j h u.truths k = refl
generic_type_more i j h (u.values f) k =
    let a = and_parts (form_fits i f) (is_elements (shape_of f)) k in
    and_from (form_fits j f) (is_elements (shape_of f)) (form_more i j h f a.0) a.1

generic_value_more : (i j : Inside) → HasNumbers i j → Keeps i.constants j.constants → (w : u.GenericType) (v : Fixed) → generic_value_fits i w v ≡ true → generic_value_fits j w v ≡ true
generic_value_more i j h c (u.integers s) (u.Fixed.integer n) k = static_more i j h n k
generic_value_more i j h c u.truths (u.Fixed.truth t) k = test_more i j h t k
generic_value_more i j h c (u.values f) v k = fixed_more i j h c (shape_of f) v k
generic_value_more i j h c _ _ k = absurd cc

pub generic_default_more : (i j : Inside) → HasNumbers i j → Keeps i.constants j.constants → (w : u.GenericType) (v : Option Fixed) → generic_default_fits i w v ≡ true → generic_default_fits j w v ≡ true
generic_default_more i j h c w None k = refl
generic_default_more i j h c w (Some v) k = generic_value_more i j h c w v k

pub object_more : (i j : Inside) → HasNumbers i j → Keeps i.constants j.constants → (o : u.Object) → object_fits i o ≡ true → object_fits j o ≡ true
object_more i j h c o k =
    let a = and_parts (form_fits i o.form && may_be_resolved o.form o.is_resolved) (default_fits i (shape_of o.form) o.default) k in
    let b = and_parts (form_fits i o.form) (may_be_resolved o.form o.is_resolved) a.0 in
    and_from (form_fits j o.form && may_be_resolved o.form o.is_resolved) (default_fits j (shape_of o.form) o.default)
    (and_from (form_fits j o.form) (may_be_resolved o.form o.is_resolved) (form_more i j h o.form b.0) b.1)
    (default_more i j h c (shape_of o.form) o.default a.1)

-- ---- types of objects

pub record SubtypeFits (i : Inside) (counts : Counts) (s : Subtype) : Type 0 where
  pub form : form_fits i s.form ≡ true
  pub resolved : may_be_resolved s.form s.is_resolved ≡ true
  pub shape : shape_of s.form ≡ type_shape s.type
  pub counted : IsCounted counts s.type

marked_fits : (i : Inside) (counts : Counts) (d : Meaning) (r : Option Range) (s : Subtype) → MeaningFits i counts d → any_range_fits i r ≡ true → marked d r ≡ Some s → SubtypeFits i counts s
marked_fits i counts (visibility.element_type b) None s h f q =
    subst (SubtypeFits i counts) (some_same _ s q) (record { form = refl; resolved = refl; shape = refl; counted = tt })
marked_fits i counts (visibility.vector_type k b) (Some r) s h f q =
    subst (SubtypeFits i counts) (some_same _ s q) (record { form = f; resolved = refl; shape = sym h; counted = tt })
marked_fits i counts (visibility.enumeration_type n count) None s h f q =
    subst (SubtypeFits i counts) (some_same _ s q) (record { form = h.0; resolved = refl; shape = refl; counted = h.1 })
marked_fits i counts _ _ s h f q = absurd cc

index_range_fits : (i : Inside) (counts : Counts) (sight : Sight) (r : t.Constraint) (y : Range) → IsServed i counts sight → index_range sight r ≡ Some y → range_fits i y ≡ true
index_range_fits i counts sight (t.index_range r) y h q = static_range_fits i counts sight r y h q
index_range_fits i counts sight (t.value_range r) y h q = absurd cc

any_range : (i : Inside) (counts : Counts) (sight : Sight) (r : Option t.Constraint) (y : Option Range) → IsServed i counts sight → if_any (index_range sight) r ≡ Some y → any_range_fits i y ≡ true
any_range i counts sight None y h q = subst (λ y. any_range_fits i y ≡ true) (some_same None y q) refl
any_range i counts sight (Some r) y h q =
    let a = comes (index_range sight r) _ y q in
    subst (λ y. any_range_fits i y ≡ true) (some_same (Some a.value) y a.rest) (index_range_fits i counts sight r a.value h a.is)

one_range_fits : (i : Inside) (d : Option DeclaredRange) (r y : Option Range) → RangeFits i d → any_range_fits i r ≡ true → one_range d r ≡ Some y → any_range_fits i y ≡ true
one_range_fits i None r y h f q = subst (λ y. any_range_fits i y ≡ true) (some_same r y q) f
one_range_fits i (Some d) None y h f q = subst (λ y. any_range_fits i y ≡ true) (some_same (Some (declared_range d)) y q) (declared_range_fits i d h)
one_range_fits i (Some d) (Some r) y h f q = absurd cc

-- a port is no type
mark_range_fits : (i : Inside) (m : Meaning) (d : Option DeclaredRange) (r y : Option Range) (s : Subtype) → (visibility.is_port m ≡ false → RangeFits i d) → any_range_fits i r ≡ true
    → one_range d r ≡ Some y → marked m y ≡ Some s → any_range_fits i y ≡ true
mark_range_fits i (visibility.port k mode kind) d r y s h f q g = absurd cc
mark_range_fits i _ d r y s h f q g = one_range_fits i d r y (h refl) f q

pub subtype_is : (i : Inside) (counts : Counts) (sight : Sight) (d : t.Subtype) (s : Subtype) → IsServed i counts sight → subtype sight d ≡ Some s → SubtypeFits i counts s
unfolding subtype
subtype_is i counts sight d s h q =
    let a = comes (if_any (index_range sight) d.constraint) _ s q in
    let b = comes (declaration sight d.mark.text) _ s a.rest in
    let c = comes (one_range b.value.range a.value) _ s b.rest in
    let f = serving i counts sight h d.mark.text b.value b.is in
    marked_fits i counts b.value.meaning c.value s f.meaning
    (mark_range_fits i b.value.meaning b.value.range a.value c.value s f.mark (any_range i counts sight d.constraint a.value h a.is) c.is c.rest) c.rest

pub form_range_fits : (i : Inside) (f : Form) → form_fits i f ≡ true → any_range_fits i (form_range f) ≡ true
form_range_fits i u.element h = refl
form_range_fits i (u.vector r) h = h
form_range_fits i _ h = refl

-- ---- subtypes of integers

integers_are : (i : Inside) (m : Meaning) (d : Option DeclaredRange) (name : Name) (g : Bool) (b : u.Integers) → (visibility.is_port m ≡ false → RangeFits i d)
    → integers_of (record { name = name; meaning = m; range = d; is_global = g }) ≡ Some b → integers_fit i b ≡ true
integers_are i (visibility.integer_type w) None name g b h q = subst (λ b. integers_fit i b ≡ true) (some_same (u.of_type w) b q) refl
integers_are i (visibility.integer_type w) (Some d) name g b h q = subst (λ b. integers_fit i b ≡ true) (some_same (u.of_range d.number) b q) (h refl)
integers_are i _ d name g b h q = absurd cc

value_range_fits : (i : Inside) (counts : Counts) (sight : Sight) (r : t.Constraint) (y : ℕ × Range) → IsServed i counts sight → value_range sight r ≡ Some y → range_fits i y.1 ≡ true
value_range_fits i counts sight (t.index_range r) y h q = absurd cc
value_range_fits i counts sight (t.value_range r) y h q =
    let k = kept (is_range r) _ y q in
    let a = comes (static_range sight r) _ y k.1 in
    subst (λ (y : ℕ × Range). range_fits i y.1 ≡ true) (some_same (range_start r, a.value) y a.rest) (static_range_fits i counts sight r a.value h a.is)

any_value_range : (i : Inside) (counts : Counts) (sight : Sight) (r : Option t.Constraint) (y : Option (ℕ × Range)) → IsServed i counts sight → if_any (value_range sight) r ≡ Some y
    → subtype_range_fits i y ≡ true
any_value_range i counts sight None y h q = subst (λ y. subtype_range_fits i y ≡ true) (some_same None y q) refl
any_value_range i counts sight (Some r) y h q =
    let a = comes (value_range sight r) _ y q in
    subst (λ y. subtype_range_fits i y ≡ true) (some_same (Some a.value) y a.rest) (value_range_fits i counts sight r a.value h a.is)

pub integer_subtype_is : (i : Inside) (counts : Counts) (sight : Sight) (d : t.Subtype) (s : u.IntegerSubtype) → IsServed i counts sight → integer_subtype sight d ≡ Some s → subtype_fits i s ≡ true
unfolding integer_subtype
integer_subtype_is i counts sight d s h q =
    let a = comes (if_any (value_range sight) d.constraint) _ s q in
    let b = comes (declaration sight d.mark.text) _ s a.rest in
    let c = comes (integers_of b.value) _ s b.rest in
    let f = serving i counts sight h d.mark.text b.value b.is in
    subst (λ s. subtype_fits i s ≡ true) (some_same (record { base = c.value; range = a.value }) s c.rest)
    (and_from (integers_fit i c.value) (subtype_range_fits i a.value) (integers_are i b.value.meaning b.value.range b.value.name b.value.is_global c.value f.mark c.is)
    (any_value_range i counts sight d.constraint a.value h a.is))

-- of a signal, port or variable
class_is : (i : Inside) (counts : Counts) (sight : Sight) (d : t.Subtype) (c : TypeClass) (s : Subtype) → IsServed i counts sight → subtype_of_class sight d c ≡ Some s → SubtypeFits i counts s
class_is i counts sight d integers s h q =
    let a = comes (integer_subtype sight d) _ s (wider_is sight.language (integer_object sight d) s q) in
    subst (SubtypeFits i counts) (some_same _ s a.rest) (record { form = integer_subtype_is i counts sight d a.value h a.is; resolved = refl; shape = refl; counted = tt })
class_is i counts sight d booleans s h q =
    let a = kept (is_none d.constraint) _ s (wider_is sight.language (boolean_object d) s q) in
    subst (SubtypeFits i counts) (some_same _ s a.1) (record { form = refl; resolved = refl; shape = refl; counted = tt })
class_is i counts sight d others s h q = subtype_is i counts sight d s h q

pub object_subtype_is : (i : Inside) (counts : Counts) (sight : Sight) (d : t.Subtype) (s : Subtype) → IsServed i counts sight → object_subtype sight d ≡ Some s → SubtypeFits i counts s
unfolding object_subtype
object_subtype_is i counts sight d s h q =
    let m = comes (meaning sight d.mark.text) _ s q in
    class_is i counts sight d (class_of m.value) s h m.rest

-- ---- values

-- what is named: a constant of the kind, or a literal of the enumeration
named_value_fits : (i : Inside) (counts : Counts) (type : ObjectType) (d : Meaning) (v : Fixed) → IsCounted counts type → MeaningFits i counts d
    → named_value type d ≡ Some v → fixed_fits i (type_shape type) v ≡ true
named_value_fits i counts (Elements Element) (visibility.constant l Element vs) v n h q =
    subst (λ v. fixed_fits i one v ≡ true) (some_same (u.Fixed.constant l) v q) (fits_self one (option_map shape_of (slice_get i.constants l)) h.0.shape)
named_value_fits i counts (Elements LogicVector) (visibility.constant l LogicVector vs) v n h q =
    subst (λ v. fixed_fits i vector v ≡ true) (some_same (u.Fixed.constant l) v q) (fits_self vector (option_map shape_of (slice_get i.constants l)) h.0.shape)
named_value_fits i counts (Elements Unsigned) (visibility.constant l Unsigned vs) v n h q =
    subst (λ v. fixed_fits i vector v ≡ true) (some_same (u.Fixed.constant l) v q) (fits_self vector (option_map shape_of (slice_get i.constants l)) h.0.shape)
named_value_fits i counts (Enumeration e count) (visibility.literal d size p) v n h q =
    let a = given (d == e) (u.Fixed.position p) v q in
    let g = same_count counts d e size count a.holds h.1 n in
    subst (λ v. fixed_fits i (state count) v ≡ true) a.is (ap (nat_lt p) (sym g) ∙ h.0)
named_value_fits i counts _ _ v n h q = absurd cc

-- to_unsigned
encoded_of_unsigned : (i : Inside) (counts : Counts) (d : Meaning) (xs : List Typed) (v : Fixed) → EachFits i counts xs
    → encoded_value (Elements Unsigned) d xs ≡ Some v → fixed_fits i vector v ≡ true
encoded_of_unsigned i counts (visibility.function ToUnsigned) (o.integer n ∷ o.integer size ∷ []) v h q =
    subst (λ v. fixed_fits i vector v ≡ true) (some_same (u.Fixed.encoded n size) v q) (and_from (static_fits i n) (static_fits i size) h.0 h.1.0)
encoded_of_unsigned i counts _ _ v h q = absurd cc

encoded_fits : (i : Inside) (counts : Counts) (type : ObjectType) (d : Meaning) (xs : List Typed) (v : Fixed) → EachFits i counts xs
    → encoded_value type d xs ≡ Some v → fixed_fits i (type_shape type) v ≡ true
encoded_fits i counts (Elements Unsigned) d xs v h q = encoded_of_unsigned i counts d xs v h q
encoded_fits i counts _ d xs v h q = absurd cc

literal_value_fits : (i : Inside) (type : ObjectType) (d : Expr) (v : Fixed) → literal_value type d ≡ Some v → fixed_fits i (type_shape type) v ≡ true
literal_value_fits i (Elements k) d v q =
    let a = mapped u.Fixed.literal (literal_values k d) v q in
    subst (λ v. fixed_fits i (kind_shape k) v ≡ true) a.is (literal_values_fit i k d a.value a.from)
literal_value_fits i _ d v q = absurd cc

fixed_is : (i : Inside) (counts : Counts) (sight : Sight) (type : ObjectType) (d : Expr) (v : Fixed) → IsServed i counts sight → IsCounted counts type
    → fixed sight type d ≡ Some v → fixed_fits i (type_shape type) v ≡ true
fixed_is i counts sight type (t.named a t.plain None) v h n q =
    let b = comes (meaning sight a.text) (named_value type) v q in
    named_value_fits i counts type b.value v n (meant i counts sight h a.text b.value b.is) b.rest
fixed_is i counts sight type (t.named a (t.arguments es) None) v h n q =
    let b = comes (meaning sight a.text) _ v q in
    let c = comes (typed_each sight es) (encoded_value type b.value) v b.rest in
    encoded_fits i counts type b.value c.value v (each_fits es i counts sight c.value h c.is) c.rest
fixed_is i counts sight type d v h n q = literal_value_fits i type d v q

filled_of : (i : Inside) (type : ObjectType) (d : Expr) (v : Fixed) → filled_value type d ≡ Some v → fixed_fits i (type_shape type) v ≡ true
filled_of i (Elements k) (t.character at c) v q =
    let a = kept (o.is_vector k) _ v q in
    let b = comes (nine_of c) (λ v. Some (u.Fixed.filled v)) v a.1 in
    subst (λ v. fixed_fits i (kind_shape k) v ≡ true) (some_same (u.Fixed.filled b.value) v b.rest) (ap (λ z. fixed_fits i z (u.Fixed.filled b.value)) (kind_is_vector k a.0))
filled_of i _ _ v q = absurd cc

plain_value_fits : (i : Inside) (counts : Counts) (sight : Sight) (type : ObjectType) (d : t.Value) (v : Fixed) → IsServed i counts sight → IsCounted counts type
    → plain_value sight type d ≡ Some v → fixed_fits i (type_shape type) v ≡ true
plain_value_fits i counts sight type (t.single d) v h n q = fixed_is i counts sight type d v h n q
plain_value_fits i counts sight type (t.others at d) v h n q = filled_of i type d v q

-- a value that names no signal and no variable
given_is_fixed : (i : Inside) (x : Shape) (g : Given) → is_known_value g ≡ true → given_fits i x g ≡ true → fixed_fits i x (u.Fixed.given g) ≡ true
given_is_fixed i one g k h = known_given i one g k h
given_is_fixed i vector g k h = known_given i vector g k h
given_is_fixed i (state n) g k h = known_given i (state n) g k h
given_is_fixed i number g k h = known_given i number g k h

pub known_fits : (i : Inside) (type : ObjectType) (g : Given) (v : Fixed) → given_fits i (type_shape type) g ≡ true → given_that LeftOut (is_known_value g) (u.Fixed.given g) ≡ Some v
    → fixed_fits i (type_shape type) v ≡ true
known_fits i type g v h q =
    let a = given (is_known_value g) (u.Fixed.given g) v q in
    subst (λ v. fixed_fits i (type_shape type) v ≡ true) a.is (given_is_fixed i (type_shape type) g a.holds h)

-- an integer, and a boolean
static_value_fits : (i : Inside) (counts : Counts) (type : ObjectType) (y : Typed) (v : Fixed) → TypedFits i counts y → static_value type y ≡ Some v → fixed_fits i (type_shape type) v ≡ true
static_value_fits i counts Integers (o.integer n) v h q = subst (λ v. fixed_fits i number v ≡ true) (some_same (u.Fixed.integer n) v q) h
static_value_fits i counts Booleans (o.truth (e.Test.fixed b)) v h q = subst (λ v. fixed_fits i one v ≡ true) (some_same (u.Fixed.truth b) v q) h
static_value_fits i counts _ _ v h q = absurd cc

single_value_fits : (i : Inside) (counts : Counts) (sight : Sight) (type : ObjectType) (d : t.Value) (v : Fixed) → IsServed i counts sight → single_value sight type d ≡ Some v
    → fixed_fits i (type_shape type) v ≡ true
single_value_fits i counts sight type (t.single d) v h q =
    let a = comes (typed sight d) (static_value type) v q in
    static_value_fits i counts type a.value v (typed_fits d i counts sight a.value h a.is) a.rest
single_value_fits i counts sight type (t.others at d) v h q = absurd cc

pub fixed_value_fits : (i : Inside) (counts : Counts) (sight : Sight) (type : ObjectType) (r : Option Range) (d : t.Value) (v : Fixed) → IsServed i counts sight → any_range_fits i r ≡ true
    → IsCounted counts type → fixed_value sight type r d ≡ Some v → fixed_fits i (type_shape type) v ≡ true
unfolding fixed_value
fixed_value_fits i counts sight Integers r d v h f n q = single_value_fits i counts sight Integers d v h q
fixed_value_fits i counts sight Booleans r d v h f n q = single_value_fits i counts sight Booleans d v h q
fixed_value_fits i counts sight type r d v h f n q =
    of_either (λ v. fixed_fits i (type_shape type) v ≡ true) (plain_value sight type d) (wider sight.language (known_value sight type r d)) v
    (λ z e. plain_value_fits i counts sight type d z h n e)
    (λ z e.
    let a = comes (value_given sight type r d) _ z (wider_is sight.language (known_value sight type r d) z e) in
    known_fits i type a.value z (given_is i counts sight type r d a.value h f n a.is) a.rest) q

pub any_default_fits : (i : Inside) (counts : Counts) (sight : Sight) (type : ObjectType) (r : Option Range) (d : Option t.Value) (v : Option Fixed) → IsServed i counts sight
    → any_range_fits i r ≡ true → IsCounted counts type → if_any (fixed_value sight type r) d ≡ Some v → default_fits i (type_shape type) v ≡ true
any_default_fits i counts sight type r None v h f n q = subst (λ v. default_fits i (type_shape type) v ≡ true) (some_same None v q) refl
any_default_fits i counts sight type r (Some d) v h f n q =
    let a = comes (fixed_value sight type r d) _ v q in
    subst (λ v. default_fits i (type_shape type) v ≡ true) (some_same (Some a.value) v a.rest) (fixed_value_fits i counts sight type r d a.value h f n a.is)

-- whether an object fits doesn't hang on its name
abbrev pub no_name : Ident
no_name = record { at = 0; text = [] }

-- an object of a subtype with a default
pub object_is : (i : Inside) (counts : Counts) (sight : Sight) (s : Subtype) (d : Option t.Value) (v : Option Fixed) → IsServed i counts sight → SubtypeFits i counts s
    → if_any (fixed_value sight s.type (form_range s.form)) d ≡ Some v → (form_fits i s.form && may_be_resolved s.form s.is_resolved && default_fits i (shape_of s.form) v) ≡ true
object_is i counts sight s d v h f q =
    and_from (form_fits i s.form && may_be_resolved s.form s.is_resolved) (default_fits i (shape_of s.form) v)
    (and_from (form_fits i s.form) (may_be_resolved s.form s.is_resolved) f.form f.resolved)
    (ap (λ z. default_fits i z v) f.shape ∙ any_default_fits i counts sight s.type (form_range s.form) d v h (form_range_fits i s.form f.form) f.counted q)

-- the literal that declares a constant
pub declaring_fits : (i : Inside) (kind : ElementKind) (v : Fixed) → fixed_fits i (kind_shape kind) v ≡ true → IsLiteralOf i kind (declaring_literal v)
declaring_fits i kind (u.Fixed.literal vs) h = h
declaring_fits i kind _ h = tt
