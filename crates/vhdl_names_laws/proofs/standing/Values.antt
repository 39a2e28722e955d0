-- The bytes of types of objects, and of values that are fixed, are those of pieces of their text.
use Rattle.std.proofs.Common.{◌≡◌, ℕ, ◌==◌, List, [], ◌∷◌, Option, Some, None, subst}
use Rattle.std.specs.Prelude.{is_none}
use Rattle.std.specs.List.{AllByRecursion}
use Rattle.vhdl_tree.specs.Tree as t
use Rattle.vhdl_tree.specs.Tree.{Expr}
use Rattle.vhdl_tree.specs.Pieces.{spell_option}
use Rattle.vhdl_tree.specs.grammar.Expressions.{spell, spell_suffix, spell_exprs, spell_attribute, spell_discrete_range, spell_value}
use Rattle.vhdl_tree.specs.grammar.Subtypes.{spell_constraint, spell_subtype, spell_default}
use Rattle.vhdl_names_rules.specs.declared.kind.ElementKind.TheVariants.{Element, LogicVector, Unsigned}
use Rattle.vhdl_names_rules.specs.declared.kind.ObjectType.{ObjectType}
use Rattle.vhdl_names_rules.specs.declared.kind.ObjectType.TheVariants.{Elements, Enumeration, Integers, Booleans}
use Rattle.vhdl_names_rules.specs.declared.kind.Function.TheVariants.{ToUnsigned}
use Rattle.vhdl_names_rules.specs.units.Expressions as e
use Rattle.vhdl_names_rules.specs.units.Expressions.{Range, StaticTest}
use Rattle.vhdl_names_rules.specs.units.Statements.{Given}
use Rattle.vhdl_names_rules.specs.declared.fault.NameProblem.TheVariants.{LeftOut}
use Rattle.vhdl_names_rules.specs.units.Units as u
use Rattle.vhdl_names_rules.specs.units.Units.{Form, Fixed}
use Rattle.vhdl_names_rules.specs.units.Bytes.{if_any_bytes, static_bytes, range_bytes, static_test_bytes, given_bytes, form_bytes, fixed_bytes, subtype_bytes}
use Rattle.vhdl_names_rules.specs.Rules.{if_any, given_that, wider}
use Rattle.vhdl_names_rules.specs.Visibility as visibility
use Rattle.vhdl_names_rules.specs.Visibility.{Meaning, DeclaredRange, Sight, declaration, meaning}
use Rattle.vhdl_names_rules.specs.Literals.{nine_of}
use Rattle.vhdl_names_rules.specs.Operators as o
use Rattle.vhdl_names_rules.specs.Operators.{Typed}
use Rattle.vhdl_names_rules.specs.Ranges.{declared_range}
use Rattle.vhdl_names_rules.specs.problems.Places.{range_start}
use Rattle.vhdl_names_rules.specs.Declarations.{static_test}
use Rattle.vhdl_names_rules.specs.Expressions.{typed, typed_each, static_range, as_static_test, value_given}
use Rattle.vhdl_names_rules.specs.Subtypes.{Subtype, TypeClass, integers, booleans, others, class_of, integer_object, boolean_object, subtype_of_class, object_subtype, static_value, single_value, marked, index_range, one_range, subtype, form_range, integers_of, is_range, value_range, integer_subtype, literal_values, named_value, encoded_value, literal_value, fixed, filled_value, plain_value, is_known_value, known_value, fixed_value}
use Rattle.vhdl_names_rules.proofs.laws.Rules.{comes, kept}
use Rattle.vhdl_names_laws.proofs.Statics.{some_same}
use Rattle.vhdl_names_laws.proofs.Shapes.{given, of_either, wider_is}
use Rattle.vhdl_names_rules.proofs.kept.Keeping.{mapped}
use Rattle.vhdl_names_laws.proofs.placed.Told.{Stand, first}
use Rattle.vhdl_names_laws.proofs.placed.Starts.{range_stands}
use Rattle.vhdl_names_laws.proofs.standing.Holding.{Hold, hold_both, TypedHolds}
use Rattle.vhdl_names_laws.proofs.standing.Expressions.{typed_holds, exprs_hold, static_range_holds, static_condition_holds, value_given_holds}

-- ---- types of objects

index_range_holds : (P : ℕ → Type 0) (sight : Sight) (r : t.Constraint) (y : Range) → Stand P (spell_constraint r) → index_range sight r ≡ Some y → Hold P (range_bytes y)
index_range_holds P sight (t.index_range r) y h q = static_range_holds P sight r y (first P (spell_discrete_range r) _ h.1) q
index_range_holds P sight (t.value_range r) y h q = absurd cc

range_holds : (P : ℕ → Type 0) (sight : Sight) (r : Option t.Constraint) (y : Option Range) → Stand P (spell_option spell_constraint r) → if_any (index_range sight) r ≡ Some y
    → Hold P (if_any_bytes range_bytes y)
range_holds P sight None y h q = subst (λ y. Hold P (if_any_bytes range_bytes y)) (some_same None y q) tt
range_holds P sight (Some r) y h q =
    let a = comes (index_range sight r) _ y q in
    subst (λ y. Hold P (if_any_bytes range_bytes y)) (some_same (Some a.value) y a.rest) (index_range_holds P sight r a.value h a.is)

one_range_holds : (P : ℕ → Type 0) (d : Option DeclaredRange) (r y : Option Range) → Hold P (if_any_bytes range_bytes r) → one_range d r ≡ Some y → Hold P (if_any_bytes range_bytes y)
one_range_holds P None r y h q = subst (λ y. Hold P (if_any_bytes range_bytes y)) (some_same r y q) h
one_range_holds P (Some d) None y h q = subst (λ y. Hold P (if_any_bytes range_bytes y)) (some_same (Some (declared_range d)) y q) tt
one_range_holds P (Some d) (Some r) y h q = absurd cc

marked_holds : (P : ℕ → Type 0) (d : Meaning) (r : Option Range) (s : Subtype) → Hold P (if_any_bytes range_bytes r) → marked d r ≡ Some s → Hold P (form_bytes s.form)
marked_holds P (visibility.element_type b) None s h q = subst (λ (s : Subtype). Hold P (form_bytes s.form)) (some_same _ s q) tt
marked_holds P (visibility.vector_type k b) (Some r) s h q = subst (λ (s : Subtype). Hold P (form_bytes s.form)) (some_same _ s q) h
marked_holds P (visibility.enumeration_type n count) None s h q = subst (λ (s : Subtype). Hold P (form_bytes s.form)) (some_same _ s q) tt
marked_holds _ _ _ s h q = absurd cc

pub subtype_holds : (P : ℕ → Type 0) (sight : Sight) (d : t.Subtype) (s : Subtype) → Stand P (spell_subtype d) → subtype sight d ≡ Some s → Hold P (form_bytes s.form)
unfolding subtype
subtype_holds P sight d s h q =
    let a = comes (if_any (index_range sight) d.constraint) _ s q in
    let b = comes (declaration sight d.mark.text) _ s a.rest in
    let c = comes (one_range b.value.range a.value) _ s b.rest in
    marked_holds P b.value.meaning c.value s (one_range_holds P b.value.range a.value c.value (range_holds P sight d.constraint a.value h.1 a.is) c.is) c.rest

pub form_range_holds : (P : ℕ → Type 0) (f : Form) → Hold P (form_bytes f) → Hold P (if_any_bytes range_bytes (form_range f))
form_range_holds P u.element h = tt
form_range_holds P (u.vector r) h = h
form_range_holds _ _ h = tt

-- ---- subtypes of integers

value_range_holds : (P : ℕ → Type 0) (sight : Sight) (r : t.Constraint) (y : ℕ × Range) → Stand P (spell_constraint r) → value_range sight r ≡ Some y → P y.0 × Hold P (range_bytes y.1)
value_range_holds P sight (t.index_range r) y h q = absurd cc
value_range_holds P sight (t.value_range r) y h q =
    let k = kept (is_range r) _ y q in
    let a = comes (static_range sight r) _ y k.1 in
    subst (λ (y : ℕ × Range). P y.0 × Hold P (range_bytes y.1)) (some_same (range_start r, a.value) y a.rest) (range_stands P r h.1, static_range_holds P sight r a.value h.1 a.is)

any_value_range_holds : (P : ℕ → Type 0) (sight : Sight) (r : Option t.Constraint) (y : Option (ℕ × Range)) → Stand P (spell_option spell_constraint r) → if_any (value_range sight) r ≡ Some y
    → Hold P (if_any_bytes (λ (r : ℕ × Range). r.0 ∷ range_bytes r.1) y)
any_value_range_holds P sight None y h q = subst (λ y. Hold P (if_any_bytes (λ (r : ℕ × Range). r.0 ∷ range_bytes r.1) y)) (some_same None y q) tt
any_value_range_holds P sight (Some r) y h q =
    let a = comes (value_range sight r) _ y q in
    let g = value_range_holds P sight r a.value h a.is in
    subst (λ y. Hold P (if_any_bytes (λ (r : ℕ × Range). r.0 ∷ range_bytes r.1) y)) (some_same (Some a.value) y a.rest) (g.0, g.1)

pub integer_subtype_holds : (P : ℕ → Type 0) (sight : Sight) (d : t.Subtype) (s : u.IntegerSubtype) → Stand P (spell_subtype d) → integer_subtype sight d ≡ Some s → Hold P (subtype_bytes s)
unfolding integer_subtype
integer_subtype_holds P sight d s h q =
    let a = comes (if_any (value_range sight) d.constraint) _ s q in
    let b = comes (declaration sight d.mark.text) _ s a.rest in
    let c = comes (integers_of b.value) _ s b.rest in
    subst (λ s. Hold P (subtype_bytes s)) (some_same (record { base = c.value; range = a.value }) s c.rest) (any_value_range_holds P sight d.constraint a.value h.1 a.is)

-- of a signal, port or variable
class_holds : (P : ℕ → Type 0) (sight : Sight) (d : t.Subtype) (c : TypeClass) (s : Subtype) → Stand P (spell_subtype d) → subtype_of_class sight d c ≡ Some s → Hold P (form_bytes s.form)
class_holds P sight d integers s h q =
    let a = comes (integer_subtype sight d) _ s (wider_is sight.language (integer_object sight d) s q) in
    subst (λ (s : Subtype). Hold P (form_bytes s.form)) (some_same _ s a.rest) (integer_subtype_holds P sight d a.value h a.is)
class_holds P sight d booleans s h q =
    let a = kept (is_none d.constraint) _ s (wider_is sight.language (boolean_object d) s q) in
    subst (λ (s : Subtype). Hold P (form_bytes s.form)) (some_same _ s a.1) tt
class_holds P sight d others s h q = subtype_holds P sight d s h q

pub object_subtype_holds : (P : ℕ → Type 0) (sight : Sight) (d : t.Subtype) (s : Subtype) → Stand P (spell_subtype d) → object_subtype sight d ≡ Some s → Hold P (form_bytes s.form)
unfolding object_subtype
object_subtype_holds P sight d s h q =
    let m = comes (meaning sight d.mark.text) _ s q in
    class_holds P sight d (class_of m.value) s h m.rest

-- ---- values that are fixed

named_value_holds : (P : ℕ → Type 0) (type : ObjectType) (d : Meaning) (v : Fixed) → named_value type d ≡ Some v → Hold P (fixed_bytes v)
named_value_holds P (Elements Element) (visibility.constant l Element vs) v q = subst (λ v. Hold P (fixed_bytes v)) (some_same (u.Fixed.constant l) v q) tt
named_value_holds P (Elements LogicVector) (visibility.constant l LogicVector vs) v q = subst (λ v. Hold P (fixed_bytes v)) (some_same (u.Fixed.constant l) v q) tt
named_value_holds P (Elements Unsigned) (visibility.constant l Unsigned vs) v q = subst (λ v. Hold P (fixed_bytes v)) (some_same (u.Fixed.constant l) v q) tt
named_value_holds P (Enumeration e count) (visibility.literal d size p) v q =
    let a = given (d == e) (u.Fixed.position p) v q in
    subst (λ v. Hold P (fixed_bytes v)) a.is tt
named_value_holds _ _ _ v q = absurd cc

-- to_unsigned
encoded_of_unsigned : (P : ℕ → Type 0) (d : Meaning) (xs : List Typed) (v : Fixed) → AllByRecursion (TypedHolds P) xs → encoded_value (Elements Unsigned) d xs ≡ Some v
    → Hold P (fixed_bytes v)
encoded_of_unsigned P (visibility.function ToUnsigned) (o.integer n ∷ o.integer size ∷ []) v h q =
    subst (λ v. Hold P (fixed_bytes v)) (some_same (u.Fixed.encoded n size) v q) (hold_both P (static_bytes n) (static_bytes size) h.0 h.1.0)
encoded_of_unsigned _ _ _ v h q = absurd cc

encoded_holds : (P : ℕ → Type 0) (type : ObjectType) (d : Meaning) (xs : List Typed) (v : Fixed) → AllByRecursion (TypedHolds P) xs → encoded_value type d xs ≡ Some v
    → Hold P (fixed_bytes v)
encoded_holds P (Elements Unsigned) d xs v h q = encoded_of_unsigned P d xs v h q
encoded_holds _ _ d xs v h q = absurd cc

literal_value_holds : (P : ℕ → Type 0) (type : ObjectType) (d : Expr) (v : Fixed) → literal_value type d ≡ Some v → Hold P (fixed_bytes v)
literal_value_holds P (Elements k) d v q =
    let a = mapped u.Fixed.literal (literal_values k d) v q in
    subst (λ v. Hold P (fixed_bytes v)) a.is tt
literal_value_holds _ _ d v q = absurd cc

fixed_holds : (P : ℕ → Type 0) (sight : Sight) (type : ObjectType) (d : Expr) (v : Fixed) → Stand P (spell d) → fixed sight type d ≡ Some v → Hold P (fixed_bytes v)
fixed_holds P sight type (t.named a t.plain None) v h q =
    let b = comes (meaning sight a.text) (named_value type) v q in
    named_value_holds P type b.value v b.rest
fixed_holds P sight type (t.named a (t.arguments es) None) v h q =
    let b = comes (meaning sight a.text) _ v q in
    let c = comes (typed_each sight es) (encoded_value type b.value) v b.rest in
    let inner = first P (spell_suffix (t.arguments es)) (spell_option spell_attribute None) h.1 in
    encoded_holds P type b.value c.value v (exprs_hold es P sight c.value (first P (spell_exprs es) _ inner.1) c.is) c.rest
fixed_holds P sight type d v h q = literal_value_holds P type d v q

filled_holds : (P : ℕ → Type 0) (type : ObjectType) (d : Expr) (v : Fixed) → filled_value type d ≡ Some v → Hold P (fixed_bytes v)
filled_holds P (Elements k) (t.character at c) v q =
    let a = kept (o.is_vector k) _ v q in
    let b = comes (nine_of c) (λ v. Some (u.Fixed.filled v)) v a.1 in
    subst (λ v. Hold P (fixed_bytes v)) (some_same (u.Fixed.filled b.value) v b.rest) tt
filled_holds _ _ _ v q = absurd cc

plain_value_holds : (P : ℕ → Type 0) (sight : Sight) (type : ObjectType) (d : t.Value) (v : Fixed) → Stand P (spell_value d) → plain_value sight type d ≡ Some v → Hold P (fixed_bytes v)
plain_value_holds P sight type (t.single d) v h q = fixed_holds P sight type d v h q
plain_value_holds P sight type (t.others at d) v h q = filled_holds P type d v q

pub known_holds : (P : ℕ → Type 0) (g : Given) (v : Fixed) → Hold P (given_bytes g) → given_that LeftOut (is_known_value g) (u.Fixed.given g) ≡ Some v → Hold P (fixed_bytes v)
known_holds P g v h q = let a = given (is_known_value g) (u.Fixed.given g) v q in subst (λ v. Hold P (fixed_bytes v)) a.is h

-- an integer, and a boolean
static_value_holds : (P : ℕ → Type 0) (type : ObjectType) (y : Typed) (v : Fixed) → TypedHolds P y → static_value type y ≡ Some v → Hold P (fixed_bytes v)
static_value_holds P Integers (o.integer n) v h q = subst (λ v. Hold P (fixed_bytes v)) (some_same (u.Fixed.integer n) v q) h
static_value_holds P Booleans (o.truth (e.Test.fixed b)) v h q = subst (λ v. Hold P (fixed_bytes v)) (some_same (u.Fixed.truth b) v q) h
static_value_holds _ _ _ v h q = absurd cc

single_value_holds : (P : ℕ → Type 0) (sight : Sight) (type : ObjectType) (d : t.Value) (v : Fixed) → Stand P (spell_value d) → single_value sight type d ≡ Some v → Hold P (fixed_bytes v)
single_value_holds P sight type (t.single d) v h q =
    let a = comes (typed sight d) (static_value type) v q in
    static_value_holds P type a.value v (typed_holds d P sight a.value h a.is) a.rest
single_value_holds P sight type (t.others at d) v h q = absurd cc

pub fixed_value_holds : (P : ℕ → Type 0) (sight : Sight) (type : ObjectType) (r : Option Range) (d : t.Value) (v : Fixed) → Hold P (if_any_bytes range_bytes r) → Stand P (spell_value d)
    → fixed_value sight type r d ≡ Some v → Hold P (fixed_bytes v)
unfolding fixed_value
fixed_value_holds P sight Integers r d v f h q = single_value_holds P sight Integers d v h q
fixed_value_holds P sight Booleans r d v f h q = single_value_holds P sight Booleans d v h q
fixed_value_holds P sight type r d v f h q =
    of_either (λ v. Hold P (fixed_bytes v)) (plain_value sight type d) (wider sight.language (known_value sight type r d)) v
    (λ z e. plain_value_holds P sight type d z h e)
    (λ z e.
    let a = comes (value_given sight type r d) _ z (wider_is sight.language (known_value sight type r d) z e) in
    known_holds P a.value z (value_given_holds P sight type r d a.value f h a.is) a.rest) q

pub default_holds : (P : ℕ → Type 0) (sight : Sight) (type : ObjectType) (r : Option Range) (d : Option t.Value) (v : Option Fixed) → Hold P (if_any_bytes range_bytes r)
    → Stand P (spell_option spell_default d) → if_any (fixed_value sight type r) d ≡ Some v → Hold P (if_any_bytes fixed_bytes v)
default_holds P sight type r None v f h q = subst (λ v. Hold P (if_any_bytes fixed_bytes v)) (some_same None v q) tt
default_holds P sight type r (Some d) v f h q =
    let a = comes (fixed_value sight type r d) _ v q in
    subst (λ v. Hold P (if_any_bytes fixed_bytes v)) (some_same (Some a.value) v a.rest) (fixed_value_holds P sight type r d a.value f h.1 a.is)

pub test_holds : (P : ℕ → Type 0) (sight : Sight) (d : Expr) (v : StaticTest) → Stand P (spell d) → static_test sight d ≡ Some v → Hold P (static_test_bytes v)
test_holds P sight d v h q = let a = comes (typed sight d) as_static_test v q in static_condition_holds P a.value v (typed_holds d P sight a.value h a.is) a.rest
