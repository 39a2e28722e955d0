-- Subtypes, and values of constants and defaults, that break no rule are given (IEEE 1076-2008, 6.3 and 6.4.2).
use Rattle.std.proofs.Common.{◌≡◌, ℕ, Bool, true, false, not, cond, List, [], ◌∷◌, Option, Some, None, refl, ap, ◌∙◌}
use Rattle.std.specs.Prelude.{is_some, is_none, option_map}
use Rattle.std.specs.Option.{option_or}
use Rattle.vhdl_lexer.specs.declared.language.Language.{Language}
use Rattle.vhdl_lexer.specs.declared.language.Language.TheVariants.{Profile, Wide}
use Rattle.vhdl_tree.specs.declared.operator.Direction.{Direction}
use Rattle.vhdl_tree.specs.Tree as t
use Rattle.vhdl_tree.specs.Tree.{Expr, Ident}
use Rattle.vhdl_names_rules.specs.declared.kind.ElementKind.{ElementKind}
use Rattle.vhdl_names_rules.specs.declared.kind.ElementKind.TheVariants.{Element, LogicVector, Unsigned}
use Rattle.vhdl_names_rules.specs.declared.kind.ObjectType.{ObjectType}
use Rattle.vhdl_names_rules.specs.declared.kind.ObjectType.TheVariants.{Elements, Enumeration, Integers, Booleans}
use Rattle.vhdl_names_rules.specs.declared.fault.NameProblem.TheVariants.{TypeMismatch, LeftOut}
use Rattle.vhdl_names_rules.specs.units.Expressions as forms
use Rattle.vhdl_names_rules.specs.units.Expressions.{Range}
use Rattle.vhdl_names_rules.specs.units.Units as u
use Rattle.vhdl_names_rules.specs.Rules.{◌>>=◌, then_some, if_any, wider}
use Rattle.vhdl_names_rules.specs.Visibility as visibility
use Rattle.vhdl_names_rules.specs.Visibility.{Name, Meaning, DeclaredRange, Declared, Sight, meaning, declaration}
use Rattle.vhdl_names_rules.specs.Literals.{nine_of, values_of_string, values_of_bits}
use Rattle.vhdl_names_rules.specs.Operators as o
use Rattle.vhdl_names_rules.specs.Operators.{Typed}
use Rattle.vhdl_names_rules.specs.Names as names
use Rattle.vhdl_names_rules.specs.Names.{Suffix}
use Rattle.vhdl_names_rules.specs.Ranges.{declared_range}
use Rattle.vhdl_names_rules.specs.Expressions as are
use Rattle.vhdl_names_rules.specs.Expressions.{is_one_name, suffix_of, typed_suffix, typed_each, static_range}
use Rattle.vhdl_names_rules.specs.Subtypes as subtypes
use Rattle.vhdl_names_rules.specs.Subtypes.{Subtype, TypeClass, class_of, integer_object, boolean_object, subtype_of_class, static_value, single_value, marked, one_range, index_range, is_range, value_range, integers_of, named_value, encoded_value, literal_value, literal_values, filled_value, plain_value, is_known_value, known_value}
use Rattle.vhdl_names_rules.specs.problems.Broken.{Broken, nothing, ◌▸◌, unless, lacking, where_given, of_any}
use Rattle.vhdl_names_rules.specs.problems.Places.{start, range_start}
use Rattle.vhdl_names_rules.specs.problems.Operators.{string_problem}
use Rattle.vhdl_names_rules.specs.problems.Expressions as expressions
use Rattle.vhdl_names_rules.specs.problems.Expressions.{is_vector_type}
use Rattle.vhdl_names_rules.specs.problems.Subtypes as broken
use Rattle.vhdl_names_rules.specs.problems.Subtypes.{is_element_type, marked_by, is_marked, mark_problem, is_index_range, suffixed_problem, value_of, value_start}
use Rattle.vhdl_names_rules.proofs.laws.Rules.{comes, some_is}
use Rattle.vhdl_names_rules.proofs.Telling.{IsKept}
use Rattle.vhdl_names_laws.proofs.given.Giving.{IsGiven, this, bound, ruled, same_given, that_given, mapped_given, parts, fails, holds, given, of_given, if_any_given}
use Rattle.vhdl_names_laws.proofs.given.Expressions.{meaning_given, declaration_given, suffix_given, each_typed_given, static_range_given, asked_given, value_given_given}

-- ---- types of objects

-- the range that stands there, and the type with the only range
record MarkedGiven (sight : Sight) (m : Meaning) (own : Option DeclaredRange) (c : Option t.Constraint) : Type 0 where
  range : IsGiven (if_any (index_range sight) c)
  subtype : IsGiven (one_range own range.value >>= λ only. marked m only)

marked_given : (sight : Sight) (m : Meaning) (own : Option DeclaredRange) (c : Option t.Constraint) → marked_by m own c ≡ true → IsKept (of_any (broken.constraint sight) c) → MarkedGiven sight m own c
marked_given sight (visibility.element_type r) None None e h = record { range = this None; subtype = this (record { type = Elements Element; form = u.element; is_resolved = r }) }
marked_given sight (visibility.vector_type k b) None (Some (t.index_range r)) e h =
    let x = static_range_given sight r h in
    record { range = bound (static_range sight r) (λ y. Some (Some y)) x.value x.is (this (Some x.value)); subtype = this (record { type = Elements k; form = u.vector x.value; is_resolved = b }) }
marked_given sight (visibility.vector_type k b) (Some own) None e h = record { range = this None; subtype = this (record { type = Elements k; form = u.vector (declared_range own); is_resolved = b }) }
marked_given sight (visibility.enumeration_type n count) None None e h = record { range = this None; subtype = this (record { type = Enumeration n count; form = u.enumeration count; is_resolved = false }) }
marked_given sight m own c e h = absurd cc

pub subtype_given : (sight : Sight) (s : t.Subtype) → IsKept (broken.subtype sight s) → IsGiven (subtypes.subtype sight s)
unfolding subtypes.subtype
subtype_given sight s h =
    let k = parts _ _ h in
    let l = parts _ _ k.1 in
    let d = declaration_given sight s.mark k.0 in
    let e = holds (mark_problem d.value.meaning) s.mark.at (is_marked d.value s.constraint)
    (of_given (λ d. unless (mark_problem d.meaning) s.mark.at (is_marked d s.constraint)) (declaration sight s.mark.text) d.value d.is l.0) in
    let m = marked_given sight d.value.meaning d.value.range s.constraint e l.1 in
    bound (if_any (index_range sight) s.constraint) (λ range. declaration sight s.mark.text >>= λ mark. one_range mark.range range >>= λ only. marked mark.meaning only) m.range.value m.range.is
    (bound (declaration sight s.mark.text) (λ mark. one_range mark.range m.range.value >>= λ only. marked mark.meaning only) d.value d.is m.subtype)

-- ---- integers

value_range_given : (sight : Sight) (at : ℕ) (c : t.Constraint) → IsKept (unless LeftOut at (not (is_index_range c)) ▸ broken.constraint sight c) → IsGiven (value_range sight c)
value_range_given sight at (t.index_range r) h = absurd (fails LeftOut at (broken.constraint sight (t.index_range r)) h)
value_range_given sight at (t.value_range r) h =
    let k = parts (unless LeftOut at true) (broken.constraint sight (t.value_range r)) h in
    let l = parts _ _ k.1 in
    let x = static_range_given sight r l.1 in
    ruled (is_range r) _ (holds LeftOut (range_start r) (is_range r) l.0)
    (bound (static_range sight r) (λ x. Some (range_start r, x)) x.value x.is (this (range_start r, x.value)))

integers_given : (n : Name) (m : Meaning) (r : Option DeclaredRange) (g : Bool) → class_of m ≡ subtypes.integers → IsGiven (integers_of (record { name = n; meaning = m; range = r; is_global = g }))
integers_given n (visibility.integer_type w) None g h = this (u.of_type w)
integers_given n (visibility.integer_type w) (Some r) g h = this (u.of_range r.number)
integers_given n _ r g h = absurd cc

pub integer_subtype_given : (sight : Sight) (s : t.Subtype) (mark : Declared) → declaration sight s.mark.text ≡ Some mark → class_of mark.meaning ≡ subtypes.integers → IsKept (broken.integer_subtype sight s)
    → IsGiven (subtypes.integer_subtype sight s)
unfolding subtypes.integer_subtype
integer_subtype_given sight s mark d class h =
    let range = if_any_given (λ c. unless LeftOut s.mark.at (not (is_index_range c)) ▸ broken.constraint sight c) (value_range sight) (value_range_given sight s.mark.at) s.constraint h in
    let base = integers_given mark.name mark.meaning mark.range mark.is_global class in
    bound (if_any (value_range sight) s.constraint) _ range.value range.is
    (bound (declaration sight s.mark.text) _ mark d
    (bound (integers_of mark) (λ base. Some (record { base = base; range = range.value })) base.value base.is (this (record { base = base.value; range = range.value }))))

-- ---- signals, ports and variables, by the class of their type

-- what is no integer and no boolean
others_marked : (m : Meaning) (r : Option Range) (x : Subtype) → marked m r ≡ Some x → class_of m ≡ subtypes.others
others_marked (visibility.element_type b) r x h = refl
others_marked (visibility.vector_type k b) r x h = refl
others_marked (visibility.enumeration_type e count) r x h = refl
others_marked _ r x h = absurd cc

record IsOfOthers (sight : Sight) (s : t.Subtype) : Type 0 where
  mark : Declared
  is : declaration sight s.mark.text ≡ Some mark
  class : class_of mark.meaning ≡ subtypes.others

of_others : (sight : Sight) (s : t.Subtype) (x : Subtype) → subtypes.subtype sight s ≡ Some x → IsOfOthers sight s
unfolding subtypes.subtype
of_others sight s x h =
    let range = comes (if_any (index_range sight) s.constraint) _ x h in
    let d = comes (declaration sight s.mark.text) _ x range.rest in
    let only = comes (one_range d.value.range range.value) _ x d.rest in
    record { mark = d.value; is = d.is; class = others_marked d.value.meaning only.value x only.rest }

-- a name that is declared has a meaning
pub meant : (sight : Sight) (n : Ident) (d : Declared) → declaration sight n.text ≡ Some d → meaning sight n.text ≡ Some d.meaning
meant sight n d e = ap (option_map (λ (d : Declared). d.meaning)) e

class_given : (sight : Sight) (s : t.Subtype) (mark : Declared) (c : TypeClass) → sight.language ≡ Wide → declaration sight s.mark.text ≡ Some mark → class_of mark.meaning ≡ c
    → IsKept (broken.object_by sight s c) → IsGiven (subtype_of_class sight s c)
class_given sight s mark subtypes.integers wide d class h =
    let x = integer_subtype_given sight s mark d class h in
    same_given _ (integer_object sight s) (ap (λ l. wider l (integer_object sight s)) wide) (bound (subtypes.integer_subtype sight s) _ x.value x.is (this _))
class_given sight s mark subtypes.booleans wide d class h =
    same_given _ (boolean_object s) (ap (λ l. wider l (boolean_object s)) wide) (ruled (is_none s.constraint) _ (holds LeftOut s.mark.at (is_none s.constraint) h) (this _))
class_given sight s mark subtypes.others wide d class h = subtype_given sight s h

pub object_subtype_given : (sight : Sight) (s : t.Subtype) → IsKept (broken.object_subtype sight s) → IsGiven (subtypes.object_subtype sight s)
unfolding subtypes.object_subtype
object_subtype_given sight s h = by sight.language refl h
  where
    by : (l : Language) → sight.language ≡ l → IsKept (broken.object_subtype_in l sight s) → IsGiven (subtypes.object_subtype sight s)
    by Profile e h =
        let x = subtype_given sight s h in
        let o = of_others sight s x.value x.is in
        bound (meaning sight s.mark.text) (λ m. subtype_of_class sight s (class_of m)) o.mark.meaning (meant sight s.mark o.mark o.is)
        (same_given _ (subtypes.subtype sight s) (ap (subtype_of_class sight s) o.class) x)
    by Wide e h =
        let k = parts _ _ h in
        let d = declaration_given sight s.mark k.0 in
        let m = meant sight s.mark d.value d.is in
        bound (meaning sight s.mark.text) (λ m. subtype_of_class sight s (class_of m)) d.value.meaning m
        (class_given sight s d.value (class_of d.value.meaning) e d.is refl
        (of_given (λ m. broken.object_by sight s (class_of m)) (meaning sight s.mark.text) d.value.meaning m k.1))

-- ---- literals as they stand

pub values_given : (k : ElementKind) (e : Expr) → IsKept (broken.literal (Elements k) e) → IsGiven (literal_values k e)
values_given Element (t.character at c) h = mapped_given (λ v. v ∷ []) (nine_of c) (given TypeMismatch at (nine_of c) (parts _ _ h).1)
values_given LogicVector (t.string at text) h = given (string_problem text) at (values_of_string text) (parts _ _ h).1
values_given LogicVector (t.bits at text) h = given LeftOut at (values_of_bits text) (parts _ _ h).1
values_given Unsigned (t.string at text) h = given (string_problem text) at (values_of_string text) (parts _ _ h).1
values_given Unsigned (t.bits at text) h = given LeftOut at (values_of_bits text) (parts _ _ h).1
values_given _ (t.character at c) h = absurd (fails TypeMismatch at _ h)
values_given _ (t.string at text) h = absurd (fails TypeMismatch at _ h)
values_given _ (t.bits at text) h = absurd (fails TypeMismatch at _ h)
values_given _ _ h = absurd cc

-- a literal is of the nine values
pub no_literal : (type : ObjectType) (e : Expr) → is_element_type type ≡ false → is_vector_type type ≡ false → IsKept (broken.literal type e) → ⊥
no_literal type (t.character at c) f v h = let k = holds TypeMismatch at (is_element_type type) (parts _ _ h).0 in cc
no_literal type (t.string at text) f v h = let k = holds TypeMismatch at (is_vector_type type) (parts _ _ h).0 in cc
no_literal type (t.bits at text) f v h = let k = holds TypeMismatch at (is_vector_type type) (parts _ _ h).0 in cc
no_literal type _ f v h = cc

literal_given : (type : ObjectType) (e : Expr) → IsKept (broken.literal type e) → IsGiven (literal_value type e)
literal_given (Elements k) e h = mapped_given u.Fixed.literal (literal_values k e) (values_given k e h)
literal_given (Enumeration n count) e h = absurd (no_literal (Enumeration n count) e refl refl h)
literal_given Integers e h = absurd (no_literal Integers e refl refl h)
literal_given Booleans e h = absurd (no_literal Booleans e refl refl h)

-- ---- values

-- what a name with this behind it is
value_of_name : (sight : Sight) (type : ObjectType) (n : Ident) (suffix : t.Suffix) (s : Suffix) (d : Meaning) → typed_suffix sight suffix ≡ Some s → meaning sight n.text ≡ Some d
    → IsKept (where_given (meaning sight n.text) (λ d. where_given (typed_suffix sight suffix) (λ s. lacking (suffixed_problem type d s) n.at (value_of type d s)))) → IsGiven (value_of type d s)
value_of_name sight type n suffix s d e f h =
    given (suffixed_problem type d s) n.at (value_of type d s)
    (of_given (λ s. lacking (suffixed_problem type d s) n.at (value_of type d s)) (typed_suffix sight suffix) s e
    (of_given (λ d. where_given (typed_suffix sight suffix) (λ s. lacking (suffixed_problem type d s) n.at (value_of type d s))) (meaning sight n.text) d f h))

-- the name of a range is no argument of to_unsigned
arguments_given : (type : ObjectType) (d : Meaning) (b : Bool) (xs : List Typed) → IsGiven (value_of type d (suffix_of b xs)) → IsGiven (encoded_value type d xs)
arguments_given type d b (o.interval r ∷ []) g = let none = g.is in absurd cc
arguments_given type d b xs g = g

-- a slice is no value
not_sliced : (type : ObjectType) (d : Meaning) (x y : Typed) (direction : Direction) (s : Suffix) → are.sliced x direction y ≡ Some s → None ≡ value_of type d s
not_sliced type d (o.integer l) (o.integer r) direction s h =
    ap (value_of type d) (some_is (names.range (record { left = l; direction = direction; right = r })) s h)
not_sliced type d (o.integer l) (o.computed r) direction s h = ap (value_of type d) (some_is (names.computed_range (forms.static l) direction r) s h)
not_sliced type d (o.integer l) y direction s h = absurd cc
not_sliced type d (o.computed l) (o.integer r) direction s h = ap (value_of type d) (some_is (names.computed_range l direction (forms.static r)) s h)
not_sliced type d (o.computed l) (o.computed r) direction s h = ap (value_of type d) (some_is (names.computed_range l direction r) s h)
not_sliced type d (o.computed l) y direction s h = absurd cc
not_sliced type d x y direction s h = absurd cc

no_slice : (sight : Sight) (type : ObjectType) (d : Meaning) (l y : Expr) (direction : Direction) (s : Suffix) → typed_suffix sight (t.sliced l direction y) ≡ Some s
    → IsGiven (value_of type d s) → ⊥
unfolding are.typed
no_slice sight type d l y direction s h g =
    let a = comes (are.typed sight l) _ s h in
    let b = comes (are.typed sight y) _ s a.rest in
    let none : None ≡ Some g.value = not_sliced type d a.value b.value direction s b.rest ∙ g.is in
    absurd cc

fixed_given : (sight : Sight) (type : ObjectType) (e : Expr) → IsKept (broken.fixed sight type e) → IsGiven (subtypes.fixed sight type e)
unfolding are.typed expressions.typed
fixed_given sight type (t.named n t.plain None) h =
    let k = parts _ _ h in
    let l = parts _ _ k.1 in
    let m = parts _ _ l.1 in
    let d = meaning_given sight n k.0 in
    bound (meaning sight n.text) (named_value type) d.value d.is (value_of_name sight type n t.plain names.plain d.value refl d.is m.1)
fixed_given sight type (t.named n (t.arguments es) None) h =
    let k = parts _ _ h in
    let l = parts _ _ k.1 in
    let m = parts _ _ l.1 in
    let d = meaning_given sight n k.0 in
    let xs = each_typed_given es sight l.0 in
    bound (meaning sight n.text) (λ mark. typed_each sight es >>= λ xs. encoded_value type mark xs) d.value d.is
    (bound (typed_each sight es) (λ xs. encoded_value type d.value xs) xs.value xs.is
    (arguments_given type d.value (is_one_name es) xs.value
    (value_of_name sight type n (t.arguments es) (suffix_of (is_one_name es) xs.value) d.value (ap (option_map (suffix_of (is_one_name es))) xs.is) d.is m.1)))
fixed_given sight type (t.named n (t.sliced l r y) None) h =
    let k = parts _ _ h in
    let p = parts _ _ k.1 in
    let m = parts _ _ p.1 in
    let d = meaning_given sight n k.0 in
    let s = suffix_given (t.sliced l r y) sight p.0 in
    absurd (no_slice sight type d.value l y r s.value s.is (value_of_name sight type n (t.sliced l r y) s.value d.value s.is d.is m.1))
fixed_given sight type (t.named n s (Some a)) h =
    let k = parts _ _ h in
    let l = parts _ _ k.1 in
    let m = parts _ _ l.1 in
    let none = m.0 in
    absurd cc
fixed_given sight type e h = literal_given type e h

plain_value_given : (sight : Sight) (type : ObjectType) (v : t.Value) → IsKept (broken.plain_value sight type v) → IsGiven (plain_value sight type v)
plain_value_given sight type (t.single e) h = fixed_given sight type e h
plain_value_given sight type (t.others at e) h =
    let k = parts _ _ h in
    given TypeMismatch (start e) (filled_value type e) (parts _ _ k.1).1

known_value_given : (sight : Sight) (type : ObjectType) (r : Option Range) (v : t.Value) → IsKept (broken.known_value sight type r v) → IsGiven (known_value sight type r v)
known_value_given sight type r v h =
    let k = parts (expressions.value_given sight type r v) _ h in
    let g = value_given_given sight type r v k.0 in
    let l = of_given (λ g. unless LeftOut (value_start v) (is_known_value g)) (are.value_given sight type r v) g.value g.is k.1 in
    bound (are.value_given sight type r v) (λ g. then_some (is_known_value g) (u.Fixed.given g)) g.value g.is
    (that_given (is_known_value g.value) (u.Fixed.given g.value) (holds LeftOut (value_start v) (is_known_value g.value) l))

-- one of two
first_given : {A : Type 0} (o p : Option A) → IsGiven o → IsGiven (option_or o p)
first_given None p g = let none = g.is in absurd cc
first_given (Some x) p g = this x

second_given : {A : Type 0} (o p : Option A) (b : Broken) → (IsKept b → IsGiven p) → IsKept (cond (is_some o) nothing b) → IsGiven (option_or o p)
second_given None p b one h = one h
second_given (Some x) p b one h = this x

value_in_given : (language : Language) (sight : Sight) (type : ObjectType) (r : Option Range) (v : t.Value) → IsKept (broken.fixed_value_in language sight type r v)
    → IsGiven (option_or (plain_value sight type v) (wider language (known_value sight type r v)))
value_in_given Profile sight type r v h = first_given (plain_value sight type v) None (plain_value_given sight type v h)
value_in_given Wide sight type r v h = second_given (plain_value sight type v) (known_value sight type r v) (broken.known_value sight type r v) (known_value_given sight type r v) h

-- an integer, and a boolean
static_given : (sight : Sight) (type : ObjectType) (v : t.Value) → IsKept (broken.static_value sight type v) → IsGiven (single_value sight type v)
static_given sight type (t.others at e) h = absurd cc
static_given sight type (t.single e) h = asked_given (static_value type) sight e h

pub fixed_value_given : (sight : Sight) (type : ObjectType) (r : Option Range) (v : t.Value) → IsKept (broken.fixed_value sight type r v) → IsGiven (subtypes.fixed_value sight type r v)
unfolding subtypes.fixed_value
fixed_value_given sight Integers r v h = static_given sight Integers v h
fixed_value_given sight Booleans r v h = static_given sight Booleans v h
fixed_value_given sight type r v h = value_in_given sight.language sight type r v h
