-- Subtypes, and values of constants and defaults, that are given break no rule (IEEE 1076-2008, 6.3 and 6.4.2).
use Rattle.std.proofs.Common.{◌≡◌, ℕ, Bool, true, cond, List, [], ◌∷◌, Option, Some, None, refl, ap, ◌∙◌}
use Rattle.std.specs.Prelude.{not, is_some, is_none, option_map}
use Rattle.std.specs.Option.{option_or}
use Rattle.vhdl_lexer.specs.declared.language.Language.{Language}
use Rattle.vhdl_lexer.specs.declared.language.Language.TheVariants.{Profile, Wide}
use Rattle.vhdl_values.specs.declared.scalar.Nine.{Nine}
use Rattle.vhdl_tree.specs.Tree as t
use Rattle.vhdl_tree.specs.Tree.{Expr, Ident, Attribute}
use Rattle.vhdl_names_rules.specs.declared.kind.ElementKind.{ElementKind}
use Rattle.vhdl_names_rules.specs.declared.kind.ElementKind.TheVariants.{Element, LogicVector, Unsigned}
use Rattle.vhdl_names_rules.specs.declared.kind.ObjectType.{ObjectType}
use Rattle.vhdl_names_rules.specs.declared.kind.ObjectType.TheVariants.{Elements, Integers, Booleans}
use Rattle.vhdl_names_rules.specs.declared.kind.Function.TheVariants.{ToUnsigned}
use Rattle.vhdl_names_rules.specs.declared.fault.NameProblem.TheVariants.{TypeMismatch, LeftOut}
use Rattle.vhdl_names_rules.specs.units.Expressions.{Range}
use Rattle.vhdl_names_rules.specs.units.Units as u
use Rattle.vhdl_names_rules.specs.units.Units.{Fixed}
use Rattle.vhdl_names_rules.specs.Rules.{if_any, wider}
use Rattle.vhdl_names_rules.specs.Visibility as visibility
use Rattle.vhdl_names_rules.specs.Visibility.{Meaning, DeclaredRange, Sight, meaning, declaration}
use Rattle.vhdl_names_rules.specs.Literals.{nine_of, values_of_string, values_of_bits}
use Rattle.vhdl_names_rules.specs.Names as names
use Rattle.vhdl_names_rules.specs.Names.{Suffix}
use Rattle.vhdl_names_rules.specs.Operators as o
use Rattle.vhdl_names_rules.specs.Operators.{Typed, is_vector}
use Rattle.vhdl_names_rules.specs.Expressions as are
use Rattle.vhdl_names_rules.specs.Expressions.{is_one_name, suffix_of, typed_suffix, typed_each, static_range, value_given}
use Rattle.vhdl_names_rules.specs.Subtypes as subtypes
use Rattle.vhdl_names_rules.specs.Subtypes.{Subtype, TypeClass, class_of, integer_subtype, marked, one_range, index_range, is_range, value_range, integer_object, boolean_object, subtype_of_class, static_value, single_value, named_value, encoded_value, literal_value, literal_values, filled_value, plain_value, known_value, is_known_value}
use Rattle.vhdl_names_rules.specs.problems.Broken.{nothing, ◌▸◌, unless, lacking, where_given}
use Rattle.vhdl_names_rules.specs.problems.Places.{start, range_start}
use Rattle.vhdl_names_rules.specs.problems.Operators.{string_problem}
use Rattle.vhdl_names_rules.specs.problems.Expressions.{is_vector_type}
use Rattle.vhdl_names_rules.specs.problems.Subtypes as broken
use Rattle.vhdl_names_rules.specs.problems.Subtypes.{is_marked, marked_by, mark_problem, is_index_range, suffixed_problem, value_of, is_character, value_start}
use Rattle.vhdl_names_rules.proofs.laws.Rules.{comes, kept}
use Rattle.vhdl_names_rules.proofs.Telling.{IsKept, both_kept, unless_kept, lacking_kept, given_kept}
use Rattle.vhdl_names_rules.proofs.kept.Keeping.{nothing_kept, mapped, if_any_kept}
use Rattle.vhdl_names_rules.proofs.kept.Aggregates.{then_true}
use Rattle.vhdl_names_rules.proofs.kept.Expressions.{meaning_kept, declared_kept, typed_suffix_kept, static_range_kept, asked_kept, value_given_kept}

-- ---- types of objects

is_marked_by : (sight : Sight) (m : Meaning) (own : Option DeclaredRange) (c : Option t.Constraint) (range only : Option Range) (x : Subtype)
    → if_any (index_range sight) c ≡ Some range → one_range own range ≡ Some only → marked m only ≡ Some x → marked_by m own c ≡ true
is_marked_by sight m own (Some (t.value_range r)) range only x h g k = absurd cc
is_marked_by sight m own None (Some y) only x h g k = absurd cc
is_marked_by sight m None None None (Some z) x h g k = absurd cc
is_marked_by sight (visibility.element_type b) None None None None x h g k = refl
is_marked_by sight (visibility.enumeration_type e n) None None None None x h g k = refl
is_marked_by sight m None None None None x h g k = absurd cc
is_marked_by sight m (Some d) None None None x h g k = absurd cc
is_marked_by sight (visibility.vector_type j b) (Some d) None None (Some z) x h g k = refl
is_marked_by sight m (Some d) None None (Some z) x h g k = absurd cc
is_marked_by sight m own (Some (t.index_range r)) None only x h g k =
    let c = comes (static_range sight r) _ None h in let e : Some (Some c.value) ≡ Some None = c.rest in absurd cc
is_marked_by sight m None (Some (t.index_range r)) (Some y) None x h g k = absurd cc
is_marked_by sight (visibility.vector_type j b) None (Some (t.index_range r)) (Some y) (Some z) x h g k = refl
is_marked_by sight m None (Some (t.index_range r)) (Some y) (Some z) x h g k = absurd cc
is_marked_by sight m (Some d) (Some (t.index_range r)) (Some y) only x h g k = absurd cc

index_range_kept : (sight : Sight) (c : t.Constraint) (r : Range) → index_range sight c ≡ Some r → IsKept (broken.constraint sight c)
index_range_kept sight (t.index_range y) r h = static_range_kept sight y r h
index_range_kept sight (t.value_range y) r h = absurd cc

pub subtype_kept : (sight : Sight) (s : t.Subtype) (x : Subtype) → subtypes.subtype sight s ≡ Some x → IsKept (broken.subtype sight s)
unfolding subtypes.subtype
subtype_kept sight s x h =
    let range = comes (if_any (index_range sight) s.constraint) _ x h in
    let d = comes (declaration sight s.mark.text) _ x range.rest in
    let only = comes (one_range d.value.range range.value) _ x d.rest in
    both_kept _ _ (declared_kept sight s.mark d.value d.is)
    (both_kept _ _
    (given_kept (λ d. unless (mark_problem d.meaning) s.mark.at (is_marked d s.constraint)) (declaration sight s.mark.text) d.value d.is
    (unless_kept (mark_problem d.value.meaning) s.mark.at (is_marked d.value s.constraint)
    (is_marked_by sight d.value.meaning d.value.range s.constraint range.value only.value x range.is only.is only.rest)))
    (if_any_kept (broken.constraint sight) (index_range sight) (index_range_kept sight) s.constraint range.value range.is))

-- ---- integers

value_range_kept : (sight : Sight) (at : ℕ) (c : t.Constraint) (x : ℕ × Range) → value_range sight c ≡ Some x
    → IsKept (unless LeftOut at (not (is_index_range c)) ▸ broken.constraint sight c)
value_range_kept sight at (t.index_range r) x h = absurd cc
value_range_kept sight at (t.value_range r) x h =
    let a = kept (is_range r) _ x h in
    let y = comes (static_range sight r) _ x a.1 in
    both_kept _ _ nothing_kept (both_kept _ _ (unless_kept LeftOut (range_start r) (is_range r) a.0) (static_range_kept sight r y.value y.is))

pub integer_subtype_kept : (sight : Sight) (s : t.Subtype) (range : Option (ℕ × Range)) → if_any (value_range sight) s.constraint ≡ Some range → IsKept (broken.integer_subtype sight s)
integer_subtype_kept sight s range h =
    if_any_kept (λ c. unless LeftOut s.mark.at (not (is_index_range c)) ▸ broken.constraint sight c) (value_range sight) (value_range_kept sight s.mark.at) s.constraint range h

pub integers_kept : (sight : Sight) (s : t.Subtype) (x : u.IntegerSubtype) → integer_subtype sight s ≡ Some x → IsKept (broken.integer_subtype sight s)
unfolding integer_subtype
integers_kept sight s x h = let r = comes (if_any (value_range sight) s.constraint) _ x h in integer_subtype_kept sight s r.value r.is

-- ---- signals, ports and variables, by the class of their type

wide_kept : (sight : Sight) (s : t.Subtype) (m : Meaning) (c : TypeClass) → meaning sight s.mark.text ≡ Some m → class_of m ≡ c → IsKept (broken.object_by sight s c)
    → IsKept (broken.object_subtype_in Wide sight s)
wide_kept sight s m c meant class k =
    both_kept _ _ (meaning_kept sight s.mark m meant)
    (given_kept (λ m. broken.object_by sight s (class_of m)) (meaning sight s.mark.text) m meant (ap (broken.object_by sight s) class ∙ k))

-- what the wider language alone has
in_wider : {A : Type 0} (language : Language) (o : Option A) (x : A) → wider language o ≡ Some x → (language ≡ Wide) × (o ≡ Some x)
in_wider Profile o x h = absurd cc
in_wider Wide o x h = (refl, h)

by_class_kept : (sight : Sight) (s : t.Subtype) (m : Meaning) (c : TypeClass) (x : Subtype) → meaning sight s.mark.text ≡ Some m → class_of m ≡ c
    → subtype_of_class sight s c ≡ Some x → IsKept (broken.object_subtype_in sight.language sight s)
by_class_kept sight s m subtypes.integers x meant class h =
    let w = in_wider sight.language (integer_object sight s) x h in
    let y = comes (integer_subtype sight s) _ x w.1 in
    ap (λ l. broken.object_subtype_in l sight s) w.0 ∙ wide_kept sight s m subtypes.integers meant class (integers_kept sight s y.value y.is)
by_class_kept sight s m subtypes.booleans x meant class h =
    let w = in_wider sight.language (boolean_object s) x h in
    let y = kept (is_none s.constraint) _ x w.1 in
    ap (λ l. broken.object_subtype_in l sight s) w.0 ∙ wide_kept sight s m subtypes.booleans meant class (unless_kept LeftOut s.mark.at (is_none s.constraint) y.0)
by_class_kept sight s m subtypes.others x meant class h = in_any sight.language
  where
    in_any : (l : Language) → IsKept (broken.object_subtype_in l sight s)
    in_any Profile = subtype_kept sight s x h
    in_any Wide = wide_kept sight s m subtypes.others meant class (subtype_kept sight s x h)

pub object_subtype_kept : (sight : Sight) (s : t.Subtype) (x : Subtype) → subtypes.object_subtype sight s ≡ Some x → IsKept (broken.object_subtype sight s)
unfolding subtypes.object_subtype
object_subtype_kept sight s x h =
    let m = comes (meaning sight s.mark.text) _ x h in
    by_class_kept sight s m.value (class_of m.value) x m.is refl m.rest

-- ---- literals as they stand

pub literal_kept : (k : ElementKind) (e : Expr) (vs : List Nine) → literal_values k e ≡ Some vs → IsKept (broken.literal (Elements k) e)
literal_kept Element (t.character at c) vs h =
    let m = mapped (λ v. v ∷ []) (nine_of c) vs h in
    both_kept _ _ (unless_kept TypeMismatch at true refl) (lacking_kept TypeMismatch at (nine_of c) m.value m.from)
literal_kept LogicVector (t.string at text) vs h =
    both_kept _ _ (unless_kept TypeMismatch at true refl) (lacking_kept (string_problem text) at (values_of_string text) vs h)
literal_kept LogicVector (t.bits at text) vs h =
    both_kept _ _ (unless_kept TypeMismatch at true refl) (lacking_kept LeftOut at (values_of_bits text) vs h)
literal_kept Unsigned (t.string at text) vs h =
    both_kept _ _ (unless_kept TypeMismatch at true refl) (lacking_kept (string_problem text) at (values_of_string text) vs h)
literal_kept Unsigned (t.bits at text) vs h =
    both_kept _ _ (unless_kept TypeMismatch at true refl) (lacking_kept LeftOut at (values_of_bits text) vs h)
literal_kept _ _ vs h = absurd cc

pub literal_value_kept : (type : ObjectType) (e : Expr) (x : Fixed) → literal_value type e ≡ Some x → IsKept (broken.literal type e)
literal_value_kept (Elements k) e x h =
    let m = mapped u.Fixed.literal (literal_values k e) x h in
    literal_kept k e m.value m.from
literal_value_kept _ d x h = absurd cc

-- a name is no literal
pub no_literal : (k : ElementKind) (n : Ident) (s : t.Suffix) (a : Option Attribute) (vs : List Nine) → literal_values k (t.named n s a) ≡ Some vs → ⊥
no_literal Element n s a vs h = cc
no_literal _ n s a vs h = cc

no_literal_value : (type : ObjectType) (n : Ident) (s : t.Suffix) (a : Option Attribute) (x : Fixed) → literal_value type (t.named n s a) ≡ Some x → ⊥
no_literal_value (Elements k) n s a x h =
    let m = mapped u.Fixed.literal (literal_values k (t.named n s a)) x h in
    no_literal k n s a m.value m.from
no_literal_value _ n s a x h = cc

-- ---- values

named_fixed_kept : (sight : Sight) (type : ObjectType) (n : Ident) (suffix : t.Suffix) (s : Suffix) (d : Meaning) (x : Fixed)
    → typed_suffix sight suffix ≡ Some s → meaning sight n.text ≡ Some d → value_of type d s ≡ Some x → IsKept (broken.fixed sight type (t.named n suffix None))
named_fixed_kept sight type n suffix s d x given meant is =
    both_kept _ _ (meaning_kept sight n d meant)
    (both_kept _ _ (typed_suffix_kept suffix sight s given)
    (both_kept _ _ nothing_kept
    (given_kept (λ d. where_given (typed_suffix sight suffix) (λ s. lacking (suffixed_problem type d s) n.at (value_of type d s))) (meaning sight n.text) d meant
    (given_kept (λ s. lacking (suffixed_problem type d s) n.at (value_of type d s)) (typed_suffix sight suffix) s given
    (lacking_kept (suffixed_problem type d s) n.at (value_of type d s) x is)))))

-- the name of a range is no argument of to_unsigned
value_of_arguments : (type : ObjectType) (d : Meaning) (b : Bool) (xs : List Typed) (x : Fixed) → encoded_value type d xs ≡ Some x → value_of type d (suffix_of b xs) ≡ Some x
value_of_arguments (Elements Unsigned) (visibility.function ToUnsigned) b (o.interval r ∷ []) x h = absurd cc
value_of_arguments type d b (o.interval r ∷ []) x h = absurd cc
value_of_arguments type d b xs x h = h

fixed_kept : (sight : Sight) (type : ObjectType) (e : Expr) (x : Fixed) → subtypes.fixed sight type e ≡ Some x → IsKept (broken.fixed sight type e)
unfolding are.typed
fixed_kept sight type (t.named n t.plain None) x h =
    let d = comes (meaning sight n.text) (named_value type) x h in
    named_fixed_kept sight type n t.plain names.plain d.value x refl d.is d.rest
fixed_kept sight type (t.named n (t.arguments es) None) x h =
    let d = comes (meaning sight n.text) _ x h in
    let xs = comes (typed_each sight es) _ x d.rest in
    named_fixed_kept sight type n (t.arguments es) (suffix_of (is_one_name es) xs.value) d.value x
    (ap (option_map (suffix_of (is_one_name es))) xs.is) d.is (value_of_arguments type d.value (is_one_name es) xs.value x xs.rest)
fixed_kept sight type (t.named n (t.sliced l r y) None) x h = absurd (no_literal_value type n (t.sliced l r y) None x h)
fixed_kept sight type (t.named n s (Some a)) x h = absurd (no_literal_value type n s (Some a) x h)
fixed_kept sight type e x h = literal_value_kept type e x h

filled_kept : (at : ℕ) (type : ObjectType) (e : Expr) (x : Fixed) → filled_value type e ≡ Some x
    → IsKept (unless LeftOut (start e) (is_character e) ▸ unless TypeMismatch at (is_vector_type type) ▸ lacking TypeMismatch (start e) (filled_value type e))
filled_kept at (Elements k) (t.character b c) x h =
    let r = kept (is_vector k) _ x h in
    both_kept _ _ (unless_kept LeftOut b true refl)
    (both_kept _ _ (unless_kept TypeMismatch at (is_vector k) r.0) (lacking_kept TypeMismatch b (filled_value (Elements k) (t.character b c)) x h))
filled_kept at _ _ x h = absurd cc

plain_value_kept : (sight : Sight) (type : ObjectType) (v : t.Value) (x : Fixed) → plain_value sight type v ≡ Some x → IsKept (broken.plain_value sight type v)
plain_value_kept sight type (t.single e) x h = fixed_kept sight type e x h
plain_value_kept sight type (t.others at e) x h = filled_kept at type e x h

known_value_kept : (sight : Sight) (type : ObjectType) (r : Option Range) (v : t.Value) (x : Fixed) → known_value sight type r v ≡ Some x → IsKept (broken.known_value sight type r v)
known_value_kept sight type r v x h =
    let g = comes (value_given sight type r v) _ x h in
    both_kept _ _ (value_given_kept sight type r v g.value g.is)
    (given_kept (λ g. unless LeftOut (value_start v) (is_known_value g)) (value_given sight type r v) g.value g.is
    (unless_kept LeftOut (value_start v) (is_known_value g.value) (then_true (is_known_value g.value) (u.Fixed.given g.value) x g.rest)))

fixed_value_kept_in : (language : Language) (sight : Sight) (type : ObjectType) (r : Option Range) (v : t.Value) (x : Fixed)
    → option_or (plain_value sight type v) (wider language (known_value sight type r v)) ≡ Some x → IsKept (broken.fixed_value_in language sight type r v)
fixed_value_kept_in Profile sight type r v x h = go (plain_value sight type v) refl h
  where
    go : (p : Option Fixed) → plain_value sight type v ≡ p → option_or p None ≡ Some x → IsKept (broken.plain_value sight type v)
    go None e h = absurd cc
    go (Some y) e h = plain_value_kept sight type v y e
fixed_value_kept_in Wide sight type r v x h = go (plain_value sight type v) h
  where
    go : (p : Option Fixed) → option_or p (known_value sight type r v) ≡ Some x → IsKept (cond (is_some p) nothing (broken.known_value sight type r v))
    go None h = known_value_kept sight type r v x h
    go (Some y) h = nothing_kept

-- an integer, and a boolean
static_value_kept : (sight : Sight) (type : ObjectType) (v : t.Value) (x : Fixed) → single_value sight type v ≡ Some x → IsKept (broken.static_value sight type v)
static_value_kept sight type (t.others at e) x h = absurd cc
static_value_kept sight type (t.single e) x h = asked_kept (static_value type) sight e x h

pub fixed_value_kept : (sight : Sight) (type : ObjectType) (r : Option Range) (v : t.Value) (x : Fixed) → subtypes.fixed_value sight type r v ≡ Some x
    → IsKept (broken.fixed_value sight type r v)
unfolding subtypes.fixed_value
fixed_value_kept sight Integers r v x h = static_value_kept sight Integers v x h
fixed_value_kept sight Booleans r v x h = static_value_kept sight Booleans v x h
fixed_value_kept sight type r v x h = fixed_value_kept_in sight.language sight type r v x h
