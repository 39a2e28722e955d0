-- Names by their ranges: which name with its attribute is a range or a bound, and which is a value; and no value is a
-- range.
use Rattle.std.proofs.Common.{◌≡◌, ℕ, Bool, true, false, true≢false, List, [], ◌∷◌, Option, Some, None, refl, sym, ap, ◌∙◌}
use Rattle.std.specs.Prelude.{◌||◌, not, option_map, is_some, bytes_eq, codes}
use Rattle.std.specs.Option.{option_or}
use Rattle.std.proofs.lemmas.Slice.Eq.{bytes_eq-Decides}
use Rattle.vhdl_lexer.specs.declared.language.Language.{Language}
use Rattle.vhdl_values.specs.declared.kinds.Counted.TheVariants.{Shift}
use Rattle.vhdl_lexer.specs.declared.language.Language.TheVariants.{Profile, Wide}
use Rattle.vhdl_tree.specs.Tree as t
use Rattle.vhdl_tree.specs.Tree.{Attribute}
use Rattle.vhdl_names_rules.specs.declared.kind.ElementKind.{ElementKind}
use Rattle.vhdl_names_rules.specs.declared.kind.ElementKind.TheVariants.{LogicVector, Unsigned, OpenVector}
use Rattle.vhdl_names_rules.specs.declared.kind.ObjectType.{ObjectType}
use Rattle.vhdl_names_rules.specs.declared.kind.ObjectType.TheVariants.{Elements, Enumeration, Integers, Booleans}
use Rattle.vhdl_names_rules.specs.declared.kind.Function.TheVariants.{EdgeCall, ByCount, ToUnsigned, ToInteger}
use Rattle.vhdl_names_rules.specs.units.Expressions as u
use Rattle.vhdl_names_rules.specs.units.Expressions.{Range, Signal, SignalPart, Computed, Vector, Test}
use Rattle.vhdl_names_rules.specs.Rules.{◌>>=◌, ◌>>◌, met, then_some, wider}
use Rattle.vhdl_names_rules.specs.Known.{is_known}
use Rattle.vhdl_names_rules.specs.Visibility as visibility
use Rattle.vhdl_names_rules.specs.Visibility.{Meaning, Declared, DeclaredRange}
use Rattle.vhdl_names_rules.specs.Names.{Suffix, plain, arguments, range, AnyPart, fixed, any_part, signal_part, variable_part, constant_part, known, position_of, is_true, read_object, read_variable, denoted, attributed, edge_signal, if_plain}
use Rattle.vhdl_names_rules.specs.declared.operator.Bound.{Bound}
use Rattle.vhdl_names_rules.specs.Ranges.{Ranged, ranged, range_of, reversed, bound_of, bound, bound_named, named_range, range_attribute, sized_by}
use Rattle.vhdl_names_rules.specs.Operators.{Typed, integer, computed, elements, enumerated, truth, interval}
use Rattle.vhdl_names_rules.specs.Expressions.{valued, named, as_range, suffix_of}
use Rattle.vhdl_names_rules.specs.problems.Expressions.{is_of_range, is_range}

or_none : {A : Type 0} (o : Option A) → option_or o None ≡ o
or_none None = refl
or_none (Some x) = refl

no_some : {A : Type 0} (o : Option A) → is_some o ≡ false → o ≡ None
no_some None h = refl
no_some (Some x) h = absurd (true≢false h)

first_false : (b c : Bool) → b || c ≡ false → b ≡ false
first_false false c h = refl
first_false true c h = absurd (true≢false h)

second_false : (b c : Bool) → b || c ≡ false → c ≡ false
second_false false c h = h
second_false true c h = absurd (true≢false h)

-- ---- attributes of ranges

abbrev of_ranges : List ℕ → Bool
of_ranges a = bytes_eq a (codes "reverse_range") || is_some (bound_of a)

-- such an attribute is not 'event
no_event : (a : List ℕ) → of_ranges a ≡ true → bytes_eq a (codes "event") ≡ false
no_event a h = by (bytes_eq a (codes "event")) refl
  where
    by : (b : Bool) → bytes_eq a (codes "event") ≡ b → bytes_eq a (codes "event") ≡ false
    by false e = e
    by true e = absurd (true≢false (sym h ∙ ap of_ranges ((bytes_eq-Decides a (codes "event")).0 e)))

-- and so it is of no value
none_attributed : (a : Attribute) (o : Option Typed) (f : Typed → Typed) → is_of_range Wide (Some a) ≡ true → (o >>= λ x. attributed (Some a) (f x)) ≡ None
none_attributed a None f h = refl
none_attributed (t.of_range p) (Some x) f h = refl
none_attributed (t.called a) (Some x) f h = ap (λ b. met b >> (edge_signal (f x) >>= λ p. Some (truth (u.event p)))) (no_event a.text h)

pub named_by_range : (language : Language) (at : ℕ) (a : Attribute) (d : Declared) (s : Suffix) → is_of_range language (Some a) ≡ true
    → named language at (Some a) d s ≡ range_attribute at (Some a) d s
named_by_range Profile at a d s h = absurd (true≢false (sym h))
named_by_range Wide at a d s h =
    ap (option_or (range_attribute at (Some a) d s)) (none_attributed a (denoted at d.meaning s) (sized_by at d.meaning d.range) h)
    ∙ or_none (range_attribute at (Some a) d s)

-- a subtype of integers by its name alone
pub named_alone : (at : ℕ) (d : Declared) (s : Suffix) (r : Range) → named_range None d s ≡ Some r → named Wide at None d s ≡ Some (interval r)
named_alone at d s r h = ap (λ o. option_or (option_or (option_map interval o) None) (valued at None d.meaning d.range s)) h

-- any other name is a value
pub named_valued : (language : Language) (at : ℕ) (a : Option Attribute) (d : Declared) (s : Suffix) → is_of_range language a ≡ false → is_range language a d s ≡ false
    → named language at a d s ≡ valued at a d.meaning d.range s
named_valued Profile at a d s h k = refl
named_valued Wide at None d s h k = ap (λ o. option_or (option_or (option_map interval o) None) (valued at None d.meaning d.range s)) (no_some (named_range None d s) k)
named_valued Wide at (Some (t.of_range p)) d s h k = absurd (true≢false h)
named_valued Wide at (Some (t.called a)) d s h k =
    ap (λ b. option_or (option_or (option_map interval (met b >> (ranged d s >>= λ r. option_map reversed (range_of r)))) (bound_named at (Some (t.called a)) d s)) (valued at (Some (t.called a)) d.meaning d.range s)) (first_false (bytes_eq a.text (codes "reverse_range")) (is_some (bound_of a.text)) h)
    ∙ ap (λ o. option_or (o >>= λ b. (ranged d s >>= λ r. option_map integer (bound at b r))) (valued at (Some (t.called a)) d.meaning d.range s)) (no_some (bound_of a.text) (second_false (bytes_eq a.text (codes "reverse_range")) (is_some (bound_of a.text)) h))

-- what has no range has no attribute of one
none_behind : (b : Bool) (o : Option Bound) → option_or (option_map interval (met b >> (None >>= λ (r : Ranged). option_map reversed (range_of r)))) (o >>= λ b. (None >>= λ (r : Ranged). option_map integer (bound 0 b r))) ≡ None
none_behind true None = refl
none_behind true (Some c) = refl
none_behind false None = refl
none_behind false (Some c) = refl

pub no_ranged : (at : ℕ) (a : Attribute) (d : Declared) (s : Suffix) → ranged d s ≡ None → range_attribute at (Some a) d s ≡ None
no_ranged at (t.of_range p) d s h = ap (λ o. option_or (option_map interval (o >>= range_of)) None) h
no_ranged at (t.called a) d s h =
    ap (λ o. option_or (option_map interval (met (bytes_eq a.text (codes "reverse_range")) >> (o >>= λ r. option_map reversed (range_of r)))) (bound_of a.text >>= λ b. (o >>= λ r. option_map integer (bound at b r)))) h
    ∙ none_behind (bytes_eq a.text (codes "reverse_range")) (bound_of a.text)

-- ---- values are no ranges

abbrev as_value_range : Option Typed → Option Range
as_value_range o = (o >>= λ x. Some x) >>= as_range

if_plain_is : (s : Suffix) (x : Typed) → as_range x ≡ None → as_value_range (if_plain s x) ≡ None
if_plain_is plain x h = h
if_plain_is s x h = refl

part_is : (object : AnyPart → Vector) (o : Option (AnyPart × ElementKind)) → as_value_range (option_map (λ p. elements p.1 (object p.0)) o) ≡ None
part_is object None = refl
part_is object (Some p) = refl

truth_is : (f : SignalPart → Test) (o : Option SignalPart) → as_value_range (option_map (λ p. truth (f p)) o) ≡ None
truth_is f None = refl
truth_is f (Some p) = refl

object_is : (at : ℕ) (x : Signal) (type : ObjectType) (s : Suffix) → as_value_range (read_object at x type s) ≡ None
object_is at x (Elements kind) s = part_is (signal_part at x) (any_part kind s)
object_is at x (Enumeration e count) s = if_plain_is s (enumerated e count (u.state_of x)) refl
object_is at x Integers s = if_plain_is s (computed (u.signal_number x)) refl
object_is at x Booleans s = if_plain_is s (is_true at (signal_part at x (fixed u.whole))) refl

variable_is : (at k : ℕ) (type : ObjectType) (s : Suffix) → as_value_range (read_variable at k type s) ≡ None
variable_is at k (Elements kind) s = part_is (variable_part at k) (any_part kind s)
variable_is at k (Enumeration e count) s = if_plain_is s (enumerated e count (u.state_of_variable k)) refl
variable_is at k Integers s = if_plain_is s (computed (u.variable_number k)) refl
variable_is at k Booleans s = if_plain_is s (is_true at (variable_part at k (fixed u.whole))) refl

abbrev value_range : (at : ℕ) → Meaning → Option DeclaredRange → Suffix → Option Range
value_range at m r s = valued at None m r s >>= as_range

converted_is : (at : ℕ) (k : ElementKind) (b : Bool) (r : Option DeclaredRange) (s : Suffix) → value_range at (visibility.vector_type k b) r s ≡ None
converted_is at k b None (arguments c (elements LogicVector x ∷ [])) = refl
converted_is at k b None (arguments c (elements Unsigned x ∷ [])) = refl
converted_is at k b None (arguments c (elements OpenVector x ∷ [])) = refl
converted_is at k b (Some r) (arguments c (elements LogicVector x ∷ [])) = refl
converted_is at k b (Some r) (arguments c (elements Unsigned x ∷ [])) = refl
converted_is at k b (Some r) (arguments c (elements OpenVector x ∷ [])) = refl
converted_is at k b r s = refl

number_is : (b : Bool) (n : Computed) → ((then_some b (computed n) >>= λ x. Some x) >>= as_range) ≡ None
number_is true n = refl
number_is false n = refl

pub no_range : (at : ℕ) (m : Meaning) (r : Option DeclaredRange) (s : Suffix) → value_range at m r s ≡ None
no_range at (visibility.generic k) r s = if_plain_is s (integer (u.generic k)) refl
no_range at (visibility.integer_constant k) r s = if_plain_is s (integer (u.Static.constant k)) refl
no_range at (visibility.generate_parameter k) r s = if_plain_is s (integer (u.generate_parameter k)) refl
no_range at (visibility.loop_parameter k) r s = if_plain_is s (integer (u.loop_parameter k)) refl
no_range at (visibility.boolean_generic k) r s = if_plain_is s (known at (u.generic k)) refl
no_range at (visibility.boolean_constant k) r s = if_plain_is s (known at (u.Static.constant k)) refl
no_range at (visibility.boolean_literal b) r s = if_plain_is s (known at (u.number (position_of b))) refl
no_range at (visibility.port k mode type) r s = object_is at (u.port k) type s
no_range at (visibility.signal k type) r s = object_is at (u.Signal.signal k) type s
no_range at (visibility.variable k type) r s = variable_is at k type s
no_range at (visibility.constant k kind values) r s = part_is (constant_part at k) (any_part kind s)
no_range at (visibility.literal e count p) r s = if_plain_is s (enumerated e count (u.position p)) refl
no_range at (visibility.vector_type k b) r s = converted_is at k b r s
no_range at (visibility.function (EdgeCall e)) r (arguments true (x ∷ [])) = truth_is (u.edge e) (edge_signal x)
no_range at (visibility.function (EdgeCall e)) r s = refl
no_range at (visibility.function (ByCount op)) r (arguments b (elements Unsigned x ∷ integer n ∷ [])) = refl
no_range at (visibility.function (ByCount (Shift by))) r (arguments b (elements Unsigned x ∷ computed n ∷ [])) = refl
no_range at (visibility.function (ByCount op)) r s = refl
no_range at (visibility.function ToUnsigned) r (arguments b (integer n ∷ integer size ∷ [])) = refl
no_range at (visibility.function ToUnsigned) r (arguments b (computed n ∷ integer size ∷ [])) = refl
no_range at (visibility.function ToUnsigned) r s = refl
no_range at (visibility.function ToInteger) r (arguments b (elements Unsigned x ∷ [])) = number_is (not (is_known x)) (u.number_of at x)
no_range at (visibility.function ToInteger) r s = refl
no_range at m r s = refl

-- a name that is asked for its range
pub range_alone : (language : Language) (at : ℕ) (d : Declared) (s : Suffix) → (named language at None d s >>= as_range) ≡ wider language (named_range None d s)
range_alone Profile at d s = no_range at d.meaning d.range s
range_alone Wide at d s = by (named_range None d s)
  where
    by : (o : Option Range) → (option_or (option_or (option_map interval o) None) (valued at None d.meaning d.range s) >>= as_range) ≡ o
    by None = no_range at d.meaning d.range s
    by (Some r) = refl

-- ---- a range in parentheses

pub suffix_of_range : (b : Bool) (xs : List Typed) (r : Range) → xs ≡ interval r ∷ [] → suffix_of b xs ≡ range r
suffix_of_range b xs r h = ap (suffix_of b) h

pub suffix_of_others : (b : Bool) (xs : List Typed) → ((r : Range) → xs ≡ interval r ∷ [] → ⊥) → suffix_of b xs ≡ arguments b xs
suffix_of_others b (interval r ∷ []) h = absurd (h r refl)
suffix_of_others b xs h = refl
