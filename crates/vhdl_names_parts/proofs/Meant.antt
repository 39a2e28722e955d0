-- What names are, by the arguments that stand alone.
use Rattle.std.proofs.Common.{◌≡◌, ℕ, Bool, true, false, true≢false, List, [], ◌∷◌, map, Option, Some, None, Vec, Box, Global, refl, ap, ◌∙◌}
use Rattle.std.specs.Prelude.{◌&&◌, option_map}
use Rattle.std.specs.List.{list_all}
use Rattle.std.specs.Option.{option_or}
use mathlib.Core.Former.{Count}
use Rattle.vhdl_values.specs.declared.kinds.Counted.{Counted}
use Rattle.vhdl_values.specs.declared.kinds.Counted.TheVariants.{Shift}
use Rattle.vhdl_values.specs.declared.kinds.Edge.{Edge}
use Rattle.vhdl_names_rules.specs.declared.kind.ElementKind.{ElementKind}
use Rattle.vhdl_names_rules.specs.declared.kind.ElementKind.TheVariants.{Element, LogicVector, Unsigned, OpenVector}
use Rattle.vhdl_names_rules.specs.declared.kind.ObjectType.{ObjectType}
use Rattle.vhdl_names_rules.specs.declared.kind.ObjectType.TheVariants.{Elements}
use Rattle.vhdl_names_trees.specs.declared.integer.Static.{Static}
use Rattle.vhdl_names_trees.specs.declared.integer.Static.TheVariants as s
use Rattle.vhdl_names_trees.specs.declared.integer.StaticStart.{StaticStart}
use Rattle.vhdl_names_trees.specs.declared.integer.StaticLink.{StaticLink}
use Rattle.vhdl_names_trees.specs.declared.vector.Vector.{Vector}
use Rattle.vhdl_names_trees.specs.declared.vector.Vector.TheVariants as v
use Rattle.vhdl_names_trees.specs.declared.vector.Chosen.TheBlock.{Row_of-VectorLink, end_of-VectorLink, more_of-VectorLink}
use Rattle.vhdl_names_trees.specs.declared.vector.VectorLink.{VectorLink}
use Rattle.vhdl_names_trees.specs.declared.vector.VectorLink.TheVariants as l
use Rattle.vhdl_names_trees.specs.declared.vector.SignalPart.{SignalPart}
use Rattle.vhdl_names_trees.specs.declared.vector.Part.{Part}
use Rattle.vhdl_names_rules.specs.declared.kind.Function.{Function}
use Rattle.vhdl_names_rules.specs.declared.kind.Function.TheVariants.{EdgeCall, ByCount, ToUnsigned, ToInteger}
use Rattle.vhdl_names_rules.specs.declared.fault.NameProblem.TheVariants.{TypeMismatch}
use Rattle.vhdl_names_rules.specs.Rules.{◌>>=◌, given_that}
use Rattle.vhdl_names_rules.specs.Visibility as visibility
use Rattle.vhdl_names_rules.specs.problems.Operators as problems
use Rattle.vhdl_names_rules.specs.problems.Operators.{edge_problem, name_problem}
use Rattle.vhdl_names_rules.specs.Names as rules
use Rattle.vhdl_names_rules.specs.Names.{arguments}
use Rattle.vhdl_names_rules.specs.Operators as o
use Rattle.vhdl_names_rules.specs.Operators.{integer, computed, elements, enumerated, truth, interval, composite}
use Rattle.vhdl_names_rules.specs.units.Expressions as u
use Rattle.vhdl_names_trees.specs.views.Integers.{static_view, start_view, static_chained}
use Rattle.vhdl_names_trees.proofs.rows.Integers.{view_chain}
use Rattle.vhdl_names_trees.specs.views.Vectors.{vector_view, links_view, linked}
use Rattle.vhdl_names_trees.specs.declared.typed.Typed.{Typed}
use Rattle.vhdl_names_trees.specs.declared.typed.TypedSuffix.{TypedSuffix}
use Rattle.vhdl_names_trees.specs.declared.typed.TypedSuffix.TheVariants as suffix
use Rattle.vhdl_names_numbers.specs.Calls.{number_by, number_problem}
use Rattle.vhdl_names_parts.specs.Steps.{sole, two, indexed, conversion, counting, encoding, edge_by, edge_call_problem, is_signal}
use Rattle.vhdl_names_trees.specs.views.Expressions.{typed_view, typed_suffix_view}

-- ---- one argument

sole_map : {A B : Type 0} (f : A → B) (xs : List A) → sole (map f xs) ≡ option_map f (sole xs)
sole_map f (x ∷ []) = refl
sole_map f xs = refl

part_alone : (k : ElementKind) (b : Bool) (x : o.Typed) → rules.any_part k (arguments b (x ∷ [])) ≡ indexed k (Some x)
part_alone Element b (integer s) = refl
part_alone LogicVector b (integer s) = refl
part_alone Unsigned b (integer s) = refl
part_alone OpenVector b (integer s) = refl
part_alone k b x = refl

no_part : (k : ElementKind) (b : Bool) → rules.any_part k (arguments b []) ≡ None
no_part LogicVector b = refl
no_part Unsigned b = refl
no_part k b = refl

no_part_of_more : (k : ElementKind) (b : Bool) (x y : o.Typed) (zs : List o.Typed) → rules.any_part k (arguments b (x ∷ y ∷ zs)) ≡ None
no_part_of_more Element b (integer s) y zs = refl
no_part_of_more LogicVector b (integer s) y zs = refl
no_part_of_more Unsigned b (integer s) y zs = refl
no_part_of_more OpenVector b (integer s) y zs = refl
no_part_of_more k b x y zs = refl

part_sole : (k : ElementKind) (b : Bool) (xs : List o.Typed) → rules.any_part k (arguments b xs) ≡ indexed k (sole xs)
part_sole k b [] = no_part k b
part_sole k b (x ∷ []) = part_alone k b x
part_sole k b (x ∷ y ∷ zs) = no_part_of_more k b x y zs

-- a slice of a vector
pub part_ranged : (k : ElementKind) (r : u.Range) → rules.any_part k (rules.range r) ≡ given_that TypeMismatch (o.is_vector k) (rules.fixed (u.slice r), k)
part_ranged Element r = refl
part_ranged LogicVector r = refl
part_ranged Unsigned r = refl
part_ranged OpenVector r = refl

pub part_indexed : (k : ElementKind) (b : Bool) (xs : List Typed) → rules.any_part k (arguments b (map typed_view xs)) ≡ indexed k (option_map typed_view (sole xs))
part_indexed k b xs = part_sole k b (map typed_view xs) ∙ ap (indexed k) (sole_map typed_view xs)

conversion_sole : (k : ElementKind) (b : Bool) (xs : List o.Typed) → rules.converted k (arguments b xs) ≡ conversion k (sole xs)
conversion_sole k b (integer s ∷ []) = refl
conversion_sole k b (computed y ∷ []) = refl
conversion_sole k b (elements Element x ∷ []) = refl
conversion_sole k b (elements LogicVector x ∷ []) = refl
conversion_sole k b (elements Unsigned x ∷ []) = refl
conversion_sole k b (elements OpenVector x ∷ []) = refl
conversion_sole k b (enumerated d m x ∷ []) = refl
conversion_sole k b (truth x ∷ []) = refl
conversion_sole k b (interval x ∷ []) = refl
conversion_sole k b (composite p x ∷ []) = refl
conversion_sole k b xs = refl

pub converted_sole : (k : ElementKind) (b : Bool) (xs : List Typed) → rules.converted k (arguments b (map typed_view xs)) ≡ conversion k (option_map typed_view (sole xs))
converted_sole k b xs = conversion_sole k b (map typed_view xs) ∙ ap (conversion k) (sole_map typed_view xs)

edge_alone : (e : Edge) (xs : List o.Typed) → rules.edge_of e (arguments true xs) ≡ edge_by e (sole xs)
edge_alone e (x ∷ []) = refl
edge_alone e xs = refl

pub edge_sole : (e : Edge) (xs : List Typed) → rules.edge_of e (arguments true (map typed_view xs)) ≡ edge_by e (option_map typed_view (sole xs))
edge_sole e xs = edge_alone e (map typed_view xs) ∙ ap (edge_by e) (sole_map typed_view xs)

-- ---- two arguments

abbrev pub both_views : Typed × Typed → o.Typed × o.Typed
both_views p = (typed_view p.0, typed_view p.1)

pub two_map : (xs : List Typed) → two (map typed_view xs) ≡ option_map both_views (two xs)
two_map (x ∷ y ∷ []) = refl
two_map xs = refl

count_two : (at : ℕ) (op : Counted) (b : Bool) (xs : List o.Typed) → rules.counted at op (arguments b xs) ≡ counting at op (two xs)
count_two at op b (integer s ∷ y ∷ []) = refl
count_two at op b (computed s ∷ y ∷ []) = refl
count_two at op b (elements Element x ∷ y ∷ []) = refl
count_two at op b (elements LogicVector x ∷ y ∷ []) = refl
count_two at op b (elements Unsigned x ∷ integer n ∷ []) = refl
count_two at (Shift by) b (elements Unsigned x ∷ computed n ∷ []) = refl
count_two at op b (elements Unsigned x ∷ computed n ∷ []) = refl
count_two at op b (elements Unsigned x ∷ elements k y ∷ []) = refl
count_two at op b (elements Unsigned x ∷ enumerated e n y ∷ []) = refl
count_two at op b (elements Unsigned x ∷ truth y ∷ []) = refl
count_two at op b (elements Unsigned x ∷ interval y ∷ []) = refl
count_two at op b (elements Unsigned x ∷ composite p y ∷ []) = refl
count_two at op b (elements OpenVector x ∷ y ∷ []) = refl
count_two at op b (enumerated d m x ∷ y ∷ []) = refl
count_two at op b (truth x ∷ y ∷ []) = refl
count_two at op b (interval x ∷ y ∷ []) = refl
count_two at op b (composite p x ∷ y ∷ []) = refl
count_two at op b xs = refl

pub counted_two : (at : ℕ) (op : Counted) (b : Bool) (xs : List Typed) → rules.counted at op (arguments b (map typed_view xs)) ≡ counting at op (option_map both_views (two xs))
counted_two at op b xs = count_two at op b (map typed_view xs) ∙ ap (counting at op) (two_map xs)

encode_two : (at : ℕ) (b : Bool) (xs : List o.Typed) → rules.encoding at (arguments b xs) ≡ encoding at (two xs)
encode_two at b (integer s ∷ integer n ∷ []) = refl
encode_two at b (integer s ∷ computed y ∷ []) = refl
encode_two at b (integer s ∷ elements k y ∷ []) = refl
encode_two at b (integer s ∷ enumerated e n y ∷ []) = refl
encode_two at b (integer s ∷ truth y ∷ []) = refl
encode_two at b (integer s ∷ interval y ∷ []) = refl
encode_two at b (integer s ∷ composite p y ∷ []) = refl
encode_two at b (computed x ∷ integer n ∷ []) = refl
encode_two at b (computed x ∷ computed y ∷ []) = refl
encode_two at b (computed x ∷ elements k y ∷ []) = refl
encode_two at b (computed x ∷ enumerated e n y ∷ []) = refl
encode_two at b (computed x ∷ truth y ∷ []) = refl
encode_two at b (computed x ∷ interval y ∷ []) = refl
encode_two at b (computed x ∷ composite p y ∷ []) = refl
encode_two at b (elements j x ∷ y ∷ []) = refl
encode_two at b (enumerated d m x ∷ y ∷ []) = refl
encode_two at b (truth x ∷ y ∷ []) = refl
encode_two at b (interval x ∷ y ∷ []) = refl
encode_two at b (composite p x ∷ y ∷ []) = refl
encode_two at b xs = refl

pub encoding_two : (at : ℕ) (b : Bool) (xs : List Typed) → rules.encoding at (arguments b (map typed_view xs)) ≡ encoding at (option_map both_views (two xs))
encoding_two at b xs = encode_two at b (map typed_view xs) ∙ ap (encoding at) (two_map xs)

-- ---- the integer that a number is

number_alone : (at : ℕ) (b : Bool) (xs : List o.Typed) → rules.number_of at (arguments b xs) ≡ number_by at (sole xs)
number_alone at b (integer s ∷ []) = refl
number_alone at b (computed y ∷ []) = refl
number_alone at b (elements Element x ∷ []) = refl
number_alone at b (elements LogicVector x ∷ []) = refl
number_alone at b (elements Unsigned x ∷ []) = refl
number_alone at b (elements OpenVector x ∷ []) = refl
number_alone at b (enumerated d m x ∷ []) = refl
number_alone at b (truth x ∷ []) = refl
number_alone at b (interval x ∷ []) = refl
number_alone at b (composite p x ∷ []) = refl
number_alone at b xs = refl

pub number_sole : (at : ℕ) (b : Bool) (xs : List Typed) → rules.number_of at (arguments b (map typed_view xs)) ≡ number_by at (option_map typed_view (sole xs))
number_sole at b xs = number_alone at b (map typed_view xs) ∙ ap (number_by at) (sole_map typed_view xs)

-- ---- parts that no run chooses

abbrev pub unchosen : {A : Type 0} → rules.AnyPart → A → Option (u.Part × A)
unchosen (rules.fixed p) x = Some (p, x)
unchosen (rules.free c) x = None

abbrev typed_part : u.Part × ElementKind → u.Part × ObjectType
typed_part p = (p.0, Elements p.1)

abbrev typed_any_part : rules.AnyPart × ElementKind → rules.AnyPart × ObjectType
typed_any_part p = (p.0, Elements p.1)

abbrev as_fixed : u.Part × ElementKind → rules.AnyPart × ElementKind
as_fixed p = (rules.fixed p.0, p.1)

abbrev as_free : u.Chosen × ElementKind → rules.AnyPart × ElementKind
as_free p = (rules.free p.0, p.1)

pub part_unchosen : (type : ObjectType) (s : rules.Suffix) → rules.part_of type s ≡ (rules.any_part_of type s >>= λ (p : rules.AnyPart × ObjectType). unchosen p.0 p.1)
part_unchosen (Elements k) s = by (rules.part k s) (rules.chosen k s)
  where
    by : (fixed : Option (u.Part × ElementKind)) (free : Option (u.Chosen × ElementKind)) →
        option_map typed_part fixed
        ≡ (option_map typed_any_part (option_or (option_map as_fixed fixed) (option_map as_free free)) >>= λ (p : rules.AnyPart × ObjectType). unchosen p.0 p.1)
    by (Some p) free = refl
    by None (Some c) = refl
    by None None = refl
part_unchosen type rules.plain = refl
part_unchosen type s = refl

-- ---- vectors that are no signals

chain_other : (left : u.Vector) (x : VectorLink) (n : Count) (row : Row_of-VectorLink n) → is_signal (links_view (linked left x) row) ≡ false
chain_other left (l.Vector op at y) n end_of-VectorLink = refl
chain_other left (l.Integer op at s) n end_of-VectorLink = refl
chain_other left (l.Computed op at y) n end_of-VectorLink = refl
chain_other left x n (more_of-VectorLink y rest) = chain_other (linked left x) y _ rest

pub no_signal : (x : Vector) → ((p : SignalPart) → x ≡ v.Signal p → ⊥) → is_signal (vector_view x) ≡ false
no_signal (v.Signal p) other = absurd (other p refl)
no_signal (v.Chain' b first x shape rest) other = chain_other (vector_view first) x _ rest
no_signal x other = refl

-- what is no signal's name has no edge
pub no_edge : (k : ElementKind) (x : u.Vector) → is_signal x ≡ false → rules.edge_signal (elements k x) ≡ None
no_edge Element (u.of_signal p) h = absurd (true≢false h)
no_edge k x h = refl

-- ---- static integers

pub and-assoc : (a b c : Bool) → ((a && b) && c) ≡ (a && (b && c))
and-assoc true b c = refl
and-assoc false b c = refl

pub and-true : (b : Bool) → b ≡ (b && true)
and-true true = refl
and-true false = refl

pub is_static_chained : (left : u.Static) (ls : List StaticLink) →
    rules.is_static (static_chained left ls) ≡ (rules.is_static left && list_all (λ l. rules.is_static (static_view l.operand)) ls)
is_static_chained left [] = and-true (rules.is_static left)
is_static_chained left (l ∷ ls) =
    is_static_chained (u.Static.binary l.at l.operator left (static_view l.operand)) ls
    ∙ and-assoc (rules.is_static left) (rules.is_static (static_view l.operand)) (list_all (λ k. rules.is_static (static_view k.operand)) ls)

pub is_static_chain : (x : Static) (start : Box StaticStart Global) (links : Vec StaticLink Global) → x ≡ s.Chain start links →
    rules.is_static (static_view x) ≡ (rules.is_static (start_view start.value) && list_all (λ l. rules.is_static (static_view l.operand)) links.items)
is_static_chain x start links e =
    ap (λ y. rules.is_static (static_view y)) e ∙ ap rules.is_static (view_chain start links) ∙ is_static_chained (start_view start.value) links.items

-- ---- what is wrong with a name

chain_edge : (left : u.Vector) (x : VectorLink) (n : Count) (row : Row_of-VectorLink n) → edge_problem (elements Element (links_view (linked left x) row)) ≡ TypeMismatch
chain_edge left (l.Vector op at y) n end_of-VectorLink = refl
chain_edge left (l.Integer op at s) n end_of-VectorLink = refl
chain_edge left (l.Computed op at y) n end_of-VectorLink = refl
chain_edge left x n (more_of-VectorLink y rest) = chain_edge (linked left x) y _ rest

-- an element that is no variable and no constant
pub other_edge : (x : Vector) → ((at k : ℕ) (p : Part) → x ≡ v.Variable at k p → ⊥) → ((at k : ℕ) (p : Part) → x ≡ v.Constant at k p → ⊥) →
    edge_problem (elements Element (vector_view x)) ≡ TypeMismatch
other_edge (v.Variable at k p) not_variable not_constant = absurd (not_variable at k p refl)
other_edge (v.Constant at k p) not_variable not_constant = absurd (not_constant at k p refl)
other_edge (v.Chain' b first x shape rest) not_variable not_constant = chain_edge (vector_view first) x _ rest
other_edge x not_variable not_constant = refl

call_problem : (e : Edge) (xs : List o.Typed) → name_problem (visibility.function (EdgeCall e)) (arguments true xs) ≡ edge_call_problem (sole xs)
call_problem e (x ∷ []) = refl
call_problem e xs = refl

-- an edge call by the argument that stands alone
pub call_problem_sole : (e : Edge) (xs : List Typed) →
    name_problem (visibility.function (EdgeCall e)) (arguments true (map typed_view xs)) ≡ edge_call_problem (option_map typed_view (sole xs))
call_problem_sole e xs = call_problem e (map typed_view xs) ∙ ap edge_call_problem (sole_map typed_view xs)

-- a call of to_integer by the argument that stands alone
alone_problem : (xs : List o.Typed) → problems.number_problem xs ≡ number_problem (sole xs)
alone_problem [] = refl
alone_problem (x ∷ []) = refl
alone_problem (integer s ∷ y ∷ zs) = refl
alone_problem (computed n ∷ y ∷ zs) = refl
alone_problem (elements Element x ∷ y ∷ zs) = refl
alone_problem (elements LogicVector x ∷ y ∷ zs) = refl
alone_problem (elements Unsigned x ∷ y ∷ zs) = refl
alone_problem (elements OpenVector x ∷ y ∷ zs) = refl
alone_problem (x ∷ y ∷ zs) = refl

pub number_told : (b : Bool) (xs : List Typed) →
    name_problem (visibility.function ToInteger) (arguments b (map typed_view xs)) ≡ number_problem (option_map typed_view (sole xs))
number_told b xs = alone_problem (map typed_view xs) ∙ ap number_problem (sole_map typed_view xs)

-- any other call
pub other_call : (f : Function) (s : rules.Suffix) → ((e : Edge) → f ≡ EdgeCall e → ⊥) → (f ≡ ToInteger → ⊥) → name_problem (visibility.function f) s ≡ TypeMismatch
other_call (EdgeCall e) s not_edge no_number = absurd (not_edge e refl)
other_call (ByCount op) s not_edge no_number = refl
other_call ToUnsigned s not_edge no_number = refl
other_call ToInteger s not_edge no_number = absurd (no_number refl)

-- no call
pub no_call : (f : Function) (s : TypedSuffix) → ((e : Edge) → f ≡ EdgeCall e → ⊥) → ((b : Bool) (xs : Vec Typed Global) → s ≡ suffix.Arguments b xs → ⊥)
    → name_problem (visibility.function f) (typed_suffix_view s) ≡ TypeMismatch
no_call (EdgeCall e) s not_edge no_arguments = absurd (not_edge e refl)
no_call (ByCount op) s not_edge no_arguments = refl
no_call ToUnsigned s not_edge no_arguments = refl
no_call ToInteger (suffix.Arguments b xs) not_edge no_arguments = absurd (no_arguments b xs refl)
no_call ToInteger s not_edge no_arguments = refl
