-- What a name denotes has the bytes of the name and of what follows it.
use Rattle.std.proofs.Common.{◌≡◌, ℕ, Bool, true, false, not, List, [], ◌∷◌, Option, Some, None, refl, sym, subst, cond}
use Rattle.std.specs.Prelude.{codes}
use Rattle.std.specs.Option.{option_map}
use Rattle.std.specs.Str.{bytes_eq}
use Rattle.vhdl_values.specs.declared.kinds.Counted.{Counted}
use Rattle.vhdl_values.specs.declared.kinds.Counted.TheVariants.{Shift}
use Rattle.vhdl_values.specs.declared.kinds.Edge.{Edge}
use Rattle.vhdl_lexer.specs.declared.language.Language.{Language}
use Rattle.vhdl_tree.specs.Tree as tree
use Rattle.vhdl_tree.specs.Tree.{Attribute}
use Rattle.vhdl_names_rules.specs.declared.kind.ElementKind.{ElementKind}
use Rattle.vhdl_names_rules.specs.declared.kind.ElementKind.TheVariants.{Element, LogicVector, Unsigned, OpenVector}
use Rattle.vhdl_names_rules.specs.declared.kind.ObjectType.{ObjectType}
use Rattle.vhdl_names_rules.specs.declared.kind.ObjectType.TheVariants.{Elements, Enumeration, Integers, Booleans}
use Rattle.vhdl_names_rules.specs.declared.kind.Function.{Function}
use Rattle.vhdl_names_rules.specs.declared.kind.Function.TheVariants.{EdgeCall, ByCount, ToUnsigned, ToInteger}
use Rattle.vhdl_names_rules.specs.declared.operator.Bound.{Bound}
use Rattle.vhdl_names_rules.specs.declared.operator.Bound.TheVariants.{Left, Right, High, Low, Length}
use Rattle.vhdl_names_rules.specs.declared.operator.IntegerType.{IntegerType}
use Rattle.vhdl_names_rules.specs.declared.operator.IntegerType.TheVariants.{Integer, Natural, Positive}
use Rattle.vhdl_names_rules.specs.Rules.{◌>>=◌, wider}
use Rattle.vhdl_names_rules.specs.units.Expressions as e
use Rattle.vhdl_names_rules.specs.units.Expressions.{Static, Range, Signal, Part, Chosen, SignalPart, Vector}
use Rattle.vhdl_names_rules.specs.units.Bytes.{static_bytes, range_bytes, part_bytes, place_bytes, computed_bytes, chosen_bytes, vector_bytes}
use Rattle.vhdl_names_rules.specs.Visibility as visibility
use Rattle.vhdl_names_rules.specs.Visibility.{Name, Meaning, DeclaredRange, Declared}
use Rattle.vhdl_names_rules.specs.Operators as o
use Rattle.vhdl_names_rules.specs.Operators.{Typed}
use Rattle.vhdl_names_rules.specs.Known.{is_known}
use Rattle.vhdl_names_rules.specs.Names as n
use Rattle.vhdl_names_rules.specs.Names.{Suffix, AnyPart, part, part_of, chosen, any_part, any_part_of, if_plain, read_by, signal_part, variable_part, constant_part, converted, is_static_part, edge_signal, edge_of, counted, encoding, number_of, called, read_object, read_variable, denoted, attributed}
use Rattle.vhdl_names_rules.specs.Ranges as r
use Rattle.vhdl_names_rules.specs.Ranges.{Ranged, whole, sliced, ranged, bound_of, least, type_bound, integers_bound, bound, bound_named, declared_range, reversed, range_of, is_reverse_range, named_range, range_attribute, sized_by}
use Rattle.vhdl_names_rules.specs.Expressions.{named}
use Rattle.vhdl_names_rules.proofs.laws.Rules.{comes, kept}
use Rattle.vhdl_names_laws.proofs.Statics.{some_same}
use Rattle.vhdl_names_laws.proofs.Shapes.{given, of_either, wider_is}
use Rattle.vhdl_names_rules.proofs.kept.Keeping.{mapped}
use Rattle.vhdl_names_laws.proofs.standing.Holding.{Hold, hold_both, first_part, last_part, TypedHolds, SuffixHolds}

module _ (P : ℕ → Type 0) where
  -- ---- parts of an object

  pub part_holds : (k : ElementKind) (s : Suffix) (p : Part × ElementKind) → SuffixHolds P s → part k s ≡ Some p → Hold P (part_bytes p.0)
  part_holds k s p t g = by k s t g
    where
      is : (q : Part × ElementKind) → Some q ≡ Some p → Hold P (part_bytes q.0) → Hold P (part_bytes p.0)
      is q g h = subst (λ (q : Part × ElementKind). Hold P (part_bytes q.0)) (some_same q p g) h

      by : (k : ElementKind) (s : Suffix) → SuffixHolds P s → part k s ≡ Some p → Hold P (part_bytes p.0)
      by k n.plain t g = is (e.whole, k) g tt
      by LogicVector (n.arguments b (o.integer s ∷ [])) t g = is (e.Part.element s, Element) g t.0
      by Unsigned (n.arguments b (o.integer s ∷ [])) t g = is (e.Part.element s, Element) g t.0
      by LogicVector (n.range r) t g = is (e.slice r, LogicVector) g t
      by Unsigned (n.range r) t g = is (e.slice r, Unsigned) g t
      by _ _ t g = absurd cc

  -- likewise of any object
  pub part_of_holds : (type : ObjectType) (s : Suffix) (p : Part × ObjectType) → SuffixHolds P s → part_of type s ≡ Some p → Hold P (part_bytes p.0)
  part_of_holds (Elements k) s p t g =
      let a = mapped (λ (q : Part × ElementKind). (q.0, Elements q.1)) (part k s) p g in
      subst (λ (q : Part × ObjectType). Hold P (part_bytes q.0)) a.is (part_holds k s a.value t a.from)
  part_of_holds type n.plain p t g = subst (λ (q : Part × ObjectType). Hold P (part_bytes q.0)) (some_same (e.whole, type) p g) tt
  part_of_holds _ _ p t g = absurd cc

  -- ---- parts of which a run chooses some

  abbrev pub any_part_bytes : AnyPart → List ℕ
  any_part_bytes (n.fixed p) = part_bytes p
  any_part_bytes (n.free c) = chosen_bytes c

  chosen_holds : (k : ElementKind) (s : Suffix) (p : Chosen × ElementKind) → SuffixHolds P s → chosen k s ≡ Some p → Hold P (chosen_bytes p.0)
  chosen_holds k (n.arguments b (o.computed x ∷ [])) p t g =
      subst (λ (q : Chosen × ElementKind). Hold P (chosen_bytes q.0)) (given (o.is_vector k) (e.element_at x, Element) p g).is t.0
  chosen_holds k (n.computed_range l direction r) p t g =
      subst (λ (q : Chosen × ElementKind). Hold P (chosen_bytes q.0)) (given (o.is_vector k) (e.slice_at l direction r, k) p g).is t
  chosen_holds k _ p t g = absurd cc

  any_part_holds : (k : ElementKind) (s : Suffix) (p : AnyPart × ElementKind) → SuffixHolds P s → any_part k s ≡ Some p → Hold P (any_part_bytes p.0)
  any_part_holds k s p t g =
      of_either (λ (q : AnyPart × ElementKind). Hold P (any_part_bytes q.0)) (option_map (λ (q : Part × ElementKind). (n.fixed q.0, q.1)) (part k s)) (option_map (λ (q : Chosen × ElementKind). (n.free q.0, q.1)) (chosen k s)) p
      (λ z q.
      let m = mapped (λ (q : Part × ElementKind). (n.fixed q.0, q.1)) (part k s) z q in
      subst (λ (q : AnyPart × ElementKind). Hold P (any_part_bytes q.0)) m.is (part_holds k s m.value t m.from))
      (λ z q.
      let m = mapped (λ (q : Chosen × ElementKind). (n.free q.0, q.1)) (chosen k s) z q in
      subst (λ (q : AnyPart × ElementKind). Hold P (any_part_bytes q.0)) m.is (chosen_holds k s m.value t m.from)) g

  -- likewise of any object
  pub any_part_of_holds : (type : ObjectType) (s : Suffix) (p : AnyPart × ObjectType) → SuffixHolds P s → any_part_of type s ≡ Some p → Hold P (any_part_bytes p.0)
  any_part_of_holds (Elements k) s p t g =
      let a = mapped (λ (q : AnyPart × ElementKind). (q.0, Elements q.1)) (any_part k s) p g in
      subst (λ (q : AnyPart × ObjectType). Hold P (any_part_bytes q.0)) a.is (any_part_holds k s a.value t a.from)
  any_part_of_holds type n.plain p t g = subst (λ (q : AnyPart × ObjectType). Hold P (any_part_bytes q.0)) (some_same (n.fixed e.whole, type) p g) tt
  any_part_of_holds _ _ p t g = absurd cc

  -- ---- objects that are read

  signal_part_bytes : (at : ℕ) (x : Signal) (p : AnyPart) → vector_bytes (signal_part at x p) ≡ at ∷ any_part_bytes p
  signal_part_bytes at x (n.fixed p) = refl
  signal_part_bytes at x (n.free c) = refl

  variable_part_bytes : (at k : ℕ) (p : AnyPart) → vector_bytes (variable_part at k p) ≡ at ∷ any_part_bytes p
  variable_part_bytes at k (n.fixed p) = refl
  variable_part_bytes at k (n.free c) = refl

  constant_part_bytes : (at k : ℕ) (p : AnyPart) → vector_bytes (constant_part at k p) ≡ at ∷ any_part_bytes p
  constant_part_bytes at k (n.fixed p) = refl
  constant_part_bytes at k (n.free c) = refl

  read_holds : (at : ℕ) (object : AnyPart → Vector) → ((p : AnyPart) → vector_bytes (object p) ≡ at ∷ any_part_bytes p) → P at
      → (k : ElementKind) (s : Suffix) (x : Typed) → SuffixHolds P s → read_by object k s ≡ Some x → TypedHolds P x
  read_holds at object c h k s x t g =
      let a = mapped (λ (p : AnyPart × ElementKind). o.elements p.1 (object p.0)) (any_part k s) x g in
      subst (TypedHolds P) a.is (subst (Hold P) (sym (c a.value.0)) (h, any_part_holds k s a.value t a.from))

  plain_holds : (s : Suffix) (x y : Typed) → TypedHolds P x → if_plain s x ≡ Some y → TypedHolds P y
  plain_holds n.plain x y h g = subst (TypedHolds P) (some_same x y g) h
  plain_holds _ x y h g = absurd cc

  -- a signal or port, and a variable, of any type
  object_holds : (at : ℕ) → P at → (x : Signal) (type : ObjectType) (s : Suffix) (y : Typed) → SuffixHolds P s → read_object at x type s ≡ Some y → TypedHolds P y
  object_holds at h x (Elements kind) s y t g = read_holds at (signal_part at x) (signal_part_bytes at x) h kind s y t g
  object_holds at h x (Enumeration d count) s y t g = plain_holds s (o.enumerated d count (e.state_of x)) y tt g
  object_holds at h x Integers s y t g = plain_holds s (o.computed (e.signal_number x)) y tt g
  object_holds at h x Booleans s y t g = plain_holds s (n.is_true at (signal_part at x (n.fixed e.whole))) y (h, (h, tt)) g

  variable_holds : (at : ℕ) → P at → (k : ℕ) (type : ObjectType) (s : Suffix) (y : Typed) → SuffixHolds P s → read_variable at k type s ≡ Some y → TypedHolds P y
  variable_holds at h k (Elements kind) s y t g = read_holds at (variable_part at k) (variable_part_bytes at k) h kind s y t g
  variable_holds at h k (Enumeration d count) s y t g = plain_holds s (o.enumerated d count (e.state_of_variable k)) y tt g
  variable_holds at h k Integers s y t g = plain_holds s (o.computed (e.variable_number k)) y tt g
  variable_holds at h k Booleans s y t g = plain_holds s (n.is_true at (variable_part at k (n.fixed e.whole))) y (h, (h, tt)) g

  -- ---- conversions and calls

  converted_holds : (k : ElementKind) (s : Suffix) (y : Typed) → SuffixHolds P s → converted k s ≡ Some y → TypedHolds P y
  converted_holds k (n.arguments b (o.elements LogicVector x ∷ [])) y t g = subst (TypedHolds P) (some_same (o.elements k x) y g) t.0
  converted_holds k (n.arguments b (o.elements Unsigned x ∷ [])) y t g = subst (TypedHolds P) (some_same (o.elements k x) y g) t.0
  converted_holds k (n.arguments b (o.elements OpenVector x ∷ [])) y t g = subst (TypedHolds P) (some_same (o.elements k x) y g) t.0
  converted_holds k _ y t g = absurd cc

  counted_holds : (at : ℕ) (op : Counted) → P at → (s : Suffix) (y : Typed) → SuffixHolds P s → counted at op s ≡ Some y → TypedHolds P y
  counted_holds at op h (n.arguments b (o.elements Unsigned x ∷ o.integer s ∷ [])) y t g =
      subst (TypedHolds P) (some_same (o.elements Unsigned (e.counted at op x s)) y g) (h, hold_both P (vector_bytes x) (static_bytes s) t.0 t.1.0)
  counted_holds at (Shift by) h (n.arguments b (o.elements Unsigned x ∷ o.computed s ∷ [])) y t g =
      subst (TypedHolds P) (some_same (o.elements Unsigned (e.shifted at by x s)) y g) (h, hold_both P (vector_bytes x) (computed_bytes s) t.0 t.1.0)
  counted_holds at op h _ y t g = absurd cc

  encoding_holds : (at : ℕ) → P at → (s : Suffix) (y : Typed) → SuffixHolds P s → encoding at s ≡ Some y → TypedHolds P y
  encoding_holds at h (n.arguments b (o.integer s ∷ o.integer size ∷ [])) y t g =
      subst (TypedHolds P) (some_same (o.elements Unsigned (e.Vector.encoded at s size)) y g) (h, hold_both P (static_bytes s) (static_bytes size) t.0 t.1.0)
  encoding_holds at h (n.arguments b (o.computed x ∷ o.integer size ∷ [])) y t g =
      subst (TypedHolds P) (some_same (o.elements Unsigned (e.computed_encoded at x size)) y g) (h, hold_both P (computed_bytes x) (static_bytes size) t.0 t.1.0)
  encoding_holds at h _ y t g = absurd cc

  number_holds : (at : ℕ) → P at → (s : Suffix) (y : Typed) → SuffixHolds P s → number_of at s ≡ Some y → TypedHolds P y
  number_holds at h (n.arguments b (o.elements Unsigned x ∷ [])) y t g =
      subst (TypedHolds P) (given (not (is_known x)) (o.computed (e.number_of at x)) y g).is (h, t.0)
  number_holds at h _ y t g = absurd cc

  edge_place : (x : Typed) (p : SignalPart) → TypedHolds P x → edge_signal x ≡ Some p → Hold P (place_bytes p)
  edge_place (o.elements Element (e.of_signal q)) p t g = by (is_static_part q.part) g
    where
      by : (b : Bool) → cond b (Some q) None ≡ Some p → Hold P (place_bytes p)
      by true g = subst (λ p. Hold P (place_bytes p)) (some_same q p g) t
      by false g = absurd cc
  edge_place _ p t g = absurd cc

  edge_call_holds : (edge : Edge) (s : Suffix) (y : Typed) → SuffixHolds P s → edge_of edge s ≡ Some y → TypedHolds P y
  edge_call_holds edge (n.arguments true (x ∷ [])) y t g =
      let c = mapped (λ p. o.truth (e.edge edge p)) (edge_signal x) y g in
      subst (TypedHolds P) c.is (edge_place x c.value t.0 c.from)
  edge_call_holds edge _ y t g = absurd cc

  called_holds : (at : ℕ) → P at → (f : Function) (s : Suffix) (y : Typed) → SuffixHolds P s → called at f s ≡ Some y → TypedHolds P y
  called_holds at h (EdgeCall edge) s y t g = edge_call_holds edge s y t g
  called_holds at h (ByCount op) s y t g = counted_holds at op h s y t g
  called_holds at h ToUnsigned s y t g = encoding_holds at h s y t g
  called_holds at h ToInteger s y t g = number_holds at h s y t g

  -- ---- all names

  denoted_holds : (at : ℕ) → P at → (d : Meaning) (s : Suffix) (y : Typed) → SuffixHolds P s → denoted at d s ≡ Some y → TypedHolds P y
  denoted_holds at h (visibility.generic k) s y t g = plain_holds s (o.integer (e.generic k)) y tt g
  denoted_holds at h (visibility.integer_constant k) s y t g = plain_holds s (o.integer (e.Static.constant k)) y tt g
  denoted_holds at h (visibility.generate_parameter k) s y t g = plain_holds s (o.integer (e.generate_parameter k)) y tt g
  denoted_holds at h (visibility.loop_parameter k) s y t g = plain_holds s (o.integer (e.loop_parameter k)) y tt g
  denoted_holds at h (visibility.boolean_generic k) s y t g = plain_holds s (n.known at (e.generic k)) y (h, tt) g
  denoted_holds at h (visibility.boolean_constant k) s y t g = plain_holds s (n.known at (e.Static.constant k)) y (h, tt) g
  denoted_holds at h (visibility.boolean_literal b) s y t g = plain_holds s (n.known at (e.number (n.position_of b))) y (h, tt) g
  denoted_holds at h (visibility.port k mode type) s y t g = object_holds at h (e.port k) type s y t g
  denoted_holds at h (visibility.signal k type) s y t g = object_holds at h (e.Signal.signal k) type s y t g
  denoted_holds at h (visibility.variable k type) s y t g = variable_holds at h k type s y t g
  denoted_holds at h (visibility.constant k kind values) s y t g = read_holds at (constant_part at k) (constant_part_bytes at k) h kind s y t g
  denoted_holds at h (visibility.literal d count p) s y t g = plain_holds s (o.enumerated d count (e.Value.position p)) y tt g
  denoted_holds at h (visibility.vector_type k r) s y t g = converted_holds k s y t g
  denoted_holds at h (visibility.function f) s y t g = called_holds at h f s y t g
  denoted_holds at h _ s y t g = absurd cc

  attributed_holds : (a : Option Attribute) (x y : Typed) → TypedHolds P x → attributed a x ≡ Some y → TypedHolds P y
  attributed_holds None x y t g = subst (TypedHolds P) (some_same x y g) t
  attributed_holds (Some (tree.of_range at)) x y t g = absurd cc
  attributed_holds (Some (tree.called a)) x y t g =
      let k = kept (bytes_eq a.text (codes "event")) _ y g in
      let c = comes (edge_signal x) (λ p. Some (o.truth (e.event p))) y k.1 in
      subst (TypedHolds P) (some_same (o.truth (e.event c.value)) y c.rest) (edge_place x c.value t c.is)

  -- ---- bounds and ranges

  -- a declared range has no bytes
  abbrev RangedHolds : Ranged → Type 0
  RangedHolds (r.of_slice d x) = Hold P (range_bytes x)
  RangedHolds _ = Unit {0}

  whole_holds : (m : Meaning) (d : Option DeclaredRange) (y : Ranged) → whole m d ≡ Some y → RangedHolds y
  whole_holds (visibility.integer_type w) None y g = subst RangedHolds (some_same (r.of_type w) y g) tt
  whole_holds (visibility.integer_type w) (Some d) y g = subst RangedHolds (some_same (r.of_integers d) y g) tt
  whole_holds _ None y g = absurd cc
  whole_holds _ (Some d) y g = subst RangedHolds (some_same (r.of_vector d) y g) tt

  sliced_holds : (m : Meaning) (d : Option DeclaredRange) (x : Range) (y : Ranged) → Hold P (range_bytes x) → sliced m d x ≡ Some y → RangedHolds y
  sliced_holds (visibility.integer_type w) d x y h g = absurd cc
  sliced_holds (visibility.vector_type k is_resolved) d x y h g = absurd cc
  sliced_holds _ None x y h g = absurd cc
  sliced_holds _ (Some d) x y h g = subst RangedHolds (some_same (r.of_slice d x) y g) h

  ranged_holds : (d : Declared) (s : Suffix) (y : Ranged) → SuffixHolds P s → ranged d s ≡ Some y → RangedHolds y
  ranged_holds d n.plain y h g = whole_holds d.meaning d.range y g
  ranged_holds d (n.range x) y h g = sliced_holds d.meaning d.range x y h g
  ranged_holds d (n.arguments b xs) y h g = absurd cc
  ranged_holds d (n.computed_range l direction r) y h g = absurd cc

  same_static : (x y : Static) → Some x ≡ Some y → Hold P (static_bytes x) → Hold P (static_bytes y)
  same_static x y h f = subst (λ s. Hold P (static_bytes s)) (some_same x y h) f

  least_holds : (w : IntegerType) → Hold P (static_bytes (least w))
  least_holds Integer = tt
  least_holds Natural = tt
  least_holds Positive = tt

  type_bound_holds : (b : Bound) (w : IntegerType) (s : Static) → type_bound b w ≡ Some s → Hold P (static_bytes s)
  type_bound_holds Left w s g = same_static (least w) s g (least_holds w)
  type_bound_holds Low w s g = same_static (least w) s g (least_holds w)
  type_bound_holds Right w s g = same_static _ s g tt
  type_bound_holds High w s g = same_static _ s g tt
  type_bound_holds Length w s g = absurd cc

  integers_bound_holds : (b : Bound) (d : DeclaredRange) (s : Static) → integers_bound b d ≡ Some s → Hold P (static_bytes s)
  integers_bound_holds Length d s g = absurd cc
  integers_bound_holds Left d s g = same_static (e.bound Left d.number) s g tt
  integers_bound_holds Right d s g = same_static (e.bound Right d.number) s g tt
  integers_bound_holds High d s g = same_static (e.bound High d.number) s g tt
  integers_bound_holds Low d s g = same_static (e.bound Low d.number) s g tt

  bound_holds : (at : ℕ) (b : Bound) (y : Ranged) (s : Static) → P at → RangedHolds y → bound at b y ≡ Some s → Hold P (static_bytes s)
  bound_holds at b (r.of_type w) s h f g = type_bound_holds b w s g
  bound_holds at b (r.of_integers d) s h f g = integers_bound_holds b d s g
  bound_holds at b (r.of_vector d) s h f g = same_static (e.bound b d.number) s g tt
  bound_holds at b (r.of_slice d x) s h f g = same_static (e.slice_bound at b d.number x.left x.direction x.right) s g (h, f)

  range_of_holds : (y : Ranged) (x : Range) → range_of y ≡ Some x → Hold P (range_bytes x)
  range_of_holds (r.of_integers d) x g = subst (λ x. Hold P (range_bytes x)) (some_same (declared_range d) x g) tt
  range_of_holds (r.of_vector d) x g = subst (λ x. Hold P (range_bytes x)) (some_same (declared_range d) x g) tt
  range_of_holds _ x g = absurd cc

  reversed_holds : (x : Range) → Hold P (range_bytes x) → Hold P (range_bytes (reversed x))
  reversed_holds x h =
      hold_both P (static_bytes x.right) (static_bytes x.left) (last_part P (static_bytes x.left) (static_bytes x.right) h) (first_part P (static_bytes x.left) (static_bytes x.right) h)

  -- the range of a subtype of integers
  module _ (nm : Name) (b : Bool) (x : Range) where
    abbrev names_range : Meaning → Option DeclaredRange → Suffix → Option Range
    names_range m d s = named_range None (record { name = nm; meaning = m; range = d; is_global = b }) s

    plain_range_holds : (m : Meaning) (d : Option DeclaredRange) → names_range m d n.plain ≡ Some x → Hold P (range_bytes x)
    plain_range_holds (visibility.integer_type w) None g = absurd cc
    plain_range_holds (visibility.integer_type w) (Some d) g = subst (λ x. Hold P (range_bytes x)) (some_same (declared_range d) x g) tt
    plain_range_holds _ None g = absurd cc
    plain_range_holds _ (Some d) g = absurd cc

    no_slice : (m : Meaning) (d : Option DeclaredRange) (y : Range) → names_range m d (n.range y) ≡ Some x → Hold P (range_bytes x)
    no_slice (visibility.integer_type w) d y g = absurd cc
    no_slice (visibility.vector_type k is_resolved) d y g = absurd cc
    no_slice _ None y g = absurd cc
    no_slice _ (Some d) y g = absurd cc

    subtype_range_holds : (m : Meaning) (d : Option DeclaredRange) (s : Suffix) → names_range m d s ≡ Some x → Hold P (range_bytes x)
    subtype_range_holds m d n.plain g = plain_range_holds m d g
    subtype_range_holds m d (n.range y) g = no_slice m d y g
    subtype_range_holds m d (n.arguments c xs) g = absurd cc
    subtype_range_holds m d (n.computed_range l direction r) g = absurd cc

  named_range_holds : (a : Option Attribute) (d : Declared) (s : Suffix) (x : Range) → named_range a d s ≡ Some x → Hold P (range_bytes x)
  named_range_holds (Some (tree.of_range at)) d s x g = let y = comes (ranged d s) range_of x g in range_of_holds y.value x y.rest
  named_range_holds (Some (tree.called a)) d s x g =
      let k = kept (is_reverse_range a) _ x g in
      let y = comes (ranged d s) _ x k.1 in
      let m = mapped reversed (range_of y.value) x y.rest in
      subst (λ x. Hold P (range_bytes x)) m.is (reversed_holds m.value (range_of_holds y.value m.value m.from))
  named_range_holds None d s x g = subtype_range_holds d.name d.is_global x d.meaning d.range s g

  bound_named_holds : (at : ℕ) (a : Option Attribute) (d : Declared) (s : Suffix) (x : Typed) → P at → SuffixHolds P s → bound_named at a d s ≡ Some x → TypedHolds P x
  bound_named_holds at (Some (tree.called a)) d s x h f g =
      let b = comes (bound_of a.text) _ x g in
      let y = comes (ranged d s) _ x b.rest in
      let m = mapped o.integer (bound at b.value y.value) x y.rest in
      subst (TypedHolds P) m.is (bound_holds at b.value y.value m.value h (ranged_holds d s y.value f y.is) m.from)
  bound_named_holds at _ d s x h f g = absurd cc

  -- ---- all names

  pub sized_holds : (at : ℕ) (m : Meaning) (d : Option DeclaredRange) (x : Typed) → P at → TypedHolds P x → TypedHolds P (sized_by at m d x)
  sized_holds at (visibility.vector_type k b) (Some d) (o.elements j x) h f = (h, f)
  sized_holds at (visibility.vector_type k b) (Some d) (o.integer s) h f = f
  sized_holds at (visibility.vector_type k b) (Some d) (o.computed s) h f = f
  sized_holds at (visibility.vector_type k b) (Some d) (o.enumerated c count x) h f = f
  sized_holds at (visibility.vector_type k b) (Some d) (o.truth x) h f = f
  sized_holds at (visibility.vector_type k b) (Some d) (o.interval x) h f = f
  sized_holds at (visibility.vector_type k b) (Some d) (o.composite p es) h f = f
  sized_holds at (visibility.vector_type k b) None x h f = f
  sized_holds at _ d x h f = f

  pub named_holds : (language : Language) (at : ℕ) (a : Option Attribute) (d : Declared) (s : Suffix) (x : Typed) → P at → SuffixHolds P s → named language at a d s ≡ Some x → TypedHolds P x
  named_holds language at a d s x h f g =
      of_either (TypedHolds P) (wider language (range_attribute at a d s)) (denoted at d.meaning s >>= λ x. attributed a (sized_by at d.meaning d.range x)) x
      (λ z q.
      of_either (TypedHolds P) (option_map o.interval (named_range a d s)) (bound_named at a d s) z
      (λ y q. let m = mapped o.interval (named_range a d s) y q in subst (TypedHolds P) m.is (named_range_holds a d s m.value m.from))
      (λ y q. bound_named_holds at a d s y h f q) (wider_is language (range_attribute at a d s) z q))
      (λ z q.
      let c = comes (denoted at d.meaning s) _ z q in
      attributed_holds a (sized_by at d.meaning d.range c.value) z (sized_holds at d.meaning d.range c.value h (denoted_holds at h d.meaning s c.value f c.is)) c.rest) g
