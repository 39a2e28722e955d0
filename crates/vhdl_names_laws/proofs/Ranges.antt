-- Attributes of ranges, and ranges by name, are inside where what they are of is (IEEE 1076-2008, 16.2.2, 16.2.3).
use Rattle.std.proofs.Common.{◌≡◌, ℕ, Bool, true, ◌&&◌, List, [], ◌∷◌, Option, Some, None, refl, ap, sym, ◌∙◌, subst}
use Rattle.std.specs.Prelude.{nat_lt, IsTrue, IfSome}
use Rattle.std.specs.Option.{option_map}
use Rattle.std.proofs.lemmas.Bool.{and_parts, and_from}
use Rattle.vhdl_tree.specs.Tree as t
use Rattle.vhdl_tree.specs.Tree.{Attribute}
use Rattle.vhdl_names_rules.specs.declared.kind.ElementKind.{ElementKind}
use Rattle.vhdl_names_rules.specs.declared.operator.Bound.{Bound}
use Rattle.vhdl_names_rules.specs.declared.operator.Bound.TheVariants.{Left, Right, High, Low, Length}
use Rattle.vhdl_names_rules.specs.declared.operator.IntegerType.{IntegerType}
use Rattle.vhdl_names_rules.specs.declared.operator.IntegerType.TheVariants.{Integer, Natural, Positive}
use Rattle.vhdl_names_rules.specs.units.Expressions as e
use Rattle.vhdl_names_rules.specs.units.Expressions.{Static, Range, Vector}
use Rattle.vhdl_names_rules.specs.Rules.{◌>>=◌, then_some}
use Rattle.vhdl_names_rules.specs.Visibility as visibility
use Rattle.vhdl_names_rules.specs.Visibility.{Name, Meaning, DeclaredRange, Declared}
use Rattle.vhdl_names_rules.specs.Operators as o
use Rattle.vhdl_names_rules.specs.Operators.{Typed}
use Rattle.vhdl_names_rules.specs.Names as n
use Rattle.vhdl_names_rules.specs.Names.{Suffix}
use Rattle.vhdl_names_rules.specs.Ranges as r
use Rattle.vhdl_names_rules.specs.Ranges.{Ranged, whole, sliced, ranged, bound_of, least, type_bound, integers_bound, bound, bound_named, declared_range, reversed, range_of, is_reverse_range, named_range, range_attribute, sized_by}
use Rattle.vhdl_names_rules.specs.sound.Expressions.{Inside, vector, is_vector, static_fits, range_fits, any_range_fits, computed_fits, vector_shape}
use Rattle.vhdl_names_rules.proofs.kept.Keeping.{mapped}
use Rattle.vhdl_names_rules.proofs.laws.Rules.{comes, kept}
use Rattle.vhdl_names_laws.specs.Meanings.{Counts, kind_shape, DeclaredFits, TypedFits}
use Rattle.vhdl_names_laws.proofs.Statics.{some_same}
use Rattle.vhdl_names_laws.proofs.Shapes.{of_either}

module _ (i : Inside) where
  abbrev pub RangeFits : Option DeclaredRange → Type 0
  RangeFits d = IfSome d (λ r. IsTrue (nat_lt r.number i.ranges))

  pub declared_range_fits : (d : DeclaredRange) → nat_lt d.number i.ranges ≡ true → range_fits i (declared_range d) ≡ true
  declared_range_fits d h = and_from (nat_lt d.number i.ranges) (nat_lt d.number i.ranges) h h

  pub any_declared_fits : (d : Option DeclaredRange) → RangeFits d → any_range_fits i (option_map declared_range d) ≡ true
  any_declared_fits None h = refl
  any_declared_fits (Some d) h = declared_range_fits d h

  pub reversed_fits : (x : Range) → range_fits i x ≡ true → range_fits i (reversed x) ≡ true
  reversed_fits x h =
      let a = and_parts (static_fits i x.left) (static_fits i x.right) h in
      and_from (static_fits i x.right) (static_fits i x.left) a.1 a.0

  -- ---- what has a range

  abbrev RangedFits : Ranged → Type 0
  RangedFits (r.of_type w) = Unit {0}
  RangedFits (r.of_integers d) = nat_lt d.number i.ranges ≡ true
  RangedFits (r.of_vector d) = nat_lt d.number i.ranges ≡ true
  RangedFits (r.of_slice d x) = (nat_lt d.number i.ranges ≡ true) × (range_fits i x ≡ true)

  same_ranged : (x y : Ranged) → Some x ≡ Some y → RangedFits x → RangedFits y
  same_ranged x y h f = subst RangedFits (some_same x y h) f

  vector_fits : (d : Option DeclaredRange) (y : Ranged) → RangeFits d → option_map r.of_vector d ≡ Some y → RangedFits y
  vector_fits None y h g = absurd cc
  vector_fits (Some d) y h g = same_ranged (r.of_vector d) y g h

  whole_fits : (m : Meaning) (d : Option DeclaredRange) (y : Ranged) → RangeFits d → whole m d ≡ Some y → RangedFits y
  whole_fits (visibility.integer_type w) None y h g = same_ranged (r.of_type w) y g tt
  whole_fits (visibility.integer_type w) (Some d) y h g = same_ranged (r.of_integers d) y g h
  whole_fits _ d y h g = vector_fits d y h g

  slice_fits : (d : Option DeclaredRange) (x : Range) (y : Ranged) → RangeFits d → range_fits i x ≡ true → option_map (λ d. r.of_slice d x) d ≡ Some y → RangedFits y
  slice_fits None x y h f g = absurd cc
  slice_fits (Some d) x y h f g = same_ranged (r.of_slice d x) y g (h, f)

  sliced_fits : (m : Meaning) (d : Option DeclaredRange) (x : Range) (y : Ranged) → RangeFits d → range_fits i x ≡ true → sliced m d x ≡ Some y → RangedFits y
  sliced_fits (visibility.integer_type w) d x y h f g = absurd cc
  sliced_fits (visibility.vector_type k is_resolved) d x y h f g = absurd cc
  sliced_fits _ d x y h f g = slice_fits d x y h f g

  -- ---- bounds

  same_static : (x y : Static) → Some x ≡ Some y → static_fits i x ≡ true → static_fits i y ≡ true
  same_static x y h f = subst (λ s. static_fits i s ≡ true) (some_same x y h) f

  least_fits : (w : IntegerType) → static_fits i (least w) ≡ true
  least_fits Integer = refl
  least_fits Natural = refl
  least_fits Positive = refl

  type_bound_fits : (b : Bound) (w : IntegerType) (s : Static) → type_bound b w ≡ Some s → static_fits i s ≡ true
  type_bound_fits Left w s g = same_static (least w) s g (least_fits w)
  type_bound_fits Low w s g = same_static (least w) s g (least_fits w)
  type_bound_fits Right w s g = same_static _ s g refl
  type_bound_fits High w s g = same_static _ s g refl
  type_bound_fits Length w s g = absurd cc

  integers_bound_fits : (b : Bound) (d : DeclaredRange) (s : Static) → nat_lt d.number i.ranges ≡ true → integers_bound b d ≡ Some s → static_fits i s ≡ true
  integers_bound_fits Length d s h g = absurd cc
  integers_bound_fits Left d s h g = same_static (e.bound Left d.number) s g h
  integers_bound_fits Right d s h g = same_static (e.bound Right d.number) s g h
  integers_bound_fits High d s h g = same_static (e.bound High d.number) s g h
  integers_bound_fits Low d s h g = same_static (e.bound Low d.number) s g h

  bound_fits : (at : ℕ) (b : Bound) (y : Ranged) (s : Static) → RangedFits y → bound at b y ≡ Some s → static_fits i s ≡ true
  bound_fits at b (r.of_type w) s h g = type_bound_fits b w s g
  bound_fits at b (r.of_integers d) s h g = integers_bound_fits b d s h g
  bound_fits at b (r.of_vector d) s h g = same_static (e.bound b d.number) s g h
  bound_fits at b (r.of_slice d x) s h g =
      let f = and_parts (static_fits i x.left) (static_fits i x.right) h.1 in
      same_static (e.slice_bound at b d.number x.left x.direction x.right) s g
      (and_from (nat_lt d.number i.ranges && static_fits i x.left) (static_fits i x.right) (and_from (nat_lt d.number i.ranges) (static_fits i x.left) h.0 f.0) f.1)

  -- ---- ranges

  same_range : (x y : Range) → Some x ≡ Some y → range_fits i x ≡ true → range_fits i y ≡ true
  same_range x y h f = subst (λ x. range_fits i x ≡ true) (some_same x y h) f

  range_of_fits : (y : Ranged) (x : Range) → RangedFits y → range_of y ≡ Some x → range_fits i x ≡ true
  range_of_fits (r.of_integers d) x h g = same_range (declared_range d) x g (declared_range_fits d h)
  range_of_fits (r.of_vector d) x h g = same_range (declared_range d) x g (declared_range_fits d h)
  range_of_fits _ x h g = absurd cc

  -- the range of a subtype of integers
  module _ (nm : Name) (b : Bool) (x : Range) where
    abbrev names_range : Meaning → Option DeclaredRange → Suffix → Option Range
    names_range m d s = named_range None (record { name = nm; meaning = m; range = d; is_global = b }) s

    plain_fits : (m : Meaning) (d : Option DeclaredRange) → RangeFits d → names_range m d n.plain ≡ Some x → range_fits i x ≡ true
    plain_fits (visibility.integer_type w) None h g = absurd cc
    plain_fits (visibility.integer_type w) (Some d) h g = same_range (declared_range d) x g (declared_range_fits d h)
    plain_fits _ None h g = absurd cc
    plain_fits _ (Some d) h g = absurd cc

    no_slice : (m : Meaning) (d : Option DeclaredRange) (y : Range) → names_range m d (n.range y) ≡ Some x → range_fits i x ≡ true
    no_slice (visibility.integer_type w) d y g = absurd cc
    no_slice (visibility.vector_type k is_resolved) d y g = absurd cc
    no_slice _ None y g = absurd cc
    no_slice _ (Some d) y g = absurd cc

    subtype_fits : (m : Meaning) (d : Option DeclaredRange) (s : Suffix) → RangeFits d → names_range m d s ≡ Some x → range_fits i x ≡ true
    subtype_fits m d n.plain h g = plain_fits m d h g
    subtype_fits m d (n.range y) h g = no_slice m d y g
    subtype_fits m d (n.arguments c xs) h g = absurd cc
    subtype_fits m d (n.computed_range l direction r) h g = absurd cc

  module _ (counts : Counts) where
    -- each of several things
    abbrev pub EachFits : List Typed → Type 0
    EachFits [] = Unit {0}
    EachFits (x ∷ xs) = TypedFits i counts x × EachFits xs

    abbrev pub SuffixFits : Suffix → Type 0
    SuffixFits n.plain = Unit {0}
    SuffixFits (n.arguments b xs) = EachFits xs
    SuffixFits (n.range x) = range_fits i x ≡ true
    SuffixFits (n.computed_range l direction r) = (computed_fits i l && computed_fits i r) ≡ true

    ranged_fits : (d : Declared) (s : Suffix) (y : Ranged) → DeclaredFits i counts d → SuffixFits s → ranged d s ≡ Some y → RangedFits y
    ranged_fits d n.plain y h f g = whole_fits d.meaning d.range y h.range g
    ranged_fits d (n.range x) y h f g = sliced_fits d.meaning d.range x y h.range f g
    ranged_fits d (n.arguments b xs) y h f g = absurd cc
    ranged_fits d (n.computed_range l direction r) y h f g = absurd cc

    named_range_fits : (a : Option Attribute) (d : Declared) (s : Suffix) (x : Range) → DeclaredFits i counts d → SuffixFits s → named_range a d s ≡ Some x → range_fits i x ≡ true
    named_range_fits (Some (t.of_range at)) d s x h f g =
        let y = comes (ranged d s) range_of x g in
        range_of_fits y.value x (ranged_fits d s y.value h f y.is) y.rest
    named_range_fits (Some (t.called a)) d s x h f g =
        let k = kept (is_reverse_range a) _ x g in
        let y = comes (ranged d s) _ x k.1 in
        let m = mapped reversed (range_of y.value) x y.rest in
        subst (λ x. range_fits i x ≡ true) m.is (reversed_fits m.value (range_of_fits y.value m.value (ranged_fits d s y.value h f y.is) m.from))
    named_range_fits None d s x h f g = subtype_fits d.name d.is_global x d.meaning d.range s h.range g

    bound_named_fits : (at : ℕ) (a : Option Attribute) (d : Declared) (s : Suffix) (x : Typed) → DeclaredFits i counts d → SuffixFits s → bound_named at a d s ≡ Some x
        → TypedFits i counts x
    bound_named_fits at (Some (t.called a)) d s x h f g =
        let b = comes (bound_of a.text) _ x g in
        let y = comes (ranged d s) _ x b.rest in
        let m = mapped o.integer (bound at b.value y.value) x y.rest in
        subst (TypedFits i counts) m.is (bound_fits at b.value y.value m.value (ranged_fits d s y.value h f y.is) m.from)
    bound_named_fits at _ d s x h f g = absurd cc

    pub range_attribute_fits : (at : ℕ) (a : Option Attribute) (d : Declared) (s : Suffix) (x : Typed) → DeclaredFits i counts d → SuffixFits s
        → range_attribute at a d s ≡ Some x → TypedFits i counts x
    range_attribute_fits at a d s x h f g =
        of_either (TypedFits i counts) (option_map o.interval (named_range a d s)) (bound_named at a d s) x
        (λ z e. let m = mapped o.interval (named_range a d s) z e in subst (TypedFits i counts) m.is (named_range_fits a d s m.value h f m.from))
        (λ z e. bound_named_fits at a d s z h f e) g

    -- ---- values of a type with a range

    pub sized_fits : (at : ℕ) (k : ElementKind) (b : Bool) (d : Option DeclaredRange) (z : Vector) → RangeFits d → kind_shape k ≡ vector → vector_shape i z ≡ Some vector
        → TypedFits i counts (sized_by at (visibility.vector_type k b) d (o.elements k z))
    sized_fits at k b None z h v g = g ∙ ap Some (sym v)
    sized_fits at k b (Some d) z h v g =
        let is = range_fits i (declared_range d) in
        ap (λ o. o >>= λ y. then_some (is_vector y && is) vector) g ∙ ap (λ b. then_some b vector) (declared_range_fits d h) ∙ ap Some (sym v)
