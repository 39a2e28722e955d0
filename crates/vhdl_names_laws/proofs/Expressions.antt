-- Each expression is what its type says (IEEE 1076-2008, clause 9).
use Rattle.std.proofs.Common.{◌≡◌, ℕ, Bool, true, false, ◌&&◌, List, [], ◌∷◌, Option, Some, refl, ap, sym, ◌∙◌, subst}
use Rattle.std.specs.Option.{option_map}
use Rattle.std.specs.List.{list_all}
use Rattle.std.proofs.lemmas.Bool.{and_from}
use Rattle.vhdl_tree.specs.declared.operator.Direction.{Direction}
use Rattle.vhdl_tree.specs.declared.operator.Sign.{Sign}
use Rattle.vhdl_tree.specs.declared.operator.Sign.TheVariants.{Plus, Minus}
use Rattle.vhdl_tree.specs.Tree as t
use Rattle.vhdl_tree.specs.Tree.{Expr, Exprs}
use Rattle.vhdl_names_rules.specs.declared.kind.ElementKind.{ElementKind}
use Rattle.vhdl_names_rules.specs.declared.kind.ElementKind.TheVariants.{Element, OpenVector}
use Rattle.vhdl_names_rules.specs.units.Expressions as e
use Rattle.vhdl_names_rules.specs.units.Expressions.{Static, Range, Index}
use Rattle.vhdl_names_rules.specs.Rules.{◌>>=◌}
use Rattle.vhdl_names_rules.specs.Visibility as visibility
use Rattle.vhdl_names_rules.specs.Visibility.{Meaning, DeclaredRange, Sight, declaration}
use Rattle.vhdl_names_rules.specs.Literals.{number_of, nine_of, values_of_string, values_of_bits}
use Rattle.vhdl_names_rules.specs.Operators as o
use Rattle.vhdl_names_rules.specs.Operators.{Typed, as_computed, inverse}
use Rattle.vhdl_names_rules.specs.Names as n
use Rattle.vhdl_names_rules.specs.Names.{Suffix}
use Rattle.vhdl_names_rules.specs.Types as types
use Rattle.vhdl_names_rules.specs.Types.{TypedChoice, TypedElements}
use Rattle.vhdl_names_rules.specs.Ranges.{declared_range, sized_by}
use Rattle.vhdl_names_rules.specs.Local.{is_local}
use Rattle.vhdl_names_rules.specs.Aggregates.{aggregate}
use Rattle.vhdl_names_rules.specs.problems.Places.{start}
use Rattle.vhdl_names_rules.specs.Expressions.{as_integer, signed, absolute, sliced, enclosed, in_parentheses, beside, is_one_name, suffix_of, fits, qualified_by, as_index, typed, typed_suffix, typed_each, typed_elements, typed_choices, typed_choice, static, as_range, static_range}
use Rattle.vhdl_names_rules.specs.sound.Expressions.{Inside, vector, static_fits, range_fits, index_fits, computed_fits}
use Rattle.vhdl_names_laws.specs.Meanings.{Counts, kind_shape, choice_fits, MeaningFits, TypedFits, ElementsFit}
use Rattle.vhdl_names_laws.specs.Laws.{ExpressionsFit}
use Rattle.vhdl_names_laws.proofs.Statics.{some_same}
use Rattle.vhdl_names_laws.proofs.Shapes.{given, fitting_kinds}
use Rattle.vhdl_names_laws.proofs.Aggregates.{aggregate_fits}
use Rattle.vhdl_names_laws.proofs.Ranges.{RangeFits, EachFits, SuffixFits, any_declared_fits, sized_fits}
use Rattle.vhdl_names_laws.proofs.Operators.{inverse_fits, as_computed_fits, raised_fits, binary_fits}
use Rattle.vhdl_names_rules.proofs.kept.Keeping.{mapped}
use Rattle.vhdl_names_laws.proofs.Served.{IsServed, served, serving}
use Rattle.vhdl_names_rules.proofs.laws.Rules.{comes}

pub as_integer_fits : (i : Inside) (counts : Counts) (x : Typed) (s : Static) → TypedFits i counts x → as_integer x ≡ Some s → static_fits i s ≡ true
as_integer_fits i counts (o.integer r) s h g = subst (λ s. static_fits i s ≡ true) (some_same r s g) h
as_integer_fits i counts _ s h g = absurd cc

signed_fits : (i : Inside) (counts : Counts) (at : ℕ) (sign : Sign) (x y : Typed) → TypedFits i counts x → signed at sign x ≡ Some y → TypedFits i counts y
signed_fits i counts at Plus (o.integer s) y h g = subst (TypedFits i counts) (some_same (o.integer s) y g) h
signed_fits i counts at Plus (o.computed x) y h g = subst (TypedFits i counts) (some_same (o.computed x) y g) h
signed_fits i counts at Minus (o.integer s) y h g = subst (TypedFits i counts) (some_same (o.integer (e.Static.negated at s)) y g) h
signed_fits i counts at Minus (o.computed x) y h g = subst (TypedFits i counts) (some_same (o.computed (e.Computed.negated at x)) y g) h
signed_fits i counts at Plus _ y h g = absurd cc
signed_fits i counts at Minus _ y h g = absurd cc

absolute_fits : (i : Inside) (counts : Counts) (at : ℕ) (x y : Typed) → TypedFits i counts x → absolute at x ≡ Some y → TypedFits i counts y
absolute_fits i counts at (o.integer s) y h g = subst (TypedFits i counts) (some_same (o.integer (e.absolute at s)) y g) h
absolute_fits i counts at (o.computed x) y h g = subst (TypedFits i counts) (some_same (o.computed (e.magnitude at x)) y g) h
absolute_fits i counts at _ y h g = absurd cc

sliced_fits : (i : Inside) (counts : Counts) (x y : Typed) (direction : Direction) (s : Suffix) → TypedFits i counts x → TypedFits i counts y → sliced x direction y ≡ Some s → SuffixFits i counts s
sliced_fits i counts (o.integer l) (o.integer r) direction s h t g =
    subst (SuffixFits i counts) (some_same (n.range (record { left = l; direction = direction; right = r })) s g) (and_from (static_fits i l) (static_fits i r) h t)
sliced_fits i counts x y direction s h t g =
    let l = comes (as_computed x) (λ l. as_computed y >>= λ r. Some (n.computed_range l direction r)) s g in
    let r = comes (as_computed y) (λ r. Some (n.computed_range l.value direction r)) s l.rest in
    subst (SuffixFits i counts) (some_same (n.computed_range l.value direction r.value) s r.rest)
    (and_from (computed_fits i l.value) (computed_fits i r.value) (as_computed_fits i counts x l.value h l.is) (as_computed_fits i counts y r.value t r.is))

-- what stands in parentheses is as it was
enclosed_fits : (i : Inside) (counts : Counts) (x : Typed) → TypedFits i counts x → TypedFits i counts (enclosed x)
enclosed_fits i counts (o.elements Element (e.of_signal q)) h = h
enclosed_fits i counts _ h = h

beside_fits : (i : Inside) (counts : Counts) (d : Expr) (x : Typed) → TypedFits i counts x → TypedFits i counts (beside d x)
beside_fits i counts (t.parens at d) x h = enclosed_fits i counts x h
beside_fits i counts (t.qualified n at es) x h = enclosed_fits i counts x h
beside_fits i counts _ x h = h

in_parentheses_fits : (i : Inside) (counts : Counts) (x y : Typed) → TypedFits i counts x → in_parentheses x ≡ Some y → TypedFits i counts y
in_parentheses_fits i counts (o.interval r) y h g = absurd cc
in_parentheses_fits i counts (o.composite at es) y h g = absurd cc
in_parentheses_fits i counts x y h g = subst (TypedFits i counts) (some_same (enclosed x) y g) (enclosed_fits i counts x h)

suffix_of_fits : (i : Inside) (counts : Counts) (b : Bool) (xs : List Typed) → EachFits i counts xs → SuffixFits i counts (suffix_of b xs)
suffix_of_fits i counts b (o.interval r ∷ []) h = h.0
suffix_of_fits i counts b _ h = h

-- ---- qualified expressions

module _ (i : Inside) (counts : Counts) where
  composed_fits : (p : ℕ) (k : ElementKind) (d : Option DeclaredRange) (es : TypedElements) (x : Typed) → RangeFits i d → kind_shape k ≡ vector → ElementsFit i counts es
      → option_map (o.elements k) (aggregate k p (option_map declared_range d) es) ≡ Some x → TypedFits i counts x
  composed_fits p k d es x r h f g =
      let m = mapped (o.elements k) (aggregate k p (option_map declared_range d) es) x g in
      subst (TypedFits i counts) m.is
      (aggregate_fits i counts k p (option_map declared_range d) es m.value (any_declared_fits i d r) f m.from ∙ ap Some (sym h))

  qualified_by_fits : (at p : ℕ) (m : Meaning) (d : Option DeclaredRange) (es : TypedElements) (x : Typed) → (visibility.is_port m ≡ false → RangeFits i d) → MeaningFits i counts m → ElementsFit i counts es
      → qualified_by at p m d es ≡ Some x → TypedFits i counts x
  qualified_by_fits at p (visibility.element_type b) d (types.element [] q (o.elements Element y) types.no_elements) x r h f g =
      in_parentheses_fits i counts (o.elements Element y) x f.1 g
  qualified_by_fits at p (visibility.vector_type k b) d (types.element [] q (o.elements j y) types.no_elements) x r h f g =
      let a = given (fits k j) (sized_by at (visibility.vector_type k b) d (o.elements k y)) x g in
      subst (TypedFits i counts) a.is (sized_fits i counts at k b d y (r refl) h (f.1 ∙ ap Some (sym (fitting_kinds k j a.holds) ∙ h)))
  qualified_by_fits at p (visibility.vector_type k b) d (types.element [] q (o.integer s) types.no_elements) x r h f g = absurd cc
  qualified_by_fits at p (visibility.vector_type k b) d (types.element [] q (o.computed s) types.no_elements) x r h f g = absurd cc
  qualified_by_fits at p (visibility.vector_type k b) d (types.element [] q (o.enumerated n c y) types.no_elements) x r h f g = absurd cc
  qualified_by_fits at p (visibility.vector_type k b) d (types.element [] q (o.truth y) types.no_elements) x r h f g = absurd cc
  qualified_by_fits at p (visibility.vector_type k b) d (types.element [] q (o.interval y) types.no_elements) x r h f g = absurd cc
  qualified_by_fits at p (visibility.vector_type k b) d (types.element [] q (o.composite y ys) types.no_elements) x r h f g = absurd cc
  qualified_by_fits at p (visibility.vector_type k b) d es x r h f g = composed_fits p k d es x (r refl) h f g
  qualified_by_fits at p _ d es x r h f g = absurd cc

  as_index_fits : (at : ℕ) (x : Typed) (y : Index) → TypedFits i counts x → as_index at x ≡ Some y → index_fits i y ≡ true
  as_index_fits at (o.integer s) y h g = subst (λ y. index_fits i y ≡ true) (some_same (e.index at s) y g) h
  as_index_fits at (o.interval r) y h g = subst (λ y. index_fits i y ≡ true) (some_same (e.indexes at r) y g) h
  as_index_fits at _ y h g = absurd cc

mutual
  unfolding typed

  pub typed_fits : (d : Expr) (i : Inside) (counts : Counts) (sight : Sight) (x : Typed) → IsServed i counts sight → typed sight d ≡ Some x → TypedFits i counts x
  typed_fits (t.integer at text) i counts sight x h g =
      let a = mapped (λ n. o.integer (e.number n)) (number_of text) x g in
      subst (TypedFits i counts) a.is refl
  typed_fits (t.character at c) i counts sight x h g =
      let a = mapped (λ v. o.elements Element (e.character v)) (nine_of c) x g in
      subst (TypedFits i counts) a.is refl
  typed_fits (t.string at text) i counts sight x h g =
      let a = mapped (λ vs. o.elements OpenVector (e.Vector.literal at vs)) (values_of_string text) x g in
      subst (TypedFits i counts) a.is refl
  typed_fits (t.bits at text) i counts sight x h g =
      let a = mapped (λ vs. o.elements OpenVector (e.Vector.literal at vs)) (values_of_bits text) x g in
      subst (TypedFits i counts) a.is refl
  typed_fits (t.named n suffix attribute) i counts sight x h g =
      let a = comes (typed_suffix sight suffix) _ x g in
      let b = comes (declaration sight n.text) _ x a.rest in
      (serving i counts sight h n.text b.value b.is).named n.at attribute a.value x (suffix_fits suffix i counts sight a.value h a.is) b.rest
  typed_fits (t.parens at d) i counts sight x h g =
      let a = comes (typed sight d) in_parentheses x g in
      in_parentheses_fits i counts a.value x (typed_fits d i counts sight a.value h a.is) a.rest
  typed_fits (t.negation at d) i counts sight x h g =
      let a = comes (typed sight d) inverse x g in
      inverse_fits i counts a.value x (typed_fits d i counts sight a.value h a.is) a.rest
  typed_fits (t.absolute at d) i counts sight x h g =
      let a = comes (typed sight d) (absolute at) x g in
      absolute_fits i counts at a.value x (typed_fits d i counts sight a.value h a.is) a.rest
  typed_fits (t.power d at f) i counts sight x h g =
      let a = comes (typed sight d) _ x g in
      let b = comes (typed sight f) _ x a.rest in
      raised_fits i counts at a.value b.value x (typed_fits d i counts sight a.value h a.is) (typed_fits f i counts sight b.value h b.is) b.rest
  typed_fits (t.signed sign at d) i counts sight x h g =
      let a = comes (typed sight d) (signed at sign) x g in
      signed_fits i counts at sign a.value x (typed_fits d i counts sight a.value h a.is) a.rest
  typed_fits (t.binary begins op at d f) i counts sight x h g =
      let a = comes (typed sight d) _ x g in
      let b = comes (typed sight f) _ x a.rest in
      let right = typed_fits f i counts sight b.value h b.is in
      binary_fits i counts sight.language sight.numbers at op a.value b.value (beside d b.value) x (typed_fits d i counts sight a.value h a.is) right (beside_fits i counts d b.value right) b.rest
  typed_fits (t.aggregate at es) i counts sight x h g =
      let a = mapped (o.composite at) (typed_elements sight es) x g in
      subst (TypedFits i counts) a.is (elements_are es i counts sight a.value h a.from)
  typed_fits (t.qualified n at es) i counts sight x h g =
      let a = comes (typed_elements sight es) _ x g in
      let b = comes (declaration sight n.text) _ x a.rest in
      let f = serving i counts sight h n.text b.value b.is in
      qualified_by_fits i counts n.at at b.value.meaning b.value.range a.value x f.mark f.meaning (elements_are es i counts sight a.value h a.is) b.rest

  pub suffix_fits : (s : t.Suffix) (i : Inside) (counts : Counts) (sight : Sight) (x : Suffix) → IsServed i counts sight → typed_suffix sight s ≡ Some x → SuffixFits i counts x
  suffix_fits t.plain i counts sight x h g = subst (SuffixFits i counts) (some_same n.plain x g) tt
  suffix_fits (t.arguments es) i counts sight x h g =
      let a = mapped (suffix_of (is_one_name es)) (typed_each sight es) x g in
      subst (SuffixFits i counts) a.is (suffix_of_fits i counts (is_one_name es) a.value (each_fits es i counts sight a.value h a.from))
  suffix_fits (t.sliced d direction f) i counts sight x h g =
      let a = comes (typed sight d) _ x g in
      let b = comes (typed sight f) _ x a.rest in
      sliced_fits i counts a.value b.value direction x (typed_fits d i counts sight a.value h a.is) (typed_fits f i counts sight b.value h b.is) b.rest

  pub each_fits : (es : Exprs) (i : Inside) (counts : Counts) (sight : Sight) (xs : List Typed) → IsServed i counts sight → typed_each sight es ≡ Some xs → EachFits i counts xs
  each_fits t.no_exprs i counts sight xs h g = subst (EachFits i counts) (some_same [] xs g) tt
  each_fits (t.expr d es) i counts sight xs h g =
      let a = comes (typed sight d) _ xs g in
      let b = comes (typed_each sight es) _ xs a.rest in
      subst (EachFits i counts) (some_same (a.value ∷ b.value) xs b.rest) (typed_fits d i counts sight a.value h a.is, each_fits es i counts sight b.value h b.is)

  elements_are : (es : t.Elements) (i : Inside) (counts : Counts) (sight : Sight) (xs : TypedElements) → IsServed i counts sight → typed_elements sight es ≡ Some xs → ElementsFit i counts xs
  elements_are t.no_elements i counts sight xs h g = subst (ElementsFit i counts) (some_same types.no_elements xs g) tt
  elements_are (t.element cs d es) i counts sight xs h g =
      let a = comes (typed_choices sight cs) _ xs g in
      let b = comes (typed sight d) _ xs a.rest in
      let c = comes (typed_elements sight es) _ xs b.rest in
      subst (ElementsFit i counts) (some_same (types.element a.value (start d) b.value c.value) xs c.rest)
      (choices_are cs i counts sight a.value h a.is, typed_fits d i counts sight b.value h b.is, elements_are es i counts sight c.value h c.is)

  choices_are : (cs : t.Choices) (i : Inside) (counts : Counts) (sight : Sight) (xs : List TypedChoice) → IsServed i counts sight → typed_choices sight cs ≡ Some xs
      → list_all (choice_fits i) xs ≡ true
  choices_are t.no_choices i counts sight xs h g = subst (λ xs. list_all (choice_fits i) xs ≡ true) (some_same [] xs g) refl
  choices_are (t.choice c cs) i counts sight xs h g =
      let a = comes (typed_choice sight c) _ xs g in
      let b = comes (typed_choices sight cs) _ xs a.rest in
      subst (λ xs. list_all (choice_fits i) xs ≡ true) (some_same (a.value ∷ b.value) xs b.rest)
      (and_from (choice_fits i a.value) (list_all (choice_fits i) b.value) (choice_is c i counts sight a.value h a.is) (choices_are cs i counts sight b.value h b.is))

  pub choice_is : (c : t.Choice) (i : Inside) (counts : Counts) (sight : Sight) (x : TypedChoice) → IsServed i counts sight → typed_choice sight c ≡ Some x → choice_fits i x ≡ true
  choice_is (t.chosen d) i counts sight x h g =
      let a = comes (typed sight d) _ x g in
      let b = comes (as_index (start d) a.value) _ x a.rest in
      subst (λ x. choice_fits i x ≡ true) (some_same (types.place (is_local sight d) b.value) x b.rest)
      (as_index_fits i counts (start d) a.value b.value (typed_fits d i counts sight a.value h a.is) b.is)
  choice_is (t.chosen_range d direction f) i counts sight x h g =
      let a = comes (typed sight d) _ x g in
      let l = comes (as_integer a.value) _ x a.rest in
      let b = comes (typed sight f) _ x l.rest in
      let r = comes (as_integer b.value) _ x b.rest in
      let y = e.indexes (start d) (record { left = l.value; direction = direction; right = r.value }) in
      subst (λ x. choice_fits i x ≡ true) (some_same (types.place (is_local sight d && is_local sight f) y) x r.rest)
      (and_from (static_fits i l.value) (static_fits i r.value)
      (as_integer_fits i counts a.value l.value (typed_fits d i counts sight a.value h a.is) l.is)
      (as_integer_fits i counts b.value r.value (typed_fits f i counts sight b.value h b.is) r.is))
  choice_is (t.otherwise at) i counts sight x h g = subst (λ x. choice_fits i x ≡ true) (some_same (types.others at) x g) refl

pub expressions_fit : ExpressionsFit
expressions_fit i counts sight h d x g = typed_fits d i counts sight x (served i counts sight h) g

-- ---- static integers and ranges

pub static_integer_fits : (i : Inside) (counts : Counts) (sight : Sight) (d : Expr) (s : Static) → IsServed i counts sight → static sight d ≡ Some s → static_fits i s ≡ true
unfolding static
static_integer_fits i counts sight d s h g =
    let a = comes (typed sight d) as_integer s g in
    as_integer_fits i counts a.value s (typed_fits d i counts sight a.value h a.is) a.rest

as_range_fits : (i : Inside) (counts : Counts) (y : Typed) (x : Range) → TypedFits i counts y → as_range y ≡ Some x → range_fits i x ≡ true
as_range_fits i counts (o.interval r) x h g = subst (λ x. range_fits i x ≡ true) (some_same r x g) h
as_range_fits i counts _ x h g = absurd cc

pub static_range_fits : (i : Inside) (counts : Counts) (sight : Sight) (r : t.DiscreteRange) (x : Range) → IsServed i counts sight → static_range sight r ≡ Some x → range_fits i x ≡ true
unfolding static_range
static_range_fits i counts sight (t.bounds r) x h g =
    let a = comes (static sight r.left) _ x g in
    let b = comes (static sight r.right) _ x a.rest in
    subst (λ x. range_fits i x ≡ true) (some_same _ x b.rest)
    (and_from (static_fits i a.value) (static_fits i b.value) (static_integer_fits i counts sight r.left a.value h a.is) (static_integer_fits i counts sight r.right b.value h b.is))
static_range_fits i counts sight (t.range_named n) x h g =
    let d = t.named n.identifier n.suffix n.attribute in
    let a = comes (typed sight d) as_range x g in
    as_range_fits i counts a.value x (typed_fits d i counts sight a.value h a.is) a.rest
