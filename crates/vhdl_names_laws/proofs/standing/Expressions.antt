-- The bytes of an analysed expression are those of pieces of the expression.
use Rattle.std.proofs.Common.{◌≡◌, ℕ, Bool, not, ◌&&◌, ◌||◌, List, [], ◌∷◌, ◌++◌, Option, Some, None, subst}
use Rattle.std.specs.Option.{is_some, option_map}
use Rattle.std.specs.List.{AllByRecursion}
use Rattle.vhdl_tree.specs.declared.operator.Direction.{Direction}
use Rattle.vhdl_tree.specs.declared.operator.Sign.{Sign}
use Rattle.vhdl_tree.specs.declared.operator.Sign.TheVariants.{Plus, Minus}
use Rattle.vhdl_tree.specs.Tree as t
use Rattle.vhdl_tree.specs.Tree.{Expr, Exprs}
use Rattle.vhdl_tree.specs.Pieces.{spell_option}
use Rattle.vhdl_tree.specs.grammar.Expressions.{spell, spell_suffix, spell_exprs, spell_more, spell_elements, spell_more_elements, spell_chosen, spell_more_chosen, spell_choice, spell_attribute, spell_discrete_range, spell_value}
use Rattle.vhdl_names_rules.specs.declared.kind.ElementKind.{ElementKind}
use Rattle.vhdl_names_rules.specs.declared.kind.ElementKind.TheVariants.{Element, OpenVector}
use Rattle.vhdl_names_rules.specs.declared.kind.ObjectType.{ObjectType}
use Rattle.vhdl_names_rules.specs.declared.kind.ObjectType.TheVariants.{Elements, Enumeration, Integers, Booleans}
use Rattle.vhdl_names_rules.specs.units.Expressions as e
use Rattle.vhdl_names_rules.specs.units.Expressions.{Static, Range, Index, StaticTest, Test}
use Rattle.vhdl_names_rules.specs.units.Statements as s
use Rattle.vhdl_names_rules.specs.units.Statements.{Given}
use Rattle.vhdl_names_rules.specs.units.Bytes.{if_any_bytes, static_bytes, range_bytes, index_bytes, static_test_bytes, computed_bytes, test_bytes, given_bytes}
use Rattle.vhdl_names_rules.specs.Rules.{◌>>=◌}
use Rattle.vhdl_names_rules.specs.Visibility as visibility
use Rattle.vhdl_names_rules.specs.Visibility.{Meaning, DeclaredRange, Sight, declaration}
use Rattle.vhdl_names_rules.specs.Literals.{number_of, nine_of, values_of_string, values_of_bits}
use Rattle.vhdl_names_rules.specs.Operators as o
use Rattle.vhdl_names_rules.specs.Operators.{Typed, as_computed, inverse}
use Rattle.vhdl_names_rules.specs.Names as n
use Rattle.vhdl_names_rules.specs.Names.{Suffix}
use Rattle.vhdl_names_rules.specs.Types as types
use Rattle.vhdl_names_rules.specs.Types.{TypedChoice, TypedElements}
use Rattle.vhdl_names_rules.specs.Ranges.{declared_range, sized_by}
use Rattle.vhdl_names_rules.specs.Local.{is_local}
use Rattle.vhdl_names_rules.specs.Aggregates.{is_named, aggregate}
use Rattle.vhdl_names_rules.specs.problems.Places.{start}
use Rattle.vhdl_names_rules.specs.Expressions as to
use Rattle.vhdl_names_rules.specs.Expressions.{as_integer, signed, absolute, sliced, enclosed, in_parentheses, beside, is_one_name, suffix_of, fits, qualified_by, as_index, typed, typed_suffix, typed_each, typed_elements, typed_choices, typed_choice, static, as_range, static_range, as_test, condition, as_static_test, as_aggregate, as_composite, as_value, as_filled, value_given, Assigned, truth_of, as_boolean, value_assigned}
use Rattle.vhdl_names_rules.proofs.laws.Rules.{comes, kept}
use Rattle.vhdl_names_laws.proofs.Statics.{some_same}
use Rattle.vhdl_names_laws.proofs.Shapes.{given}
use Rattle.vhdl_names_rules.proofs.kept.Keeping.{mapped}
use Rattle.vhdl_names_laws.proofs.placed.Told.{Stand, first, behind}
use Rattle.vhdl_names_laws.proofs.placed.Starts.{start_stands}
use Rattle.vhdl_names_laws.proofs.standing.Holding.{Hold, hold_both, ChoiceHolds, TypedHolds, ElementsHold, SuffixHolds}
use Rattle.vhdl_names_laws.proofs.standing.Aggregates.{aggregate_holds}
use Rattle.vhdl_names_laws.proofs.standing.Operators.{inverse_holds, as_computed_holds, raised_holds, binary_holds}
use Rattle.vhdl_names_laws.proofs.standing.Names.{sized_holds, named_holds}

as_integer_holds : (P : ℕ → Type 0) (y : Typed) (s : Static) → TypedHolds P y → as_integer y ≡ Some s → Hold P (static_bytes s)
as_integer_holds P (o.integer r) s h q = subst (λ s. Hold P (static_bytes s)) (some_same r s q) h
as_integer_holds _ _ s h q = absurd cc

signed_holds : (P : ℕ → Type 0) (at : ℕ) (sign : Sign) (x y : Typed) → P at → TypedHolds P x → signed at sign x ≡ Some y → TypedHolds P y
signed_holds P at Plus (o.integer s) y g h q = subst (TypedHolds P) (some_same (o.integer s) y q) h
signed_holds P at Plus (o.computed x) y g h q = subst (TypedHolds P) (some_same (o.computed x) y q) h
signed_holds P at Minus (o.integer s) y g h q = subst (TypedHolds P) (some_same (o.integer (e.Static.negated at s)) y q) (g, h)
signed_holds P at Minus (o.computed x) y g h q = subst (TypedHolds P) (some_same (o.computed (e.Computed.negated at x)) y q) (g, h)
signed_holds P at Plus _ y g h q = absurd cc
signed_holds P at Minus _ y g h q = absurd cc

absolute_holds : (P : ℕ → Type 0) (at : ℕ) (x y : Typed) → P at → TypedHolds P x → absolute at x ≡ Some y → TypedHolds P y
absolute_holds P at (o.integer s) y g h q = subst (TypedHolds P) (some_same (o.integer (e.absolute at s)) y q) (g, h)
absolute_holds P at (o.computed x) y g h q = subst (TypedHolds P) (some_same (o.computed (e.magnitude at x)) y q) (g, h)
absolute_holds P at _ y g h q = absurd cc

sliced_holds : (P : ℕ → Type 0) (x y : Typed) (direction : Direction) (s : Suffix) → TypedHolds P x → TypedHolds P y → sliced x direction y ≡ Some s → SuffixHolds P s
sliced_holds P (o.integer l) (o.integer r) direction s h g q =
    subst (SuffixHolds P) (some_same (n.range (record { left = l; direction = direction; right = r })) s q) (hold_both P (static_bytes l) (static_bytes r) h g)
sliced_holds P x y direction s h g q =
    let l = comes (as_computed x) (λ l. as_computed y >>= λ r. Some (n.computed_range l direction r)) s q in
    let r = comes (as_computed y) (λ r. Some (n.computed_range l.value direction r)) s l.rest in
    subst (SuffixHolds P) (some_same (n.computed_range l.value direction r.value) s r.rest)
    (hold_both P (computed_bytes l.value) (computed_bytes r.value) (as_computed_holds P x l.value h l.is) (as_computed_holds P y r.value g r.is))

-- what stands in parentheses has the bytes that it has
enclosed_holds : (P : ℕ → Type 0) (y : Typed) → TypedHolds P y → TypedHolds P (enclosed y)
enclosed_holds P (o.elements Element (e.of_signal q)) h = h
enclosed_holds _ _ h = h

beside_holds : (P : ℕ → Type 0) (d : Expr) (y : Typed) → TypedHolds P y → TypedHolds P (beside d y)
beside_holds P (t.parens at d) y h = enclosed_holds P y h
beside_holds P (t.qualified n at es) y h = enclosed_holds P y h
beside_holds _ _ y h = h

in_parentheses_holds : (P : ℕ → Type 0) (x y : Typed) → TypedHolds P x → in_parentheses x ≡ Some y → TypedHolds P y
in_parentheses_holds P (o.interval r) y h g = absurd cc
in_parentheses_holds P (o.composite at es) y h g = absurd cc
in_parentheses_holds P x y h g = subst (TypedHolds P) (some_same (enclosed x) y g) (enclosed_holds P x h)

suffix_of_holds : (P : ℕ → Type 0) (b : Bool) (xs : List Typed) → AllByRecursion (TypedHolds P) xs → SuffixHolds P (suffix_of b xs)
suffix_of_holds P b (o.interval r ∷ []) h = h.0
suffix_of_holds P b _ h = h

-- ---- qualified expressions

module _ (P : ℕ → Type 0) where
  any_declared : (d : Option DeclaredRange) → Hold P (if_any_bytes range_bytes (option_map declared_range d))
  any_declared None = tt
  any_declared (Some d) = tt

  composed_holds : (p : ℕ) (k : ElementKind) (d : Option DeclaredRange) (es : TypedElements) (x : Typed) → P p → ElementsHold P es
      → option_map (o.elements k) (aggregate k p (option_map declared_range d) es) ≡ Some x → TypedHolds P x
  composed_holds p k d es x h f g =
      let m = mapped (o.elements k) (aggregate k p (option_map declared_range d) es) x g in
      subst (TypedHolds P) m.is (aggregate_holds P k p (option_map declared_range d) es m.value h (any_declared d) f m.from)

  qualified_by_holds : (at p : ℕ) (m : Meaning) (d : Option DeclaredRange) (es : TypedElements) (x : Typed) → P at → P p → ElementsHold P es → qualified_by at p m d es ≡ Some x → TypedHolds P x
  qualified_by_holds at p (visibility.element_type b) d (types.element [] q (o.elements Element y) types.no_elements) x h r f g = in_parentheses_holds P (o.elements Element y) x f.1 g
  qualified_by_holds at p (visibility.vector_type k b) d (types.element [] q (o.elements j y) types.no_elements) x h r f g =
      let a = given (fits k j) (sized_by at (visibility.vector_type k b) d (o.elements k y)) x g in
      subst (TypedHolds P) a.is (sized_holds P at (visibility.vector_type k b) d (o.elements k y) h f.1)
  qualified_by_holds at p (visibility.vector_type k b) d (types.element [] q (o.integer s) types.no_elements) x h r f g = absurd cc
  qualified_by_holds at p (visibility.vector_type k b) d (types.element [] q (o.computed s) types.no_elements) x h r f g = absurd cc
  qualified_by_holds at p (visibility.vector_type k b) d (types.element [] q (o.enumerated n c y) types.no_elements) x h r f g = absurd cc
  qualified_by_holds at p (visibility.vector_type k b) d (types.element [] q (o.truth y) types.no_elements) x h r f g = absurd cc
  qualified_by_holds at p (visibility.vector_type k b) d (types.element [] q (o.interval y) types.no_elements) x h r f g = absurd cc
  qualified_by_holds at p (visibility.vector_type k b) d (types.element [] q (o.composite y ys) types.no_elements) x h r f g = absurd cc
  qualified_by_holds at p (visibility.vector_type k b) d es x h r f g = composed_holds p k d es x r f g
  qualified_by_holds at p _ d es x h r f g = absurd cc

  as_index_holds : (at : ℕ) (x : Typed) (y : Index) → P at → TypedHolds P x → as_index at x ≡ Some y → Hold P (index_bytes y)
  as_index_holds at (o.integer s) y p h g = subst (λ y. Hold P (index_bytes y)) (some_same (e.index at s) y g) (p, h)
  as_index_holds at (o.interval r) y p h g = subst (λ y. Hold P (index_bytes y)) (some_same (e.indexes at r) y g) (p, h)
  as_index_holds at _ y p h g = absurd cc

mutual
  unfolding typed

  pub typed_holds : (d : Expr) (P : ℕ → Type 0) (sight : Sight) (y : Typed) → Stand P (spell d) → typed sight d ≡ Some y → TypedHolds P y
  typed_holds (t.integer at text) P sight y h q =
      let a = mapped (λ n. o.integer (e.number n)) (number_of text) y q in
      subst (TypedHolds P) a.is tt
  typed_holds (t.character at c) P sight y h q =
      let a = mapped (λ v. o.elements Element (e.character v)) (nine_of c) y q in
      subst (TypedHolds P) a.is tt
  typed_holds (t.string at text) P sight y h q =
      let a = mapped (λ vs. o.elements OpenVector (e.Vector.literal at vs)) (values_of_string text) y q in
      subst (TypedHolds P) a.is (h.0, tt)
  typed_holds (t.bits at text) P sight y h q =
      let a = mapped (λ vs. o.elements OpenVector (e.Vector.literal at vs)) (values_of_bits text) y q in
      subst (TypedHolds P) a.is (h.0, tt)
  typed_holds (t.named n suffix attribute) P sight y h q =
      let a = comes (typed_suffix sight suffix) _ y q in
      let b = comes (declaration sight n.text) _ y a.rest in
      named_holds P sight.language n.at attribute b.value a.value y h.0 (suffix_holds suffix P sight a.value (first P (spell_suffix suffix) (spell_option spell_attribute attribute) h.1) a.is) b.rest
  typed_holds (t.parens at d) P sight y h q =
      let a = comes (typed sight d) in_parentheses y q in
      in_parentheses_holds P a.value y (typed_holds d P sight a.value (first P (spell d) _ h.1) a.is) a.rest
  typed_holds (t.negation at d) P sight y h q =
      let a = comes (typed sight d) inverse y q in
      inverse_holds P a.value y (typed_holds d P sight a.value h.1 a.is) a.rest
  typed_holds (t.absolute at d) P sight y h q =
      let a = comes (typed sight d) (absolute at) y q in
      absolute_holds P at a.value y h.0 (typed_holds d P sight a.value h.1 a.is) a.rest
  typed_holds (t.power d at f) P sight y h q =
      let g = behind P (spell d) _ h in
      let a = comes (typed sight d) _ y q in
      let b = comes (typed sight f) _ y a.rest in
      raised_holds P at g.0 a.value b.value y (typed_holds d P sight a.value (first P (spell d) _ h) a.is) (typed_holds f P sight b.value g.1.1 b.is) b.rest
  typed_holds (t.signed sign at d) P sight y h q =
      let a = comes (typed sight d) (signed at sign) y q in
      signed_holds P at sign a.value y h.0 (typed_holds d P sight a.value h.1 a.is) a.rest
  typed_holds (t.binary begins op at d f) P sight y h q =
      let g = behind P (spell d) _ h in
      let a = comes (typed sight d) _ y q in
      let b = comes (typed sight f) _ y a.rest in
      let right = typed_holds f P sight b.value g.1 b.is in
      binary_holds P at g.0 sight.language sight.numbers op a.value b.value (beside d b.value) y (typed_holds d P sight a.value (first P (spell d) _ h) a.is) right (beside_holds P d b.value right) b.rest
  typed_holds (t.aggregate at es) P sight y h q =
      let a = mapped (o.composite at) (typed_elements sight es) y q in
      subst (TypedHolds P) a.is (h.0, elements_hold es P sight a.value (first P (spell_elements es) _ h.1) a.from)
  typed_holds (t.qualified n at es) P sight y h q =
      let a = comes (typed_elements sight es) _ y q in
      let b = comes (declaration sight n.text) _ y a.rest in
      qualified_by_holds P n.at at b.value.meaning b.value.range a.value y h.0 h.1.1.0 (elements_hold es P sight a.value (first P (spell_elements es) _ h.1.1.1) a.is) b.rest

  pub suffix_holds : (s : t.Suffix) (P : ℕ → Type 0) (sight : Sight) (y : Suffix) → Stand P (spell_suffix s) → typed_suffix sight s ≡ Some y → SuffixHolds P y
  suffix_holds t.plain P sight y h q = subst (SuffixHolds P) (some_same n.plain y q) tt
  suffix_holds (t.arguments es) P sight y h q =
      let a = mapped (suffix_of (is_one_name es)) (typed_each sight es) y q in
      subst (SuffixHolds P) a.is (suffix_of_holds P (is_one_name es) a.value (exprs_hold es P sight a.value (first P (spell_exprs es) _ h.1) a.from))
  suffix_holds (t.sliced d direction f) P sight y h q =
      let g = behind P (spell d) _ h.1 in
      let a = comes (typed sight d) _ y q in
      let b = comes (typed sight f) _ y a.rest in
      sliced_holds P a.value b.value direction y (typed_holds d P sight a.value (first P (spell d) _ h.1) a.is) (typed_holds f P sight b.value (first P (spell f) _ g.1) b.is) b.rest

  pub exprs_hold : (es : Exprs) (P : ℕ → Type 0) (sight : Sight) (ys : List Typed) → Stand P (spell_exprs es) → typed_each sight es ≡ Some ys → AllByRecursion (TypedHolds P) ys
  exprs_hold t.no_exprs P sight ys h q = subst (AllByRecursion (TypedHolds P)) (some_same [] ys q) tt
  exprs_hold (t.expr d es) P sight ys h q =
      let a = comes (typed sight d) _ ys q in
      let b = comes (typed_each sight es) _ ys a.rest in
      subst (AllByRecursion (TypedHolds P)) (some_same (a.value ∷ b.value) ys b.rest)
      (typed_holds d P sight a.value (first P (spell d) (spell_more es) h) a.is, more_hold es P sight b.value (behind P (spell d) (spell_more es) h) b.is)

  more_hold : (es : Exprs) (P : ℕ → Type 0) (sight : Sight) (ys : List Typed) → Stand P (spell_more es) → typed_each sight es ≡ Some ys → AllByRecursion (TypedHolds P) ys
  more_hold t.no_exprs P sight ys h q = subst (AllByRecursion (TypedHolds P)) (some_same [] ys q) tt
  more_hold (t.expr d es) P sight ys h q =
      let a = comes (typed sight d) _ ys q in
      let b = comes (typed_each sight es) _ ys a.rest in
      subst (AllByRecursion (TypedHolds P)) (some_same (a.value ∷ b.value) ys b.rest)
      (typed_holds d P sight a.value (first P (spell d) (spell_more es) h.1) a.is, more_hold es P sight b.value (behind P (spell d) (spell_more es) h.1) b.is)

  pub elements_hold : (es : t.Elements) (P : ℕ → Type 0) (sight : Sight) (ys : TypedElements) → Stand P (spell_elements es) → typed_elements sight es ≡ Some ys → ElementsHold P ys
  elements_hold t.no_elements P sight ys h q = subst (ElementsHold P) (some_same types.no_elements ys q) tt
  elements_hold (t.element cs d es) P sight ys h q =
      let a = comes (typed_choices sight cs) _ ys q in
      let b = comes (typed sight d) _ ys a.rest in
      let c = comes (typed_elements sight es) _ ys b.rest in
      let here = first P (spell_chosen cs ++ spell d) (spell_more_elements es) h in
      subst (ElementsHold P) (some_same (types.element a.value (start d) b.value c.value) ys c.rest) (
        chosen_hold cs P sight a.value (first P (spell_chosen cs) (spell d) here) a.is,
        typed_holds d P sight b.value (behind P (spell_chosen cs) (spell d) here) b.is,
        more_elements_hold es P sight c.value (behind P (spell_chosen cs ++ spell d) (spell_more_elements es) h) c.is,
        start_stands P d (behind P (spell_chosen cs) (spell d) here),
      )

  more_elements_hold : (es : t.Elements) (P : ℕ → Type 0) (sight : Sight) (ys : TypedElements) → Stand P (spell_more_elements es) → typed_elements sight es ≡ Some ys → ElementsHold P ys
  more_elements_hold t.no_elements P sight ys h q = subst (ElementsHold P) (some_same types.no_elements ys q) tt
  more_elements_hold (t.element cs d es) P sight ys h q =
      let a = comes (typed_choices sight cs) _ ys q in
      let b = comes (typed sight d) _ ys a.rest in
      let c = comes (typed_elements sight es) _ ys b.rest in
      let here = first P (spell_chosen cs ++ spell d) (spell_more_elements es) h.1 in
      subst (ElementsHold P) (some_same (types.element a.value (start d) b.value c.value) ys c.rest) (
        chosen_hold cs P sight a.value (first P (spell_chosen cs) (spell d) here) a.is,
        typed_holds d P sight b.value (behind P (spell_chosen cs) (spell d) here) b.is,
        more_elements_hold es P sight c.value (behind P (spell_chosen cs ++ spell d) (spell_more_elements es) h.1) c.is,
        start_stands P d (behind P (spell_chosen cs) (spell d) here),
      )

  chosen_hold : (cs : t.Choices) (P : ℕ → Type 0) (sight : Sight) (ys : List TypedChoice) → Stand P (spell_chosen cs) → typed_choices sight cs ≡ Some ys → AllByRecursion (ChoiceHolds P) ys
  chosen_hold t.no_choices P sight ys h q = subst (AllByRecursion (ChoiceHolds P)) (some_same [] ys q) tt
  chosen_hold (t.choice c cs) P sight ys h q =
      let a = comes (typed_choice sight c) _ ys q in
      let b = comes (typed_choices sight cs) _ ys a.rest in
      subst (AllByRecursion (ChoiceHolds P)) (some_same (a.value ∷ b.value) ys b.rest)
      (choice_holds c P sight a.value (first P (spell_choice c) (spell_more_chosen cs) h) a.is, more_chosen_hold cs P sight b.value (behind P (spell_choice c) (spell_more_chosen cs) h) b.is)

  more_chosen_hold : (cs : t.Choices) (P : ℕ → Type 0) (sight : Sight) (ys : List TypedChoice) → Stand P (spell_more_chosen cs) → typed_choices sight cs ≡ Some ys → AllByRecursion (ChoiceHolds P) ys
  more_chosen_hold t.no_choices P sight ys h q = subst (AllByRecursion (ChoiceHolds P)) (some_same [] ys q) tt
  more_chosen_hold (t.choice c cs) P sight ys h q =
      let a = comes (typed_choice sight c) _ ys q in
      let b = comes (typed_choices sight cs) _ ys a.rest in
      subst (AllByRecursion (ChoiceHolds P)) (some_same (a.value ∷ b.value) ys b.rest)
      (choice_holds c P sight a.value (first P (spell_choice c) (spell_more_chosen cs) h.1) a.is, more_chosen_hold cs P sight b.value (behind P (spell_choice c) (spell_more_chosen cs) h.1) b.is)

  pub choice_holds : (c : t.Choice) (P : ℕ → Type 0) (sight : Sight) (y : TypedChoice) → Stand P (spell_choice c) → typed_choice sight c ≡ Some y → ChoiceHolds P y
  choice_holds (t.chosen d) P sight y h q =
      let a = comes (typed sight d) _ y q in
      let b = comes (as_index (start d) a.value) _ y a.rest in
      subst (ChoiceHolds P) (some_same (types.place (is_local sight d) b.value) y b.rest)
      (as_index_holds P (start d) a.value b.value (start_stands P d h) (typed_holds d P sight a.value h a.is) b.is)
  choice_holds (t.chosen_range d direction f) P sight y h q =
      let g = behind P (spell d) _ h in
      let a = comes (typed sight d) _ y q in
      let l = comes (as_integer a.value) _ y a.rest in
      let b = comes (typed sight f) _ y l.rest in
      let r = comes (as_integer b.value) _ y b.rest in
      let z = e.indexes (start d) (record { left = l.value; direction = direction; right = r.value }) in
      subst (ChoiceHolds P) (some_same (types.place (is_local sight d && is_local sight f) z) y r.rest) (
        start_stands P d (first P (spell d) _ h),
        hold_both P (static_bytes l.value) (static_bytes r.value)
            (as_integer_holds P a.value l.value (typed_holds d P sight a.value (first P (spell d) _ h) a.is) l.is)
            (as_integer_holds P b.value r.value (typed_holds f P sight b.value g.1 b.is) r.is),
      )
  choice_holds (t.otherwise at) P sight y h q = subst (ChoiceHolds P) (some_same (types.others at) y q) h.0

-- ---- what is asked of an expression

pub static_holds : (P : ℕ → Type 0) (sight : Sight) (d : Expr) (s : Static) → Stand P (spell d) → static sight d ≡ Some s → Hold P (static_bytes s)
unfolding static
static_holds P sight d s h q =
    let a = comes (typed sight d) as_integer s q in
    as_integer_holds P a.value s (typed_holds d P sight a.value h a.is) a.rest

as_range_holds : (P : ℕ → Type 0) (y : Typed) (x : Range) → TypedHolds P y → as_range y ≡ Some x → Hold P (range_bytes x)
as_range_holds P (o.interval r) x h q = subst (λ x. Hold P (range_bytes x)) (some_same r x q) h
as_range_holds _ _ x h q = absurd cc

pub static_range_holds : (P : ℕ → Type 0) (sight : Sight) (r : t.DiscreteRange) (y : Range) → Stand P (spell_discrete_range r) → static_range sight r ≡ Some y → Hold P (range_bytes y)
unfolding static_range
static_range_holds P sight (t.bounds r) y h q =
    let a = comes (static sight r.left) _ y q in
    let b = comes (static sight r.right) _ y a.rest in
    subst (λ y. Hold P (range_bytes y)) (some_same _ y b.rest)
    (hold_both P (static_bytes a.value) (static_bytes b.value) (static_holds P sight r.left a.value (first P (spell r.left) _ h) a.is)
    (static_holds P sight r.right b.value (behind P (spell r.left) _ h).1 b.is))
static_range_holds P sight (t.range_named n) y h q =
    let d = t.named n.identifier n.suffix n.attribute in
    let a = comes (typed sight d) as_range y q in
    as_range_holds P a.value y (typed_holds d P sight a.value h a.is) a.rest

as_test_holds : (P : ℕ → Type 0) (y : Typed) (r : Test) → TypedHolds P y → as_test y ≡ Some r → Hold P (test_bytes r)
as_test_holds P (o.truth s) r h q = subst (λ r. Hold P (test_bytes r)) (some_same s r q) h
as_test_holds P (o.elements Element y) r h q = subst (λ r. Hold P (test_bytes r)) (some_same (e.holds y) r q) h
as_test_holds _ _ r h q = absurd cc

pub condition_holds : (P : ℕ → Type 0) (sight : Sight) (d : Expr) (r : Test) → Stand P (spell d) → condition sight d ≡ Some r → Hold P (test_bytes r)
unfolding condition
condition_holds P sight d r h q =
    let a = comes (typed sight d) as_test r q in
    as_test_holds P a.value r (typed_holds d P sight a.value h a.is) a.rest

pub static_condition_holds : (P : ℕ → Type 0) (y : Typed) (r : StaticTest) → TypedHolds P y → as_static_test y ≡ Some r → Hold P (static_test_bytes r)
static_condition_holds P (o.truth (e.Test.fixed s)) r h q = subst (λ r. Hold P (static_test_bytes r)) (some_same s r q) h
static_condition_holds _ _ r h q = absurd cc

-- ---- values that are given

as_filled_holds : (P : ℕ → Type 0) (type : ObjectType) (y : Typed) (g : Given) → TypedHolds P y → as_filled type y ≡ Some g → Hold P (given_bytes g)
as_filled_holds P (Elements k) (o.elements Element y) g h q =
    let a = given (o.is_vector k) (s.filled y) g q in
    subst (λ g. Hold P (given_bytes g)) a.is h
as_filled_holds _ _ _ g h q = absurd cc

as_aggregate_holds : (P : ℕ → Type 0) (k : ElementKind) (at : ℕ) (r : Option Range) (es : TypedElements) (g : Given) → P at → Hold P (if_any_bytes range_bytes r) → ElementsHold P es
    → as_aggregate k at r es ≡ Some g → Hold P (given_bytes g)
as_aggregate_holds P k at r es g p f h q =
    let v = kept (o.is_vector k) _ g q in
    let c = kept (is_some r || not (is_named es)) _ g v.1 in
    let a = comes (aggregate k at r es) _ g c.1 in
    subst (λ g. Hold P (given_bytes g)) (some_same (s.single (e.Value.elements a.value)) g a.rest) (aggregate_holds P k at r es a.value p f h a.is)

as_composite_holds : (P : ℕ → Type 0) (type : ObjectType) (at : ℕ) (r : Option Range) (es : TypedElements) (g : Given) → P at → Hold P (if_any_bytes range_bytes r) → ElementsHold P es
    → as_composite type at r es ≡ Some g → Hold P (given_bytes g)
as_composite_holds P (Elements k) at r (types.element (types.others p ∷ []) z y types.no_elements) g h f w q = as_filled_holds P (Elements k) y g w.1 q
as_composite_holds P (Elements k) at r es g h f w q = as_aggregate_holds P k at r es g h f w q
as_composite_holds _ _ at r es g h f w q = absurd cc

pub as_value_holds : (P : ℕ → Type 0) (type : ObjectType) (r : Option Range) (y : Typed) (g : Given) → Hold P (if_any_bytes range_bytes r) → TypedHolds P y → as_value type r y ≡ Some g
    → Hold P (given_bytes g)
as_value_holds P (Elements k) r (o.elements j y) g f h q =
    let a = given (fits k j) (s.single (e.Value.elements y)) g q in
    subst (λ g. Hold P (given_bytes g)) a.is h
as_value_holds P (Enumeration d count) r (o.enumerated c size y) g f h q =
    let a = given _ (s.single y) g q in
    subst (λ g. Hold P (given_bytes g)) a.is h
as_value_holds P type r (o.composite at es) g f h q = as_composite_holds P type at r es g h.0 f h.1 q
as_value_holds P Integers r y g f h q =
    let a = mapped (λ j. s.single (e.Value.computed j)) (as_computed y) g q in
    subst (λ g. Hold P (given_bytes g)) a.is (as_computed_holds P y a.value h a.from)
as_value_holds _ _ r _ g f h q = absurd cc

pub value_given_holds : (P : ℕ → Type 0) (sight : Sight) (type : ObjectType) (r : Option Range) (w : t.Value) (g : Given) → Hold P (if_any_bytes range_bytes r) → Stand P (spell_value w)
    → value_given sight type r w ≡ Some g → Hold P (given_bytes g)
unfolding value_given
value_given_holds P sight type r (t.single d) g f h q =
    let a = comes (typed sight d) (as_value type r) g q in
    as_value_holds P type r a.value g f (typed_holds d P sight a.value h a.is) a.rest
value_given_holds P sight type r (t.others at d) g f h q =
    let a = comes (typed sight d) (as_filled type) g q in
    as_filled_holds P type a.value g (typed_holds d P sight a.value (first P (spell d) _ h.1.1.1) a.is) a.rest

-- ---- what statements assign

abbrev pub AssignedHolds : (ℕ → Type 0) → Assigned → Type 0
AssignedHolds P (to.given g) = Hold P (given_bytes g)
AssignedHolds P (truth_of t) = Hold P (test_bytes t)

as_boolean_holds : (P : ℕ → Type 0) (y : Typed) (a : Assigned) → TypedHolds P y → as_boolean y ≡ Some a → AssignedHolds P a
as_boolean_holds P (o.truth (e.Test.fixed t)) a h q = subst (AssignedHolds P) (some_same (to.given (s.single (e.static_truth t))) a q) h
as_boolean_holds P (o.truth t) a h q = subst (AssignedHolds P) (some_same (truth_of t) a q) h
as_boolean_holds P _ a h q = absurd cc

pub value_assigned_holds : (P : ℕ → Type 0) (sight : Sight) (type : ObjectType) (r : Option Range) (w : t.Value) (a : Assigned) → Hold P (if_any_bytes range_bytes r) → Stand P (spell_value w)
    → value_assigned sight type r w ≡ Some a → AssignedHolds P a
unfolding value_assigned
value_assigned_holds P sight Booleans r (t.single d) a f h q =
    let b = comes (typed sight d) as_boolean a q in
    as_boolean_holds P b.value a (typed_holds d P sight b.value h b.is) b.rest
value_assigned_holds P sight type r w a f h q =
    let m = mapped to.given (value_given sight type r w) a q in
    subst (AssignedHolds P) m.is (value_given_holds P sight type r w m.value f h m.from)
