-- An expression that has a type breaks no rule (IEEE 1076-2008, clauses 8 and 9).
use Rattle.std.proofs.Common.{◌≡◌, ℕ, Bool, true, false, cond, List, [], Option, Some, None, refl, ap, sym, ◌∙◌}
use Rattle.std.specs.Prelude.{option_map}
use Rattle.std.specs.Option.{option_or}
use Rattle.vhdl_lexer.specs.declared.language.Language.{Language}
use Rattle.vhdl_tree.specs.declared.operator.Direction.{Direction}
use Rattle.vhdl_tree.specs.declared.operator.Sign.{Sign}
use Rattle.vhdl_tree.specs.declared.operator.Sign.TheVariants.{Plus, Minus}
use Rattle.vhdl_tree.specs.Tree as t
use Rattle.vhdl_tree.specs.Tree.{Expr, Exprs, Ident, Attribute}
use Rattle.vhdl_names_rules.specs.declared.kind.ElementKind.TheVariants.{Element, OpenVector}
use Rattle.vhdl_names_rules.specs.declared.kind.ObjectType.{ObjectType}
use Rattle.vhdl_names_rules.specs.declared.kind.ObjectType.TheVariants.{Elements, Enumeration, Integers, Booleans}
use Rattle.vhdl_names_rules.specs.declared.fault.NameProblem.TheVariants.{TypeMismatch, LeftOut}
use Rattle.vhdl_names_rules.specs.units.Expressions as u
use Rattle.vhdl_names_rules.specs.units.Expressions.{Static, Computed, Test, Range}
use Rattle.vhdl_names_rules.specs.units.Statements.{Given}
use Rattle.vhdl_names_rules.specs.Rules.{◌>>=◌, wider}
use Rattle.vhdl_names_rules.specs.Visibility as visibility
use Rattle.vhdl_names_rules.specs.Visibility.{Meaning, Declared, DeclaredRange, Sight, declaration}
use Rattle.vhdl_names_rules.specs.Literals.{number_of, nine_of, values_of_string, values_of_bits}
use Rattle.vhdl_names_rules.specs.Types as types
use Rattle.vhdl_names_rules.specs.Types.{TypedElements, TypedChoice}
use Rattle.vhdl_names_rules.specs.Operators as o
use Rattle.vhdl_names_rules.specs.Operators.{Typed, as_computed, inverse, raised, truths_related, operated}
use Rattle.vhdl_names_rules.specs.Aggregates.{aggregate}
use Rattle.vhdl_names_rules.specs.Names.{Suffix, computed_range, denoted, attributed, edge_signal, plain}
use Rattle.vhdl_names_rules.specs.Ranges.{Ranged, ranged, declared_range, named_range, range_attribute, sized_by}
use Rattle.vhdl_names_rules.specs.Expressions as are
use Rattle.vhdl_names_rules.specs.Expressions.{as_integer, in_parentheses, beside, is_one_name, suffix_of, fits, as_index, as_range, as_test, as_static_test, as_value, as_filled, Assigned, as_boolean}
use Rattle.vhdl_names_rules.specs.problems.Broken.{nothing, ◌▸◌, unless, lacking, where_given, of_any}
use Rattle.vhdl_names_rules.specs.problems.Missing.{problem_of}
use Rattle.vhdl_names_rules.specs.problems.Places.{start}
use Rattle.vhdl_names_rules.specs.problems.Operators.{string_problem, operator_problem, edge_problem, name_problem}
use Rattle.vhdl_names_rules.specs.problems.Expressions as broken
use Rattle.vhdl_names_rules.specs.problems.Expressions.{attribute_start, is_event, of_no_value, is_no_value, is_of_range, is_range, operand, fits_kind, no_range, is_vector_type}
use Rattle.vhdl_names_rules.proofs.laws.Rules.{comes, kept}
use Rattle.vhdl_names_rules.proofs.laws.Ranged.{named_by_range, named_valued, no_ranged, range_alone}
use Rattle.vhdl_names_rules.proofs.Telling.{IsKept, both_kept, unless_kept, lacking_kept, given_kept}
use Rattle.vhdl_names_rules.proofs.kept.Keeping.{nothing_kept, mapped}
use Rattle.vhdl_names_rules.proofs.kept.Aggregates.{then_true, aggregate_kept, composite_kept, filled_vector}
use Rattle.vhdl_names_rules.proofs.kept.Operands.{first_kept, second_kept}

-- ---- names

pub meaning_kept : (sight : Sight) (n : Ident) (d : Meaning) → visibility.meaning sight n.text ≡ Some d → IsKept (broken.meaning sight n)
meaning_kept sight n d h = lacking_kept (problem_of sight.language n.text) n.at (visibility.meaning sight n.text) d h

pub declared_kept : (sight : Sight) (n : Ident) (d : Declared) → declaration sight n.text ≡ Some d → IsKept (broken.meaning sight n)
declared_kept sight n d h = meaning_kept sight n d.meaning (ap (option_map (λ (x : Declared). x.meaning)) h)

pub attribute_kept : (a : Option Attribute) (x y : Typed) → attributed a x ≡ Some y → IsKept (broken.attribute a)
attribute_kept None x y h = nothing_kept
attribute_kept (Some (t.of_range p)) x y h = absurd cc
attribute_kept (Some (t.called a)) x y h = unless_kept LeftOut a.at (is_event (t.called a)) (kept (is_event (t.called a)) _ y h).0

pub attributed_kept : (at : ℕ) (a : Option Attribute) (x y : Typed) → attributed a x ≡ Some y → IsKept (broken.attributed at a x)
attributed_kept at None x y h = nothing_kept
attributed_kept at (Some (t.of_range p)) x y h = absurd cc
attributed_kept at (Some (t.called a)) x y h =
    let k = kept (is_event (t.called a)) _ y h in
    let c = comes (edge_signal x) _ y k.1 in
    both_kept _ _ (unless_kept LeftOut a.at (is_event (t.called a)) k.0) (lacking_kept (edge_problem x) at (edge_signal x) c.value c.is)

pub no_value_kept : (d : Meaning) (s : Suffix) (a : Option Attribute) → IsKept (broken.attribute a) → IsKept (of_no_value d s a)
no_value_kept d plain a h = go (is_no_value d) h
  where
    go : (b : Bool) → IsKept (broken.attribute a) → IsKept (cond b (broken.attribute a) nothing)
    go true h = h
    go false h = nothing_kept
no_value_kept d _ a h = nothing_kept

pub with_suffix_kept : (at : ℕ) (a : Option Attribute) (d : Meaning) (r : Option DeclaredRange) (s : Suffix) (x y : Typed) → denoted at d s ≡ Some x
    → attributed a (sized_by at d r x) ≡ Some y → IsKept (broken.with_suffix at a d r s)
with_suffix_kept at a d r s x y denoted_is attributed_is =
    both_kept _ _ (no_value_kept d s a (attribute_kept a (sized_by at d r x) y attributed_is))
    (both_kept _ _ (lacking_kept (name_problem d s) at (denoted at d s) x denoted_is)
    (given_kept (λ x. broken.attributed at a (sized_by at d r x)) (denoted at d s) x denoted_is (attributed_kept at a (sized_by at d r x) y attributed_is)))

-- ---- attributes of ranges

of_range_kept : (at : ℕ) (a : Attribute) (d : Declared) (s : Suffix) (y : Typed) → range_attribute at (Some a) d s ≡ Some y → IsKept (broken.of_range at a d s)
of_range_kept at a d s y h = go (ranged d s) refl
  where
    go : (r : Option Ranged) → ranged d s ≡ r → IsKept (broken.of_ranged at a d s r)
    go None e = let none : None ≡ Some y = sym (no_ranged at a d s e) ∙ h in absurd cc
    go (Some r) e = lacking_kept LeftOut (attribute_start a) (range_attribute at (Some a) d s) y h

range_kept : (language : Language) (at : ℕ) (a : Option Attribute) (d : Declared) (s : Suffix) (y : Typed) → is_of_range language a ≡ true
    → are.named language at a d s ≡ Some y → IsKept (of_any (λ x. broken.of_range at x d s) a)
range_kept language at None d s y e h = nothing_kept
range_kept language at (Some a) d s y e h = of_range_kept at a d s y (sym (named_by_range language at a d s e) ∙ h)

pub by_declaration_kept : (language : Language) (at : ℕ) (a : Option Attribute) (d : Declared) (s : Suffix) (y : Typed) → are.named language at a d s ≡ Some y
    → IsKept (broken.by_declaration language at a d s)
by_declaration_kept language at a d s y h = go (is_of_range language a) refl (is_range language a d s) refl
  where
    go : (b : Bool) → is_of_range language a ≡ b → (c : Bool) → is_range language a d s ≡ c
        → IsKept (cond b (of_any (λ x. broken.of_range at x d s) a) (cond c nothing (broken.with_suffix at a d.meaning d.range s)))
    go true e c f = range_kept language at a d s y e h
    go false e true f = nothing_kept
    go false e false f =
        let x = comes (denoted at d.meaning s) (λ x. attributed a (sized_by at d.meaning d.range x)) y (sym (named_valued language at a d s e f) ∙ h) in
        with_suffix_kept at a d.meaning d.range s x.value y x.is x.rest

named_kept : (sight : Sight) (n : Ident) (a : Option Attribute) (o : Option Suffix) (s : Suffix) (d : Declared) (y : Typed) → o ≡ Some s
    → declaration sight n.text ≡ Some d → are.named sight.language n.at a d s ≡ Some y → IsKept (broken.named sight n o a)
named_kept sight n a o s d y given found is =
    given_kept (λ d. where_given o (broken.by_declaration sight.language n.at a d)) (declaration sight n.text) d found
    (given_kept (broken.by_declaration sight.language n.at a d) o s given (by_declaration_kept sight.language n.at a d s y is))

-- ---- qualified expressions

qualified_kept : (at p : ℕ) (m : Meaning) (r : Option DeclaredRange) (es : TypedElements) (y : Typed) → are.qualified_by at p m r es ≡ Some y → IsKept (broken.qualified_by at p m r es)
qualified_kept at p (visibility.element_type b) r (types.element [] q (o.elements Element x) types.no_elements) y h = nothing_kept
qualified_kept at p (visibility.element_type b) r es y h = absurd cc
qualified_kept at p (visibility.vector_type k b) r (types.element [] q (o.elements j x) types.no_elements) y h =
    unless_kept TypeMismatch q (fits_kind k (o.elements j x)) (then_true (fits k j) (sized_by at (visibility.vector_type k b) r (o.elements k x)) y h)
qualified_kept at p (visibility.vector_type k b) r (types.element [] q x types.no_elements) y h = absurd cc
qualified_kept at p (visibility.vector_type k b) None es y h = let v = mapped (o.elements k) (aggregate k p None es) y h in aggregate_kept k p None es v.value v.from
qualified_kept at p (visibility.vector_type k b) (Some r) es y h =
    let v = mapped (o.elements k) (aggregate k p (Some (declared_range r)) es) y h in aggregate_kept k p (Some (declared_range r)) es v.value v.from
qualified_kept at p m r es y h = absurd cc

-- ---- expressions

pub wanted_kept : (at : ℕ) (o : Option Typed) (x : Typed) (s : Static) → o ≡ Some x → as_integer x ≡ Some s → IsKept (broken.integer_wanted at o)
wanted_kept at o x s h g = given_kept (λ x. lacking TypeMismatch at (as_integer x)) o x h (lacking_kept TypeMismatch at (as_integer x) s g)

-- both operands are integers
record Integral (x y : Typed) : Type 0 where
  left : Static
  right : Static
  left_is : as_integer x ≡ Some left
  right_is : as_integer y ≡ Some right

raised_of : (at : ℕ) (x y z : Typed) → raised at x y ≡ Some z → Integral x y
raised_of at (o.integer s) (o.integer r) z h = record { left = s; right = r; left_is = refl; right_is = refl }
raised_of at x y z h = absurd cc

-- an operand is an integer, which a run may compute
record Computes (x : Typed) : Type 0 where
  value : Computed
  is : as_computed x ≡ Some value

computed_kept : (at : ℕ) (o : Option Typed) (x : Typed) → o ≡ Some x → Computes x → IsKept (broken.computed_wanted at o)
computed_kept at o x h c = given_kept (λ x. lacking TypeMismatch at (as_computed x)) o x h (lacking_kept TypeMismatch at (as_computed x) c.value c.is)

absolute_of : (at : ℕ) (x z : Typed) → are.absolute at x ≡ Some z → Computes x
absolute_of at (o.integer s) z h = record { value = u.static s; is = refl }
absolute_of at (o.computed y) z h = record { value = y; is = refl }
absolute_of at x z h = absurd cc

signed_of : (at : ℕ) (sign : Sign) (x z : Typed) → are.signed at sign x ≡ Some z → Computes x
signed_of at sign (o.integer s) z h = record { value = u.static s; is = refl }
signed_of at sign (o.computed y) z h = record { value = y; is = refl }
signed_of at Plus x z h = absurd cc
signed_of at Minus x z h = absurd cc

sliced_of : (x y : Typed) (direction : Direction) (s : Suffix) → are.sliced x direction y ≡ Some s → Computes x × Computes y
sliced_of (o.integer l) (o.integer r) direction s h = (record { value = u.static l; is = refl }, record { value = u.static r; is = refl })
sliced_of x y direction s h =
    let a = comes (as_computed x) (λ l. as_computed y >>= λ r. Some (computed_range l direction r)) s h in
    let b = comes (as_computed y) (λ r. Some (computed_range a.value direction r)) s a.rest in
    (record { value = a.value; is = a.is }, record { value = b.value; is = b.is })

mutual
  unfolding are.typed broken.typed

  pub typed_kept : (e : Expr) (sight : Sight) (x : Typed) → are.typed sight e ≡ Some x → IsKept (broken.typed sight e)
  typed_kept (t.integer at text) sight x h =
      let a = mapped (λ n. o.integer (u.number n)) (number_of text) x h in
      lacking_kept LeftOut at (number_of text) a.value a.from
  typed_kept (t.character at c) sight x h =
      let a = mapped (λ v. o.elements Element (u.character v)) (nine_of c) x h in
      lacking_kept TypeMismatch at (nine_of c) a.value a.from
  typed_kept (t.string at text) sight x h =
      let a = mapped (λ vs. o.elements OpenVector (u.Vector.literal at vs)) (values_of_string text) x h in
      lacking_kept (string_problem text) at (values_of_string text) a.value a.from
  typed_kept (t.bits at text) sight x h =
      let a = mapped (λ vs. o.elements OpenVector (u.Vector.literal at vs)) (values_of_bits text) x h in
      lacking_kept LeftOut at (values_of_bits text) a.value a.from
  typed_kept (t.named n suffix a) sight x h =
      let s = comes (are.typed_suffix sight suffix) _ x h in
      let d = comes (declaration sight n.text) _ x s.rest in
      both_kept _ _ (declared_kept sight n d.value d.is)
      (both_kept _ _ (typed_suffix_kept suffix sight s.value s.is)
      (named_kept sight n a (are.typed_suffix sight suffix) s.value d.value x s.is d.is d.rest))
  typed_kept (t.parens at e) sight x h =
      let a = comes (are.typed sight e) in_parentheses x h in
      both_kept _ _ (typed_kept e sight a.value a.is)
      (given_kept (λ x. lacking TypeMismatch (start e) (in_parentheses x)) (are.typed sight e) a.value a.is (lacking_kept TypeMismatch (start e) (in_parentheses a.value) x a.rest))
  typed_kept (t.negation at e) sight x h =
      let a = comes (are.typed sight e) inverse x h in
      both_kept _ _ (typed_kept e sight a.value a.is)
      (given_kept (λ x. lacking TypeMismatch at (inverse x)) (are.typed sight e) a.value a.is (lacking_kept TypeMismatch at (inverse a.value) x a.rest))
  typed_kept (t.absolute at e) sight x h =
      let a = comes (are.typed sight e) (are.absolute at) x h in
      both_kept _ _ (typed_kept e sight a.value a.is) (computed_kept at (are.typed sight e) a.value a.is (absolute_of at a.value x a.rest))
  typed_kept (t.power d at e) sight x h =
      let a = comes (are.typed sight d) _ x h in
      let b = comes (are.typed sight e) _ x a.rest in
      let i = raised_of at a.value b.value x b.rest in
      both_kept _ _ (typed_kept d sight a.value a.is)
      (both_kept _ _ (typed_kept e sight b.value b.is)
      (both_kept _ _ (wanted_kept at (are.typed sight d) a.value i.left a.is i.left_is) (wanted_kept at (are.typed sight e) b.value i.right b.is i.right_is)))
  typed_kept (t.signed sign at e) sight x h =
      let a = comes (are.typed sight e) (are.signed at sign) x h in
      both_kept _ _ (typed_kept e sight a.value a.is) (computed_kept at (are.typed sight e) a.value a.is (signed_of at sign a.value x a.rest))
  typed_kept (t.binary begins q at d e) sight x h =
      let a = comes (are.typed sight d) _ x h in
      let b = comes (are.typed sight e) _ x a.rest in
      let by : Typed → Typed → Option Typed = λ x y. option_or (operated sight.numbers at q x (beside d y)) (wider sight.language (truths_related q x y)) in
      both_kept _ _ (typed_kept d sight a.value a.is)
      (both_kept _ _ (typed_kept e sight b.value b.is)
      (given_kept (λ x. where_given (are.typed sight e) (λ y. operand q y x ▸ operand q x y ▸ lacking (operator_problem q x (beside d y)) at (by x y)))
      (are.typed sight d) a.value a.is
      (given_kept (λ y. operand q y a.value ▸ operand q a.value y ▸ lacking (operator_problem q a.value (beside d y)) at (by a.value y)) (are.typed sight e) b.value b.is
      (both_kept _ _ (first_kept sight.language sight.numbers at q d a.value b.value x b.rest)
      (both_kept _ _ (second_kept sight.language sight.numbers at q d a.value b.value x b.rest)
      (lacking_kept (operator_problem q a.value (beside d b.value)) at (by a.value b.value) x b.rest))))))
  typed_kept (t.aggregate at es) sight x h =
      let a = mapped (types.composite at) (are.typed_elements sight es) x h in
      typed_elements_kept es sight a.value a.from
  typed_kept (t.qualified n at es) sight x h =
      let xs = comes (are.typed_elements sight es) _ x h in
      let d = comes (declaration sight n.text) _ x xs.rest in
      both_kept _ _ (declared_kept sight n d.value d.is)
      (both_kept _ _ (typed_elements_kept es sight xs.value xs.is)
      (given_kept (λ d. where_given (are.typed_elements sight es) (broken.qualified n.at at d)) (declaration sight n.text) d.value d.is
      (given_kept (broken.qualified n.at at d.value) (are.typed_elements sight es) xs.value xs.is
      (qualified_kept n.at at d.value.meaning d.value.range xs.value x d.rest))))

  pub typed_suffix_kept : (s : t.Suffix) (sight : Sight) (x : Suffix) → are.typed_suffix sight s ≡ Some x → IsKept (broken.typed_suffix sight s)
  typed_suffix_kept t.plain sight x h = nothing_kept
  typed_suffix_kept (t.arguments es) sight x h =
      let a = mapped (suffix_of (is_one_name es)) (are.typed_each sight es) x h in
      typed_each_kept es sight a.value a.from
  typed_suffix_kept (t.sliced d direction e) sight x h =
      let a = comes (are.typed sight d) _ x h in
      let b = comes (are.typed sight e) _ x a.rest in
      let s = sliced_of a.value b.value direction x b.rest in
      both_kept _ _ (both_kept _ _ (typed_kept d sight a.value a.is) (computed_kept (start d) (are.typed sight d) a.value a.is s.0))
      (both_kept _ _ (typed_kept e sight b.value b.is) (computed_kept (start e) (are.typed sight e) b.value b.is s.1))

  pub typed_each_kept : (es : Exprs) (sight : Sight) (xs : List Typed) → are.typed_each sight es ≡ Some xs → IsKept (broken.typed_each sight es)
  typed_each_kept t.no_exprs sight xs h = nothing_kept
  typed_each_kept (t.expr e es) sight xs h =
      let a = comes (are.typed sight e) _ xs h in
      let b = comes (are.typed_each sight es) _ xs a.rest in
      both_kept _ _ (typed_kept e sight a.value a.is) (typed_each_kept es sight b.value b.is)

  pub typed_elements_kept : (es : t.Elements) (sight : Sight) (xs : TypedElements) → are.typed_elements sight es ≡ Some xs → IsKept (broken.typed_elements sight es)
  typed_elements_kept t.no_elements sight xs h = nothing_kept
  typed_elements_kept (t.element cs e es) sight xs h =
      let a = comes (are.typed_choices sight cs) _ xs h in
      let b = comes (are.typed sight e) _ xs a.rest in
      let c = comes (are.typed_elements sight es) _ xs b.rest in
      both_kept _ _ (typed_choices_kept cs sight a.value a.is) (both_kept _ _ (typed_kept e sight b.value b.is) (typed_elements_kept es sight c.value c.is))

  pub typed_choices_kept : (cs : t.Choices) (sight : Sight) (xs : List TypedChoice) → are.typed_choices sight cs ≡ Some xs → IsKept (broken.typed_choices sight cs)
  typed_choices_kept t.no_choices sight xs h = nothing_kept
  typed_choices_kept (t.choice c cs) sight xs h =
      let a = comes (are.typed_choice sight c) _ xs h in
      let b = comes (are.typed_choices sight cs) _ xs a.rest in
      both_kept _ _ (typed_choice_kept c sight a.value a.is) (typed_choices_kept cs sight b.value b.is)

  pub typed_choice_kept : (c : t.Choice) (sight : Sight) (x : TypedChoice) → are.typed_choice sight c ≡ Some x → IsKept (broken.typed_choice sight c)
  typed_choice_kept (t.chosen e) sight x h =
      let a = comes (are.typed sight e) _ x h in
      let i = comes (as_index (start e) a.value) _ x a.rest in
      both_kept _ _ (typed_kept e sight a.value a.is)
      (given_kept (λ x. lacking TypeMismatch (start e) (as_index (start e) x)) (are.typed sight e) a.value a.is (lacking_kept TypeMismatch (start e) (as_index (start e) a.value) i.value i.is))
  typed_choice_kept (t.chosen_range d direction e) sight x h =
      let a = comes (are.typed sight d) _ x h in
      let l = comes (as_integer a.value) _ x a.rest in
      let b = comes (are.typed sight e) _ x l.rest in
      let r = comes (as_integer b.value) _ x b.rest in
      both_kept _ _ (both_kept _ _ (typed_kept d sight a.value a.is) (wanted_kept (start d) (are.typed sight d) a.value l.value a.is l.is))
      (both_kept _ _ (typed_kept e sight b.value b.is) (wanted_kept (start e) (are.typed sight e) b.value r.value b.is r.is))
  typed_choice_kept (t.otherwise at) sight x h = nothing_kept

-- ---- what is asked of an expression

pub asked_kept : {A : Type 0} (f : Typed → Option A) (sight : Sight) (e : Expr) (x : A) → (are.typed sight e >>= f) ≡ Some x
    → IsKept (broken.typed sight e ▸ where_given (are.typed sight e) (λ x. lacking TypeMismatch (start e) (f x)))
asked_kept f sight e x h =
    let a = comes (are.typed sight e) f x h in
    both_kept (broken.typed sight e) (where_given (are.typed sight e) (λ x. lacking TypeMismatch (start e) (f x))) (typed_kept e sight a.value a.is)
    (given_kept (λ x. lacking TypeMismatch (start e) (f x)) (are.typed sight e) a.value a.is (lacking_kept TypeMismatch (start e) (f a.value) x a.rest))

pub static_kept : (sight : Sight) (e : Expr) (s : Static) → are.static sight e ≡ Some s → IsKept (broken.static sight e)
unfolding are.static
static_kept sight e s h = asked_kept as_integer sight e s h

-- a range by its name: that of a subtype of integers, or by an attribute
range_named_kept : (sight : Sight) (n : t.Name) (a : Option Attribute) (x : Range) → (are.typed sight (t.named n.identifier n.suffix a) >>= as_range) ≡ Some x
    → IsKept (broken.range_named sight n a)
unfolding are.typed
range_named_kept sight n None x h =
    let v = comes (are.typed sight (t.named n.identifier n.suffix None)) as_range x h in
    let s = comes (are.typed_suffix sight n.suffix) _ v.value v.is in
    let d = comes (declaration sight n.identifier.text) _ v.value s.rest in
    let r : wider sight.language (named_range None d.value s.value) ≡ Some x =
    sym (range_alone sight.language n.identifier.at d.value s.value) ∙ ap (λ o. o >>= as_range) d.rest ∙ v.rest in
    both_kept _ _ (declared_kept sight n.identifier d.value d.is)
    (both_kept _ _ (typed_suffix_kept n.suffix sight s.value s.is)
    (given_kept (λ d. where_given (are.typed_suffix sight n.suffix) (λ s. lacking (no_range d.meaning) n.identifier.at (wider sight.language (named_range None d s)))) (declaration sight n.identifier.text) d.value d.is
    (given_kept (λ s. lacking (no_range d.value.meaning) n.identifier.at (wider sight.language (named_range None d.value s))) (are.typed_suffix sight n.suffix) s.value s.is
    (lacking_kept (no_range d.value.meaning) n.identifier.at (wider sight.language (named_range None d.value s.value)) x r))))
range_named_kept sight n (Some a) x h =
    let v = comes (are.typed sight (t.named n.identifier n.suffix (Some a))) as_range x h in
    both_kept _ _ (typed_kept (t.named n.identifier n.suffix (Some a)) sight v.value v.is)
    (given_kept (λ x. lacking TypeMismatch n.identifier.at (as_range x)) (are.typed sight (t.named n.identifier n.suffix (Some a))) v.value v.is
    (lacking_kept TypeMismatch n.identifier.at (as_range v.value) x v.rest))

pub static_range_kept : (sight : Sight) (r : t.DiscreteRange) (x : Range) → are.static_range sight r ≡ Some x → IsKept (broken.static_range sight r)
unfolding are.static_range
static_range_kept sight (t.bounds r) x h =
    let a = comes (are.static sight r.left) _ x h in
    let b = comes (are.static sight r.right) _ x a.rest in
    both_kept (broken.static sight r.left) (broken.static sight r.right) (static_kept sight r.left a.value a.is) (static_kept sight r.right b.value b.is)
static_range_kept sight (t.range_named n) x h = range_named_kept sight n n.attribute x h

pub condition_kept : (sight : Sight) (e : Expr) (x : Test) → are.condition sight e ≡ Some x → IsKept (broken.condition sight e)
unfolding are.condition
condition_kept sight e x h = asked_kept as_test sight e x h

pub static_condition_kept : (sight : Sight) (e : Expr) (x : u.StaticTest) → (are.typed sight e >>= as_static_test) ≡ Some x
    → IsKept (broken.static_condition sight e)
static_condition_kept sight e x h = asked_kept as_static_test sight e x h

-- ---- what is given to a type

pub as_value_kept : (type : ObjectType) (r : Option Range) (at : ℕ) (x : Typed) (g : Given) → as_value type r x ≡ Some g → IsKept (broken.given type r at x)
as_value_kept (Elements k) r at (types.composite p es) g h = composite_kept k p r es g h
as_value_kept (Enumeration e count) r at (types.composite p es) g h = absurd cc
as_value_kept Integers r at (types.composite p es) g h = absurd cc
as_value_kept Booleans r at (types.composite p es) g h = absurd cc
as_value_kept type r at x g h = lacking_kept TypeMismatch at (as_value type r x) g h

pub value_given_kept : (sight : Sight) (type : ObjectType) (r : Option Range) (v : t.Value) (x : Given) → are.value_given sight type r v ≡ Some x
    → IsKept (broken.value_given sight type r v)
unfolding are.value_given
value_given_kept sight type r (t.single e) x h =
    let a = comes (are.typed sight e) (as_value type r) x h in
    both_kept _ _ (typed_kept e sight a.value a.is)
    (given_kept (broken.given type r (start e)) (are.typed sight e) a.value a.is (as_value_kept type r (start e) a.value x a.rest))
value_given_kept sight type r (t.others at e) x h =
    let a = comes (are.typed sight e) (as_filled type) x h in
    both_kept _ _ (typed_kept e sight a.value a.is)
    (given_kept (λ x. unless TypeMismatch at (is_vector_type type) ▸ lacking TypeMismatch (start e) (as_filled type x)) (are.typed sight e) a.value a.is
    (both_kept _ _ (unless_kept TypeMismatch at (is_vector_type type) (filled_vector type a.value x a.rest))
    (lacking_kept TypeMismatch (start e) (as_filled type a.value) x a.rest)))

pub value_assigned_kept : (sight : Sight) (type : ObjectType) (r : Option Range) (v : t.Value) (x : Assigned) → are.value_assigned sight type r v ≡ Some x
    → IsKept (broken.value_assigned sight type r v)
unfolding are.value_assigned
value_assigned_kept sight Booleans r (t.single e) x h = asked_kept as_boolean sight e x h
value_assigned_kept sight type r v x h =
    let g = mapped are.given (are.value_given sight type r v) x h in
    value_given_kept sight type r v g.value g.from
