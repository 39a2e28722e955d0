-- What a qualified expression is, by its type and by what stands in its parentheses.
use Rattle.std.proofs.Common.{◌≡◌, ℕ, Bool, [], Option, Some, None, Result, Ok, Err, Box, Global, refl, sym, ap, ◌∙◌}
use Rattle.std.specs.Prelude.{option_map, is_some}
use Rattle.vhdl_names_rules.specs.declared.kind.ElementKind.{ElementKind}
use Rattle.vhdl_names_rules.specs.declared.kind.ElementKind.TheVariants.{Element}
use Rattle.vhdl_names_trees.specs.declared.integer.StaticRange.{StaticRange}
use Rattle.vhdl_names_rules.specs.declared.fault.NameProblem.TheVariants.{TypeMismatch}
use Rattle.vhdl_names_rules.specs.units.Expressions.{Range}
use Rattle.vhdl_names_rules.specs.Visibility as visibility
use Rattle.vhdl_names_rules.specs.Visibility.{Meaning, DeclaredRange}
use Rattle.vhdl_names_rules.specs.Types as types
use Rattle.vhdl_names_rules.specs.Types.{Typed, elements, TypedElements}
use Rattle.vhdl_names_rules.specs.Ranges.{declared_range}
use Rattle.vhdl_names_rules.specs.Aggregates.{aggregate}
use Rattle.vhdl_names_rules.specs.Expressions.{qualified_by}
use Rattle.vhdl_names_trees.specs.views.Integers.{option_range_view}
use Rattle.vhdl_names_rules.specs.problems.Broken.{refused, unless}
use Rattle.vhdl_names_rules.specs.problems.Aggregates as aggregates
use Rattle.vhdl_names_rules.specs.problems.Expressions as broken
use Rattle.vhdl_names_parts.specs.Ranging.{sized_range}
use Rattle.vhdl_names_sight.specs.Views.{meaning_view}
use Rattle.vhdl_names_sight.specs.declared.meaning.Meaning as code
use Rattle.vhdl_names_sight.specs.declared.meaning.Meaning.TheVariants as m
use Rattle.vhdl_names_expressions.specs.Elements.{sole_value, is_vector_of, element_operand, element_qualified, element_qualified_breaks, vector_operand}

-- ---- a value alone, or more

abbrev one : ℕ → Typed → TypedElements
one q x = types.element [] q x types.no_elements

abbrev either : Result (ℕ × Typed) TypedElements → TypedElements
either (Ok w) = one w.0 w.1
either (Err es) = es

alone : (es : TypedElements) (q : ℕ) (x : Typed) → sole_value es ≡ Ok (q, x) → es ≡ one q x
alone (types.element [] p y types.no_elements) q x h = ap either h
alone es q x h = absurd cc

not_alone : (es zs : TypedElements) → sole_value es ≡ Err zs → zs ≡ es
not_alone (types.element [] p y types.no_elements) zs h = absurd cc
not_alone es zs h = ap either (sym h)

-- ---- of the type of one element

pub element_alone : (es : TypedElements) (q : ℕ) (x : Typed) → sole_value es ≡ Ok (q, x) → element_qualified es ≡ element_operand x
element_alone es q x h = ap element_qualified (alone es q x h)

pub element_alone_breaks : (at : ℕ) (es : TypedElements) (q : ℕ) (x : Typed) → sole_value es ≡ Ok (q, x) → element_qualified_breaks at es ≡ unless TypeMismatch q (broken.is_element x)
element_alone_breaks at es q x h = ap (element_qualified_breaks at) (alone es q x h)

pub no_element : (es zs : TypedElements) → sole_value es ≡ Err zs → element_qualified es ≡ None
no_element (types.element [] p y types.no_elements) zs h = absurd cc
no_element es zs h = refl

pub no_element_breaks : (at : ℕ) (es zs : TypedElements) → sole_value es ≡ Err zs → element_qualified_breaks at es ≡ refused TypeMismatch at
no_element_breaks at (types.element [] p y types.no_elements) zs h = absurd cc
no_element_breaks at es zs h = refl

-- ---- of a type of vectors

vector_is : (k : ElementKind) (d : Meaning) → is_vector_of k d → (b : Bool) × (d ≡ visibility.vector_type k b)
vector_is k (visibility.vector_type j b) h = (b, ap (λ i. visibility.vector_type i b) (sym h))
vector_is k d h = absurd h

operand_is : (at p : ℕ) (k : ElementKind) (b : Bool) (r : Option DeclaredRange) (q : ℕ) (x : Typed) →
    qualified_by at p (visibility.vector_type k b) r (one q x) ≡ vector_operand at k (visibility.vector_type k b) r x
operand_is at p k b r q (elements j x) = refl
operand_is at p k b r q x = refl

aggregate_is : (at p : ℕ) (k : ElementKind) (b : Bool) (r : Option DeclaredRange) (es zs : TypedElements) → sole_value es ≡ Err zs →
    qualified_by at p (visibility.vector_type k b) r es ≡ option_map (elements k) (aggregate k p (option_map declared_range r) es)
aggregate_is at p k b r (types.element [] q (elements j x) types.no_elements) zs h = absurd cc
aggregate_is at p k b r (types.element [] q x types.no_elements) zs h = absurd cc
aggregate_is at p k b r es zs h = refl

aggregate_told : (at p : ℕ) (k : ElementKind) (b : Bool) (r : Option DeclaredRange) (es zs : TypedElements) → sole_value es ≡ Err zs →
    broken.qualified_by at p (visibility.vector_type k b) r es ≡ aggregates.aggregate k (is_some r) es
aggregate_told at p k b r (types.element [] q x types.no_elements) zs h = absurd cc
aggregate_told at p k b r es zs h = refl

some_mapped : {A B : Type 0} (f : A → B) (o : Option A) → is_some (option_map f o) ≡ is_some o
some_mapped f None = refl
some_mapped f (Some x) = refl

module _ (at p : ℕ) (k : ElementKind) (d : Meaning) (r : Option DeclaredRange) (v : is_vector_of k d) where
  pub operand_given : (es : TypedElements) (q : ℕ) (x : Typed) → sole_value es ≡ Ok (q, x) → qualified_by at p d r es ≡ vector_operand at k d r x
  operand_given es q x h =
      let w = vector_is k d v in
      ap (qualified_by at p d r) (alone es q x h) ∙ ap (λ n. qualified_by at p n r (one q x)) w.1 ∙ operand_is at p k w.0 r q x ∙ sym (ap (λ n. vector_operand at k n r x) w.1)

  pub operand_breaks : (es : TypedElements) (q : ℕ) (x : Typed) → sole_value es ≡ Ok (q, x) → broken.qualified_by at p d r es ≡ unless TypeMismatch q (broken.fits_kind k x)
  operand_breaks es q x h =
      let w = vector_is k d v in
      ap (broken.qualified_by at p d r) (alone es q x h) ∙ ap (λ n. broken.qualified_by at p n r (one q x)) w.1

  range_is : (o : Option Range) → o ≡ option_map declared_range (sized_range d r) → o ≡ option_map declared_range r
  range_is o e = e ∙ ap (λ n. option_map declared_range (sized_range n r)) (vector_is k d v).1

  pub aggregate_given : (es zs : TypedElements) (o : Option Range) → sole_value es ≡ Err zs → o ≡ option_map declared_range (sized_range d r) →
      qualified_by at p d r es ≡ option_map (elements k) (aggregate k p o zs)
  aggregate_given es zs o h e =
      let w = vector_is k d v in
      ap (λ n. qualified_by at p n r es) w.1 ∙ aggregate_is at p k w.0 r es zs h
      ∙ ap (λ y. option_map (elements k) (aggregate k p (option_map declared_range r) y)) (sym (not_alone es zs h))
      ∙ ap (λ s. option_map (elements k) (aggregate k p s zs)) (sym (range_is o e))

  pub aggregate_breaks : (es zs : TypedElements) (o : Option (Box StaticRange Global)) → sole_value es ≡ Err zs → option_range_view o ≡ option_map declared_range (sized_range d r) →
      broken.qualified_by at p d r es ≡ aggregates.aggregate k (is_some o) zs
  aggregate_breaks es zs o h e =
      let w = vector_is k d v in
      let same : is_some r ≡ is_some o = sym (some_mapped declared_range r) ∙ ap is_some (sym (range_is (option_range_view o) e)) ∙ some_mapped _ o in
      ap (λ n. broken.qualified_by at p n r es) w.1 ∙ aggregate_told at p k w.0 r es zs h
      ∙ ap (aggregates.aggregate k (is_some r)) (sym (not_alone es zs h)) ∙ ap (λ b. aggregates.aggregate k b zs) same

-- ---- of any type

element_is : (at p : ℕ) (b : Bool) (r : Option DeclaredRange) (es : TypedElements) → qualified_by at p (visibility.element_type b) r es ≡ element_qualified es
element_is at p b r (types.element [] q (elements Element x) types.no_elements) = refl
element_is at p b r (types.element [] q x types.no_elements) = refl
element_is at p b r es = refl

element_told : (at p : ℕ) (b : Bool) (r : Option DeclaredRange) (es : TypedElements) → broken.qualified_by at p (visibility.element_type b) r es ≡ element_qualified_breaks p es
element_told at p b r (types.element [] q x types.no_elements) = refl
element_told at p b r es = refl

module _ (at p : ℕ) (d : code.Meaning) (r : Option DeclaredRange) (es : TypedElements) where
  pub element_given : (b : Bool) → d ≡ m.ElementType b → qualified_by at p (meaning_view d) r es ≡ element_qualified es
  element_given b is = ap (λ n. qualified_by at p (meaning_view n) r es) is ∙ element_is at p b r es

  pub element_breaks : (b : Bool) → d ≡ m.ElementType b → broken.qualified_by at p (meaning_view d) r es ≡ element_qualified_breaks p es
  element_breaks b is = ap (λ n. broken.qualified_by at p (meaning_view n) r es) is ∙ element_told at p b r es

pub vector_known : (d : code.Meaning) (k : ElementKind) (b : Bool) → d ≡ m.VectorType k b → is_vector_of k (meaning_view d)
vector_known (m.VectorType j c) k b is = cc
vector_known d k b is = absurd cc

pub other_given : (at p : ℕ) (d : code.Meaning) (r : Option DeclaredRange) (es : TypedElements) → ((b : Bool) → d ≡ m.ElementType b → ⊥) → ((k : ElementKind) (b : Bool) → d ≡ m.VectorType k b → ⊥) →
    qualified_by at p (meaning_view d) r es ≡ None
other_given at p (m.ElementType b) r es not_element not_vector = absurd (not_element b refl)
other_given at p (m.VectorType k b) r es not_element not_vector = absurd (not_vector k b refl)
other_given at p d r es not_element not_vector = refl

pub other_breaks : (at p : ℕ) (d : code.Meaning) (r : Option DeclaredRange) (es : TypedElements) → ((b : Bool) → d ≡ m.ElementType b → ⊥) → ((k : ElementKind) (b : Bool) → d ≡ m.VectorType k b → ⊥) →
    broken.qualified_by at p (meaning_view d) r es ≡ refused (broken.qualified_problem (meaning_view d)) at
other_breaks at p (m.ElementType b) r es not_element not_vector = absurd (not_element b refl)
other_breaks at p (m.VectorType k b) r es not_element not_vector = absurd (not_vector k b refl)
other_breaks at p d r es not_element not_vector = refl
