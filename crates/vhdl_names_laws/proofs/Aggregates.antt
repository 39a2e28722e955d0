-- Aggregates have the shape of their elements (IEEE 1076-2008, 9.3.3).
use Rattle.std.proofs.Common.{◌≡◌, ℕ, Bool, true, not, ◌&&◌, ◌||◌, List, [], ◌∷◌, Option, Some, refl, ap, ◌∙◌, subst}
use Rattle.std.specs.Option.{is_some}
use Rattle.std.specs.List.{list_all}
use Rattle.std.proofs.lemmas.Bool.{and_parts, and_from}
use Rattle.vhdl_names_rules.specs.declared.kind.ElementKind.{ElementKind}
use Rattle.vhdl_names_rules.specs.declared.kind.ElementKind.TheVariants.{Element}
use Rattle.vhdl_names_rules.specs.units.Expressions as u
use Rattle.vhdl_names_rules.specs.units.Expressions.{Range, Vector, Elements}
use Rattle.vhdl_names_rules.specs.Rules.{then_some}
use Rattle.vhdl_names_rules.specs.Types as types
use Rattle.vhdl_names_rules.specs.Types.{Typed, TypedChoice, TypedElements}
use Rattle.vhdl_names_rules.specs.Aggregates.{are_arranged, are_local, have_one_choice, have_others, may_be_listed, listed_value, element_value, indexes_of, values_of, arranged, aggregate}
use Rattle.vhdl_names_rules.specs.sound.Expressions.{Inside, vector, index_fits, any_range_fits, is_one, are_elements, vector_shape, elements_fit}
use Rattle.vhdl_names_rules.proofs.kept.Keeping.{mapped}
use Rattle.vhdl_names_rules.proofs.laws.Rules.{comes, kept}
use Rattle.vhdl_names_laws.specs.Meanings.{Counts, choice_fits, TypedFits, ElementsFit}
use Rattle.vhdl_names_laws.proofs.Statics.{some_same}
use Rattle.vhdl_names_laws.proofs.Shapes.{given, shape_elements}

module _ (i : Inside) (counts : Counts) where
  listed_fits : (k : ElementKind) (x : Typed) (y : Vector) → TypedFits i counts x → listed_value k x ≡ Some y → are_elements (vector_shape i y) ≡ true
  listed_fits k (types.elements j x) y h g =
      let a = given (may_be_listed k j) x y g in
      subst (λ y. are_elements (vector_shape i y) ≡ true) a.is (ap are_elements h ∙ shape_elements j)
  listed_fits k _ y h g = absurd cc

  element_fits : (x : Typed) (y : Vector) → TypedFits i counts x → element_value x ≡ Some y → is_one (vector_shape i y) ≡ true
  element_fits (types.elements Element x) y h g = subst (λ y. is_one (vector_shape i y) ≡ true) (some_same x y g) (ap is_one h)
  element_fits _ y h g = absurd cc

  indexes_fit : (cs : List TypedChoice) → list_all (choice_fits i) cs ≡ true → list_all (index_fits i) (indexes_of cs) ≡ true
  indexes_fit [] h = refl
  indexes_fit (types.others at ∷ cs) h = indexes_fit cs h
  indexes_fit (types.place l x ∷ cs) h =
      let a = and_parts (index_fits i x) (list_all (choice_fits i) cs) h in
      and_from (index_fits i x) (list_all (index_fits i) (indexes_of cs)) a.0 (indexes_fit cs a.1)

  values_fit : (k : ElementKind) (es : TypedElements) (ys : Elements) → ElementsFit i counts es → values_of k es ≡ Some ys → elements_fit i ys ≡ true
  values_fit k types.no_elements ys h g = subst (λ ys. elements_fit i ys ≡ true) (some_same u.no_elements ys g) refl
  values_fit k (types.element [] at x es) ys h g =
      let a = comes (listed_value k x) _ ys g in
      let b = comes (values_of k es) _ ys a.rest in
      subst (λ ys. elements_fit i ys ≡ true) (some_same (u.next a.value b.value) ys b.rest)
      (and_from (are_elements (vector_shape i a.value)) (elements_fit i b.value) (listed_fits k x a.value h.1 a.is) (values_fit k es b.value h.2 b.is))
  values_fit k (types.element (types.others p ∷ cs) at x es) ys h g =
      let a = comes (element_value x) _ ys g in
      subst (λ ys. elements_fit i ys ≡ true) (some_same (u.Elements.others a.value) ys a.rest) (element_fits x a.value h.1 a.is)
  values_fit k (types.element (types.place l z ∷ cs) at x es) ys h g =
      let a = comes (element_value x) _ ys g in
      let b = comes (values_of k es) _ ys a.rest in
      let is = indexes_of (types.place l z ∷ cs) in
      subst (λ ys. elements_fit i ys ≡ true) (some_same (u.chosen is a.value b.value) ys b.rest)
      (and_from (list_all (index_fits i) is && is_one (vector_shape i a.value)) (elements_fit i b.value)
      (and_from (list_all (index_fits i) is) (is_one (vector_shape i a.value)) (indexes_fit (types.place l z ∷ cs) h.0) (element_fits x a.value h.1 a.is))
      (values_fit k es b.value h.2 b.is))

  pub arranged_fits : (k : ElementKind) (is_ranged : Bool) (es : TypedElements) (ys : Elements) → ElementsFit i counts es → arranged k is_ranged es ≡ Some ys → elements_fit i ys ≡ true
  arranged_fits k is_ranged es ys h g =
      let a = kept (are_arranged es) _ ys g in
      let b = kept (are_local es || have_one_choice es) _ ys a.1 in
      let c = kept (is_ranged || not (have_others es)) _ ys b.1 in
      values_fit k es ys h c.1

  pub aggregate_fits : (k : ElementKind) (at : ℕ) (r : Option Range) (es : TypedElements) (x : Vector) → any_range_fits i r ≡ true → ElementsFit i counts es
      → aggregate k at r es ≡ Some x → vector_shape i x ≡ Some vector
  aggregate_fits k at r es x f h g =
      let a = mapped (u.aggregate at r) (arranged k (is_some r) es) x g in
      subst (λ x. vector_shape i x ≡ Some vector) a.is
      (ap (λ b. then_some b vector) (and_from (any_range_fits i r) (elements_fit i a.value) f (arranged_fits k (is_some r) es a.value h a.from)))
