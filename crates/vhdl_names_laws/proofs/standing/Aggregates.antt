-- The bytes of an aggregate are those of its elements and of the indexes that they are for.
use Rattle.std.proofs.Common.{◌≡◌, ℕ, Bool, not, ◌||◌, List, [], ◌∷◌, ◌++◌, Option, Some, subst}
use Rattle.std.specs.Prelude.{flat_map}
use Rattle.std.specs.Option.{is_some}
use Rattle.std.specs.List.{AllByRecursion}
use Rattle.vhdl_names_rules.specs.declared.kind.ElementKind.{ElementKind}
use Rattle.vhdl_names_rules.specs.declared.kind.ElementKind.TheVariants.{Element}
use Rattle.vhdl_names_rules.specs.units.Expressions as u
use Rattle.vhdl_names_rules.specs.units.Expressions.{Range, Vector, Elements}
use Rattle.vhdl_names_rules.specs.units.Bytes.{if_any_bytes, range_bytes, index_bytes, vector_bytes, elements_bytes}
use Rattle.vhdl_names_rules.specs.Types as types
use Rattle.vhdl_names_rules.specs.Types.{Typed, TypedChoice, TypedElements}
use Rattle.vhdl_names_rules.specs.Aggregates.{are_arranged, are_local, have_one_choice, have_others, may_be_listed, listed_value, element_value, indexes_of, values_of, arranged, aggregate}
use Rattle.vhdl_names_rules.proofs.kept.Keeping.{mapped}
use Rattle.vhdl_names_rules.proofs.laws.Rules.{comes, kept}
use Rattle.vhdl_names_laws.proofs.Statics.{some_same}
use Rattle.vhdl_names_laws.proofs.Shapes.{given}
use Rattle.vhdl_names_laws.proofs.standing.Holding.{Hold, hold_both, ChoiceHolds, TypedHolds, ElementsHold}

module _ (P : ℕ → Type 0) where
  listed_holds : (k : ElementKind) (x : Typed) (y : Vector) → TypedHolds P x → listed_value k x ≡ Some y → Hold P (vector_bytes y)
  listed_holds k (types.elements j x) y h g = let a = given (may_be_listed k j) x y g in subst (λ y. Hold P (vector_bytes y)) a.is h
  listed_holds k _ y h g = absurd cc

  element_holds : (x : Typed) (y : Vector) → TypedHolds P x → element_value x ≡ Some y → Hold P (vector_bytes y)
  element_holds (types.elements Element x) y h g = subst (λ y. Hold P (vector_bytes y)) (some_same x y g) h
  element_holds _ y h g = absurd cc

  indexes_hold : (cs : List TypedChoice) → AllByRecursion (ChoiceHolds P) cs → Hold P (flat_map index_bytes (indexes_of cs))
  indexes_hold [] h = tt
  indexes_hold (types.others at ∷ cs) h = indexes_hold cs h.1
  indexes_hold (types.place l x ∷ cs) h = hold_both P (index_bytes x) (flat_map index_bytes (indexes_of cs)) h.0 (indexes_hold cs h.1)

  values_hold : (k : ElementKind) (es : TypedElements) (ys : Elements) → ElementsHold P es → values_of k es ≡ Some ys → Hold P (elements_bytes ys)
  values_hold k types.no_elements ys h g = subst (λ ys. Hold P (elements_bytes ys)) (some_same u.no_elements ys g) tt
  values_hold k (types.element [] at x es) ys h g =
      let a = comes (listed_value k x) _ ys g in
      let b = comes (values_of k es) _ ys a.rest in
      subst (λ ys. Hold P (elements_bytes ys)) (some_same (u.next a.value b.value) ys b.rest)
      (hold_both P (vector_bytes a.value) (elements_bytes b.value) (listed_holds k x a.value h.1 a.is) (values_hold k es b.value h.2 b.is))
  values_hold k (types.element (types.others p ∷ cs) at x es) ys h g =
      let a = comes (element_value x) _ ys g in
      subst (λ ys. Hold P (elements_bytes ys)) (some_same (u.Elements.others a.value) ys a.rest) (element_holds x a.value h.1 a.is)
  values_hold k (types.element (types.place l z ∷ cs) at x es) ys h g =
      let a = comes (element_value x) _ ys g in
      let b = comes (values_of k es) _ ys a.rest in
      let is = indexes_of (types.place l z ∷ cs) in
      subst (λ ys. Hold P (elements_bytes ys)) (some_same (u.chosen is a.value b.value) ys b.rest)
      (hold_both P (flat_map index_bytes is) (vector_bytes a.value ++ elements_bytes b.value) (indexes_hold (types.place l z ∷ cs) h.0)
      (hold_both P (vector_bytes a.value) (elements_bytes b.value) (element_holds x a.value h.1 a.is) (values_hold k es b.value h.2 b.is)))

  pub arranged_holds : (k : ElementKind) (is_ranged : Bool) (es : TypedElements) (ys : Elements) → ElementsHold P es → arranged k is_ranged es ≡ Some ys → Hold P (elements_bytes ys)
  arranged_holds k is_ranged es ys h g =
      let a = kept (are_arranged es) _ ys g in
      let b = kept (are_local es || have_one_choice es) _ ys a.1 in
      let c = kept (is_ranged || not (have_others es)) _ ys b.1 in
      values_hold k es ys h c.1

  pub aggregate_holds : (k : ElementKind) (at : ℕ) (r : Option Range) (es : TypedElements) (x : Vector) → P at → Hold P (if_any_bytes range_bytes r) → ElementsHold P es
      → aggregate k at r es ≡ Some x → Hold P (vector_bytes x)
  aggregate_holds k at r es x p f h g =
      let a = mapped (u.aggregate at r) (arranged k (is_some r) es) x g in
      subst (λ x. Hold P (vector_bytes x)) a.is (p, hold_both P (if_any_bytes range_bytes r) (elements_bytes a.value) f (arranged_holds k (is_some r) es a.value h a.from))
