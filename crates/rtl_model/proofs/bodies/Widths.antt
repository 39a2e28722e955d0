-- Lengths in a body that fits: values are as long as their widths, and targets and choices as long as values.
use Rattle.std.proofs.Common.{◌≡◌, ℕ, Bool, true, false, List, length, slice_index_or, refl, sym, ap, ◌∙◌, length-append, inl, inr, subst}
use Rattle.std.proofs.lemmas.List.{length-map, length-replicate}
use Rattle.std.proofs.lemmas.Option.{slice_get_within}
use Rattle.vhdl_values.specs.declared.scalar.Nine.{Nine}
use Rattle.vhdl_values.specs.declared.scalar.Nine.TheVariants.{X, Zero}
use Rattle.vhdl_values.specs.Scalar.{code_of}
use Rattle.vhdl_values.specs.Logic.{not_of}
use Rattle.vhdl_values.specs.Shifts.{counted_length}
use Rattle.vhdl_values.proofs.Lengths.{length-logic_of_all, length-sum_of, length-difference_of, length-product_of, length-counted_of, counted_within}
use Rattle.rtl_model.specs.bodies.Body.{Operator, logical, joined, plus, minus, times, signed, Expr, signal, variable, constant}
use Rattle.rtl_model.specs.bodies.Body.{inverse, filled, binary, counted, shifted, converted, chosen}
use Rattle.rtl_model.specs.bodies.Rows.{all_rows}
use Rattle.rtl_model.specs.bodies.Body.{Value, elements, position, position_of, position_in, Alternatives, others, alternative}
use Rattle.rtl_model.specs.bodies.Values.{Seen, element_at, operation_result, elements_of, value_of}
use Rattle.rtl_model.specs.bodies.Types.{ElementType, nine_valued, enumeration}
use Rattle.rtl_model.specs.bodies.Fits.{operated_width, width, value_width, IsWidth, FitsOperands, Scope, FitsExpr, FitsAs}
use Rattle.rtl_model.specs.bodies.Fits.{FitsChoice, FitsAlternatives}
use Rattle.vhdl_numbers.proofs.Lengths.{length-converted, length-signed_of, length-shifted_by}
use Rattle.rtl_model.proofs.bodies.Rows.{length-at, length-all_rows}
use Rattle.rtl_model.specs.bodies.Laws.{HasItsWidth, is_of_elements, IsChoice, EachPartIsSafe}

length-operated : (op : Operator) (a b : List Nine) → FitsOperands op (length a) (length b) → length (operation_result op a b) ≡ operated_width op (length a) (length b)
length-operated (logical op) a b h = length-logic_of_all op a b h
length-operated joined a b h = length-append a b
length-operated plus a b h = length-sum_of a b
length-operated minus a b h = length-difference_of a b
length-operated times a b h = length-product_of a b
length-operated (signed op) a b h = length-signed_of op a b

is_width : (scope : Scope) (e : Expr) → FitsExpr scope e → IsWidth (width e)
is_width scope (constant values) h = h
is_width scope (inverse e) h = is_width scope e h
is_width scope (counted op count e) h = counted_within op count (width e) h.0 (is_width scope e h.1)
is_width scope (shifted by count e) h = is_width scope e h.1
is_width scope (converted by e) h = is_width scope e h
is_width scope (chosen index spacing rows) h = h.0.0
is_width scope _ h = h.0

module _ (scope : Scope) (seen : Seen) where
  length-elements_of : (e : Expr) → FitsExpr scope e → length (elements_of seen e) ≡ width e
  length-elements_of (signal nets) h = length-map nets (element_at seen.now)
  length-elements_of (variable es) h = length-map es (element_at seen.variables)
  length-elements_of (constant values) h = refl
  length-elements_of (inverse e) h = length-map (elements_of seen e) not_of ∙ length-elements_of e h
  length-elements_of (filled len e) h = length-replicate len (slice_index_or (elements_of seen e) 0 X)
  length-elements_of (binary op d e) h =
      let p = length-elements_of d h.1 in
      let q = length-elements_of e h.2 in
      length-operated op (elements_of seen d) (elements_of seen e) (rw (p, q) h.3)
      ∙ λ i. operated_width op (p i) (q i)
  length-elements_of (counted op count e) h = length-counted_of Zero op count (elements_of seen e) ∙ ap (counted_length op count) (length-elements_of e h.1)
  length-elements_of (shifted by count e) h = length-shifted_by by (elements_of seen count) (elements_of seen e) ∙ length-elements_of e h.1
  length-elements_of (converted by e) h = length-converted by (elements_of seen e) ∙ length-elements_of e h
  length-elements_of (chosen index spacing rows) h =
      length-at spacing.len (all_rows spacing (elements_of seen rows)) X _ (length-all_rows spacing (elements_of seen rows))

  -- a row that is assigned is as long as the value
  pub row_as_value : (len : ℕ) (e : Expr) → len ≡ width e → FitsExpr scope e → len ≡ length (elements_of seen e)
  row_as_value len e same fits = same ∙ sym (length-elements_of e fits)

  pub length-value_of : (t : ElementType) (v : Value) → FitsAs scope t v → length (value_of seen v) ≡ value_width v
  length-value_of nine_valued (elements e) h = length-map (elements_of seen e) code_of ∙ length-elements_of e h
  length-value_of (enumeration literals) (elements e) h = elim h [ ]
  length-value_of _ _ h = refl

  of_one_type : (t : ElementType) (v w : Value) → FitsAs scope t v → FitsAs scope t w → is_of_elements v ≡ is_of_elements w
  of_one_type t v w h g = of_type t v h ∙ sym (of_type t w g)
    where
      is_nine : ElementType → Bool
      is_nine nine_valued = true
      is_nine (enumeration literals) = false

      of_type : (t : ElementType) (v : Value) → FitsAs scope t v → is_of_elements v ≡ is_nine t
      of_type nine_valued (elements e) h = refl
      of_type (enumeration literals) (position n) h = refl
      of_type (enumeration literals) (position_of net) h = refl
      of_type (enumeration literals) (position_in element) h = refl
      of_type nine_valued (position n) h = elim h [ ]
      of_type nine_valued (position_of net) h = elim h [ ]
      of_type nine_valued (position_in element) h = elim h [ ]
      of_type (enumeration literals) (elements e) h = elim h [ ]

  choice_fits : (t : ElementType) (len : ℕ) (alts : Alternatives) (choice : List ℕ) → FitsAlternatives scope t len alts → IsChoice choice alts → FitsChoice scope t len choice
  choice_fits t len (others s) choice h c = elim c [ ]
  choice_fits t len (alternative choices s alts) choice h (inl (k, l, at)) = subst (λ (x : List ℕ). FitsChoice scope t len x) at (h.0 k choice l)
  choice_fits t len (alternative choices s alts) choice h (inr c) = choice_fits t len alts choice h.2 c

pub has_its_width : HasItsWidth
has_its_width scope e seen h = (length-elements_of scope seen e h, is_width scope e h)

pub each_part_is_safe : EachPartIsSafe
each_part_is_safe scope seen = record {
  condition_is_one = λ e h. length-elements_of scope seen e h.0 ∙ h.1;
  filler_is_one = λ len e h. length-elements_of scope seen e h.1 ∙ h.2;
  equals_are_of_one_type = λ v w h. of_one_type scope seen h.0 v w h.1 h.2;
  unequals_are_of_one_type = λ v w h. of_one_type scope seen h.0 v w h.1 h.2;
  choices_fit = λ v alts choice h c.
      let f = choice_fits scope seen h.0 (value_width v) alts choice h.2 c in
      (f.0 ∙ sym (length-value_of scope seen h.0 v h.1), (h.0, h.1, f.1));
  places_fit = λ places v h. (h.2 ∙ sym (length-value_of scope seen h.0 v h.1), λ k d l. let p = h.3 k d l in slice_get_within scope.targets _ p.0 p.1);
  elements_fit = λ es v h. (h.2 ∙ sym (length-value_of scope seen h.0 v h.1), λ k d l. slice_get_within scope.variables _ h.0 (h.3 k d l));
  places_at_fit = λ index spacing places e h. (row_as_value scope seen spacing.len e h.3 h.2, λ k d l. let p = h.4 k d l in slice_get_within scope.targets _ p.0 p.1);
  elements_at_fit = λ index spacing es e h. (row_as_value scope seen spacing.len e h.3 h.2, λ k d l. slice_get_within scope.variables _ nine_valued (h.4 k d l));
}
