-- Subtype indications of signals, ports and variables, by the language and the class of their mark.
use Rattle.std.proofs.Common.{◌≡◌, ℕ, Option, Some, None, refl, sym, ap, ◌∙◌}
use Rattle.std.specs.Prelude.{option_map}
use Rattle.vhdl_lexer.specs.declared.language.Language.TheVariants.{Profile, Wide}
use Rattle.vhdl_tree.specs.Tree as t
use Rattle.vhdl_names_rules.specs.declared.operator.IntegerType.{IntegerType}
use Rattle.vhdl_names_rules.specs.units.Expressions.{Range}
use Rattle.vhdl_names_rules.specs.units.Units as u
use Rattle.vhdl_names_rules.specs.Rules.{◌>>=◌, if_any, wider}
use Rattle.vhdl_names_rules.specs.Visibility as visibility
use Rattle.vhdl_names_rules.specs.Visibility.{Sight, Meaning, Declared, DeclaredRange, declaration}
use Rattle.vhdl_names_rules.specs.Subtypes as rules
use Rattle.vhdl_names_rules.specs.Subtypes.{TypeClass, class_of, integers_of, index_range, value_range, one_range, marked, subtype, subtype_of_class}
use Rattle.vhdl_names_rules.specs.problems.Broken.{where_given, ◌▸◌}
use Rattle.vhdl_names_rules.specs.problems.Expressions as expressions_broken
use Rattle.vhdl_names_rules.specs.problems.Subtypes as broken
use Rattle.vhdl_names_values.specs.Marking.{integers_object, integer_object, object_by_class}

module _ (sight : Sight) (s : t.Subtype) where
  -- ---- in the narrow language

  abbrev ranges : Option (Option Range)
  ranges = if_any (index_range sight) s.constraint

  abbrev ranged : Option (Option Range) → Meaning → Option DeclaredRange → Option rules.Subtype
  ranged o m own = o >>= λ range. (one_range own range >>= λ only. marked m only)

  no_integers : (w : IntegerType) (o : Option (Option Range)) (own : Option DeclaredRange) → None ≡ ranged o (visibility.integer_type w) own
  no_integers w None own = refl
  no_integers w (Some None) None = refl
  no_integers w (Some None) (Some d) = refl
  no_integers w (Some (Some r)) None = refl
  no_integers w (Some (Some r)) (Some d) = refl

  no_booleans : (o : Option (Option Range)) (own : Option DeclaredRange) → None ≡ ranged o visibility.boolean_type own
  no_booleans None own = refl
  no_booleans (Some None) None = refl
  no_booleans (Some None) (Some d) = refl
  no_booleans (Some (Some r)) None = refl
  no_booleans (Some (Some r)) (Some d) = refl

  none_behind : (o : Option (Option Range)) → None ≡ (o >>= λ range. let n : Option rules.Subtype = None in n)
  none_behind None = refl
  none_behind (Some r) = refl

  abbrev narrowly : TypeClass → Option rules.Subtype
  narrowly rules.integers = None
  narrowly rules.booleans = None
  narrowly rules.others = subtype sight s

  pub object_narrow : sight.language ≡ Profile → rules.object_subtype sight s ≡ subtype sight s
  unfolding rules.object_subtype subtype
  object_narrow narrow = go (declaration sight s.mark.text) refl
    where
      by_class : (k : TypeClass) → subtype_of_class sight s k ≡ narrowly k
      by_class rules.integers = ap (λ l. wider l (rules.integer_object sight s)) narrow
      by_class rules.booleans = ap (λ l. wider l (rules.boolean_object s)) narrow
      by_class rules.others = refl

      at : (o : Option Declared) → declaration sight s.mark.text ≡ o → subtype sight s ≡ (ranges >>= λ range. (o >>= λ mark. (one_range mark.range range >>= λ only. marked mark.meaning only)))
      at o is = ap (λ o. ranges >>= λ range. (o >>= λ mark. (one_range mark.range range >>= λ only. marked mark.meaning only))) is

      meant : (d : Declared) → declaration sight s.mark.text ≡ Some d → (m : Meaning) → d.meaning ≡ m → narrowly (class_of m) ≡ subtype sight s
      meant d is (visibility.integer_type w) e = no_integers w ranges d.range ∙ sym (at (Some d) is ∙ ap (λ m. ranged ranges m d.range) e)
      meant d is visibility.boolean_type e = no_booleans ranges d.range ∙ sym (at (Some d) is ∙ ap (λ m. ranged ranges m d.range) e)
      meant d is _ e = refl

      go : (o : Option Declared) → declaration sight s.mark.text ≡ o → (option_map (λ (d : Declared). d.meaning) o >>= λ mark. subtype_of_class sight s (class_of mark)) ≡ subtype sight s
      go None is = none_behind ranges ∙ sym (at None is)
      go (Some d) is = by_class (class_of d.meaning) ∙ meant d is d.meaning refl

  pub narrow_breaks : sight.language ≡ Profile → broken.object_subtype sight s ≡ broken.subtype sight s
  narrow_breaks narrow = ap (λ l. broken.object_subtype_in l sight s) narrow

  -- ---- in the wider one

  abbrev integers_in : u.Integers → Option (ℕ × Range) → u.IntegerSubtype
  integers_in base range = record { base = base; range = range }

  as_integers : (d : Declared) → declaration sight s.mark.text ≡ Some d → rules.integer_object sight s ≡ (integers_of d >>= λ base. integer_object sight base s)
  unfolding rules.integer_subtype
  as_integers d is =
      ap (λ (o : Option Declared). (if_any (value_range sight) s.constraint >>= λ range. (o >>= λ m. (integers_of m >>= λ base. Some (integers_in base range)))) >>= λ x. Some (integers_object x)) is
      ∙ turned (if_any (value_range sight) s.constraint) (integers_of d)
    where
      turned : (r : Option (Option (ℕ × Range))) (b : Option u.Integers) →
          ((r >>= λ range. (b >>= λ base. Some (integers_in base range))) >>= λ x. Some (integers_object x))
          ≡ (b >>= λ base. option_map integers_object (option_map (integers_in base) r))
      turned None None = refl
      turned None (Some base) = refl
      turned (Some range) None = refl
      turned (Some range) (Some base) = refl

  pub object_wide : sight.language ≡ Wide → rules.object_subtype sight s ≡ (declaration sight s.mark.text >>= λ d. object_by_class sight s d (class_of d.meaning))
  unfolding rules.object_subtype
  object_wide wide = go (declaration sight s.mark.text) refl
    where
      by_class : (d : Declared) → declaration sight s.mark.text ≡ Some d → (k : TypeClass) → subtype_of_class sight s k ≡ object_by_class sight s d k
      by_class d is rules.integers = ap (λ l. wider l (rules.integer_object sight s)) wide ∙ as_integers d is
      by_class d is rules.booleans = ap (λ l. wider l (rules.boolean_object s)) wide
      by_class d is rules.others = refl

      go : (o : Option Declared) → declaration sight s.mark.text ≡ o →
          (option_map (λ (d : Declared). d.meaning) o >>= λ mark. subtype_of_class sight s (class_of mark)) ≡ (o >>= λ d. object_by_class sight s d (class_of d.meaning))
      go None is = refl
      go (Some d) is = by_class d is (class_of d.meaning)

  pub wide_breaks : sight.language ≡ Wide →
      (expressions_broken.meaning sight s.mark ▸ where_given (visibility.meaning sight s.mark.text) (λ m. broken.object_by sight s (class_of m))) ≡ broken.object_subtype sight s
  wide_breaks wide = sym (ap (λ l. broken.object_subtype_in l sight s) wide)
