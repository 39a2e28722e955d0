-- What generics declare, by the class of their type.
use Rattle.std.proofs.Common.{◌≡◌, ℕ, Bool, true, false, List, Option, Some, None, Result, IfErr, refl, sym, ap, subst, ◌∙◌}
use Rattle.vhdl_lexer.specs.declared.language.Language.{Language}
use Rattle.vhdl_lexer.specs.declared.language.Language.TheVariants.{Profile}
use Rattle.std.specs.Prelude.{not, ◌&&◌, is_some, option_map}
use Rattle.vhdl_tree.specs.Tree as t
use Rattle.vhdl_names_rules.specs.declared.fault.NameProblem.TheVariants.{LeftOut}
use Rattle.vhdl_names_rules.specs.declared.kind.ElementKind.{ElementKind}
use Rattle.vhdl_names_rules.specs.units.Expressions.{Range}
use Rattle.vhdl_names_rules.specs.units.Units as u
use Rattle.vhdl_names_rules.specs.units.Units.{Fixed, IntegerSubtype}
use Rattle.vhdl_names_rules.specs.Rules.{◌>>=◌, ◌>>◌, rule, if_any, is_wide}
use Rattle.vhdl_names_rules.specs.Visibility as visibility
use Rattle.vhdl_names_rules.specs.Visibility.{Sight, Declared, Declares, declaration, with_declared, names_of, numbered, ranged, global_if, count_of, ranges_count}
use Rattle.vhdl_names_rules.specs.Expressions.{static}
use Rattle.vhdl_names_rules.specs.Subtypes as subtypes
use Rattle.vhdl_names_rules.specs.Subtypes.{Subtype, subtype, integers_of, integer_subtype, value_range, form_range, form_direction, fixed_value, class_of}
use Rattle.vhdl_names_rules.specs.problems.Broken.{Broken, Tells, refused, ◌▸◌, unless}
use Rattle.vhdl_names_rules.proofs.Telling.{told_right, told_on, unless_kept}
use Rattle.vhdl_names_rules.specs.declared.fault.NameFault.{NameFault}
use Rattle.vhdl_names_rules.specs.declared.fault.NameProblem.{NameProblem}
use Rattle.vhdl_names_rules.specs.Gives.{Gives}
use Rattle.vhdl_names_rules.specs.problems.Declarations as broken
use Rattle.vhdl_names_rules.specs.Declarations.{GenericForm, generic_form, generic, as_kind, static_test, is_global, for_each}
use Rattle.vhdl_names_declarations.specs.declared.counts.Counts.{Counts}
use Rattle.vhdl_names_declarations.specs.Counts.{AreCounts}
use Rattle.vhdl_names_declarations.specs.Entered.{entering}
use Rattle.vhdl_names_declarations.specs.Porting.{Standing}
use Rattle.vhdl_names_declarations.specs.Typed as typed
use Rattle.vhdl_names_declarations.specs.Typed.{Generic}
use Rattle.vhdl_names_values.proofs.Classed.{of_another_class}
use Rattle.vhdl_names_declarations.proofs.Turns.{declares_all, enters, number_of}

abbrev integers_in : u.Integers → Option (ℕ × Range) → IntegerSubtype
integers_in base range = record { base = base; range = range }

abbrev pub generic_standing : Generic → Standing
generic_standing x = record { meaning = x.meaning; direction = x.direction; is_global = x.is_global }

abbrev pub generics_of : t.Generic → Generic → List u.Generic
generics_of g x = for_each (λ n. record { at = n.at; name = n.text; type = x.type; default = x.default }) g.names

module _ (s : Sight) (g : t.Generic) (c : Counts) (h : AreCounts c s.region) where
  abbrev generics_from : Option Generic → Option (Declares u.Generic)
  generics_from o = declares_all c (names_of g.names) generic_standing (generics_of g) o

  -- with these numbers of the first
  abbrev form_names : GenericForm → ℕ → ℕ → Option Fixed → Option (Declares u.Generic)
  form_names x number ranges default = Some (record {
    declared = global_if (is_global s g.subtype) (ranged x.direction ranges (numbered x.meaning number (names_of g.names)));
    analysed = for_each (λ n. record { at = n.at; name = n.text; type = x.type; default = default }) g.names;
  })

  abbrev rest : GenericForm → Option (Declares u.Generic)
  rest x = if_any x.value g.default >>= λ default. form_names x (count_of x.class s.region) (ranges_count s.region) default

  abbrev typed_rest : GenericForm → Option Generic
  typed_rest x = if_any x.value g.default >>= λ default.
      Some (record { meaning = x.meaning; direction = x.direction; is_global = is_global s g.subtype; type = x.type; default = default })

  rest_is : (x : GenericForm) → number_of c (x.meaning 0) ≡ count_of x.class s.region → rest x ≡ generics_from (typed_rest x)
  rest_is x n = go (if_any x.value g.default)
    where
      go : (o : Option (Option Fixed)) → (o >>= λ default. form_names x (count_of x.class s.region) (ranges_count s.region) default)
          ≡ generics_from (o >>= λ default. Some (record { meaning = x.meaning; direction = x.direction; is_global = is_global s g.subtype; type = x.type; default = default }))
      go None = refl
      go (Some default) =
          ap (λ k. form_names x k (ranges_count s.region) default) (sym n)
          ∙ ap (λ r. form_names x (number_of c (x.meaning 0)) r default) (sym h.ranges)

  -- the forms
  abbrev of_integers : IntegerSubtype → GenericForm
  of_integers type = record { class = visibility.is_generic; meaning = visibility.generic; direction = None; type = u.integers type; value = λ e. option_map u.Fixed.integer (static s e) }

  abbrev of_truths : GenericForm
  of_truths = record { class = visibility.is_generic; meaning = visibility.boolean_generic; direction = None; type = u.truths; value = λ e. option_map u.Fixed.truth (static_test s e) }

  abbrev of_values : Subtype → ElementKind → GenericForm
  of_values x kind = record {
    class = visibility.is_constant;
    meaning = λ k. visibility.constant k kind None;
    direction = form_direction x.form;
    type = u.values x.form;
    value = λ e. fixed_value s x.type (form_range x.form) (t.single e);
  }

  forms_are : (k : subtypes.TypeClass) → (generic_form s g.subtype k >>= rest) ≡ generics_from (generic_form s g.subtype k >>= typed_rest)
  forms_are subtypes.integers = go (integer_subtype s g.subtype)
    where
      go : (o : Option IntegerSubtype) → ((o >>= λ type. Some (of_integers type)) >>= rest) ≡ generics_from ((o >>= λ type. Some (of_integers type)) >>= typed_rest)
      go None = refl
      go (Some type) = rest_is (of_integers type) h.generics
  forms_are subtypes.booleans = go (rule LeftOut (is_wide s.language && not (is_some g.subtype.constraint)))
    where
      go : (o : Option (Unit {0})) → ((o >>= λ _. Some of_truths) >>= rest) ≡ generics_from ((o >>= λ _. Some of_truths) >>= typed_rest)
      go None = refl
      go (Some x) = rest_is of_truths h.generics
  forms_are subtypes.others = first (rule LeftOut (is_wide s.language))
    where
      last : (x : Subtype) (o : Option ElementKind) → ((o >>= λ kind. Some (of_values x kind)) >>= rest) ≡ generics_from ((o >>= λ kind. Some (of_values x kind)) >>= typed_rest)
      last x None = refl
      last x (Some kind) = rest_is (of_values x kind) h.constants

      next : (o : Option Subtype) → ((o >>= λ x. (as_kind x.type >>= λ kind. Some (of_values x kind))) >>= rest) ≡ generics_from ((o >>= λ x. (as_kind x.type >>= λ kind. Some (of_values x kind))) >>= typed_rest)
      next None = refl
      next (Some x) = last x (as_kind x.type)

      first : (o : Option (Unit {0})) → ((o >>= λ _. (subtype s g.subtype >>= λ x. (as_kind x.type >>= λ kind. Some (of_values x kind)))) >>= rest)
          ≡ generics_from ((o >>= λ _. (subtype s g.subtype >>= λ x. (as_kind x.type >>= λ kind. Some (of_values x kind)))) >>= typed_rest)
      first None = refl
      first (Some x) = next (subtype s g.subtype)

  typed_forms : (d : Declared) → declaration s g.subtype.mark.text ≡ Some d → (k : subtypes.TypeClass) → (generic_form s g.subtype k >>= typed_rest) ≡ typed.by_class s g d k
  unfolding integer_subtype
  typed_forms d is subtypes.integers =
      ap (λ o. ((if_any (value_range s) g.subtype.constraint >>= λ range. (o >>= λ m. (integers_of m >>= λ base. Some (integers_in base range)))) >>= λ type. Some (of_integers type)) >>= typed_rest) is
      ∙ turned (if_any (value_range s) g.subtype.constraint) (integers_of d)
    where
      turned : (r : Option (Option (ℕ × Range))) (b : Option u.Integers) →
          (((r >>= λ range. (b >>= λ base. Some (integers_in base range))) >>= λ type. Some (of_integers type)) >>= typed_rest)
          ≡ (b >>= λ base. (option_map (integers_in base) r >>= λ type. typed_rest (of_integers type)))
      turned None None = refl
      turned None (Some base) = refl
      turned (Some range) None = refl
      turned (Some range) (Some base) = refl
  typed_forms d is subtypes.booleans = go (is_wide s.language)
    where
      next : (o : Option (Unit {0})) → ((o >>= λ _. Some of_truths) >>= typed_rest) ≡ (o >>= λ _. typed_rest of_truths)
      next None = refl
      next (Some x) = refl

      go : (b : Bool) → ((rule LeftOut (b && not (is_some g.subtype.constraint)) >>= λ _. Some of_truths) >>= typed_rest) ≡ (rule LeftOut b >> typed.booleans s g)
      go true = next (rule LeftOut (not (is_some g.subtype.constraint)))
      go false = refl
  typed_forms d is subtypes.others = first (rule LeftOut (is_wide s.language))
    where
      last : (x : Subtype) (o : Option ElementKind) → ((o >>= λ kind. Some (of_values x kind)) >>= typed_rest) ≡ (o >>= λ kind. typed_rest (of_values x kind))
      last x None = refl
      last x (Some kind) = refl

      next : (o : Option Subtype) → ((o >>= λ x. (as_kind x.type >>= λ kind. Some (of_values x kind))) >>= typed_rest) ≡ (o >>= λ x. (as_kind x.type >>= λ kind. typed_rest (of_values x kind)))
      next None = refl
      next (Some x) = last x (as_kind x.type)

      first : (o : Option (Unit {0})) → ((o >>= λ _. (subtype s g.subtype >>= λ x. (as_kind x.type >>= λ kind. Some (of_values x kind)))) >>= typed_rest) ≡ (o >>= λ _. typed.others s g)
      first None = refl
      first (Some x) = next (subtype s g.subtype)

  pub generic_is : entering generic s g ≡ (declares_all c (names_of g.names) generic_standing (generics_of g) (typed.generic s g) >>= enters (λ s. s.region) with_declared s)
  unfolding generic
  generic_is = ap (λ o. o >>= enters (λ s. s.region) with_declared s) (go (declaration s g.subtype.mark.text) refl)
    where
      go : (o : Option Declared) → declaration s g.subtype.mark.text ≡ o →
          (option_map (λ (d : Declared). d.meaning) o >>= λ mark. (generic_form s g.subtype (class_of mark) >>= rest)) ≡ generics_from (o >>= λ d. typed.by_class s g d (class_of d.meaning))
      go None is = refl
      go (Some d) is = forms_are (class_of d.meaning) ∙ ap generics_from (typed_forms d is (class_of d.meaning))

-- ---- the narrow language has integers alone

pub narrow_alone : (s : Sight) (g : t.Generic) (m : Declared) → s.language ≡ Profile → declaration s g.subtype.mark.text ≡ Some m → integers_of m ≡ None → typed.generic s g ≡ None
narrow_alone s g m narrow is none = ap (λ o. o >>= λ d. typed.by_class s g d (class_of d.meaning)) is ∙ go (class_of m.meaning) refl
  where
    go : (k : subtypes.TypeClass) → class_of m.meaning ≡ k → typed.by_class s g m k ≡ None
    go subtypes.integers e = absurd (of_another_class m none (sym e))
    go subtypes.booleans e = ap (λ l. rule LeftOut (is_wide l) >> typed.booleans s g) narrow
    go subtypes.others e = ap (λ l. rule LeftOut (is_wide l) >> typed.others s g) narrow

pub narrow_told : (s : Sight) (g : t.Generic) (m : Declared) → s.language ≡ Profile → integers_of m ≡ None →
    broken.generic_by s g m.meaning (class_of m.meaning) ≡ refused (broken.generic_problem m.meaning) g.subtype.mark.at
unfolding ◌▸◌
narrow_told s g m narrow none = go (class_of m.meaning) refl
  where
    go : (k : subtypes.TypeClass) → class_of m.meaning ≡ k → broken.generic_by s g m.meaning k ≡ refused (broken.generic_problem m.meaning) g.subtype.mark.at
    go subtypes.integers e = absurd (of_another_class m none (sym e))
    go subtypes.booleans e = ap (λ l. unless (broken.generic_problem m.meaning) g.subtype.mark.at (is_wide l) ▸ typed.booleans_break s g) narrow
    go subtypes.others e = ap (λ l. unless (broken.generic_problem m.meaning) g.subtype.mark.at (is_wide l) ▸ typed.others_break s g) narrow

-- what the wider one has

pub where_wide : {X Y : Type 0} (view : X → Y) (r : Result X NameFault) (l : Language) (o : Option Y) → is_wide l ≡ true → Gives view o r → Gives view (rule LeftOut (is_wide l) >> o) r
where_wide view r l o wide h = subst (λ b. Gives view (rule LeftOut b >> o) r) (sym wide) h

pub told_where_wide : {X : Type 0} (r : Result X NameFault) (l : Language) (p : NameProblem) (at : ℕ) (b : Broken) → is_wide l ≡ true → IfErr r (Tells b) → IfErr r (Tells (unless p at (is_wide l) ▸ b))
told_where_wide r l p at b wide h = told_on b (unless p at (is_wide l) ▸ b) r (λ f t. told_right (unless p at (is_wide l)) b f (unless_kept p at (is_wide l) wide) t) h
