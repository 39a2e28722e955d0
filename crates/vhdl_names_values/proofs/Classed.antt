-- Of which class the declaration of a type is, and what is answered by its class.
use Rattle.std.proofs.Common.{◌≡◌, Option, Some, None, Result, IfErr, refl, sym, ap, subst, ◌∙◌}
use Rattle.std.specs.Prelude.{option_map}
use Rattle.vhdl_tree.specs.Tree.{Ident}
use Rattle.vhdl_names_rules.specs.declared.fault.NameFault.{NameFault}
use Rattle.vhdl_names_rules.specs.Gives.{Gives}
use Rattle.vhdl_names_rules.specs.Rules.{◌>>=◌}
use Rattle.vhdl_names_rules.specs.units.Units as u
use Rattle.vhdl_names_rules.specs.Visibility as visibility
use Rattle.vhdl_names_rules.specs.Visibility.{Sight, Meaning, Declared, DeclaredRange, declaration}
use Rattle.vhdl_names_rules.specs.Subtypes.{TypeClass, integers, others, class_of, integers_of}
use Rattle.vhdl_names_rules.specs.problems.Broken.{Broken, Tells, where_given, ◌▸◌}
use Rattle.vhdl_names_rules.specs.problems.Expressions as expressions_broken
use Rattle.vhdl_names_rules.proofs.Telling.{told_right, told_given, told_on}
use Rattle.vhdl_names_rules.proofs.kept.Expressions.{meaning_kept}
use Rattle.vhdl_names_values.specs.declared.objects.TypeClass as code
use Rattle.vhdl_names_values.specs.declared.objects.TypeClass.TheVariants as c
use Rattle.vhdl_names_values.specs.Classes.{type_class_view}

abbrev declared_so : Declared → Meaning → Option DeclaredRange → Declared
declared_so d m r = record d { meaning = m; range = r }

-- a declaration of integers
pub of_integers_class : (d : Declared) (base : u.Integers) → integers_of d ≡ Some base → integers ≡ class_of d.meaning
of_integers_class d base h = go d.meaning d.range h
  where
    go : (m : Meaning) (r : Option DeclaredRange) → integers_of (declared_so d m r) ≡ Some base → integers ≡ class_of m
    go (visibility.integer_type w) r h = refl
    go _ r h = absurd cc

-- any other
pub of_another_class : (d : Declared) → integers_of d ≡ None → integers ≡ class_of d.meaning → ⊥
of_another_class d h same = go d.meaning d.range h same
  where
    go : (m : Meaning) (r : Option DeclaredRange) → integers_of (declared_so d m r) ≡ None → integers ≡ class_of m → ⊥
    go (visibility.integer_type w) None h same = cc
    go (visibility.integer_type w) (Some r) h same = cc
    go _ r h same = cc

-- one that is no boolean either
pub of_others_class : (d : Declared) (k : code.TypeClass) → type_class_view k ≡ class_of d.meaning → (k ≡ c.Booleans → ⊥) → integers_of d ≡ None → others ≡ class_of d.meaning
of_others_class d c.Integers same other none = absurd (of_another_class d none same)
of_others_class d c.Booleans same other none = absurd (other refl)
of_others_class d c.Others same other none = same

-- what is given of a type mark, by its class
module _ {X Y : Type 0} (view : X → Y) (r : Result X NameFault) where
  pub given_by_class : (by : Declared → TypeClass → Option Y) (o : Option Declared) (m : Declared) (k : TypeClass) → o ≡ Some m → k ≡ class_of m.meaning →
      Gives view (by m k) r → Gives view (o >>= λ d. by d (class_of d.meaning)) r
  given_by_class by o m k is same h =
      subst (λ y. Gives view y r) (sym (ap (λ o. o >>= λ d. by d (class_of d.meaning)) is ∙ ap (by m) (sym same))) h

  pub given_integers : (by : u.Integers → Option Y) (o : Option u.Integers) (base : u.Integers) → o ≡ Some base → Gives view (by base) r → Gives view (o >>= by) r
  given_integers by o base is h = subst (λ o. Gives view (o >>= by) r) (sym is) h

-- what is told of one that is declared
module _ {X : Type 0} (s : Sight) (mark : Ident) (m : Declared) (k : TypeClass) (r : Result X NameFault) (declares : declaration s mark.text ≡ Some m) (same : k ≡ class_of m.meaning) where
  means : visibility.meaning s mark.text ≡ Some m.meaning
  means = ap (option_map (λ (x : Declared). x.meaning)) declares

  pub told_by_mark : (b : Declared → TypeClass → Broken) → IfErr r (Tells (b m k)) →
      IfErr r (Tells (expressions_broken.meaning s mark ▸ where_given (declaration s mark.text) (λ d. b d (class_of d.meaning))))
  told_by_mark b h =
      let by = λ (d : Declared). b d (class_of d.meaning) in
      told_on _ _ r (λ f h. told_right (expressions_broken.meaning s mark) (where_given (declaration s mark.text) by) f (meaning_kept s mark m.meaning means)
      (told_given by (declaration s mark.text) m f declares (subst (λ k. Tells (b m k) f) same h))) h

  pub told_by_meaning : (b : Meaning → TypeClass → Broken) → IfErr r (Tells (b m.meaning k)) →
      IfErr r (Tells (expressions_broken.meaning s mark ▸ where_given (visibility.meaning s mark.text) (λ d. b d (class_of d))))
  told_by_meaning b h =
      let by = λ (d : Meaning). b d (class_of d) in
      told_on _ _ r (λ f h. told_right (expressions_broken.meaning s mark) (where_given (visibility.meaning s mark.text) by) f (meaning_kept s mark m.meaning means)
      (told_given by (visibility.meaning s mark.text) m.meaning f means (subst (λ k. Tells (b m.meaning k) f) same h))) h
