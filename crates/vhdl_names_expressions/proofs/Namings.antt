-- What a name is by its declaration: by an attribute of ranges, a range alone, or a value.
use Rattle.std.proofs.Common.{◌≡◌, ℕ, Bool, true, false, true≢false, if◌then◌else◌, Option, Some, None, Result, Ok, Err, IfOk, IfErr, OnErr, refl, sym, ap, ◌∙◌}
use Rattle.std.specs.Prelude.{is_some}
use Rattle.vhdl_lexer.specs.declared.language.Language.{Language}
use Rattle.vhdl_lexer.specs.declared.language.Language.TheVariants.{Profile, Wide}
use Rattle.vhdl_tree.specs.Tree.{Attribute}
use Rattle.vhdl_names_rules.specs.declared.fault.NameFault.{NameFault}
use Rattle.vhdl_names_rules.specs.units.Expressions.{Range}
use Rattle.vhdl_names_rules.specs.Rules.{◌>>=◌, wider}
use Rattle.vhdl_names_rules.specs.Visibility as visibility
use Rattle.vhdl_names_rules.specs.Visibility.{Meaning, Declared, DeclaredRange}
use Rattle.vhdl_names_rules.specs.Types.{Typed, interval}
use Rattle.vhdl_names_rules.specs.Names.{Suffix, plain, denoted, attributed}
use Rattle.vhdl_names_rules.specs.Ranges.{named_range, range_attribute, sized_by}
use Rattle.vhdl_names_rules.specs.Expressions.{valued, named}
use Rattle.vhdl_names_rules.specs.problems.Broken.{Broken, Tells, nothing, ◌▸◌, lacking, where_given}
use Rattle.vhdl_names_rules.specs.problems.Operators.{name_problem}
use Rattle.vhdl_names_rules.specs.problems.Expressions as broken
use Rattle.vhdl_names_rules.specs.problems.Expressions.{is_no_value, of_no_value, is_of_range, is_range, of_range, with_suffix, by_declaration}
use Rattle.vhdl_names_rules.proofs.Telling.{IsKept, lacking_kept, told_same, told_left, told_right, told_given, told_on}
use Rattle.vhdl_names_rules.proofs.laws.Ranged.{named_by_range, named_alone, named_valued}

-- ---- what has no value

pub no_value_alone : (at : ℕ) (m : Meaning) (s : Suffix) → s ≡ plain → is_no_value m ≡ true → denoted at m s ≡ None
no_value_alone at m s is h = ap (denoted at m) is ∙ go m h
  where
    go : (m : Meaning) → is_no_value m ≡ true → denoted at m plain ≡ None
    go (visibility.integer_type w) h = refl
    go visibility.boolean_type h = refl
    go (visibility.element_type r) h = refl
    go (visibility.vector_type k r) h = refl
    go (visibility.enumeration_type e count) h = refl
    go (visibility.component k) h = refl
    go visibility.label h = refl
    go m h = absurd (true≢false (sym h))

pub alone_is : (m : Meaning) (s : Suffix) (a : Option Attribute) (b : Bool) → s ≡ plain → is_no_value m ≡ b → of_no_value m s a ≡ (if b then broken.attribute a else nothing)
alone_is m s a b is h = ap (λ y. of_no_value m y a) is ∙ ap (λ c. if c then broken.attribute a else nothing) h

-- an answer by an equation
pub kept_along : {X : Type 0} (a b : Broken) (r : Result X NameFault) → a ≡ b → IfOk r (λ _. b ≡ nothing) → IfOk r (λ _. a ≡ nothing)
kept_along a b (Ok x) e h = e ∙ h
kept_along a b (Err f) e h = tt

pub on_err : {X : Type 0} (r : Result X NameFault) (P : Type 0) → P → OnErr r P
on_err (Ok x) P p = tt
on_err (Err f) P p = p

-- ---- a value

module _ (at : ℕ) (a : Option Attribute) (m : Meaning) (r : Option DeclaredRange) (s : Suffix) where
  pub none_valued : denoted at m s ≡ None → valued at a m r s ≡ None
  none_valued h = ap (λ o. o >>= λ x. attributed a (sized_by at m r x)) h

  pub valued_is : (x y : Typed) → denoted at m s ≡ Some x → y ≡ sized_by at m r x → valued at a m r s ≡ attributed a y
  valued_is x y h e = ap (λ o. o >>= λ x. attributed a (sized_by at m r x)) h ∙ ap (attributed a) (sym e)

  abbrev behind : Broken
  behind = where_given (denoted at m s) (λ x. broken.attributed at a (sized_by at m r x))

  pub attribute_first : (f : NameFault) → Tells (of_no_value m s a) f → Tells (with_suffix at a m r s) f
  attribute_first f h = told_left (of_no_value m s a) (lacking (name_problem m s) at (denoted at m s) ▸ behind) f h

  pub name_second : (f : NameFault) → IsKept (of_no_value m s a) → Tells (lacking (name_problem m s) at (denoted at m s)) f → Tells (with_suffix at a m r s) f
  name_second f k h =
      told_right (of_no_value m s a) (lacking (name_problem m s) at (denoted at m s) ▸ behind) f k (told_left (lacking (name_problem m s) at (denoted at m s)) behind f h)

  pub attribute_last : {X : Type 0} (x y : Typed) (q : Result X NameFault) → IsKept (of_no_value m s a) → denoted at m s ≡ Some x → y ≡ sized_by at m r x →
      IfErr q (Tells (broken.attributed at a y)) → IfErr q (Tells (with_suffix at a m r s))
  attribute_last x y q k h e =
      told_on (broken.attributed at a y) (with_suffix at a m r s) q (λ f w.
      told_right (of_no_value m s a) (lacking (name_problem m s) at (denoted at m s) ▸ behind) f k
      (told_right (lacking (name_problem m s) at (denoted at m s)) behind f (lacking_kept (name_problem m s) at (denoted at m s) x h)
      (told_given (λ z. broken.attributed at a (sized_by at m r z)) (denoted at m s) x f h
      (told_same (broken.attributed at a y) (broken.attributed at a (sized_by at m r x)) f (ap (broken.attributed at a) e) w))))

-- ---- by an attribute, or alone

no_attribute : (language : Language) → is_of_range language None ≡ false
no_attribute Profile = refl
no_attribute Wide = refl

module _ (language : Language) (at : ℕ) (d : Declared) (s : Suffix) where
  pub by_range : (a : Attribute) → is_of_range language (Some a) ≡ true → named language at (Some a) d s ≡ range_attribute at (Some a) d s
  by_range a h = named_by_range language at a d s h

  pub by_range_breaks : (a : Attribute) → is_of_range language (Some a) ≡ true → by_declaration language at (Some a) d s ≡ of_range at a d s
  by_range_breaks a h = ap (λ b. if b then of_range at a d s else with_suffix at (Some a) d.meaning d.range s) h

  pub by_value : (a : Attribute) → is_of_range language (Some a) ≡ false → named language at (Some a) d s ≡ valued at (Some a) d.meaning d.range s
  by_value a h = named_valued language at (Some a) d s h refl

  pub by_value_breaks : (a : Attribute) → is_of_range language (Some a) ≡ false → by_declaration language at (Some a) d s ≡ with_suffix at (Some a) d.meaning d.range s
  by_value_breaks a h = ap (λ b. if b then of_range at a d s else with_suffix at (Some a) d.meaning d.range s) h

  pub alone_ranged : (r : Range) → wider language (named_range None d s) ≡ Some r → named language at None d s ≡ Some (interval r)
  alone_ranged r h = go language h
    where
      go : (l : Language) → wider l (named_range None d s) ≡ Some r → named l at None d s ≡ Some (interval r)
      go Profile h = absurd cc
      go Wide h = named_alone at d s r h

  pub alone_valued : wider language (named_range None d s) ≡ None → named language at None d s ≡ valued at None d.meaning d.range s
  alone_valued h = named_valued language at None d s (no_attribute language) (ap is_some h)

  pub alone_breaks : wider language (named_range None d s) ≡ None → by_declaration language at None d s ≡ with_suffix at None d.meaning d.range s
  alone_breaks h =
      ap (λ b. if b then nothing else if is_range language None d s then nothing else with_suffix at None d.meaning d.range s) (no_attribute language)
      ∙ ap (λ (o : Option Range). if is_some o then nothing else with_suffix at None d.meaning d.range s) h
