-- Values that name no signal and no variable, where the plain value of a constant is none.
use Rattle.std.proofs.Common.{◌≡◌, ◌≢◌, ℕ, Bool, true, false, true≢false, if◌then◌else◌, Option, Some, None, Result, Ok, Err, IfErr, refl, sym, ap, subst, ◌∙◌}
use Rattle.std.specs.Prelude.{is_some}
use Rattle.std.specs.Option.{option_or}
use Rattle.vhdl_lexer.specs.declared.language.Language.{Language}
use Rattle.vhdl_lexer.specs.declared.language.Language.TheVariants.{Profile, Wide}
use Rattle.vhdl_tree.specs.Tree as t
use Rattle.vhdl_names_rules.specs.declared.fault.NameFault.{NameFault}
use Rattle.vhdl_names_rules.specs.declared.fault.NameFault.TheVariants.{At, NoMemory}
use Rattle.vhdl_names_rules.specs.declared.fault.NameProblem.TheVariants.{TypeMismatch, LeftOut}
use Rattle.vhdl_names_rules.specs.declared.kind.ObjectType.{ObjectType}
use Rattle.vhdl_names_rules.specs.Gives.{Gives}
use Rattle.vhdl_names_rules.specs.Rules.{then_some, wider}
use Rattle.vhdl_names_rules.specs.Visibility.{Sight}
use Rattle.vhdl_names_rules.specs.units.Expressions.{Range}
use Rattle.vhdl_names_rules.specs.units.Statements.{Given}
use Rattle.vhdl_names_rules.specs.units.Units.{Fixed}
use Rattle.vhdl_names_rules.specs.Subtypes as r
use Rattle.vhdl_names_rules.specs.Subtypes.{is_known_value}
use Rattle.vhdl_names_rules.specs.problems.Broken.{Broken, Tells, nothing, refused, ◌▸◌, unless, lacking, where_given}
use Rattle.vhdl_names_rules.specs.problems.Expressions.{is_vector_type}
use Rattle.vhdl_names_rules.specs.problems.Places.{start}
use Rattle.vhdl_names_rules.specs.problems.Subtypes as broken
use Rattle.vhdl_names_rules.proofs.Telling.{IsKept, told_same, told_unless, at_is_told}
use Rattle.vhdl_names_expressions.specs.Chosen.{as_character}
use Rattle.vhdl_names_expressions.proofs.Breaking.{asked_told}
use Rattle.vhdl_names_values.specs.Fixing.{filled_with, known_given, known_value, wider_value, looks_further}
use Rattle.vhdl_names_values.proofs.Fixing.{filled_as}

-- ---- what is given, and is known

unknown : {A : Type 0} (b : Bool) (x : A) → then_some b x ≡ None → b ≡ false
unknown true x h = absurd cc
unknown false x h = refl

known_told : {X : Type 0} (see : X → Fixed) (g : Given) (at place : ℕ) (q : Result X NameFault) → at ≡ place → Gives see (known_given g) q →
    IfErr q (Tells (refused LeftOut at)) → IfErr q (Tells (unless LeftOut place (is_known_value g)))
known_told see g at place (Ok x) same h k = tt
known_told see g at place (Err f) same h k =
    told_unless LeftOut place (is_known_value g) f (λ n. unknown (is_known_value g) (Fixed.given g) (h n))
    (told_same (refused LeftOut at) (refused LeftOut place) f (ap (refused LeftOut) same) k)

-- behind what breaks nothing
pub known_behind : {X : Type 0} (b : Broken) (o : Option Given) (see : X → Fixed) (g : Given) (at place : ℕ) (q : Result X NameFault) → IsKept b → o ≡ Some g → at ≡ place →
    Gives see (known_given g) q → IfErr q (Tells (refused LeftOut at)) → IfErr q (Tells (b ▸ where_given o (λ x. unless LeftOut place (is_known_value x))))
known_behind b o see g at place q kept is same h k =
    asked_told b o (λ x. unless LeftOut place (is_known_value x)) g q kept is (known_told see g at place q same h k)

-- ---- where the plain value is none

further_wide : (l : Language) (f : NameFault) → looks_further l f ≡ true → (l ≡ Wide) × (f ≢ NoMemory)
further_wide Wide (At p at) h = (refl, at_is_told p at)
further_wide l f h = absurd (true≢false (sym h))

no_further : (l : Language) (f : NameFault) → looks_further l f ≡ false → f ≢ NoMemory → l ≡ Profile
no_further Profile f h n = refl
no_further Wide (At p at) h n = absurd (true≢false h)
no_further Wide NoMemory h n = absurd (n refl)

module _ (sight : Sight) (type : ObjectType) (x : Option Range) (v : t.Value) (plain : Option Fixed) (is : r.plain_value sight type v ≡ plain) where
  abbrev further : Option Fixed → Option Fixed
  further o = option_or o (wider sight.language (known_value sight type x v))

  pub plain_given : (p : Fixed) → plain ≡ Some p → wider_value sight type x v ≡ Some p
  plain_given p h = ap further (is ∙ h)

  pub further_given : (l : Language) (f : NameFault) → l ≡ sight.language → looks_further l f ≡ true → (f ≢ NoMemory → plain ≡ None) →
      wider_value sight type x v ≡ known_value sight type x v
  further_given l f same h none =
      let w = further_wide l f h in
      ap further (is ∙ none w.1) ∙ ap (λ k. wider k (known_value sight type x v)) (sym same ∙ w.0)

  pub none_given : (l : Language) (f : NameFault) → l ≡ sight.language → looks_further l f ≡ false → (f ≢ NoMemory → plain ≡ None) →
      f ≢ NoMemory → wider_value sight type x v ≡ None
  none_given l f same h none n =
      ap further (is ∙ none n) ∙ ap (λ k. wider k (known_value sight type x v)) (sym same ∙ no_further l f h n)

module _ (sight : Sight) (type : ObjectType) (x : Option Range) (v : t.Value) (l : Language) (f : NameFault) (same : l ≡ sight.language) where
  -- then the value of the wider language breaks what this breaks
  pub further_breaks : looks_further l f ≡ true → (f ≢ NoMemory → r.plain_value sight type v ≡ None) → broken.fixed_value_in sight.language sight type x v ≡ broken.known_value sight type x v
  further_breaks h none =
      let w = further_wide l f h in
      ap (λ k. broken.fixed_value_in k sight type x v) (sym same ∙ w.0)
      ∙ ap (λ (o : Option Fixed). if is_some o then nothing else broken.known_value sight type x v) (none w.1)

  -- and else the plain one tells
  pub plain_told : looks_further l f ≡ false → Tells (broken.plain_value sight type v) f → Tells (broken.fixed_value_in sight.language sight type x v) f
  plain_told h k = subst (λ m. Tells (broken.fixed_value_in m sight type x v) f) same (go l f h k)
    where
      go : (k : Language) (g : NameFault) → looks_further k g ≡ false → Tells (broken.plain_value sight type v) g → Tells (broken.fixed_value_in k sight type x v) g
      go Profile g h k = k
      go Wide (At p at) h k = absurd (true≢false h)
      go Wide NoMemory h k = tt

-- ---- (others => e)

is_a_character : (e : t.Expr) → is_some (as_character e) ≡ broken.is_character e
is_a_character (t.character at c) = refl
is_a_character e = refl

pub others_plain : (sight : Sight) (type : ObjectType) (at place : ℕ) (o : Option ℕ) (e : t.Expr) → o ≡ as_character e → place ≡ start e →
    (unless LeftOut place (is_some o) ▸ unless TypeMismatch at (is_vector_type type) ▸ lacking TypeMismatch place (filled_with type o)) ≡ broken.plain_value sight type (t.others at e)
others_plain sight type at place o e is same =
    ap (λ q. unless LeftOut q (is_some o) ▸ unless TypeMismatch at (is_vector_type type) ▸ lacking TypeMismatch q (filled_with type o)) same
    ∙ ap (λ (d : Option ℕ). unless LeftOut (start e) (is_some d) ▸ unless TypeMismatch at (is_vector_type type) ▸ lacking TypeMismatch (start e) (filled_with type d)) is
    ∙ ap (λ b. unless LeftOut (start e) b ▸ unless TypeMismatch at (is_vector_type type) ▸ lacking TypeMismatch (start e) (filled_with type (as_character e))) (is_a_character e)
    ∙ ap (λ d. unless LeftOut (start e) (broken.is_character e) ▸ unless TypeMismatch at (is_vector_type type) ▸ lacking TypeMismatch (start e) d) (sym (filled_as type e))

pub others_is : (sight : Sight) (type : ObjectType) (at : ℕ) (o : Option ℕ) (e : t.Expr) → o ≡ as_character e → r.plain_value sight type (t.others at e) ≡ filled_with type o
others_is sight type at o e is = filled_as type e ∙ ap (filled_with type) (sym is)
