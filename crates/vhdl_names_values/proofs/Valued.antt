-- Values of constants and defaults, and choices, by their type.
use Rattle.std.proofs.Common.{◌≡◌, ◌⊎◌, inl, inr, ℕ, Option, Some, None, refl, sym, ap}
use Rattle.std.specs.Prelude.{option_map}
use Rattle.vhdl_tree.specs.Tree as t
use Rattle.vhdl_tree.specs.View.{choice_view}
use Rattle.vhdl_tree.specs.declared.expression.Choice.{Choice}
use Rattle.vhdl_tree.specs.declared.expression.Choice.TheVariants as d
use Rattle.vhdl_names_rules.specs.declared.fault.NameProblem.TheVariants.{TypeMismatch}
use Rattle.vhdl_names_rules.specs.declared.kind.ElementKind.{ElementKind}
use Rattle.vhdl_names_rules.specs.declared.kind.ObjectType.{ObjectType}
use Rattle.vhdl_names_rules.specs.declared.kind.ObjectType.TheVariants.{Elements, Integers, Booleans}
use Rattle.vhdl_names_rules.specs.units.Expressions.{Range}
use Rattle.vhdl_names_rules.specs.units.Expressions as units
use Rattle.vhdl_names_rules.specs.units.Units.{Fixed}
use Rattle.vhdl_names_rules.specs.Rules.{◌>>=◌}
use Rattle.vhdl_names_rules.specs.Visibility.{Sight}
use Rattle.vhdl_names_rules.specs.Operators.{Typed, integer, truth}
use Rattle.vhdl_names_rules.specs.Expressions.{typed, typed_choice, static, as_integer, as_static_test}
use Rattle.vhdl_names_rules.specs.Declarations.{as_kind, static_test, single_expression}
use Rattle.vhdl_names_rules.specs.Subtypes.{fixed_value, static_value}
use Rattle.vhdl_names_rules.specs.Choices as rules
use Rattle.vhdl_names_rules.specs.problems.Broken.{Broken, ◌▸◌, lacking, where_given}
use Rattle.vhdl_names_rules.specs.problems.Places.{start}
use Rattle.vhdl_names_rules.specs.problems.Declarations.{of_single}
use Rattle.vhdl_names_rules.specs.problems.Expressions as expressions_broken
use Rattle.vhdl_names_rules.specs.problems.Subtypes as broken
use Rattle.vhdl_names_rules.specs.problems.Choices as choices_broken
use Rattle.vhdl_names_values.specs.Choosing.{single_choice, single_choice_breaks}
use Rattle.vhdl_names_values.specs.Fixing.{wider_value}

-- ---- values of another type than integers and booleans

pub wider_given : (sight : Sight) (type : ObjectType) (r : Option Range) (v : t.Value) → (type ≡ Integers → ⊥) → (type ≡ Booleans → ⊥) →
    fixed_value sight type r v ≡ wider_value sight type r v
unfolding fixed_value
wider_given sight Integers r v i b = absurd (i refl)
wider_given sight Booleans r v i b = absurd (b refl)
wider_given sight type r v i b = refl

pub wider_told : (sight : Sight) (type : ObjectType) (r : Option Range) (v : t.Value) → (type ≡ Integers → ⊥) → (type ≡ Booleans → ⊥) →
    broken.fixed_value_in sight.language sight type r v ≡ broken.fixed_value sight type r v
wider_told sight Integers r v i b = absurd (i refl)
wider_told sight Booleans r v i b = absurd (b refl)
wider_told sight type r v i b = refl

-- ---- integers and booleans

module _ (sight : Sight) (r : Option Range) (e : t.Expr) where
  pub integer_given : fixed_value sight Integers r (t.single e) ≡ option_map Fixed.integer (static sight e)
  unfolding fixed_value static
  integer_given = go (typed sight e)
    where
      go : (o : Option Typed) → (o >>= static_value Integers) ≡ option_map Fixed.integer (o >>= as_integer)
      go None = refl
      go (Some (integer s)) = refl
      go (Some x) = refl

  pub truth_given : fixed_value sight Booleans r (t.single e) ≡ option_map Fixed.truth (static_test sight e)
  unfolding fixed_value
  truth_given = go (typed sight e)
    where
      go : (o : Option Typed) → (o >>= static_value Booleans) ≡ option_map Fixed.truth (o >>= as_static_test)
      go None = refl
      go (Some (truth (units.Test.fixed x))) = refl
      go (Some (truth x)) = refl
      go (Some x) = refl

  asked : (f g : Typed → Broken) → ((x : Typed) → f x ≡ g x) → (expressions_broken.typed sight e ▸ where_given (typed sight e) f) ≡ (expressions_broken.typed sight e ▸ where_given (typed sight e) g)
  asked f g same = ap (λ b. expressions_broken.typed sight e ▸ b) (go (typed sight e))
    where
      go : (o : Option Typed) → where_given o f ≡ where_given o g
      go None = refl
      go (Some x) = same x

  pub integer_told : expressions_broken.static sight e ≡ broken.fixed_value sight Integers r (t.single e)
  integer_told = asked _ _ go
    where
      go : (x : Typed) → lacking TypeMismatch (start e) (as_integer x) ≡ lacking TypeMismatch (start e) (static_value Integers x)
      go (integer s) = refl
      go x = refl

  pub truth_told : expressions_broken.static_condition sight e ≡ broken.fixed_value sight Booleans r (t.single e)
  truth_told = asked _ _ go
    where
      go : (x : Typed) → lacking TypeMismatch (start e) (as_static_test x) ≡ lacking TypeMismatch (start e) (static_value Booleans x)
      go (truth (units.Test.fixed y)) = refl
      go (truth y) = refl
      go x = refl

-- ---- which are one expression

abbrev pub IsStatic : ObjectType → Type 0
IsStatic type = (type ≡ Integers) ⊎ (type ≡ Booleans)

pub is_single : (v : t.Value) (e : t.Expr) → single_expression v ≡ Some e → v ≡ t.single e
is_single (t.single x) e h = let same : x ≡ e = cc in ap t.single same
is_single (t.others at x) e h = absurd cc

pub single_given : (sight : Sight) (type : ObjectType) (r : Option Range) (v : t.Value) → IsStatic type → single_expression v ≡ None → fixed_value sight type r v ≡ None
unfolding fixed_value
single_given sight type r (t.single e) s h = absurd cc
single_given sight type r (t.others at e) (inl i) h = ap (λ type. fixed_value sight type r (t.others at e)) i
single_given sight type r (t.others at e) (inr b) h = ap (λ type. fixed_value sight type r (t.others at e)) b

pub single_told : (sight : Sight) (type : ObjectType) (r : Option Range) (v : t.Value) → IsStatic type →
    of_single (λ e. broken.fixed_value sight type r (t.single e)) v ≡ broken.fixed_value sight type r v
single_told sight type r (t.single e) s = refl
single_told sight type r (t.others at e) (inl i) = sym (ap (λ type. broken.fixed_value sight type r (t.others at e)) i)
single_told sight type r (t.others at e) (inr b) = sym (ap (λ type. broken.fixed_value sight type r (t.others at e)) b)

-- ---- what is of no elements

pub no_kind : (type : ObjectType) → ((kind : ElementKind) → type ≡ Elements kind → ⊥) → as_kind type ≡ None
no_kind (Elements k) other = absurd (other k refl)
no_kind type other = refl

-- ---- choices

pub single_choice_given : (sight : Sight) (type : ObjectType) (c : t.Choice) → (type ≡ Integers → ⊥) → rules.choice sight type c ≡ single_choice sight type c
single_choice_given sight Integers c other = absurd (other refl)
single_choice_given sight type (t.chosen e) other = refl
single_choice_given sight type (t.chosen_range l w r) other = refl
single_choice_given sight type (t.otherwise at) other = refl

pub single_choice_told : (sight : Sight) (type : ObjectType) (c : t.Choice) → (type ≡ Integers → ⊥) → single_choice_breaks sight type c ≡ choices_broken.choice sight type c
single_choice_told sight Integers c other = absurd (other refl)
single_choice_told sight type (t.chosen e) other = refl
single_choice_told sight type (t.chosen_range l w r) other = refl
single_choice_told sight type (t.otherwise at) other = refl

-- of integers
pub no_numbers : (sight : Sight) (c : Choice) (at : ℕ) → c ≡ d.Others at → rules.choice sight Integers (choice_view c) ≡ None
unfolding typed_choice
no_numbers sight c at is = ap (λ c. rules.choice sight Integers (choice_view c)) is

pub numbers_told : (sight : Sight) (c : Choice) → ((at : ℕ) → c ≡ d.Others at → ⊥) → choices_broken.integer_choice sight (choice_view c) ≡ choices_broken.choice sight Integers (choice_view c)
numbers_told sight (d.Others at) other = absurd (other at refl)
numbers_told sight c other = refl
