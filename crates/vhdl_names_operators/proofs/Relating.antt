-- = and /= of truths, which the wider language alone has, among operators.
use Rattle.std.proofs.Common.{◌≡◌, ℕ, Bool, true, false, true≢false, Option, Some, None, Result, IfErr, refl, ap, ◌∙◌}
use Rattle.std.specs.Option.{option_or}
use Rattle.vhdl_lexer.specs.declared.language.Language.{Language}
use Rattle.vhdl_lexer.specs.declared.language.Language.TheVariants.{Profile, Wide}
use Rattle.vhdl_values.specs.declared.kinds.Cmp.{Cmp}
use Rattle.vhdl_values.specs.declared.kinds.Cmp.TheVariants.{Eq, Ne}
use Rattle.vhdl_tree.specs.declared.operator.Operator.{Operator}
use Rattle.vhdl_tree.specs.declared.operator.Operator.TheVariants as op
use Rattle.vhdl_names_rules.specs.declared.kind.ElementKind.{ElementKind}
use Rattle.vhdl_names_rules.specs.declared.fault.NameFault.{NameFault}
use Rattle.vhdl_names_trees.specs.declared.test.Test as code_test
use Rattle.vhdl_names_trees.specs.declared.typed.Typed as code
use Rattle.vhdl_names_trees.specs.declared.typed.Typed.TheVariants as t
use Rattle.vhdl_names_rules.specs.units.Expressions.{Vector, Test}
use Rattle.vhdl_names_rules.specs.Gives.{Gives}
use Rattle.vhdl_names_rules.specs.Rules.{wider}
use Rattle.vhdl_names_rules.specs.Operators as table
use Rattle.vhdl_names_rules.specs.Operators.{Typed, elements, truth, truths_related}
use Rattle.vhdl_names_rules.specs.problems.Broken.{Tells, refused, lacking}
use Rattle.vhdl_names_rules.specs.problems.Expressions.{is_equality}
use Rattle.vhdl_names_rules.specs.problems.Operators.{operator_problem}
use Rattle.vhdl_names_trees.specs.views.Expressions.{typed_view}
use Rattle.vhdl_names_rules.proofs.Along.{gives_along}
use Rattle.vhdl_names_rules.proofs.Telling.{told_of}
use Rattle.vhdl_names_numbers.specs.declared.integer.Integer.{Integer}
use Rattle.vhdl_names_numbers.specs.declared.integer.Integer.TheVariants as i
use Rattle.vhdl_names_numbers.specs.Integers.{integer_view, integer_of}
use Rattle.vhdl_names_operators.specs.Steps as steps
use Rattle.vhdl_names_operators.specs.Steps.{same_by}
use Rattle.vhdl_names_operators.specs.Resolving.{is_plain}
use Rattle.vhdl_names_operators.proofs.Numbering.{is_elements, is_enumerated, before_any}

-- ---- operators that relate no truths

or_nothing : (language : Language) (o : Option Typed) → option_or o (wider language None) ≡ o
or_nothing Profile None = refl
or_nothing Wide None = refl
or_nothing language (Some x) = refl

pub beside_elements : (q : Operator) (x : Typed) (k : ElementKind) (v : Vector) → truths_related q x (elements k v) ≡ None
beside_elements op.Equal (truth s) k v = refl
beside_elements op.NotEqual (truth s) k v = refl
beside_elements q x k v = refl

module _ (language : Language) (numbers : Bool) (at : ℕ) where
  pub unrelated : (q : Operator) (x y : Typed) → truths_related q x y ≡ None → steps.operated language numbers at q x y ≡ table.operated numbers at q x y
  unrelated q x y h =
      ap (λ o. option_or (table.operated numbers at q x y) (wider language o)) h ∙ or_nothing language (table.operated numbers at q x y)

  other_related : (q : Operator) (x y : Typed) → is_equality q ≡ false → truths_related q x y ≡ None
  other_related op.Equal x y h = absurd (true≢false h)
  other_related op.NotEqual x y h = absurd (true≢false h)
  other_related q x y h = refl

  pub other_given : (q : Operator) (x y : Typed) (r : Result code.Typed NameFault) → is_equality q ≡ false
      → Gives typed_view (table.operated numbers at q x y) r → Gives typed_view (steps.operated language numbers at q x y) r
  other_given q x y r h given =
      gives_along typed_view (steps.operated language numbers at q x y) (table.operated numbers at q x y) r (unrelated q x y (other_related q x y h)) given

  pub other_told : (q : Operator) (x y : Typed) (r : Result code.Typed NameFault) → is_equality q ≡ false
      → Gives typed_view (table.operated numbers at q x y) r → IfErr r (Tells (refused (operator_problem q x y) at))
      → IfErr r (Tells (lacking (operator_problem q x y) at (steps.operated language numbers at q x y)))
  other_told q x y r h given told =
      told_of typed_view (operator_problem q x y) at (steps.operated language numbers at q x y) r (other_given q x y r h given) told

  -- ---- = and /=

  pub equal_is : (x y : Typed) → steps.operated language numbers at op.Equal x y ≡ steps.equality language at Eq x y
  equal_is (truth s) (truth t) = refl
  equal_is x y = or_nothing language (table.operated numbers at op.Equal x y)

  pub unequal_is : (x y : Typed) → steps.operated language numbers at op.NotEqual x y ≡ steps.equality language at Ne x y
  unequal_is (truth s) (truth t) = refl
  unequal_is x y = or_nothing language (table.operated numbers at op.NotEqual x y)

module _ (language : Language) (at : ℕ) (op : Cmp) where
  -- a truth beside what is none
  pub behind_truth : (s : Test) (y : code.Typed) → ((x : code_test.Test) → y ≡ t.Truth x → ⊥) → steps.equality language at op (truth s) (typed_view y) ≡ None
  behind_truth s (t.Truth x) other = absurd (other x refl)
  behind_truth s y other = refl

  -- an integer
  pub integer_equality : (s : Integer) (y : Typed) → steps.equality language at op (integer_view s) y ≡ table.equality at op (same_by at op) (integer_view s) y
  integer_equality (i.Static s) y = refl
  integer_equality (i.Computed s) y = refl

  -- what nothing equals
  pub nothing_equal : (x : code.Typed) (y : Typed) → ((s : code_test.Test) → x ≡ t.Truth s → ⊥) → is_plain (typed_view x) ≡ true → is_elements (typed_view x) ≡ false
      → is_enumerated (typed_view x) ≡ false → integer_of (typed_view x) ≡ None → steps.equality language at op (typed_view x) y ≡ None
  nothing_equal (t.Truth s) y other plain e d h = absurd (other s refl)
  nothing_equal x y other plain e d h = before_any at op (same_by at op) (typed_view x) y plain e d h
