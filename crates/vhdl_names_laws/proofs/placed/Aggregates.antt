-- What is told of an aggregate stands where it, one of its elements or one of their choices does.
use Rattle.std.proofs.Common.{ℕ, Bool, not, ◌||◌, List, [], ◌∷◌}
use Rattle.std.specs.List.{AllByRecursion}
use Rattle.vhdl_names_rules.specs.declared.kind.ElementKind.{ElementKind}
use Rattle.vhdl_names_rules.specs.declared.kind.ObjectType.{ObjectType}
use Rattle.vhdl_names_rules.specs.declared.kind.ObjectType.TheVariants.{Elements}
use Rattle.vhdl_names_rules.specs.declared.fault.NameProblem.TheVariants.{WrongKind, TypeMismatch, LeftOut}
use Rattle.vhdl_names_rules.specs.units.Expressions as u
use Rattle.vhdl_names_rules.specs.Types as types
use Rattle.vhdl_names_rules.specs.Types.{Typed, TypedChoice, TypedElements}
use Rattle.vhdl_names_rules.specs.Operators.{is_vector}
use Rattle.vhdl_names_rules.specs.Aggregates.{is_local, listed_value, element_value}
use Rattle.vhdl_names_rules.specs.Expressions.{as_filled}
use Rattle.vhdl_names_rules.specs.problems.Broken.{◌▸◌, unless, any_of}
use Rattle.vhdl_names_rules.specs.problems.Aggregates as broken
use Rattle.vhdl_names_rules.specs.problems.Aggregates.{choice_start, element_start, is_no_others, is_end, value_problem, is_named, is_only}
use Rattle.vhdl_names_laws.proofs.placed.Told.{Told, told_nothing, told_refused, told_unless, told_lacking, told_behind, told_any}
use Rattle.vhdl_names_laws.proofs.standing.Holding.{ChoiceHolds, ElementsHold}

module _ (P : ℕ → Type 0) where
  choice_stands : (c : TypedChoice) → ChoiceHolds P c → P (choice_start c)
  choice_stands (types.others at) h = h
  choice_stands (types.place l (u.index at s)) h = h.0
  choice_stands (types.place l (u.indexes at r)) h = h.0

  element_stands : (cs : List TypedChoice) (at : ℕ) → AllByRecursion (ChoiceHolds P) cs → P at → P (element_start cs at)
  element_stands [] at h g = g
  element_stands (c ∷ cs) at h g = choice_stands c h.0

  choice_told : (only : Bool) (c : TypedChoice) → ChoiceHolds P c → Told P (broken.choice only c)
  choice_told only c h =
      let g = choice_stands c h in
      told_behind (told_unless WrongKind (choice_start c) (is_no_others c) g) (told_unless WrongKind (choice_start c) (only || is_local c) g)

  named_told : (named only : Bool) (cs : List TypedChoice) (at : ℕ) → AllByRecursion (ChoiceHolds P) cs → P at → Told P (unless WrongKind (element_start cs at) named ▸ any_of (broken.choice only) cs)
  named_told named only cs at h g =
      told_behind (told_unless WrongKind (element_start cs at) named (element_stands cs at h g)) (told_any (ChoiceHolds P) (broken.choice only) (choice_told only) cs h)

  choices_told : (ranged named only : Bool) (cs : List TypedChoice) (at : ℕ) (rest : TypedElements) → AllByRecursion (ChoiceHolds P) cs → P at → Told P (broken.choices ranged named only cs at rest)
  choices_told ranged named only (types.others p ∷ []) at rest h g = told_behind (told_unless WrongKind p (is_end rest) h.0) (told_unless TypeMismatch p ranged h.0)
  choices_told ranged named only [] at rest h g = told_unless WrongKind at (not named) g
  choices_told ranged named only cs at rest h g = named_told named only cs at h g

  value_told : (k : ElementKind) (cs : List TypedChoice) (at : ℕ) (x : Typed) → P at → Told P (broken.value k cs at x)
  value_told k [] at x h = told_lacking TypeMismatch at (listed_value k x) h
  value_told k (c ∷ cs) at x h = told_lacking (value_problem x) at (element_value x) h

  each_told : (ranged named only : Bool) (k : ElementKind) (es : TypedElements) → ElementsHold P es → Told P (broken.each ranged named only k es)
  each_told ranged named only k types.no_elements h = told_nothing
  each_told ranged named only k (types.element cs at x es) h =
      told_behind (choices_told ranged named only cs at es h.0 h.3) (told_behind (value_told k cs at x h.3) (each_told ranged named only k es h.2))

  pub aggregate_told : (k : ElementKind) (ranged : Bool) (es : TypedElements) → ElementsHold P es → Told P (broken.aggregate k ranged es)
  aggregate_told k ranged es h = each_told ranged (is_named es) (is_only es) k es h

  pub composite_told : (type : ObjectType) (at : ℕ) (ranged : Bool) (es : TypedElements) → P at → ElementsHold P es → Told P (broken.composite type at ranged es)
  composite_told (Elements k) at ranged (types.element (types.others p ∷ []) z x types.no_elements) h g =
      told_behind (told_unless TypeMismatch at (is_vector k) h) (told_lacking TypeMismatch z (as_filled (Elements k) x) g.3)
  composite_told (Elements k) at ranged es h g =
      told_behind (told_unless TypeMismatch at (is_vector k) h) (told_behind (told_unless LeftOut at (ranged || not (is_named es)) h) (aggregate_told k ranged es g))
  composite_told _ at ranged es h g = told_refused TypeMismatch at h
