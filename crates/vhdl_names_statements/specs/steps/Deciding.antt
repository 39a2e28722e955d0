-- A case on a truth and an assignment to a boolean as ifs, in the order in which the code makes them.
use Rattle.std.specs.Prelude.{◌≡◌, ℕ, ◌==◌, Bool, List, [], ◌∷◌, Option, Some, None}
use Rattle.vhdl_values.specs.declared.scalar.Nine.{Nine}
use Rattle.vhdl_values.specs.declared.scalar.Nine.TheVariants.{One, Zero}
use Rattle.vhdl_names_rules.specs.units.Expressions as u
use Rattle.vhdl_names_rules.specs.units.Expressions.{Test}
use Rattle.vhdl_names_rules.specs.units.Statements as s
use Rattle.vhdl_names_rules.specs.Names.{fixed}
use Rattle.vhdl_names_rules.specs.Expressions as expressions
use Rattle.vhdl_names_rules.specs.Expressions.{Assigned}
use Rattle.vhdl_names_rules.specs.Choices.{always}
use Rattle.vhdl_names_rules.specs.Statements.{alone}
use Rattle.vhdl_names_trees.specs.views.Expressions.{any_part_view}
use Rattle.vhdl_names_units.specs.declared.answers.Object.{Object}
use Rattle.vhdl_names_units.specs.declared.answers.Target.{Target}
use Rattle.vhdl_names_units.specs.views.Sequential.{Guarded, guarded_by, Chosen, branches_of}
use Rattle.vhdl_names_units.specs.views.Targets.{assigned_by}

-- one thing where a truth holds, and else the other
abbrev pub either : (at : ℕ) → Test → s.Statements → s.Statements → s.Statement
either at t a b = s.if_of at (s.branch t a (s.otherwise b))

-- two statements as one
abbrev pub both : (at : ℕ) → s.Statement → s.Statement → s.Statement
both at a b = s.if_of at (s.otherwise (s.step a (s.step b s.done)))

-- ---- a case on a truth

-- the truth that choices are alone
abbrev pub sole_position : List s.Choice → Option Bool
sole_position (s.Choice.position p ∷ []) = Some (p == 1)
sole_position _ = None

-- the truth for which alone the first alternative is
abbrev pub sole_truth : List Chosen → Option Bool
sole_truth [] = None
sole_truth (a ∷ more) = sole_position a.choices

-- the alternatives as branches, of which the first is done where this holds
abbrev pub branches_by : (at : ℕ) → Test → List Chosen → List Guarded
branches_by at t [] = []
branches_by at t (a ∷ more) = guarded_by t a.statements ∷ branches_by at (always at) more

abbrev pub decided : (at : ℕ) → Test → List Chosen → s.Statements → s.Statement
decided at t all others = s.if_of at (branches_of (branches_by at t all) (s.otherwise others))

-- ---- assignments

-- a boolean whose name is at this byte takes an element
abbrev pub boolean_assigned : (at : ℕ) → Object → Nine → s.Statements
boolean_assigned at x v =
    alone (assigned_by at x (fixed u.whole) (s.single (u.Value.elements (u.enclosed_character v))))

abbrev pub truth_assigned : (at : ℕ) → Object → Test → s.Statement
truth_assigned at x t = either at t (boolean_assigned at x One) (boolean_assigned at x Zero)

-- a truth is assigned to a whole object
abbrev pub IsWhole : Target → Assigned → Type 0
IsWhole x (expressions.given g) = Unit {0}
IsWhole x (expressions.truth_of t) = any_part_view x.part ≡ fixed u.whole
