-- Which rule the constraint of a subtype of integers breaks.
use Rattle.std.specs.Prelude.{ℕ, not}
use Rattle.vhdl_tree.specs.Tree as t
use Rattle.vhdl_names_rules.specs.declared.fault.NameProblem.TheVariants.{LeftOut}
use Rattle.vhdl_names_rules.specs.Visibility.{Sight}
use Rattle.vhdl_names_rules.specs.problems.Broken.{Broken, ◌▸◌, unless}
use Rattle.vhdl_names_rules.specs.problems.Subtypes.{is_index_range, constraint}

-- behind a mark at this byte
abbrev pub constraint_breaks : Sight → (mark_at : ℕ) → t.Constraint → Broken
constraint_breaks sight mark_at c = unless LeftOut mark_at (not (is_index_range c)) ▸ constraint sight c
