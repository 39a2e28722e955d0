-- Targets of the code.
use Rattle.std.specs.Prelude.{ℕ, option_map}
use Rattle.vhdl_names_rules.specs.Names.{AnyPart}
use Rattle.vhdl_names_rules.specs.Statements as q
use Rattle.vhdl_names_rules.specs.units.Statements as s
use Rattle.vhdl_names_rules.specs.views.Ranges.{declared_range_view}
use Rattle.vhdl_names_trees.specs.views.Vectors.{signal_view}
use Rattle.vhdl_names_trees.specs.views.Expressions.{any_part_view}
use Rattle.vhdl_names_units.specs.declared.answers.Object.{Object}
use Rattle.vhdl_names_units.specs.declared.answers.Object.TheVariants as o
use Rattle.vhdl_names_units.specs.declared.answers.Target.{Target}

-- what gives a value to a part of it
abbrev pub assigned_by : (at : ℕ) → Object → AnyPart → s.Given → s.Statement
assigned_by at (o.Signal x) = q.assigned_signal at (signal_view x)
assigned_by at (o.Variable k) = q.assigned_variable at k

abbrev pub target_view : Target → q.Target
target_view x = record {
  at = x.at;
  type = x.object_type;
  range = q.any_part_range (option_map declared_range_view x.declared) (any_part_view x.part);
  assigned = assigned_by x.at x.object (any_part_view x.part);
}
