-- What contracts see of actuals that are lent, and of what is analysed of them.
use Rattle.std.specs.Prelude.{List, map, Option, option_map, Vec}
use Rattle.std.specs.Global.{Global}
use Rattle.std.specs.Borrow.{Bor}
use Rattle.vhdl_tree.specs.declared.expression.Expr.{Expr}
use Rattle.vhdl_tree.specs.Tree as t
use Rattle.vhdl_tree.specs.View.{view}
use Rattle.vhdl_names_trees.specs.declared.vector.SignalPart.{SignalPart}
use Rattle.vhdl_names_rules.specs.units.Expressions as u
use Rattle.vhdl_names_rules.specs.units.Units as units
use Rattle.vhdl_names_trees.specs.views.Vectors.{place_view}
use Rattle.vhdl_names_units.specs.declared.actuals.Actuals.{Actuals}
use Rattle.vhdl_names_units.specs.declared.answers.Fixed.{Fixed}
use Rattle.vhdl_names_units.specs.views.Answers.{fixed_view}
use Rattle.vhdl_names_units.specs.views.Actuals.{each_actual}

-- the actual of a formal
abbrev pub actual_view : Option (Bor Expr) → Option t.Expr
actual_view = option_map (λ (e : Bor Expr). view e.now)

abbrev pub actuals_view : Vec (Option (Bor Expr)) Global → List (Option t.Expr)
actuals_view v = map actual_view v.items

abbrev pub fixeds_view : Actuals Fixed → List (Option units.Fixed)
fixeds_view actuals = map (option_map fixed_view) (each_actual actuals)

abbrev pub places_view : Actuals SignalPart → List (Option u.SignalPart)
places_view actuals = map (option_map place_view) (each_actual actuals)
