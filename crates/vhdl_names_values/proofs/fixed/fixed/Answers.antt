use Rattle.std.proofs.Common.{ap, sym}
use Rattle.vhdl_tree.specs.View.{view}
use Rattle.vhdl_names_rules.specs.Subtypes as rules
use Rattle.vhdl_names_rules.specs.problems.Subtypes as broken
use Rattle.vhdl_names_rules.proofs.Along.{gives_along}
use Rattle.vhdl_names_units.specs.views.Answers.{fixed_view}
use Rattle.vhdl_names_expressions.proofs.Breaking.{told_as}
use Rattle.vhdl_names_expressions.proofs.Choosing.{named_as, unnamed_as}
use Rattle.vhdl_names_values.proofs.Fixing.{fixed_literal}
use Rattle.vhdl_names_values.proofs.BreakingValues as breaking
use Rattle.vhdl_names_values.proofs.fixed.fixed.Goals as goal

pub returns-in-Some : goal.returns-in-Some
returns-in-Some c = record { given = gives_along fixed_view _ _ _ (ap (rules.fixed c.args.sight.now c.args.object_type) (named_as _ _ _ c.name_of.ensures _ c.in-Some.is)) c.fixed_name.ensures.given; told = told_as _ _ _ (ap (broken.fixed c.args.sight.now c.args.object_type) (sym (named_as _ _ _ c.name_of.ensures _ c.in-Some.is))) c.fixed_name.ensures.told }

pub returns-in-None : goal.returns-in-None
returns-in-None c = record { given = gives_along fixed_view _ _ _ (fixed_literal c.args.sight.now c.args.object_type (view c.args.e.now) (unnamed_as _ _ _ c.name_of.ensures c.in-None.is)) c.literal_value.ensures.given; told = told_as _ _ _ (breaking.fixed_literal c.args.sight.now c.args.object_type (view c.args.e.now) (unnamed_as _ _ _ c.name_of.ensures c.in-None.is)) c.literal_value.ensures.told }
