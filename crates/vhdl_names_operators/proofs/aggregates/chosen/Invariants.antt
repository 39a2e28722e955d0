use Rattle.std.proofs.Common.{◌≡◌, drop, map}
use Rattle.vhdl_names_rules.specs.problems.Broken.{any_of}
use Rattle.vhdl_names_rules.specs.problems.Aggregates as broken
use Rattle.vhdl_names_trees.specs.views.Expressions.{choice_view}
use Rattle.vhdl_names_operators.proofs.aggregates.chosen.Given as goal

-- what the choices that are left break first, all break first
abbrev pub invariant-loop-each : goal.invariant-loop-each
invariant-loop-each l = any_of (broken.choice l.form.is_only) (map choice_view l.choices) ≡ any_of (broken.choice l.form.is_only) (map choice_view (drop l.each-index l.choices))
