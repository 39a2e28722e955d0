-- Integers that a run computes, as the code comes to their parts.
use Rattle.vhdl_names_trees.specs.declared.vector.ComputedLink.{ComputedLink}
use Rattle.vhdl_names_trees.specs.views.Vectors.{computed_view}
use Rattle.vhdl_expand_rules.specs.Elab.{Elab, ◌>>=◌}
use Rattle.vhdl_expand_rules.specs.Site.{Site}
use Rattle.vhdl_expand_rules.specs.Expressions.{computed, measured}
use Rattle.vhdl_expand_rules.specs.Computed.{Number, operation}
use Rattle.vhdl_expand_rules.specs.Linear.{Measured, measured_operation}

module _ (here : Site) where
  -- an operator with its right operand, behind a number
  abbrev pub linked : Number → ComputedLink → Elab Number
  linked x l = do
    y ← computed here l.at (computed_view l.operand)
    operation l.at l.operator x y

  abbrev pub measured_linked : Measured → ComputedLink → Elab Measured
  measured_linked x l = do
    y ← measured here l.at (computed_view l.operand)
    measured_operation l.at l.operator x y
