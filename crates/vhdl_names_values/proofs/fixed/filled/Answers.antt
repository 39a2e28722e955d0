use Rattle.std.proofs.Common.{ap, sym, ◌∙◌}
use Rattle.vhdl_names_rules.specs.declared.fault.NameFault.TheVariants.{At}
use Rattle.vhdl_names_rules.specs.declared.fault.NameProblem.TheVariants.{TypeMismatch, LeftOut}
use Rattle.vhdl_names_rules.specs.problems.Expressions.{is_vector_type}
use Rattle.vhdl_names_expressions.proofs.Breaking.{told_fault}
use Rattle.vhdl_names_asked.proofs.Filling.{not_vector}
use Rattle.vhdl_names_values.proofs.BreakingValues.{no_character, no_vector, none_of_nine}
use Rattle.vhdl_names_values.proofs.fixed.filled.Goals as goal
use Rattle.vhdl_names_values.proofs.fixed.filled.Goals.{in_default-object_type-via-in-Elements+else-is_vector, in_default-object_type-via-in_default-object_type}

pub returns-in_default-clause-told : goal.returns-in_default-clause-told
returns-in_default-clause-told c =
    told_fault _ (At LeftOut c.args.element_at) _ c.at.ensures (no_character c.args.object_type c.args.at c.args.element_at c.args.code c.in_default.is)

pub returns-in-None-clause-told : goal.returns-in-None-clause-told
returns-in-None-clause-told c =
    told_fault _ (At TypeMismatch c.args.element_at) _ c.at-in-None.ensures
    (none_of_nine c.args.object_type c.in-Elements.kind c.args.at c.args.element_at c.args.code c.in-Some.code c.in-Elements.is c.in-Some.is (sym c.is_vector.ensures ∙ c.if-is_vector.true)
    (sym c.nine_of.ensures ∙ c.in-None.is))

pub returns-in_default-object_type-clause-told : goal.returns-in_default-object_type-clause-told
returns-in_default-object_type-clause-told c =
    told_fault _ (At TypeMismatch c.args.at) _ c.at-in_default-object_type.ensures
    (no_vector c.args.object_type c.args.at c.args.element_at c.args.code c.in-Some.code c.in-Some.is (elim c.in_default-object_type.branch [
      | in_default-object_type-via-in-Elements+else-is_vector w ↦ ap is_vector_type w.in-Elements.is ∙ sym w.is_vector.ensures ∙ w.if-is_vector.false
      | in_default-object_type-via-in_default-object_type w ↦ not_vector c.args.object_type w.in_default-object_type.not-Elements
    ]))
