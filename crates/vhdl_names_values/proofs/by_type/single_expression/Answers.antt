use Rattle.std.proofs.Common.{ap}
use Rattle.vhdl_tree.specs.View.{value_view}
use Rattle.vhdl_names_rules.specs.declared.fault.NameFault.TheVariants.{At}
use Rattle.vhdl_names_rules.specs.declared.fault.NameProblem.TheVariants.{TypeMismatch}
use Rattle.vhdl_names_rules.specs.problems.Declarations.{of_single}
use Rattle.vhdl_names_expressions.proofs.Breaking.{told_fault}
use Rattle.vhdl_names_values.proofs.by_type.single_expression.Goals as goal

pub returns-in-Others-clause-told : goal.returns-in-Others-clause-told
returns-in-Others-clause-told c =
    λ b. told_fault _ (At TypeMismatch c.in-Others.at) c.at.result c.at.ensures (ap (λ y. of_single b (value_view y)) c.in-Others.is)
