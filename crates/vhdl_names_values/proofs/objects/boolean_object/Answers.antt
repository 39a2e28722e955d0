use Rattle.std.proofs.Common.{Option, ap}
use Rattle.std.specs.Prelude.{option_map, is_none}
use Rattle.vhdl_tree.specs.View.{ident_view, constraint_view}
use Rattle.vhdl_tree.specs.declared.declaration.Constraint.{Constraint}
use Rattle.vhdl_names_rules.specs.declared.fault.NameFault.TheVariants.{At}
use Rattle.vhdl_names_rules.specs.declared.fault.NameProblem.TheVariants.{LeftOut}
use Rattle.vhdl_names_rules.specs.Subtypes.{boolean_object}
use Rattle.vhdl_names_rules.specs.problems.Broken.{unless}
use Rattle.vhdl_names_expressions.proofs.Breaking.{told_fault}
use Rattle.vhdl_names_values.proofs.objects.boolean_object.Goals as goal

pub returns-in-None-clause-given : goal.returns-in-None-clause-given
returns-in-None-clause-given c =
    ap (λ (o : Option Constraint). boolean_object (record { mark = ident_view c.args.indication.now.mark; constraint = option_map constraint_view o })) c.in-None.is

pub returns-in-Some-clause-given : goal.returns-in-Some-clause-given
returns-in-Some-clause-given c =
    λ n. ap (λ (o : Option Constraint). boolean_object (record { mark = ident_view c.args.indication.now.mark; constraint = option_map constraint_view o })) c.in-Some.is

pub returns-in-Some-clause-told : goal.returns-in-Some-clause-told
returns-in-Some-clause-told c =
    let at = c.args.indication.now.mark.at in
    told_fault _ (At LeftOut at) c.at.result c.at.ensures (ap (λ (o : Option Constraint). unless LeftOut at (is_none (option_map constraint_view o))) c.in-Some.is)
