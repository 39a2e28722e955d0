use Rattle.std.proofs.Common.{sym, ◌∙◌}
use Rattle.vhdl_names_rules.specs.declared.fault.NameFault.TheVariants.{At}
use Rattle.vhdl_names_rules.specs.declared.fault.NameProblem.TheVariants.{TypeMismatch}
use Rattle.vhdl_names_trees.specs.views.Expressions.{typed_view, typed_elements_view}
use Rattle.vhdl_names_rules.proofs.Along.{gives_along}
use Rattle.vhdl_names_expressions.proofs.Breaking.{told_as, told_fault}
use Rattle.vhdl_names_expressions.proofs.Qualifying.{element_alone, element_alone_breaks, no_element, no_element_breaks}
use Rattle.vhdl_names_expressions.proofs.elements.element_qualified.Goals as goal

pub returns-in-Ok-clause-given : goal.returns-in-Ok-clause-given
returns-in-Ok-clause-given c =
    gives_along typed_view _ _ _ (element_alone (typed_elements_view c.args.elements.items) c.in-Ok.place (typed_view c.in-Ok.operand) (sym c.in-Ok.ensures)) c.element_operand.ensures.given

pub returns-in-Ok-clause-told : goal.returns-in-Ok-clause-told
returns-in-Ok-clause-told c =
    told_as _ _ _ (sym (element_alone_breaks c.args.at (typed_elements_view c.args.elements.items) c.in-Ok.place (typed_view c.in-Ok.operand) (sym c.in-Ok.ensures))) c.element_operand.ensures.told

pub returns-in-Err-clause-given : goal.returns-in-Err-clause-given
returns-in-Err-clause-given c = λ n. no_element (typed_elements_view c.args.elements.items) _ (sym c.in-Err.ensures)

pub returns-in-Err-clause-told : goal.returns-in-Err-clause-told
returns-in-Err-clause-told c =
    told_fault _ (At TypeMismatch c.args.at) _ (c.without.ensures ∙ c.at.ensures) (no_element_breaks c.args.at (typed_elements_view c.args.elements.items) _ (sym c.in-Err.ensures))
