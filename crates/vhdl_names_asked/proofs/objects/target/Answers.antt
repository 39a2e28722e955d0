use Rattle.std.proofs.Common.{true, false, ap, sym, ◌∙◌}
use Rattle.vhdl_tree.specs.View.{name_view}
use Rattle.vhdl_names_rules.specs.Statements.{target_by, as_variable_target}
use Rattle.vhdl_names_rules.specs.problems.Statements as broken
use Rattle.vhdl_names_rules.specs.problems.Statements.{variable_problem, target_by_declaration}
use Rattle.vhdl_names_rules.proofs.Along.{gives_along}
use Rattle.vhdl_names_rules.proofs.Passing.{told_by}
use Rattle.vhdl_names_units.specs.views.Targets.{target_view}
use Rattle.vhdl_names_asked.proofs.Asking.{target_found}
use Rattle.vhdl_names_expressions.proofs.Breaking.{told_as}
use Rattle.vhdl_names_asked.proofs.ObjectNames.{name_told, name_refused, target_first}
use Rattle.vhdl_names_asked.proofs.objects.target.Goals as goal

pub returns-in_err-entry-clause-told : goal.returns-in_err-entry-clause-told
returns-in_err-entry-clause-told c =
    told_by _ c.in_err-entry.field-0.0 _ c.from_residual.result c.from_residual.ensures.1 (λ e p. p)
    (target_first c.args.sight.now c.args.is_variable (name_view c.args.name.now) c.in_err-entry.field-0.0 c.in_err-entry.ensures.told)

pub returns-then-is_variable-clause-given : goal.returns-then-is_variable-clause-given
returns-then-is_variable-clause-given c =
    let s = c.args.sight.now in
    let n = name_view c.args.name.now in
    gives_along target_view _ _ _ (ap (λ b. target_by s b n) c.if-is_variable.true ∙ target_found s true n _ c.in_ok-entry.ensures.given) (c.variable_target.ensures.given c.args.name.now.identifier.text.items)

pub returns-then-is_variable-clause-told : goal.returns-then-is_variable-clause-told
returns-then-is_variable-clause-told c =
    let s = c.args.sight.now in
    let n = name_view c.args.name.now in
    told_as _ _ _ (sym (ap (λ b. broken.target_by s b n) c.if-is_variable.true))
    (name_refused s n target_view variable_problem (as_variable_target n.identifier.at) _ _ c.in_ok-entry.ensures.given
    (c.variable_target.ensures.given c.args.name.now.identifier.text.items) c.variable_target.ensures.told)

pub returns-else-is_variable-clause-given : goal.returns-else-is_variable-clause-given
returns-else-is_variable-clause-given c =
    let s = c.args.sight.now in
    let n = name_view c.args.name.now in
    gives_along target_view _ _ _ (ap (λ b. target_by s b n) c.if-is_variable.false ∙ target_found s false n _ c.in_ok-entry.ensures.given) (c.signal_target.ensures.given c.args.name.now.identifier.text.items)

pub returns-else-is_variable-clause-told : goal.returns-else-is_variable-clause-told
returns-else-is_variable-clause-told c =
    let s = c.args.sight.now in
    let n = name_view c.args.name.now in
    told_as _ _ _ (sym (ap (λ b. broken.target_by s b n) c.if-is_variable.false))
    (name_told s n (target_by_declaration n.identifier.at) _ _ c.in_ok-entry.ensures.given (c.signal_target.ensures.told c.args.name.now.identifier.text.items))
