use Rattle.vhdl_tree.specs.View.{name_view}
use Rattle.vhdl_names_rules.specs.Statements.{as_signal}
use Rattle.vhdl_names_units.specs.views.Answers.{signal_name_view}
use Rattle.vhdl_names_rules.specs.problems.Statements.{signal_problem}
use Rattle.vhdl_names_rules.proofs.Along.{gives_along}
use Rattle.vhdl_names_rules.proofs.Passing.{told_first}
use Rattle.vhdl_names_asked.proofs.Asking.{signal_by}
use Rattle.vhdl_names_asked.proofs.ObjectNames.{name_refused}
use Rattle.vhdl_names_asked.proofs.objects.signal.Goals as goal

pub returns-in_err-entry-clause-told : goal.returns-in_err-entry-clause-told
returns-in_err-entry-clause-told c = told_first _ _ _ _ c.from_residual.result c.from_residual.ensures.1 (λ e p. p) c.in_err-entry.ensures.told

pub returns-clause-given : goal.returns-clause-given
returns-clause-given c =
    gives_along signal_name_view _ _ _ (signal_by c.args.sight.now (name_view c.args.name.now) _ c.in_ok-entry.ensures.given) (c.as_signal.ensures.given c.args.name.now.identifier.text.items)

pub returns-clause-told : goal.returns-clause-told
returns-clause-told c =
    let n = c.args.name.now.identifier.text.items in
    name_refused c.args.sight.now (name_view c.args.name.now) signal_name_view signal_problem (as_signal c.args.name.now.identifier.at)
    _ _ c.in_ok-entry.ensures.given (c.as_signal.ensures.given n) c.as_signal.ensures.told
