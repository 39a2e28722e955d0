use Rattle.std.proofs.Common.{sym, ap, ◌∙◌}
use Rattle.vhdl_tree.specs.View.{view}
use Rattle.vhdl_names_rules.specs.Rules.{◌>>=◌}
use Rattle.vhdl_names_rules.specs.Visibility.{Sight}
use Rattle.vhdl_names_rules.specs.Choices.{selector}
use Rattle.vhdl_names_trees.specs.views.Expressions.{typed_view}
use Rattle.vhdl_names_rules.proofs.Along.{gives_along}
use Rattle.vhdl_names_rules.proofs.Passing.{told_first}
use Rattle.vhdl_names_units.specs.views.Answers.{selected_view}
use Rattle.vhdl_names_expressions.proofs.Breaking.{asked_of}
use Rattle.vhdl_names_asked.proofs.selected.selector.Goals as goal

pub returns-in_err-value-clause-told : goal.returns-in_err-value-clause-told
returns-in_err-value-clause-told c = told_first _ _ _ _ c.from_residual.result c.from_residual.ensures.1 (λ e p. p) c.in_err-value.ensures.told

pub returns-clause-given : goal.returns-clause-given
returns-clause-given c =
    let x = typed_view c.in_ok-value.value in
    gives_along selected_view _ _ _
    (ap (λ o. o >>= selector c.args.sight.now.language) c.in_ok-value.ensures.given ∙ ap (λ l. selector l x) (sym (ap (λ (s : Sight). s.language) c.sight.view_is)))
    c.as_selector.ensures.given

pub returns-clause-told : goal.returns-clause-told
returns-clause-told c =
    let x = typed_view c.in_ok-value.value in
    asked_of c.args.sight.now (view c.args.e.now) (selector c.args.sight.now.language) selected_view _ x _ c.in_ok-value.ensures.given c.start.ensures
    (gives_along selected_view _ _ _ (ap (λ l. selector l x) (sym (ap (λ (s : Sight). s.language) c.sight.view_is))) c.as_selector.ensures.given)
    c.as_selector.ensures.told
