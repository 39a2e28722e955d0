use Rattle.std.proofs.Common.{ap, ◌∙◌}
use Rattle.vhdl_names_rules.specs.Rules.{wider}
use Rattle.vhdl_names_trees.specs.views.Expressions.{typed_view}
use Rattle.vhdl_names_rules.proofs.Along.{gives_along}
use Rattle.vhdl_names_units.specs.views.Answers.{selected_view}
use Rattle.vhdl_names_asked.specs.Asked.{wide_selector}
use Rattle.vhdl_names_asked.proofs.Selecting.{other_selector}
use Rattle.vhdl_names_asked.proofs.selected.as_selector.Goals as goal

pub returns-in-Profile-clause-given : goal.returns-in-Profile-clause-given
returns-in-Profile-clause-given c =
    let d = c.in_default in
    λ n. other_selector c.args.language c.args.operand d.not-Elements d.not-Enumerated d.not-Computed ∙ ap (λ l. wider l (wide_selector (typed_view c.args.operand))) c.in-Profile.is

pub returns-in-Wide-clause-given : goal.returns-in-Wide-clause-given
returns-in-Wide-clause-given c =
    let d = c.in_default in
    gives_along selected_view _ _ _
    (other_selector c.args.language c.args.operand d.not-Elements d.not-Enumerated d.not-Computed ∙ ap (λ l. wider l (wide_selector (typed_view c.args.operand))) c.in-Wide.is)
    c.as_wide_selector.ensures.given
