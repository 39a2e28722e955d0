use Rattle.std.proofs.Common.{◌≡◌, IfOk, ap, sym, subst, ◌∙◌}
use Rattle.vhdl_values.specs.declared.scalar.Nine.{Nine}
use Rattle.vhdl_values.specs.declared.scalar.Nine.TheVariants.{One, Zero}
use Rattle.vhdl_names_rules.specs.units.Expressions as u
use Rattle.vhdl_names_rules.specs.units.Statements as s
use Rattle.vhdl_names_rules.specs.Names.{AnyPart, fixed}
use Rattle.vhdl_names_rules.specs.Statements as rules
use Rattle.vhdl_names_trees.specs.views.Expressions.{any_part_view}
use Rattle.vhdl_names_trees.specs.views.Tests.{test_view}
use Rattle.vhdl_names_units.specs.views.Answers.{assigned_view}
use Rattle.vhdl_names_units.specs.views.Sequential.{statement_view}
use Rattle.vhdl_names_units.specs.views.Targets.{assigned_by, target_view}
use Rattle.vhdl_names_statements.specs.steps.Deciding.{either, IsWhole}
use Rattle.vhdl_names_statements.proofs.selecting.assigned_to.Goals as goal

pub returns-in-Given : goal.returns-in-Given
returns-in-Given c = c.assigned.ensures ∙ sym (ap (λ a. rules.assigned_to (target_view c.args.target) (assigned_view a)) c.in-Given.is)

pub returns-in-Truth : goal.returns-in-Truth
returns-in-Truth c =
    let x = c.args.target in
    let t = test_view c.in-Truth.truth in
    let taken : AnyPart → Nine → s.Statements = λ p v. rules.alone (assigned_by x.at x.object p (s.single (u.Value.elements (u.enclosed_character v)))) in
    let whole : any_part_view x.part ≡ fixed u.whole = subst (λ a. IsWhole x (assigned_view a)) c.in-Truth.is c.requires in
    let same = sym (ap (λ a. rules.assigned_to (target_view x) (assigned_view a)) c.in-Truth.is ∙ ap (λ p. either x.at t (taken p One) (taken p Zero)) whole) in
    subst (λ y. IfOk c.truth_assigned.result (λ z. statement_view z ≡ y)) same c.truth_assigned.ensures
