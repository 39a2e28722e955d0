use mir.Syntax.{w32}
use mir.Val.{to_z, of_z}
use Rattle.std.proofs.Common.{◌≡◌, ◌≤◌, List, length, map, arith, rules, sym, ap, ◌∙◌}
use Rattle.std.proofs.lemmas.Grind.{common_steps}
use Rattle.std.proofs.lemmas.Int.{ints}
use Rattle.vhdl_tree.specs.declared.expression.Identifier.{Identifier}
use Rattle.vhdl_names_rules.specs.units.Units as u
use Rattle.vhdl_names_trees.specs.views.Tests.{static_test_view}
use Rattle.vhdl_expand_rules.specs.Declarations.{declared}
use Rattle.vhdl_expand_rules.proofs.Steps.{given}
use Rattle.vhdl_expand_bodies.specs.Sites.{site_view}
use Rattle.vhdl_expand_operands.proofs.Passing.{passed_on}
use Rattle.vhdl_expand_declarations.specs.Regions.{entered_at}
use Rattle.vhdl_expand_declarations.specs.Stepwise.{stepwise}
use Rattle.vhdl_expand_declarations.specs.declared.region.Entered.TheVariants as e
use Rattle.vhdl_expand_declarations.proofs.ConstantSteps.{truths_entered, truths_refused}
use Rattle.vhdl_expand_declarations.proofs.Names.{none_of, some_of}
use Rattle.vhdl_expand_declarations.proofs.entering.truths.Goals as goal

pub returns-then-is_empty : goal.returns-then-is_empty
returns-then-is_empty c =
    let here = site_view c.args.site.now in
    let none : length c.args.names.now ≡ 0 = first_of (search rules, grind (arith, common_steps)) in
    ap (λ (ns : List Identifier). stepwise declared here (map (λ (i : Identifier). u.Declaration.truth i.at (static_test_view c.args.value.now)) ns)) (none_of c.args.names.now none)

pub returns-in_err-truth : goal.returns-in_err-truth
returns-in_err-truth c =
    let here = site_view c.args.site.now in
    let some : 1 ≤ length c.args.names.now = first_of (search rules, grind (arith, common_steps)) in
    let first = some_of c.args.names.now some in
    passed_on _ _ c.in_err-truth.field-0.0 _ c.from_residual.result c.from_residual.ensures.1 (λ e p. p)
    (λ _. truths_refused here c.args.names.now first.0 first.1 (static_test_view c.args.value.now) c.in_err-truth.ensures)

pub returns : goal.returns
returns c =
    let here = site_view c.args.site.now in
    let names = c.args.names.now in
    let position = c.position_of.result in
    let word : to_z w32 (of_z w32 position) ≡ position = omega (arith, ints) in
    truths_entered here names (static_test_view c.args.value.now) c.in_ok-truth.truth c.in_ok-truth.ensures
    ∙ ap (λ x. given (entered_at here (e.Integers x (length names)))) (sym c.position_of.ensures ∙ sym word)
