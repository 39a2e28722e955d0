use Rattle.std.proofs.Common.{◌≡◌, List, map, None, arith, rules, sym, ap}
use Rattle.std.specs.Prelude.{slice_get}
use Rattle.std.proofs.lemmas.Grind.{common_steps}
use Rattle.vhdl_tree.specs.declared.expression.Identifier.{Identifier}
use Rattle.vhdl_names_rules.specs.units.Units as u
use Rattle.vhdl_names_units.specs.views.Answers.{fixed_view, form_view}
use Rattle.vhdl_expand_rules.specs.Declarations.{declared}
use Rattle.vhdl_expand_bodies.specs.Sites.{site_view}
use Rattle.vhdl_expand_operands.proofs.Passing.{passed_on}
use Rattle.vhdl_expand_declarations.specs.Stepwise.{stepwise}
use Rattle.vhdl_expand_declarations.specs.declared.region.Entered.TheVariants as e
use Rattle.vhdl_expand_declarations.proofs.Names.{no_names}
use Rattle.vhdl_expand_declarations.proofs.ConstantSteps.{constants_entered, constants_refused}
use Rattle.vhdl_expand_declarations.proofs.entering.constants.Goals as goal

pub returns-in_default : goal.returns-in_default
returns-in_default c =
    let here = site_view c.args.site.now in
    let none : slice_get c.args.names.now 0 ≡ None = first_of (search rules, cc (c.in_default.is), grind (arith, common_steps)) in
    ap (λ (ns : List Identifier). stepwise declared here (map (λ (i : Identifier). u.Declaration.constant i.at (form_view c.args.form.now) (fixed_view c.args.value.now)) ns)) (no_names c.args.names.now none)

pub returns-in_err-constant : goal.returns-in_err-constant
returns-in_err-constant c =
    let here = site_view c.args.site.now in
    passed_on _ _ c.in_err-constant.field-0.0 _ c.from_residual.result c.from_residual.ensures.1 (λ e p. p)
    (λ n. constants_refused here c.args.names.now c.in-Some.first.now (sym c.in-Some.ensures.value) (form_view c.args.form.now) (fixed_view c.args.value.now) (c.in_err-constant.ensures n))

pub returns : goal.returns
returns c =
    constants_entered (site_view c.args.site.now) c.args.names.now (form_view c.args.form.now) (fixed_view c.args.value.now) c.in-Some.first.now.at c.in_ok-constant.constant c.in_ok-constant.ensures
