use mir.Syntax.{w32}
use mir.Val.{to_z, of_z}
use Rattle.std.proofs.Common.{◌≡◌, List, length, None, Err, arith, rules, sym, ap, ◌∙◌}
use Rattle.std.specs.Prelude.{slice_get, unwrap_or}
use Rattle.std.proofs.lemmas.Grind.{common_steps}
use Rattle.std.proofs.lemmas.Int.{ints}
use Rattle.vhdl_tree.specs.declared.expression.Identifier.{Identifier}
use Rattle.vhdl_names_trees.specs.views.Integers.{static_view, subtype_view}
use Rattle.vhdl_expand_rules.specs.Declarations.{declared}
use Rattle.vhdl_expand_rules.specs.Elab.{fault_told}
use Rattle.vhdl_expand_rules.specs.Integers.{integer_of}
use Rattle.vhdl_expand_rules.proofs.Steps.{given}
use Rattle.vhdl_expand_bodies.specs.Sites.{site_view}
use Rattle.vhdl_expand_operands.proofs.Passing.{passed_on}
use Rattle.vhdl_expand_declarations.specs.Regions.{entered_at, integers_of}
use Rattle.vhdl_expand_declarations.specs.Stepwise.{stepwise}
use Rattle.vhdl_expand_declarations.specs.declared.region.Entered.TheVariants as e
use Rattle.vhdl_expand_declarations.proofs.Names.{no_names}
use Rattle.vhdl_expand_declarations.proofs.ConstantSteps.{integers_entered, integers_refused}
use Rattle.vhdl_expand_declarations.proofs.entering.integers.Goals as goal

pub returns-in_default : goal.returns-in_default
returns-in_default c =
    let here = site_view c.args.site.now in
    let none : slice_get c.args.names.now 0 ≡ None = first_of (search rules, cc (c.in_default.is), grind (arith, common_steps)) in
    ap (λ (ns : List Identifier). stepwise declared here (integers_of ns c.args.told_at (subtype_view c.args.subtype.now) (static_view c.args.value.now))) (no_names c.args.names.now none)

pub returns-in_err-number : goal.returns-in_err-number
returns-in_err-number c =
    let here = site_view c.args.site.now in
    let type = subtype_view c.args.subtype.now in
    let s = static_view c.args.value.now in
    let first = c.in-Some.first.now in
    let fault = c.in_err-number.field-0.0 in
    let h : integer_of type here.integers (unwrap_or c.args.told_at first.at) s ≡ Err (fault_told fault) =
    ap (λ at. integer_of type here.integers at s) (sym c.unwrap_or-at.ensures) ∙ c.in_err-number.ensures in
    passed_on _ _ fault _ c.from_residual.result c.from_residual.ensures.1 (λ e p. p)
    (λ _. integers_refused here c.args.names.now first (sym c.in-Some.ensures.value) c.args.told_at type s h)

pub returns : goal.returns
returns c =
    let here = site_view c.args.site.now in
    let number = c.in_ok-number.number in
    let word : to_z w32 (of_z w32 number) ≡ number = omega (arith, ints) in
    integers_entered here c.args.names.now c.args.told_at (subtype_view c.args.subtype.now) (static_view c.args.value.now) c.unwrap_or-at.result number c.in_ok-number.ensures
    ∙ ap (λ x. given (entered_at here (e.Integers x (length c.args.names.now)))) (sym word)
