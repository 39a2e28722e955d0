use Rattle.std.proofs.Common.{◌≡◌, Some, None, option_map, sym, ap, ◌∙◌}
use Rattle.vhdl_tree.specs.View.{view, value_view}
use Rattle.vhdl_names_rules.specs.Rules.{◌>>=◌}
use Rattle.vhdl_names_rules.specs.Expressions.{given, as_boolean}
use Rattle.vhdl_names_trees.specs.views.Integers.{target_range_view}
use Rattle.vhdl_names_trees.specs.views.Expressions.{typed_view}
use Rattle.vhdl_names_rules.proofs.Along.{gives_along}
use Rattle.vhdl_names_rules.proofs.Passing.{passed_on, told_by, told_first}
use Rattle.vhdl_names_rules.proofs.Telling.{told_same}
use Rattle.vhdl_names_units.specs.views.Answers.{assigned_view}
use Rattle.vhdl_names_asked.specs.Asked.{boolean_value}
use Rattle.vhdl_names_expressions.proofs.Breaking.{told_as, asked_of}
use Rattle.vhdl_names_asked.proofs.Selecting.{boolean_given, boolean_breaks, other_given, other_breaks}
use Rattle.vhdl_names_asked.proofs.selected.assigned.Goals as goal

pub returns-in_err-operand-in-Some-clause-given : goal.returns-in_err-operand-in-Some-clause-given
returns-in_err-operand-in-Some-clause-given c =
    let is : boolean_value c.args.object_type (value_view c.args.value.now) ≡ Some (view c.in-Some.e.now) = sym c.in-Some.ensures in
    passed_on assigned_view _ c.in_err-operand-in-Some.field-0.0 _ c.from_residual.result c.from_residual.ensures.1 (λ e p. p)
    (λ n. boolean_given c.args.sight.now c.args.object_type (option_map target_range_view c.args.range) (value_view c.args.value.now) (view c.in-Some.e.now) is
    ∙ ap (λ o. o >>= as_boolean) (c.in_err-operand-in-Some.ensures.given n))

pub returns-in_err-operand-in-Some-clause-told : goal.returns-in_err-operand-in-Some-clause-told
returns-in_err-operand-in-Some-clause-told c =
    let is : boolean_value c.args.object_type (value_view c.args.value.now) ≡ Some (view c.in-Some.e.now) = sym c.in-Some.ensures in
    told_as _ _ _ (sym (boolean_breaks c.args.sight.now c.args.object_type (option_map target_range_view c.args.range) (value_view c.args.value.now) (view c.in-Some.e.now) is))
    (told_first _ _ _ _ c.from_residual.result c.from_residual.ensures.1 (λ e p. p) c.in_err-operand-in-Some.ensures.told)

pub returns-in_ok-operand-in-Some-clause-given : goal.returns-in_ok-operand-in-Some-clause-given
returns-in_ok-operand-in-Some-clause-given c =
    let is : boolean_value c.args.object_type (value_view c.args.value.now) ≡ Some (view c.in-Some.e.now) = sym c.in-Some.ensures in
    gives_along assigned_view _ _ _
    (boolean_given c.args.sight.now c.args.object_type (option_map target_range_view c.args.range) (value_view c.args.value.now) (view c.in-Some.e.now) is
    ∙ ap (λ o. o >>= as_boolean) c.in_ok-operand-in-Some.ensures.given)
    c.as_boolean.ensures.given

pub returns-in_ok-operand-in-Some-clause-told : goal.returns-in_ok-operand-in-Some-clause-told
returns-in_ok-operand-in-Some-clause-told c =
    let is : boolean_value c.args.object_type (value_view c.args.value.now) ≡ Some (view c.in-Some.e.now) = sym c.in-Some.ensures in
    told_as _ _ _ (sym (boolean_breaks c.args.sight.now c.args.object_type (option_map target_range_view c.args.range) (value_view c.args.value.now) (view c.in-Some.e.now) is))
    (asked_of c.args.sight.now (view c.in-Some.e.now) as_boolean assigned_view _ (typed_view c.in_ok-operand-in-Some.operand) _ c.in_ok-operand-in-Some.ensures.given c.start.ensures
    c.as_boolean.ensures.given c.as_boolean.ensures.told)

pub returns-in_err-given-in-None-clause-given : goal.returns-in_err-given-in-None-clause-given
returns-in_err-given-in-None-clause-given c =
    let is : boolean_value c.args.object_type (value_view c.args.value.now) ≡ None = sym c.in-None.ensures in
    passed_on assigned_view _ c.in_err-given-in-None.field-0.0 _ c.from_residual-in_err-given-in-None.result c.from_residual-in_err-given-in-None.ensures.1 (λ e p. p)
    (λ n. other_given c.args.sight.now c.args.object_type (option_map target_range_view c.args.range) (value_view c.args.value.now) is
    ∙ ap (option_map given) (c.in_err-given-in-None.ensures.given n))

pub returns-in_err-given-in-None-clause-told : goal.returns-in_err-given-in-None-clause-told
returns-in_err-given-in-None-clause-told c =
    let is : boolean_value c.args.object_type (value_view c.args.value.now) ≡ None = sym c.in-None.ensures in
    let f = c.in_err-given-in-None.field-0.0 in
    told_by _ f _ c.from_residual-in_err-given-in-None.result c.from_residual-in_err-given-in-None.ensures.1 (λ e p. p)
    (told_same _ _ f (sym (other_breaks c.args.sight.now c.args.object_type (option_map target_range_view c.args.range) (value_view c.args.value.now) is)) c.in_err-given-in-None.ensures.told)

pub returns-in_ok-given-in-None-clause-given : goal.returns-in_ok-given-in-None-clause-given
returns-in_ok-given-in-None-clause-given c =
    let is : boolean_value c.args.object_type (value_view c.args.value.now) ≡ None = sym c.in-None.ensures in
    other_given c.args.sight.now c.args.object_type (option_map target_range_view c.args.range) (value_view c.args.value.now) is
    ∙ ap (option_map given) c.in_ok-given-in-None.ensures.given
