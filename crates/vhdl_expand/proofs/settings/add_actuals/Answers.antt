use Rattle.std.proofs.Common.{◌≡◌, ◌++◌, map, option_map, sym, ap, ◌∙◌}
use Rattle.vhdl_tree.specs.declared.expression.Identifier.{Identifier}
use Rattle.vhdl_names_units.specs.views.Answers.{fixed_view}
use Rattle.vhdl_expand_rules.specs.Tops.{set_actual}
use Rattle.vhdl_expand_rules.specs.views.Tops.{setting_view}
use Rattle.vhdl_expand.proofs.SetGenerics.{actuals_named, one_pushed, none_pushed}
use Rattle.vhdl_expand.proofs.settings.add_actuals.Goals as goal

pub loop-name-init : goal.loop-name-init
loop-name-init c =
    let ss = map setting_view c.args.settings.now in
    ap (λ xs. map (option_map fixed_view) c.args.actuals.now.items ++ xs)
    (actuals_named ss c.args.declaration.now c.args.declaration.now.names.items ∙ ap (map (λ (n : Identifier). set_actual ss n.text.items n.at)) (sym c.deref-name-items.ensures.value))

pub loop-name-preserved : goal.loop-name-preserved
loop-name-preserved c =
    let ss = map setting_view c.args.settings.now in
    let f = λ (n : Identifier). set_actual ss n.text.items n.at in
    let seen : option_map fixed_view c.as_fixed.result ≡ f c.name-item.result =
    c.as_fixed.ensures ∙ c.in_ok-actual.ensures ∙ ap (λ t. set_actual ss t c.name-item.result.at) c.deref.ensures.value in
    one_pushed (option_map fixed_view) f _ c.loop-name.actuals.items c.push.new.self.items c.deref-name-items.result.now c.loop-name.name-index c.name-item.result c.as_fixed.result
    c.loop-name-test.true c.name-item.is c.loop-name.invariant seen c.in_ok-push.ensures.items

pub returns : goal.returns
returns c =
    let ss = map setting_view c.args.settings.now in
    none_pushed (option_map fixed_view) (λ (n : Identifier). set_actual ss n.text.items n.at) _ c.loop-name.actuals.items c.deref-name-items.result.now c.loop-name.name-index
    c.loop-name-test.false c.loop-name.invariant
