use Rattle.std.proofs.Common.{◌≡◌, ◌≢◌, ◌<◌, ◌≤◌, map, option_map, length, sym, ap, ◌∙◌, arith, rules}
use Rattle.std.specs.Prelude.{flat_map}
use Rattle.std.proofs.lemmas.Grind.{common_steps}
use Rattle.std.proofs.lemmas.List.{length-map}
use Rattle.vhdl_names_rules.specs.units.Units.{Generic}
use Rattle.vhdl_names_units.specs.views.Answers.{fixed_view}
use Rattle.vhdl_names_units.specs.views.Declarations.{generics_view}
use Rattle.vhdl_expand_rules.specs.Tops.{set_actual}
use Rattle.vhdl_expand_rules.specs.views.Tops.{setting_view}
use Rattle.vhdl_expand.proofs.SetGenerics.{all_pushed, all_done, some_set, none_set}
use Rattle.vhdl_expand.proofs.settings.set_actuals.Goals as goal

pub returns-then-is_empty : goal.returns-then-is_empty
returns-then-is_empty c =
    let ss = map setting_view c.args.settings.now in
    let none : length c.args.settings.now ≡ 0 = first_of (search rules, grind (arith, common_steps)) in
    ap (map (option_map fixed_view)) c.new-actuals.ensures.items
    ∙ sym (none_set ss (flat_map generics_view c.args.declarations.now) (length-map c.args.settings.now setting_view ∙ none))

pub loop-declaration-preserved : goal.loop-declaration-preserved
loop-declaration-preserved c =
    let ss = map setting_view c.args.settings.now in
    let below : c.loop-declaration.declaration-index < length c.args.declarations.now = first_of (search rules, omega arith) in
    all_pushed (option_map fixed_view) (λ (g : Generic). set_actual ss g.name g.at) generics_view _ c.loop-declaration.actuals.items c.add_actuals.new.actuals.items
    c.args.declarations.now c.loop-declaration.declaration-index c.declaration-item.result below c.declaration-item.is c.loop-declaration.invariant c.in_ok-add_actuals.ensures

pub returns : goal.returns
returns c =
    let ss = map setting_view c.args.settings.now in
    let gs = flat_map generics_view c.args.declarations.now in
    let some : length c.args.settings.now ≢ 0 = first_of (search rules, grind (arith, common_steps)) in
    let done : length c.args.declarations.now ≤ c.loop-declaration.declaration-index = first_of (search rules, omega arith) in
    all_done (option_map fixed_view) (λ (g : Generic). set_actual ss g.name g.at) generics_view _ c.loop-declaration.actuals.items c.args.declarations.now c.loop-declaration.declaration-index done
    c.loop-declaration.invariant
    ∙ sym (some_set ss gs (λ e. some (sym (length-map c.args.settings.now setting_view) ∙ e)))
