use Rattle.std.proofs.Common.{rules, ◌≡◌, map, option_map, ap, ◌∙◌, subst}
use Rattle.std.specs.Prelude.{flat_map}
use Rattle.vhdl_names_trees.specs.views.Vectors.{place_view}
use Rattle.vhdl_names_units.specs.views.Actuals.{each_actual}
use Rattle.vhdl_names_units.specs.views.Declarations.{ports_view}
use Rattle.vhdl_expand_tree.specs.Views.{object_view}
use Rattle.vhdl_expand_rules.specs.Declarations as definition
use Rattle.vhdl_expand_operands.specs.Results.{Expands}
use Rattle.vhdl_expand_bodies.specs.Sites.{site_view}
use Rattle.vhdl_expand_declarations.specs.Associations.{places_view}
use Rattle.vhdl_expand_declarations.proofs.Names.{lent_seen}
use Rattle.vhdl_expand_declarations.proofs.actuals.associations.Goals as goal

pub returns : goal.returns
returns c =
    let actuals = each_actual c.args.actuals.now in
    let seen : places_view c.deref-2.result.now ≡ map (option_map place_view) actuals =
    lent_seen place_view c.deref-2.result.now actuals (ap (map (option_map (λ x. x.now))) c.deref-2.ensures.value ∙ c.in_ok-actuals.ensures) in
    let given = subst (λ places. Expands (λ _. map object_view c.associate_ports.new.ports.items)
    (definition.associations (site_view c.args.above.now) c.args.at (flat_map ports_view c.deref.result.now) places (map object_view c.args.declared.now.objects.items)) c.associate_ports.result)
    seen c.associate_ports.ensures in
    search rules
