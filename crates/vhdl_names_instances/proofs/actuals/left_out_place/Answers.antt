use Rattle.std.proofs.Common.{refl, ap, sym, ◌∙◌}
use Rattle.std.specs.Prelude.{option_map}
use Rattle.vhdl_tree.specs.View.{attribute_view}
use Rattle.vhdl_names_rules.specs.declared.fault.NameProblem.TheVariants.{LeftOut}
use Rattle.vhdl_names_rules.specs.problems.Broken.{◌▸◌, nothing, refused}
use Rattle.vhdl_names_rules.specs.problems.Expressions.{no_attribute, attribute_start}
use Rattle.vhdl_names_rules.proofs.Telling.{behind_kept}
use Rattle.vhdl_names_instances.proofs.Actual.{refused_first}
use Rattle.vhdl_names_instances.proofs.actuals.left_out_place.Goals as goal

pub returns-in-None : goal.returns-in-None
returns-in-None c =
    let at = c.args.name.now.identifier.at in
    ap (λ a. no_attribute (option_map attribute_view a) ▸ refused LeftOut at) c.in-None.is ∙ behind_kept nothing (refused LeftOut at) refl

pub returns-in-Some : goal.returns-in-Some
returns-in-Some c =
    let at = c.args.name.now.identifier.at in
    ap (λ a. no_attribute (option_map attribute_view a) ▸ refused LeftOut at) c.in-Some.is ∙ refused_first LeftOut (attribute_start (attribute_view c.in-Some.attribute)) (refused LeftOut at) ∙ ap (refused LeftOut) (sym c.attribute_start.ensures)
