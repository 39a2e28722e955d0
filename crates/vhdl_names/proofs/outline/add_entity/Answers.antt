use Rattle.std.proofs.Common.{not, ap}
use Rattle.vhdl_tree.specs.Tree as t
use Rattle.vhdl_tree.specs.View as view
use Rattle.vhdl_names_rules.specs.declared.fault.NameProblem.TheVariants.{Twice}
use Rattle.vhdl_names_rules.specs.Visibility.{is_among}
use Rattle.vhdl_names_rules.specs.problems.Broken.{unless}
use Rattle.vhdl_names_rules.proofs.Telling.{told_same, told_on}
use Rattle.vhdl_names.specs.Views.{outline_view}
use Rattle.vhdl_names.specs.Breaking.{one_unit}
use Rattle.vhdl_names.proofs.outline.add_entity.Goals as goal

pub returns-clause-told : goal.returns-clause-told
returns-clause-told c =
    let o = outline_view c.args.outline.now in
    let at = c.args.tree.now.name.at in
    told_on (unless Twice at (not (is_among c.deref.result.now o.entities))) (one_unit o (t.LibraryUnit.entity (view.entity_view c.args.tree.now))) c.add_name.result
    (λ f w. told_same _ (one_unit o (t.LibraryUnit.entity (view.entity_view c.args.tree.now))) f (ap (λ n. unless Twice at (not (is_among n o.entities))) c.deref.ensures.value) w)
    c.add_name.ensures.told
