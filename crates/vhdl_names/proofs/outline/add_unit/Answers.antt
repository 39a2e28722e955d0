use Rattle.std.proofs.Common.{ap, sym}
use Rattle.vhdl_tree.specs.View as view
use Rattle.vhdl_names_rules.proofs.Telling.{told_same, told_on}
use Rattle.vhdl_names.specs.Views.{outline_view}
use Rattle.vhdl_names.specs.Breaking.{one_unit}
use Rattle.vhdl_names.proofs.outline.add_unit.Goals as goal

pub returns-in-Entity-clause-told : goal.returns-in-Entity-clause-told
returns-in-Entity-clause-told c =
    let o = outline_view c.args.outline.now in
    told_on _ (one_unit o (view.library_unit_view c.args.unit.now.unit)) c.add_entity.result
    (λ f w. told_same _ (one_unit o (view.library_unit_view c.args.unit.now.unit)) f (ap (λ u. one_unit o (view.library_unit_view u)) (sym c.in-Entity.is)) w) c.add_entity.ensures.told

pub returns-in-Architecture-clause-told : goal.returns-in-Architecture-clause-told
returns-in-Architecture-clause-told c =
    let o = outline_view c.args.outline.now in
    told_on _ (one_unit o (view.library_unit_view c.args.unit.now.unit)) c.add_architecture.result
    (λ f w. told_same _ (one_unit o (view.library_unit_view c.args.unit.now.unit)) f (ap (λ u. one_unit o (view.library_unit_view u)) (sym c.in-Architecture.is)) w) c.add_architecture.ensures.told
