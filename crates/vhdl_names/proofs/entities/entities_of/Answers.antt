use Rattle.std.proofs.Common.{◌+◌, arith, sym, subst}
use Rattle.vhdl_tree.specs.View as view
use Rattle.vhdl_names_interfaces.specs.Views.{entities_view}
use Rattle.vhdl_names.specs.Views.{architectures_view}
use Rattle.vhdl_names.proofs.Entering.{Entered, entities_found, entities_viewed}
use Rattle.vhdl_names.proofs.Passing.{left_at, none_left, at_lent, entity_next}
use Rattle.vhdl_names.proofs.entities.entities_of.Goals as goal

pub loop-unit-preserved : goal.loop-unit-preserved
loop-unit-preserved c =
    let us = c.args.file.now.units.items in
    let here = at_lent us c.deref-unit-items.result.now c.loop-unit.unit-index c.unit-item.result c.deref-unit-items.ensures.value (omega arith) c.unit-item.is in
    let as' = architectures_view c.args.outline.now.architectures in
    let es = entities_view c.loop-unit.entities in
    let vs = entities_view c.add_unit.new.entities in
    subst (λ t. Entered c.args.language as' (view.units_view c.args.file.now.units) vs t (left_at us (c.loop-unit.unit-index + 1))) (sym c.first_of-told.ensures)
    (entity_next us c.loop-unit.unit-index c.unit-item.result here.0 here.1 c.args.language as' es c.loop-unit.told c.add_unit.result vs c.loop-unit.invariant c.add_unit.ensures.given c.add_unit.ensures.told c.add_unit.ensures.kept)

pub returns : goal.returns
returns c =
    let ds = view.units_view c.args.file.now.units in
    let as' = architectures_view c.args.outline.now.architectures in
    let es = entities_view c.loop-unit.entities in
    let x = subst (Entered c.args.language as' ds es c.loop-unit.told) (none_left c.args.file.now.units.items c.loop-unit.unit-index (omega arith)) c.loop-unit.invariant in
    record {
      told = entities_found c.args.language as' ds es c.loop-unit.told x;
      all = entities_viewed c.args.language as' ds es c.loop-unit.told x;
      given = λ n. sym (x.given n);
    }
