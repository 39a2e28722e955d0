use Rattle.std.proofs.Common.{◌+◌, [], arith, sym, subst}
use Rattle.vhdl_tree.specs.View as view
use Rattle.vhdl_names.specs.Finding.{HasMemory}
use Rattle.vhdl_names.specs.Views.{outline_view}
use Rattle.vhdl_names.proofs.Finding.{first_memory}
use Rattle.vhdl_names.proofs.Naming.{Named, names_found, names_given}
use Rattle.vhdl_names.proofs.Past.{Outlined, all_outlined, all_named}
use Rattle.vhdl_names.proofs.Passing.{left_at, none_left, at_lent, name_next, name_past}
use Rattle.vhdl_names.proofs.outline.outline_of.Goals as goal

pub loop-unit-preserved : goal.loop-unit-preserved
loop-unit-preserved c =
    let us = c.args.file.now.units.items in
    let here = at_lent us c.deref-unit-items.result.now c.loop-unit.unit-index c.unit-item.result c.deref-unit-items.ensures.value (omega arith) c.unit-item.is in
    let o = outline_view c.loop-unit.outline in
    let p = outline_view c.add_unit.new.outline in
    subst (λ t. Named (view.units_view c.args.file.now.units) p t (left_at us (c.loop-unit.unit-index + 1)) × (HasMemory t → Outlined (view.units_view c.args.file.now.units) p (left_at us (c.loop-unit.unit-index + 1))))
    (sym c.first_of-told.ensures) (
      name_next us c.loop-unit.unit-index c.unit-item.result here.0 here.1 o c.loop-unit.told c.add_unit.result p c.loop-unit.invariant.0 c.add_unit.ensures.given c.add_unit.ensures.told,
      λ n.
          let m = first_memory c.loop-unit.told c.add_unit.result n in
          name_past us c.loop-unit.unit-index c.unit-item.result here.0 here.1 o c.add_unit.result p (c.loop-unit.invariant.1 m.0) c.add_unit.ensures.given c.add_unit.ensures.kept m.1,
    )

pub returns : goal.returns
returns c =
    let ds = view.units_view c.args.file.now.units in
    let o = outline_view c.loop-unit.outline in
    let past = none_left c.args.file.now.units.items c.loop-unit.unit-index (omega arith) in
    let named : Named (view.units_view c.args.file.now.units) (outline_view c.loop-unit.outline) c.loop-unit.told [] = subst (Named ds o c.loop-unit.told) past c.loop-unit.invariant.0 in
    let all : HasMemory c.loop-unit.told → Outlined (view.units_view c.args.file.now.units) (outline_view c.loop-unit.outline) [] = λ n. subst (Outlined ds o) past (c.loop-unit.invariant.1 n) in
    record {
      told = names_found ds o c.loop-unit.told named;
      given = names_given ds o c.loop-unit.told named;
      names = λ n. all_named ds o (all n);
      seen = λ n. all_outlined ds o (all n);
    }
