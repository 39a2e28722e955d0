use Rattle.std.proofs.Common.{◌≡◌, ◌+◌, length, map, arith, ap, sym, ◌∙◌}
use Rattle.std.specs.Prelude.{option_map}
use Rattle.std.proofs.lemmas.List.{with_items_is}
use Rattle.vhdl_names_units.specs.Lists.{in_turn}
use Rattle.vhdl_names_units.specs.Once.{names_view}
use Rattle.vhdl_names_units.specs.views.Units.{architecture_view}
use Rattle.vhdl_names_interfaces.specs.Views.{entities_view}
use Rattle.vhdl_tree.specs.View as view
use Rattle.vhdl_names_rules.specs.Files.{architectures_of}
use Rattle.vhdl_names_rules.specs.problems.Broken.{any_of}
use Rattle.vhdl_names_rules.specs.problems.Files.{described}
use Rattle.vhdl_names.specs.steps.Architectures.{options_view, with_unit}
use Rattle.vhdl_names.proofs.Finding.{passed_told}
use Rattle.vhdl_names.proofs.InTurn.{told_here, told_behind, given_behind}
use Rattle.vhdl_names.proofs.Passing.{left_at, none_left, at_lent}
use Rattle.vhdl_names.proofs.architectures.architectures_of.Goals as goal

pub returns-in_err-add_unit-clause-told : goal.returns-in_err-add_unit-clause-told
returns-in_err-add_unit-clause-told c =
    let us = c.args.file.now.units.items in
    let here = at_lent us c.deref-unit-items.result.now c.loop-unit.unit-index c.unit-item.result c.deref-unit-items.ensures.value (omega arith) c.unit-item.is in
    let b = described c.args.given.now.language (names_view c.args.given.now.names.now) (entities_view c.args.given.now.entities.now) in
    let whole = any_of b (architectures_of (view.units_view c.args.file.now.units)) in
    let f = c.in_err-add_unit.field-0.0 in
    passed_told whole f _ c.from_residual-in_err-add_unit.result c.from_residual-in_err-add_unit.ensures.1 (λ e p. p)
    (told_here us c.loop-unit.unit-index c.unit-item.result here.0 here.1 b whole f c.loop-unit.invariant.1.0 c.in_err-add_unit.ensures.told)

pub loop-unit-preserved : goal.loop-unit-preserved
loop-unit-preserved c =
    let us = c.args.file.now.units.items in
    let here = at_lent us c.deref-unit-items.result.now c.loop-unit.unit-index c.unit-item.result c.deref-unit-items.ensures.value (omega arith) c.unit-item.is in
    let es = entities_view c.args.given.now.entities.now in
    let b = described c.args.given.now.language (names_view c.args.given.now.names.now) es in
    let w = with_items_is c.loop-unit.all c.add_unit.new.all (c.in_ok-add_unit.ensures.room ∙ c.deref_mut.ensures.len) in (
      ap length w ∙ c.in_ok-add_unit.ensures.room ∙ ap length c.deref_mut.ensures.value ∙ c.loop-unit.invariant.0,
      (
        c.loop-unit.invariant.1.0 ∙ told_behind us c.loop-unit.unit-index c.unit-item.result here.0 here.1 b c.in_ok-add_unit.ensures.told,
        λ h.
            c.loop-unit.invariant.1.1 h
            ∙ ap (λ l. in_turn (with_unit es) (map (option_map architecture_view) l) (left_at us c.loop-unit.unit-index)) (sym c.deref_mut.ensures.value)
            ∙ given_behind us c.loop-unit.unit-index c.unit-item.result here.0 here.1 (with_unit es) (map (option_map architecture_view) c.deref_mut.result.now) (map (option_map architecture_view) c.add_unit.new.all)
            (c.in_ok-add_unit.ensures.given h)
            ∙ ap (λ l. in_turn (with_unit es) (map (option_map architecture_view) l) (left_at us (c.loop-unit.unit-index + 1))) (sym w),
      ),
    )

pub returns : goal.returns
returns c =
    let same : length c.deref-unit-items.result.now ≡ length c.args.file.now.units.items = ap length c.deref-unit-items.ensures.value in
    let past = none_left c.args.file.now.units.items c.loop-unit.unit-index (omega (arith, same)) in
    let es = entities_view c.args.given.now.entities.now in
    record {
      told = c.loop-unit.invariant.1.0 ∙ ap (λ l. any_of (described c.args.given.now.language (names_view c.args.given.now.names.now) es) (architectures_of l)) past;
      given = λ h. c.loop-unit.invariant.1.1 h ∙ ap (in_turn (with_unit es) (options_view c.loop-unit.all)) past;
    }
