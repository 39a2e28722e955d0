use Rattle.std.proofs.Common.{map}
use Rattle.vhdl_tree.specs.View as view
use Rattle.vhdl_names_rules.specs.problems.Broken.{Tells}
use Rattle.vhdl_names_rules.specs.problems.Declarations as broken
use Rattle.vhdl_names_interfaces.specs.Views.{entity_view}
use Rattle.vhdl_names_interfaces.proofs.Interfacing.{told_nothing}
use Rattle.vhdl_names_rules.proofs.Passing.{told_by}
use Rattle.vhdl_names_interfaces.proofs.sights.architecture_sight.Goals as goal

pub returns-in_err-region-clause-told : goal.returns-in_err-region-clause-told
returns-in_err-region-clause-told c =
    let b = broken.context (entity_view c.args.entity.now).context (map view.context_view c.args.items.now) in
    let f : Tells (broken.context (entity_view c.args.entity.now).context (map view.context_view c.args.items.now)) c.in_err-region.field-0.0 = told_nothing b c.in_err-region.field-0.0 c.in_err-region.ensures.told in
    told_by _ c.in_err-region.field-0.0 _ c.from_residual-in_err-region.result c.from_residual-in_err-region.ensures.1 (λ e p. p) f

pub returns-in_err-sight-clause-told : goal.returns-in_err-sight-clause-told
returns-in_err-sight-clause-told c =
    let b = broken.context (entity_view c.args.entity.now).context (map view.context_view c.args.items.now) in
    let f : Tells (broken.context (entity_view c.args.entity.now).context (map view.context_view c.args.items.now)) c.in_err-sight.field-0.0 = told_nothing b c.in_err-sight.field-0.0 c.in_err-sight.ensures.told in
    told_by _ c.in_err-sight.field-0.0 _ c.from_residual-in_err-sight.result c.from_residual-in_err-sight.ensures.1 (λ e p. p) f
