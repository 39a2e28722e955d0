use Rattle.std.proofs.Common.{map}
use Rattle.vhdl_tree.specs.View as view
use Rattle.vhdl_names_rules.specs.Files as rules
use Rattle.vhdl_names_units.specs.views.Units.{architecture_view}
use Rattle.vhdl_names_interfaces.specs.Views.{entities_view, entity_view}
use Rattle.vhdl_names_rules.specs.problems.Files as broken
use Rattle.vhdl_names_rules.proofs.kept.Architectures.{architecture_kept}
use Rattle.vhdl_names.proofs.Behind.{then_within}
use Rattle.vhdl_names.proofs.Parts.{context_told}
use Rattle.vhdl_names.proofs.Finding.{passed_told, ok_along, ok_finds}
use Rattle.vhdl_names.proofs.bodies.architecture.Goals as goal

pub within-requires-clause-outermost : goal.within-requires-clause-outermost
within-requires-clause-outermost c = c.in_ok-sight.ensures.outermost

pub returns-in_err-sight-clause-told : goal.returns-in_err-sight-clause-told
returns-in_err-sight-clause-told c =
    let es = entities_view c.args.given.now.entities.now in
    let e = entity_view c.args.entity.now in
    let items = map view.context_view c.args.items.now in
    let a = view.architecture_view c.args.tree.now in
    passed_told (broken.architecture es e items a) c.in_err-sight.field-0.0 _ c.from_residual.result c.from_residual.ensures.1 (λ e p. p)
    (context_told es e items a c.in_err-sight.field-0.0 c.in_err-sight.ensures.told)

pub returns-clause-given : goal.returns-clause-given
returns-clause-given c =
    let es = entities_view c.args.given.now.entities.now in
    ok_along architecture_view _ _ c.within.result
    (then_within es (entity_view c.args.entity.now) (map view.context_view c.args.items.now) (view.architecture_view c.args.tree.now) c.in_ok-sight.sight c.in_ok-sight.ensures.given)
    c.within.ensures.given

pub returns-clause-told : goal.returns-clause-told
returns-clause-told c =
    let es = entities_view c.args.given.now.entities.now in
    let e = entity_view c.args.entity.now in
    let items = map view.context_view c.args.items.now in
    let a = view.architecture_view c.args.tree.now in
    ok_finds architecture_view (rules.architecture es e items a) (broken.architecture es e items a) c.within.result (architecture_kept es e items a)
    (ok_along architecture_view _ _ c.within.result (then_within es e items a c.in_ok-sight.sight c.in_ok-sight.ensures.given) c.within.ensures.given)
    (c.within.ensures.told e items c.in_ok-sight.ensures.given)
