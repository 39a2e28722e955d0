use Rattle.std.proofs.Common.{ℕ, ◌∙◌, subst}
use Rattle.vhdl_names_rules.specs.Interfaces.{EntityView}
use Rattle.vhdl_names_rules.specs.Visibility.{Sight}
use Rattle.vhdl_tree.specs.View.{component_view}
use Rattle.vhdl_names_rules.specs.problems.Broken.{Tells}
use Rattle.vhdl_names_rules.specs.problems.Interfaces as broken
use Rattle.vhdl_names_rules.proofs.Telling.{told_on}
use Rattle.vhdl_names_sight.specs.Seen.{sight_view}
use Rattle.vhdl_names_interfaces.specs.Views.{entities_view, named_view}
use Rattle.vhdl_names_rules.proofs.Passing.{passed_on, told_by, told_first}
use Rattle.vhdl_names_interfaces.proofs.Standing.{none_new, none_named, none_same, none_within, none_closed}
use Rattle.vhdl_names_interfaces.proofs.Telling.{named_twice, no_entity, other_entity, own_region, other_end, named_last}
use Rattle.vhdl_names_interfaces.proofs.components.component.Goals as goal

pub returns-in_err-is_new-clause-given : goal.returns-in_err-is_new-clause-given
returns-in_err-is_new-clause-given c = passed_on _ _ _ _ c.from_residual.result c.from_residual.ensures.1 (λ e p. p) (none_new (entities_view c.args.entities.now) c.args.sight.now (component_view c.args.component.now) c.in_err-is_new.ensures.given)

pub returns-in_err-number-clause-given : goal.returns-in_err-number-clause-given
returns-in_err-number-clause-given c = passed_on _ _ _ _ c.from_residual-in_err-number.result c.from_residual-in_err-number.ensures.1 (λ e p. p) (none_named (entities_view c.args.entities.now) c.args.sight.now (component_view c.args.component.now) c.in_ok-is_new.ensures.given c.in_err-number.ensures.given)

pub returns-in_err-is_entity-clause-given : goal.returns-in_err-is_entity-clause-given
returns-in_err-is_entity-clause-given c =
    let d = component_view c.args.component.now in
    let e : ℕ × EntityView = (c.in_ok-number.number, named_view d.name.text c.in_ok-number.entity.now) in
    passed_on _ _ _ _ c.from_residual-in_err-is_entity.result c.from_residual-in_err-is_entity.ensures.1 (λ e p. p) (none_same (entities_view c.args.entities.now) c.args.sight.now d c.in_ok-is_new.ensures.given e c.in_ok-number.ensures.given c.in_err-is_entity.ensures.given)

pub returns-in_err-own_region-clause-given : goal.returns-in_err-own_region-clause-given
returns-in_err-own_region-clause-given c =
    let d = component_view c.args.component.now in
    let e : ℕ × EntityView = (c.in_ok-number.number, named_view d.name.text c.in_ok-number.entity.now) in
    passed_on _ _ _ _ c.from_residual-in_err-own_region.result c.from_residual-in_err-own_region.ensures.1 (λ e p. p) (none_within (entities_view c.args.entities.now) c.args.sight.now d c.in_ok-is_new.ensures.given e c.in_ok-number.ensures.given c.in_ok-is_entity.ensures.given c.in_err-own_region.ensures.given)

pub returns-in_err-ends-clause-given : goal.returns-in_err-ends-clause-given
returns-in_err-ends-clause-given c =
    let d = component_view c.args.component.now in
    let e : ℕ × EntityView = (c.in_ok-number.number, named_view d.name.text c.in_ok-number.entity.now) in
    passed_on _ _ _ _ c.from_residual-in_err-ends.result c.from_residual-in_err-ends.ensures.1 (λ e p. p) (none_closed (entities_view c.args.entities.now) c.args.sight.now d c.in_ok-is_new.ensures.given e c.in_ok-number.ensures.given c.in_ok-is_entity.ensures.given c.in_ok-own_region.ensures.given c.in_err-ends.ensures.given)

pub returns-in_err-is_new-clause-told : goal.returns-in_err-is_new-clause-told
returns-in_err-is_new-clause-told c = told_first _ _ _ _ c.from_residual.result c.from_residual.ensures.1 (λ e p. p) c.in_err-is_new.ensures.told

pub returns-in_err-number-clause-told : goal.returns-in_err-number-clause-told
returns-in_err-number-clause-told c =
    told_by _ _ _ c.from_residual-in_err-number.result c.from_residual-in_err-number.ensures.1 (λ e p. p) (no_entity (entities_view c.args.entities.now) c.args.sight.now (component_view c.args.component.now) c.in_ok-is_new.ensures.given _ c.in_err-number.ensures.given c.in_err-number.ensures.told)

pub returns-in_err-is_entity-clause-told : goal.returns-in_err-is_entity-clause-told
returns-in_err-is_entity-clause-told c =
    let d = component_view c.args.component.now in
    let e : ℕ × EntityView = (c.in_ok-number.number, named_view d.name.text c.in_ok-number.entity.now) in
    told_by _ _ _ c.from_residual-in_err-is_entity.result c.from_residual-in_err-is_entity.ensures.1 (λ e p. p) (other_entity (entities_view c.args.entities.now) c.args.sight.now d c.in_ok-is_new.ensures.given e c.in_ok-number.ensures.given _ c.in_err-is_entity.ensures.told)

pub returns-in_err-own_region-clause-told : goal.returns-in_err-own_region-clause-told
returns-in_err-own_region-clause-told c =
    let d = component_view c.args.component.now in
    let e : ℕ × EntityView = (c.in_ok-number.number, named_view d.name.text c.in_ok-number.entity.now) in
    told_by _ _ _ c.from_residual-in_err-own_region.result c.from_residual-in_err-own_region.ensures.1 (λ e p. p) (own_region (entities_view c.args.entities.now) c.args.sight.now d c.in_ok-is_new.ensures.given e c.in_ok-number.ensures.given c.in_ok-is_entity.ensures.given _ c.in_err-own_region.ensures.told)

pub returns-in_err-ends-clause-told : goal.returns-in_err-ends-clause-told
returns-in_err-ends-clause-told c =
    let d = component_view c.args.component.now in
    let e : ℕ × EntityView = (c.in_ok-number.number, named_view d.name.text c.in_ok-number.entity.now) in
    told_by _ _ _ c.from_residual-in_err-ends.result c.from_residual-in_err-ends.ensures.1 (λ e p. p) (other_end (entities_view c.args.entities.now) c.args.sight.now d c.in_ok-is_new.ensures.given e c.in_ok-number.ensures.given c.in_ok-is_entity.ensures.given c.in_ok-own_region.ensures.given _ c.in_err-ends.ensures.told)

pub returns-clause-told : goal.returns-clause-told
returns-clause-told c =
    let es = entities_view c.args.entities.now in
    let s = c.args.sight.now in
    let w = sight_view c.sight.inside in
    let d = component_view c.args.component.now in
    told_on (named_twice w d) (broken.component es s d) c.declare.result
    (λ f h. named_last es s d c.in_ok-is_new.ensures.given f (subst (λ (x : Sight). Tells (named_twice x d) f) (c.sight.view_is ∙ c.in_ok-own_region.ensures.kept) h)) c.declare.ensures.told
