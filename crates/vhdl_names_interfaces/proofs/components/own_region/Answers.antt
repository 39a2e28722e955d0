use Rattle.std.proofs.Common.{[], map, ap, sym, subst, ◌∙◌}
use Rattle.vhdl_tree.specs.View.{component_view}
use Rattle.vhdl_names_rules.specs.Rules.{◌>>=◌}
use Rattle.vhdl_names_rules.specs.Visibility.{Sight}
use Rattle.vhdl_names_rules.specs.Interfaces.{interface}
use Rattle.vhdl_names_rules.specs.problems.Broken.{Tells}
use Rattle.vhdl_names_rules.specs.problems.Interfaces as broken
use Rattle.vhdl_names_sight.specs.Seen.{sight_view}
use Rattle.vhdl_names_sight.specs.Views.{region_view, entry_view}
use Rattle.vhdl_names_rules.proofs.Passing.{passed_on, told_by}
use Rattle.vhdl_names_interfaces.proofs.Standing.{there, swapped_is, swapped_inner, swapped_back}
use Rattle.vhdl_names_interfaces.proofs.components.own_region.Goals as goal

pub returns-in_err-_interface-clause-given : goal.returns-in_err-_interface-clause-given
returns-in_err-_interface-clause-given c = rw (← c.sight.view_is) (
    let d = component_view c.args.component.now in
    let is = swapped_is (sight_view c.sight.inside) _ _ (ap (λ r. region_view r) c.swap.ensures.x_after) (ap (λ r. region_view r) c.swap.ensures.y_after) ∙ swapped_inner (sight_view c.sight.inside) (rw (← c.sight.view_is) at c.requires) in
    passed_on _ _ c.in_err-_interface.field-0.0 _ c.from_residual.result c.from_residual.ensures.1 (λ e p. p)
    (λ n. ap (λ o. o >>= λ _. there) (ap (λ s. interface s d.generics d.ports) (sym is) ∙ c.in_err-_interface.ensures.given n)))

pub returns-in_err-_interface-clause-told : goal.returns-in_err-_interface-clause-told
returns-in_err-_interface-clause-told c = rw (← c.sight.view_is) (
    let d = component_view c.args.component.now in
    let is = swapped_is (sight_view c.sight.inside) _ _ (ap (λ r. region_view r) c.swap.ensures.x_after) (ap (λ r. region_view r) c.swap.ensures.y_after) ∙ swapped_inner (sight_view c.sight.inside) (rw (← c.sight.view_is) at c.requires) in
    told_by _ c.in_err-_interface.field-0.0 _ c.from_residual.result c.from_residual.ensures.1 (λ e p. p)
    (subst (λ (s : Sight). Tells (broken.interface s d.generics d.ports) c.in_err-_interface.field-0.0) is c.in_err-_interface.ensures.told))

pub returns-clause-given : goal.returns-clause-given
returns-clause-given c = rw (← c.sight.view_is) (
    let d = component_view c.args.component.now in
    let is = swapped_is (sight_view c.sight.inside) _ _ (ap (λ r. region_view r) c.swap.ensures.x_after) (ap (λ r. region_view r) c.swap.ensures.y_after) ∙ swapped_inner (sight_view c.sight.inside) (rw (← c.sight.view_is) at c.requires) in
    ap (λ o. o >>= λ _. there) (ap (λ s. interface s d.generics d.ports) (sym is) ∙ c.in_ok-_interface.ensures.given))

pub returns-clause-kept : goal.returns-clause-kept
returns-clause-kept c = rw (← c.sight.view_is) (
    let j = c.sight-2.inside in
    let t = c.interface_of.new.sight in
    let is = swapped_is (sight_view c.sight.inside) _ _ (ap (λ r. region_view r) c.swap.ensures.x_after) (ap (λ r. region_view r) c.swap.ensures.y_after) in
    swapped_is (record (sight_view j) { region = region_view c.clear.new.self }) _ _ (ap (λ r. region_view r) c.swap-2.ensures.x_after) (ap (λ r. region_view r) c.swap-2.ensures.y_after)
    ∙ ap (λ es. record (sight_view j) { region = region_view j.enclosing; enclosing = map entry_view es }) c.clear.ensures.empty
    ∙ ap (λ (x : Sight). record x { region = x.enclosing; enclosing = [] }) c.sight-2.view_is
    ∙ swapped_back (sight_view c.sight.inside) t (rw (← c.sight.view_is) at c.requires) (c.in_ok-_interface.ensures.kept ∙ ap (λ (x : Sight). record x { region = t.region }) is))
