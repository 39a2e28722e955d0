use Rattle.std.proofs.Common.{map, option_map, Some, sym, ap, subst, ◌∙◌}
use Rattle.vhdl_names_rules.specs.Packages.{Context, context, sight_of}
use Rattle.vhdl_tree.specs.View as view
use Rattle.vhdl_names_sight.specs.Views.{entry_view}
use Rattle.vhdl_names_rules.proofs.Along.{gives_along}
use Rattle.vhdl_names_packages.specs.Contexts.{context_view}
use Rattle.vhdl_names_rules.specs.problems.Broken.{Tells}
use Rattle.vhdl_names_rules.specs.problems.Declarations as declarations_broken
use Rattle.vhdl_names_rules.specs.problems.Interfaces as broken
use Rattle.vhdl_names_rules.proofs.Telling.{told_on}
use Rattle.vhdl_names_interfaces.specs.Views.{entity_view}
use Rattle.vhdl_names_interfaces.proofs.Interfacing.{no_entity, entity_is, context_told, behind_told, told_nothing}
use Rattle.vhdl_names_rules.proofs.Passing.{passed_on, told_by}
use Rattle.vhdl_names_interfaces.proofs.interface.entity.Goals as goal

pub returns-in_err-context-clause-given : goal.returns-in_err-context-clause-given
returns-in_err-context-clause-given c =
    let name = option_map (λ i. i.now.text.items) c.args.architecture in
    passed_on entity_view _ c.in_err-context.field-0.0 _ c.from_residual.result c.from_residual.ensures.1 (λ e p. p)
    (λ n. no_entity c.args.language (map view.context_view c.args.items.now) (view.entity_view c.args.tree.now) name (ap (λ k. context k (map view.context_view c.args.items.now)) (sym c.none.ensures) ∙ c.in_err-context.ensures.given n))

pub returns-in_err-context-clause-told : goal.returns-in_err-context-clause-told
returns-in_err-context-clause-told c =
    told_by _ c.in_err-context.field-0.0 _ c.from_residual.result c.from_residual.ensures.1 (λ e p. p)
    (context_told c.args.language (map view.context_view c.args.items.now) (view.entity_view c.args.tree.now) c.in_err-context.field-0.0
    (subst (λ (k : Context). Tells (declarations_broken.context k (map view.context_view c.args.items.now)) c.in_err-context.field-0.0) c.none.ensures c.in_err-context.ensures.told))

pub returns-in_err-sight-clause-told : goal.returns-in_err-sight-clause-told
returns-in_err-sight-clause-told c =
    told_by _ c.in_err-sight.field-0.0 _ c.from_residual-in_err-sight.result c.from_residual-in_err-sight.ensures.1 (λ e p. p)
    (told_nothing (broken.entity c.args.language (map view.context_view c.args.items.now) (view.entity_view c.args.tree.now)) c.in_err-sight.field-0.0 c.in_err-sight.ensures.told)

pub returns-clause-given : goal.returns-clause-given
returns-clause-given c =
    let name = option_map (λ i. i.now.text.items) c.args.architecture in
    let k = context_view c.in_ok-context.context in
    let seen = ap (λ l. Some (sight_of k (map entry_view l))) (sym c.new.ensures.empty) ∙ c.in_ok-sight.ensures.sight in
    gives_along entity_view _ _ c.entity_in.result
    (entity_is c.args.language (map view.context_view c.args.items.now) (view.entity_view c.args.tree.now) name k c.in_ok-sight.sight
    (ap (λ k. context k (map view.context_view c.args.items.now)) (sym c.none.ensures) ∙ c.in_ok-context.ensures.given) seen)
    c.entity_in.ensures.given

pub returns-clause-told : goal.returns-clause-told
returns-clause-told c =
    let items = map view.context_view c.args.items.now in
    let e = view.entity_view c.args.tree.now in
    let k = context_view c.in_ok-context.context in
    let seen = ap (λ l. Some (sight_of k (map entry_view l))) (sym c.new.ensures.empty) ∙ c.in_ok-sight.ensures.sight in
    told_on _ (broken.entity c.args.language items e) c.entity_in.result (behind_told c.args.language items e k c.in_ok-sight.sight
    (ap (λ k. context k items) (sym c.none.ensures) ∙ c.in_ok-context.ensures.given) seen) c.entity_in.ensures.told
