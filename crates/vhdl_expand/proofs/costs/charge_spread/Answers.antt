use Rattle.std.proofs.Common.{◌<◌, ◌^◌, ◌∷◌, [], map, rules, ap, sym, ◌∙◌}
use Rattle.vhdl_names_trees.specs.declared.vector.Value.{Value}
use Rattle.vhdl_names_trees.specs.views.Vectors.{computed_view, value_view}
use Rattle.vhdl_names_units.specs.views.Sequential as analysed
use Rattle.vhdl_expand_rules.specs.Statements.{or_none, spread_count}
use Rattle.vhdl_expand_rules.proofs.Steps.{given, ok}
use Rattle.vhdl_expand_bodies.specs.Sites.{site_view}
use Rattle.vhdl_expand_tree.specs.Costs as costs
use Rattle.vhdl_expand_tree.specs.Costs.{spent}
use Rattle.vhdl_expand_tree.specs.Views.{budget_view}
use Rattle.vhdl_expand_tree.proofs.Alike.{alike_same}
use Rattle.vhdl_expand.specs.Unrolled.{paid, spread_costs}
use Rattle.vhdl_expand.proofs.Among.{first_among}
use Rattle.vhdl_expand.proofs.Passing.{passed_told}
use Rattle.vhdl_expand.proofs.Paying.{charges_alike}
use Rattle.vhdl_expand.proofs.Spending.{charged_alone}
use Rattle.vhdl_expand.proofs.Spreads.{none_spread, capped_turns}
use Rattle.vhdl_expand.proofs.costs.charge_spread.Goals as goal

pub returns-in_default : goal.returns-in_default
returns-in_default c = λ last others. none_spread (site_view c.args.site.now) c.args.at (budget_view c.args.budget.now) c.args.selector.now _ c.in_default.not-Computed

pub returns-in_err-count : goal.returns-in_err-count
returns-in_err-count c = λ last others.
    passed_told _ _ c.in_err-count.field-0.0 _ c.from_residual.result c.from_residual.ensures.1 (λ e p. p) (λ n. let clash = c.in_err-count.ensures last others n in absurd cc)

pub returns : goal.returns
returns c = λ last others.
    let here = site_view c.args.site.now in
    let n = budget_view c.args.budget.now in
    let alts = analysed.alternatives_of (map analysed.alternative_view c.args.alternatives.now) (analysed.last_alternative last others) in
    let k = or_none (spread_count here c.args.at (computed_view c.in-Computed.integer) alts) in
    let fits : n.turns < 2 ^ 32 = search rules in
    let spread = ap (λ (x : Value). paid n (given (spread_costs here c.args.at (value_view x) alts))) c.in-Computed.is in
    let count = ap (λ m. spent 0 n (costs.turns m)) (ok _ _ (c.in_ok-count.ensures last others)) in
    charges_alike _ _ _ _ _ (alike_same (spread ∙ sym (capped_turns n fits k) ∙ count))
    (charged_alone (c.args.at ∷ []) _ c.args.at n (costs.turns c.in_ok-count.count) _ (first_among c.args.at []) c.charge_turns.ensures.spent c.charge_turns.ensures.fault)
