use Rattle.std.proofs.Common.{◌≡◌, ◌<◌, [], ◌∷◌, length, map, ap, sym, ◌∙◌, arith, rules}
use Rattle.std.proofs.lemmas.Grind.{common_steps}
use Rattle.vhdl_expand_rules.proofs.Items.{none_left}
use Rattle.vhdl_expand_tree.specs.Costs.{spent, variable_elements, variables_costs}
use Rattle.vhdl_expand_tree.specs.Views.{budget_view, variable_view}
use Rattle.vhdl_expand_tree.proofs.Alike.{alike_same, alike_trans}
use Rattle.vhdl_expand.specs.Unrolled.{paid}
use Rattle.vhdl_expand.proofs.Among.{first_among}
use Rattle.vhdl_expand.proofs.Paying.{list_go, list_stop, list_end, elements_costs, variables_together}
use Rattle.vhdl_expand.proofs.Passing.{passed_told}
use Rattle.vhdl_expand.proofs.Spending.{spent_from, spent_here, spent_stops, told_where}
use Rattle.vhdl_expand.proofs.nets.charge_variables.Goals as goal

pub loop-variable-init : goal.loop-variable-init
loop-variable-init c =
    alike_trans (spent_from c.args.at (budget_view c.args.budget.now) (variables_costs (map variable_view c.args.variables.now)))
    (alike_same (sym (ap (paid (budget_view c.args.budget.now)) (variables_together (map variable_view c.args.variables.now)))))

pub loop-variable-preserved : goal.loop-variable-preserved
loop-variable-preserved c =
    let below : c.loop-variable.variable-index < length c.args.variables.now = first_of (search rules, omega arith) in
    let same : length c.variable-item.result.starts.items ≡ c.len.result = first_of (search rules, grind (arith, common_steps)) in
    let now = budget_view c.loop-variable.budget in
    list_go elements_costs variable_view _ _ _ c.args.variables.now c.loop-variable.variable-index c.variable-item.result below c.variable-item.is
    c.loop-variable.invariant (ap (λ n. spent 0 now (variable_elements n)) same ∙ spent_here c.args.at now (variable_elements c.len.result) _ c.in_ok-charge_variables.ensures.spent)

pub returns : goal.returns
returns c = list_end elements_costs variable_view _ _ _ (none_left c.args.variables.now c.loop-variable.variable-index (omega arith)) c.loop-variable.invariant

pub returns-in_err-charge_variables : goal.returns-in_err-charge_variables
returns-in_err-charge_variables c =
    let below : c.loop-variable.variable-index < length c.args.variables.now = first_of (search rules, omega arith) in
    let same : length c.variable-item.result.starts.items ≡ c.len.result = first_of (search rules, grind (arith, common_steps)) in
    let now = budget_view c.loop-variable.budget in
    let fault = c.in_err-charge_variables.field-0.0 in
    let there = told_where (c.args.at ∷ []) c.args.at fault c.in_err-charge_variables.ensures.fault (first_among c.args.at []) in
    let one = spent_stops c.args.at now (variable_elements (length c.variable-item.result.starts.items)) (ap (λ n. spent c.args.at now (variable_elements n)) same ∙ c.in_err-charge_variables.ensures.spent) there in
    let stopped = list_stop elements_costs variable_view _ _ c.args.variables.now c.loop-variable.variable-index c.variable-item.result below c.variable-item.is c.loop-variable.invariant one in
    passed_told _ _ fault _ c.from_residual.result c.from_residual.ensures.1 (λ e p. p) (λ _. stopped)
