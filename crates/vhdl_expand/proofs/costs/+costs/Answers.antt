use Rattle.std.proofs.Common.{◌<◌, [], ◌∷◌, ◌++◌, length, map, Ok, refl, ap, ◌∙◌, arith, rules}
use Rattle.std.specs.Prelude.{◌≢◌, flat_map}
use Rattle.vhdl_names_rules.specs.units.Bytes.{range_bytes, value_bytes, statement_bytes, statements_bytes, branches_bytes, alternatives_bytes}
use Rattle.vhdl_names_rules.specs.units.Statements as units
use Rattle.vhdl_names_trees.specs.views.Integers.{range_view}
use Rattle.vhdl_names_trees.specs.views.Vectors.{value_view}
use Rattle.vhdl_names_units.specs.declared.sequential.Case.{out-Case}
use Rattle.vhdl_names_units.specs.declared.sequential.If.{out-If}
use Rattle.vhdl_names_units.specs.declared.sequential.Statement.TheVariants as variants
use Rattle.vhdl_names_units.specs.views.Answers.{choices_view}
use Rattle.vhdl_names_units.specs.views.Sequential as analysed
use Rattle.vhdl_expand_rules.specs.declared.fault.ElabFault.TheVariants.{NoMemory}
use Rattle.vhdl_expand_rules.specs.Site.{in_loop}
use Rattle.vhdl_expand_bodies.specs.Sites.{site_view}
use Rattle.vhdl_expand_rules.proofs.Modulus.{same_word}
use Rattle.vhdl_expand_rules.proofs.Steps.{given}
use Rattle.vhdl_expand_rules.proofs.Items.{none_left}
use Rattle.vhdl_expand_tree.specs.Costs as costs
use Rattle.vhdl_expand_tree.specs.Costs.{a_statement}
use Rattle.vhdl_expand_tree.specs.Views.{budget_view}
use Rattle.vhdl_expand_tree.proofs.Alike.{alike_same, alike_trans, tells_same, tells_among}
use Rattle.vhdl_expand.specs.Unrolled.{paid, together, statement_costs, statements_costs, guarded_costs, chosen_costs, guarded_bytes, chosen_bytes}
use Rattle.vhdl_expand.proofs.Among.{body_bytes, among_left, among_right, first_among, under, then_among, same_among, each_among, statement_among, branches_among, some_among, alternatives_among, others_among, charges_among, shown}
use Rattle.vhdl_expand.proofs.Paying.{charges_alike, list_end, list_go, list_stop, turns_go, turns_stop, turns_end}
use Rattle.vhdl_expand.proofs.Sums.{if_view, case_view, loop_view, statements_together, if_costs, case_costs, loop_view_costs, same_list, same_branches, same_alternatives, same_spread, same_turn}
use Rattle.vhdl_expand.proofs.Sums.{choose_stops, branches_stop, no_else, some_else, select_stops, spread_stops, alternatives_stop, alternatives_go, range_stops, count_stops, turns_begin}
use Rattle.vhdl_expand.proofs.Spending.{spent_here, spent_stops, told_where, charged_alone}
use Rattle.vhdl_expand.proofs.Telling.{turns_places, turns_told, turns_given}
use Rattle.vhdl_expand_rules.specs.Elab.{fault_told, MayTell}
use Rattle.vhdl_expand.proofs.Passing.{passed_told}
use Rattle.vhdl_expand.proofs.costs.+costs.Goals as goal

pub of_statements-loop-statement-init : goal.of_statements-loop-statement-init
of_statements-loop-statement-init t c =
    alike_same (ap (paid (budget_view c.args.budget.now)) (statements_together (site_view c.args.site.now) (map analysed.statement_view c.args.list.now)))

pub of_statements-loop-statement-preserved : goal.of_statements-loop-statement-preserved
of_statements-loop-statement-preserved t c =
    let i = c.loop-statement.statement-index in
    let below : i < length c.args.list.now = first_of (search rules, omega arith) in
    list_go (statement_costs (site_view c.args.site.now)) analysed.statement_view _ _ _ c.args.list.now i c.statement-item.result below c.statement-item.is
    c.loop-statement.invariant c.in_ok-of_statement.ensures

pub of_statements-returns-in_err-of_statement : goal.of_statements-returns-in_err-of_statement
of_statements-returns-in_err-of_statement t c =
    let i = c.loop-statement.statement-index in
    let here = site_view c.args.site.now in
    let below : i < length c.args.list.now = first_of (search rules, omega arith) in
    let stopped : c.in_err-of_statement.field-0.0 ≢ NoMemory
    → MayTell (c.args.at ∷ statements_bytes (analysed.statements_of (map analysed.statement_view c.args.list.now))) (paid (budget_view c.args.budget.now) (statements_costs here (analysed.statements_of (map analysed.statement_view c.args.list.now)))) (fault_told c.in_err-of_statement.field-0.0) =
    λ n. list_stop (statement_costs here) analysed.statement_view _ _ c.args.list.now i c.statement-item.result below c.statement-item.is c.loop-statement.invariant (tells_among (under c.args.at _ _ (statement_among c.args.list.now i c.statement-item.result below c.statement-item.is)) (c.in_err-of_statement.ensures n)) in
    passed_told _ _ c.in_err-of_statement.field-0.0 _ c.from_residual.result c.from_residual.ensures.1 (λ e p. p) stopped

pub of_statement-returns-in-If : goal.of_statement-returns-in-If
of_statement-returns-in-If t c =
    let here = site_view c.args.site.now in
    let h = ap (λ x. statement_costs here (analysed.statement_view x)) c.in-If.is ∙ if_costs here c.in-If.conditional in
    charges_among _ _ _ _ _ (shown c.args.at _ _ (ap (λ x. statement_bytes (analysed.statement_view x)) c.in-If.is ∙ ap statement_bytes (if_view c.in-If.conditional)))
    (charges_alike _ _ _ _ _ (alike_same (ap (paid (budget_view c.args.budget.now)) h)) c.of_conditional.ensures)

pub of_statement-returns-in-Case : goal.of_statement-returns-in-Case
of_statement-returns-in-Case t c =
    let here = site_view c.args.site.now in
    let h = ap (λ x. statement_costs here (analysed.statement_view x)) c.in-Case.is ∙ case_costs here c.in-Case.selection in
    let x = out-Case c.in-Case.selection in
    let alts = alternatives_bytes (analysed.alternatives_of (analysed.alternatives_view x.alternatives) (analysed.last_alternative (choices_view x.last) (analysed.statements_of (analysed.statements_view x.others)))) in
    let whole = value_bytes (value_view x.selector) ++ alts in
    let all = statement_bytes (analysed.statement_view c.args.statement.now) in
    charges_among _ _ _ _ _ (then_among (x.at ∷ alts) (x.at ∷ whole) (c.args.at ∷ all) (under x.at alts whole (among_right (value_bytes (value_view x.selector)) alts))
    (shown c.args.at all (x.at ∷ whole) (ap (λ x. statement_bytes (analysed.statement_view x)) c.in-Case.is ∙ ap statement_bytes (case_view c.in-Case.selection))))
    (charges_alike _ _ _ _ _ (alike_same (ap (paid (budget_view c.args.budget.now)) h)) c.of_selection.ensures)

pub of_statement-returns-in-Loop : goal.of_statement-returns-in-Loop
of_statement-returns-in-Loop t c =
    let here = site_view c.args.site.now in
    let h = ap (λ x. statement_costs here (analysed.statement_view x)) c.in-Loop.is ∙ loop_view_costs here c.in-Loop.repeated in
    let x = c.in-Loop.repeated in
    let body = statements_bytes (analysed.statements_of (analysed.statements_view x.statements)) in
    let whole = range_bytes (range_view x.range) ++ body in
    let all = statement_bytes (analysed.statement_view c.args.statement.now) in
    charges_among _ _ _ _ _ (then_among (x.at ∷ body) (x.at ∷ whole) (c.args.at ∷ all) (under x.at body whole (among_right (range_bytes (range_view x.range)) body))
    (shown c.args.at all (x.at ∷ whole) (ap (λ x. statement_bytes (analysed.statement_view x)) c.in-Loop.is ∙ ap statement_bytes (loop_view c.in-Loop.repeated))))
    (charges_alike _ _ _ _ _ (alike_same (ap (paid (budget_view c.args.budget.now)) h)) c.of_loop.ensures.given)

pub of_branches-loop-branch-preserved : goal.of_branches-loop-branch-preserved
of_branches-loop-branch-preserved t c =
    let i = c.loop-branch.branch-index in
    let here = site_view c.args.site.now in
    let below : i < length c.args.list.now = first_of (search rules, omega arith) in
    list_go (guarded_costs here) analysed.branch_view _ _ _ c.args.list.now i c.branch-item.result below c.branch-item.is c.loop-branch.invariant
    (same_list here _ _ _ c.deref.ensures.value ∙ c.in_ok-of_statements.ensures)

pub of_branches-returns-in_err-of_statements : goal.of_branches-returns-in_err-of_statements
of_branches-returns-in_err-of_statements t c =
    let i = c.loop-branch.branch-index in
    let here = site_view c.args.site.now in
    let below : i < length c.args.list.now = first_of (search rules, omega arith) in
    let stopped : c.in_err-of_statements.field-0.0 ≢ NoMemory → MayTell (c.args.at ∷ flat_map guarded_bytes (map analysed.branch_view c.args.list.now)) (paid (budget_view c.args.budget.now) (together (guarded_costs here) (map analysed.branch_view c.args.list.now))) (fault_told c.in_err-of_statements.field-0.0) =
    λ n. list_stop (guarded_costs here) analysed.branch_view _ _ c.args.list.now i c.branch-item.result below c.branch-item.is c.loop-branch.invariant
    (tells_among (under c.args.at _ _ (then_among _ _ _ (same_among body_bytes _ _ c.deref.ensures.value) (each_among guarded_bytes analysed.branch_view c.args.list.now i c.branch-item.result below c.branch-item.is)))
    (tells_same (same_list here _ _ _ c.deref.ensures.value) (c.in_err-of_statements.ensures n))) in
    passed_told _ _ c.in_err-of_statements.field-0.0 _ c.from_residual.result c.from_residual.ensures.1 (λ e p. p) stopped

pub of_alternatives-loop-alternative-preserved : goal.of_alternatives-loop-alternative-preserved
of_alternatives-loop-alternative-preserved t c =
    let i = c.loop-alternative.alternative-index in
    let here = site_view c.args.site.now in
    let below : i < length c.args.list.now = first_of (search rules, omega arith) in
    list_go (chosen_costs here) analysed.alternative_view _ _ _ c.args.list.now i c.alternative-item.result below c.alternative-item.is c.loop-alternative.invariant
    (same_list here _ _ _ c.deref.ensures.value ∙ c.in_ok-of_statements.ensures)

pub of_alternatives-returns-in_err-of_statements : goal.of_alternatives-returns-in_err-of_statements
of_alternatives-returns-in_err-of_statements t c =
    let i = c.loop-alternative.alternative-index in
    let here = site_view c.args.site.now in
    let below : i < length c.args.list.now = first_of (search rules, omega arith) in
    let stopped : c.in_err-of_statements.field-0.0 ≢ NoMemory → MayTell (c.args.at ∷ flat_map chosen_bytes (map analysed.alternative_view c.args.list.now)) (paid (budget_view c.args.budget.now) (together (chosen_costs here) (map analysed.alternative_view c.args.list.now))) (fault_told c.in_err-of_statements.field-0.0) =
    λ n. list_stop (chosen_costs here) analysed.alternative_view _ _ c.args.list.now i c.alternative-item.result below c.alternative-item.is c.loop-alternative.invariant
    (tells_among (under c.args.at _ _ (then_among _ _ _ (same_among body_bytes _ _ c.deref.ensures.value) (each_among chosen_bytes analysed.alternative_view c.args.list.now i c.alternative-item.result below c.alternative-item.is)))
    (tells_same (same_list here _ _ _ c.deref.ensures.value) (c.in_err-of_statements.ensures n))) in
    passed_told _ _ c.in_err-of_statements.field-0.0 _ c.from_residual.result c.from_residual.ensures.1 (λ e p. p) stopped

-- ---- if

pub of_conditional-returns-in_err-charge_statement : goal.of_conditional-returns-in_err-charge_statement
of_conditional-returns-in_err-charge_statement t c =
    let here = site_view c.args.site.now in
    let x = out-If c.args.conditional.now in
    let gs = analysed.branches_view x.branches in
    let last = analysed.last_of (analysed.option_statements_view x.otherwise) in
    let stopped : MayTell (x.at ∷ branches_bytes (analysed.branches_of gs last)) (paid (budget_view c.args.budget.now) (statement_costs here (units.if_of x.at (analysed.branches_of gs last)))) (fault_told c.in_err-charge_statement.field-0.0) =
    choose_stops here x.at (budget_view c.args.budget.now) gs last
    (spent_stops x.at (budget_view c.args.budget.now) a_statement c.in_err-charge_statement.ensures.spent (told_where (x.at ∷ branches_bytes (analysed.branches_of gs last)) x.at c.in_err-charge_statement.field-0.0 c.in_err-charge_statement.ensures.fault (first_among x.at (branches_bytes (analysed.branches_of gs last))))) in
    passed_told _ _ c.in_err-charge_statement.field-0.0 _ c.from_residual.result c.from_residual.ensures.1 (λ e p. p) (λ _. stopped)

pub of_conditional-returns-in_err-of_branches : goal.of_conditional-returns-in_err-of_branches
of_conditional-returns-in_err-of_branches t c =
    let here = site_view c.args.site.now in
    let x = out-If c.args.conditional.now in
    let gs = analysed.branches_view x.branches in
    let last = analysed.last_of (analysed.option_statements_view x.otherwise) in
    let stopped : c.in_err-of_branches.field-0.0 ≢ NoMemory → MayTell (x.at ∷ branches_bytes (analysed.branches_of gs last)) (paid (budget_view c.args.budget.now) (statement_costs here (units.if_of x.at (analysed.branches_of gs last)))) (fault_told c.in_err-of_branches.field-0.0) =
    λ n. branches_stop here x.at (budget_view c.args.budget.now) gs last _ (spent_here x.at (budget_view c.args.budget.now) a_statement _ c.in_ok-charge_statement.ensures.spent)
    (tells_among (under x.at _ _ (then_among _ _ _ (same_among (λ bs. flat_map guarded_bytes (map analysed.branch_view bs)) _ _ c.deref.ensures.value) (branches_among gs last)))
    (tells_same (same_branches here _ _ _ c.deref.ensures.value) (c.in_err-of_branches.ensures n))) in
    passed_told _ _ c.in_err-of_branches.field-0.0 _ c.from_residual-in_err-of_branches.result c.from_residual-in_err-of_branches.ensures.1 (λ e p. p) stopped

pub of_conditional-returns-in-None : goal.of_conditional-returns-in-None
of_conditional-returns-in-None t c =
    let here = site_view c.args.site.now in
    let x = out-If c.args.conditional.now in
    no_else here x.at (budget_view c.args.budget.now) _ _ (analysed.branches_view x.branches) x.otherwise c.in-None.is (spent_here x.at (budget_view c.args.budget.now) a_statement _ c.in_ok-charge_statement.ensures.spent)
    (same_branches here _ _ _ c.deref.ensures.value ∙ c.in_ok-of_branches.ensures)

pub of_conditional-returns-in-Some : goal.of_conditional-returns-in-Some
of_conditional-returns-in-Some t c =
    let here = site_view c.args.site.now in
    let x = out-If c.args.conditional.now in
    charges_among _ _ _ _ _ (under x.at _ _ (some_among (analysed.branches_view x.branches) x.otherwise c.in-Some.list c.in-Some.is _ c.deref-in-Some.ensures.value)) (charges_alike _ _ _ _ _
    (some_else here x.at (budget_view c.args.budget.now) _ _ (analysed.branches_view x.branches) x.otherwise c.in-Some.list c.in-Some.is (spent_here x.at (budget_view c.args.budget.now) a_statement _ c.in_ok-charge_statement.ensures.spent)
    (same_branches here _ _ _ c.deref.ensures.value ∙ c.in_ok-of_branches.ensures) _ c.deref-in-Some.ensures.value)
    c.of_statements.ensures)

-- ---- case

pub of_selection-returns-in_err-charge_statement : goal.of_selection-returns-in_err-charge_statement
of_selection-returns-in_err-charge_statement t c =
    let here = site_view c.args.site.now in
    let x = out-Case c.args.selection.now in
    let v = value_view x.selector in
    let gs = analysed.alternatives_view x.alternatives in
    let cs = choices_view x.last in
    let body = analysed.statements_of (analysed.statements_view x.others) in
    let alts = analysed.alternatives_of gs (analysed.last_alternative cs body) in
    let stopped : MayTell (x.at ∷ alternatives_bytes alts) (paid (budget_view c.args.budget.now) (statement_costs here (units.case_of x.at v alts))) (fault_told c.in_err-charge_statement.field-0.0) =
    select_stops here x.at v (budget_view c.args.budget.now) gs cs body
    (spent_stops x.at (budget_view c.args.budget.now) a_statement c.in_err-charge_statement.ensures.spent (told_where (x.at ∷ alternatives_bytes alts) x.at c.in_err-charge_statement.field-0.0 c.in_err-charge_statement.ensures.fault (first_among x.at (alternatives_bytes alts)))) in
    passed_told _ _ c.in_err-charge_statement.field-0.0 _ c.from_residual.result c.from_residual.ensures.1 (λ e p. p) (λ _. stopped)

pub of_selection-returns-in_err-charge_spread : goal.of_selection-returns-in_err-charge_spread
of_selection-returns-in_err-charge_spread t c =
    let here = site_view c.args.site.now in
    let x = out-Case c.args.selection.now in
    let v = value_view x.selector in
    let gs = analysed.alternatives_view x.alternatives in
    let cs = choices_view x.last in
    let body = analysed.statements_of (analysed.statements_view x.others) in
    let alts = analysed.alternatives_of gs (analysed.last_alternative cs body) in
    let stopped : c.in_err-charge_spread.field-0.0 ≢ NoMemory → MayTell (x.at ∷ alternatives_bytes alts) (paid (budget_view c.args.budget.now) (statement_costs here (units.case_of x.at v alts))) (fault_told c.in_err-charge_spread.field-0.0) =
    λ n. spread_stops here x.at v (budget_view c.args.budget.now) gs cs body _ (spent_here x.at (budget_view c.args.budget.now) a_statement _ c.in_ok-charge_statement.ensures.spent)
    (tells_among (among_left (x.at ∷ []) (alternatives_bytes alts))
    (tells_same (same_spread here _ x.at v (analysed.last_alternative cs body) _ _ c.deref.ensures.value) (c.in_err-charge_spread.ensures cs body n))) in
    passed_told _ _ c.in_err-charge_spread.field-0.0 _ c.from_residual-in_err-charge_spread.result c.from_residual-in_err-charge_spread.ensures.1 (λ e p. p) stopped

pub of_selection-returns-in_err-of_alternatives : goal.of_selection-returns-in_err-of_alternatives
of_selection-returns-in_err-of_alternatives t c =
    let here = site_view c.args.site.now in
    let x = out-Case c.args.selection.now in
    let v = value_view x.selector in
    let gs = analysed.alternatives_view x.alternatives in
    let cs = choices_view x.last in
    let body = analysed.statements_of (analysed.statements_view x.others) in
    let alts = analysed.alternatives_of gs (analysed.last_alternative cs body) in
    let stopped : c.in_err-of_alternatives.field-0.0 ≢ NoMemory → MayTell (x.at ∷ alternatives_bytes alts) (paid (budget_view c.args.budget.now) (statement_costs here (units.case_of x.at v alts))) (fault_told c.in_err-of_alternatives.field-0.0) =
    λ n. alternatives_stop here x.at v (budget_view c.args.budget.now) gs cs body _ (spent_here x.at (budget_view c.args.budget.now) a_statement _ c.in_ok-charge_statement.ensures.spent)
    _ (same_spread here _ x.at v (analysed.last_alternative cs body) _ _ c.deref.ensures.value ∙ c.in_ok-charge_spread.ensures cs body)
    (tells_among (under x.at _ _ (then_among _ _ _ (same_among (λ as'. flat_map chosen_bytes (map analysed.alternative_view as')) _ _ c.deref-2.ensures.value) (alternatives_among gs (analysed.last_alternative cs body))))
    (tells_same (same_alternatives here _ _ _ c.deref-2.ensures.value) (c.in_err-of_alternatives.ensures n))) in
    passed_told _ _ c.in_err-of_alternatives.field-0.0 _ c.from_residual-in_err-of_alternatives.result c.from_residual-in_err-of_alternatives.ensures.1 (λ e p. p) stopped

pub of_selection-returns : goal.of_selection-returns
of_selection-returns t c =
    let here = site_view c.args.site.now in
    let x = out-Case c.args.selection.now in
    let v = value_view x.selector in
    let gs = analysed.alternatives_view x.alternatives in
    let cs = choices_view x.last in
    let body = analysed.statements_of (analysed.statements_view x.others) in
    charges_among _ _ _ _ _ (under x.at _ _ (then_among _ _ _ (same_among body_bytes _ _ c.deref-3.ensures.value) (others_among gs cs body))) (charges_alike _ _ _ _ _
    (alike_trans (alternatives_go here x.at v (budget_view c.args.budget.now) gs cs body _ (spent_here x.at (budget_view c.args.budget.now) a_statement _ c.in_ok-charge_statement.ensures.spent)
    _ (same_spread here _ x.at v (analysed.last_alternative cs body) _ _ c.deref.ensures.value ∙ c.in_ok-charge_spread.ensures cs body)
    _ (same_alternatives here _ _ _ c.deref-2.ensures.value ∙ c.in_ok-of_alternatives.ensures))
    (alike_same (same_list here _ _ _ c.deref-3.ensures.value)))
    c.of_statements.ensures)

-- ---- loop

pub of_loop-returns-in_err-turns-clause-given : goal.of_loop-returns-in_err-turns-clause-given
of_loop-returns-in_err-turns-clause-given t c =
    let here = site_view c.args.site.now in
    let body = analysed.statements_of (analysed.statements_view c.args.repeated.now.statements) in
    let stopped : MayTell (c.args.repeated.now.at ∷ statements_bytes body) (paid (budget_view c.args.budget.now) (statement_costs here (units.for_of c.args.repeated.now.at (range_view c.args.repeated.now.range) body))) (fault_told c.in_err-turns.field-0.0) =
    range_stops here c.args.repeated.now.at (budget_view c.args.budget.now) (range_view c.args.repeated.now.range) body
    ((turns_places (c.args.repeated.now.at ∷ statements_bytes body) here.integers c.args.repeated.now.at (range_view c.args.repeated.now.range) (first_among c.args.repeated.now.at (statements_bytes body))).placed _ c.in_err-turns.ensures) c.in_err-turns.ensures in
    passed_told _ _ c.in_err-turns.field-0.0 _ c.from_residual.result c.from_residual.ensures.1 (λ e p. p) (λ _. stopped)

pub of_loop-returns-in_err-charge_turns-clause-given : goal.of_loop-returns-in_err-charge_turns-clause-given
of_loop-returns-in_err-charge_turns-clause-given t c =
    let here = site_view c.args.site.now in
    let body = analysed.statements_of (analysed.statements_view c.args.repeated.now.statements) in
    let stopped : MayTell (c.args.repeated.now.at ∷ statements_bytes body) (paid (budget_view c.args.budget.now) (statement_costs here (units.for_of c.args.repeated.now.at (range_view c.args.repeated.now.range) body))) (fault_told c.in_err-charge_turns.field-0.0) =
    count_stops here c.args.repeated.now.at (budget_view c.args.budget.now) (range_view c.args.repeated.now.range) body c.in_ok-turns.turns.direction c.in_ok-turns.turns.first c.in_ok-turns.turns.count
    c.in_ok-turns.ensures (spent_stops c.args.repeated.now.at (budget_view c.args.budget.now) (costs.turns c.in_ok-turns.turns.count) c.in_err-charge_turns.ensures.spent
    (told_where (c.args.repeated.now.at ∷ statements_bytes body) c.args.repeated.now.at c.in_err-charge_turns.field-0.0 c.in_err-charge_turns.ensures.fault (first_among c.args.repeated.now.at (statements_bytes body)))) in
    passed_told _ _ c.in_err-charge_turns.field-0.0 _ c.from_residual-in_err-charge_turns.result c.from_residual-in_err-charge_turns.ensures.1 (λ e p. p) (λ _. stopped)

pub of_loop-loop-turn-init : goal.of_loop-loop-turn-init
of_loop-loop-turn-init t c =
    let here = site_view c.args.site.now in
    let body = analysed.statements_of (analysed.statements_view c.args.repeated.now.statements) in
    turns_begin here c.args.repeated.now.at (budget_view c.args.budget.now) (range_view c.args.repeated.now.range) body _ c.in_ok-turns.turns.direction c.in_ok-turns.turns.first c.in_ok-turns.turns.count
    c.in_ok-turns.ensures (spent_here c.args.repeated.now.at (budget_view c.args.budget.now) (costs.turns c.in_ok-turns.turns.count) _ c.in_ok-charge_turns.ensures.spent)

pub of_loop-loop-turn-preserved : goal.of_loop-loop-turn-preserved
of_loop-loop-turn-preserved t c =
    let here = site_view c.args.site.now in
    let body = analysed.statements_of (analysed.statements_view c.args.repeated.now.statements) in
    let fixed = same_word c.parameter-value.result (search rules) in
    turns_go (λ i. statements_costs (in_loop here i) body) c.in_ok-turns.turns.direction c.in_ok-turns.turns.first c.in_ok-turns.turns.count _ _ _ c.loop-turn.turn c.parameter-value.result
    c.loop-turn-test.true c.parameter-value.ensures c.loop-turn.invariant (same_turn here _ body _ _ fixed ∙ c.in_ok-of_turn.ensures)

pub of_loop-returns-in_err-of_turn-clause-given : goal.of_loop-returns-in_err-of_turn-clause-given
of_loop-returns-in_err-of_turn-clause-given t c =
    let here = site_view c.args.site.now in
    let body = analysed.statements_of (analysed.statements_view c.args.repeated.now.statements) in
    let fixed = same_word c.parameter-value.result (search rules) in
    let stopped : c.in_err-of_turn.field-0.0 ≢ NoMemory
    → MayTell (c.args.repeated.now.at ∷ statements_bytes body) (paid (budget_view c.args.budget.now) (statement_costs here (units.for_of c.args.repeated.now.at (range_view c.args.repeated.now.range) body))) (fault_told c.in_err-of_turn.field-0.0) =
    λ n. turns_stop (λ i. statements_costs (in_loop here i) body) c.in_ok-turns.turns.direction c.in_ok-turns.turns.first c.in_ok-turns.turns.count _ _ c.loop-turn.turn c.parameter-value.result
    c.loop-turn-test.true c.parameter-value.ensures c.loop-turn.invariant (tells_same (same_turn here _ body _ _ fixed) (c.in_err-of_turn.ensures n)) in
    passed_told _ _ c.in_err-of_turn.field-0.0 _ c.from_residual-in_err-of_turn.result c.from_residual-in_err-of_turn.ensures.1 (λ e p. p) stopped

pub of_loop-returns-clause-given : goal.of_loop-returns-clause-given
of_loop-returns-clause-given t c =
    let here = site_view c.args.site.now in
    let body = analysed.statements_of (analysed.statements_view c.args.repeated.now.statements) in
    turns_end (λ i. statements_costs (in_loop here i) body) c.in_ok-turns.turns.direction c.in_ok-turns.turns.first c.in_ok-turns.turns.count _ _ c.loop-turn.turn (omega arith) c.loop-turn.invariant

pub of_loop-returns-in_err-turns-clause-turned : goal.of_loop-returns-in_err-turns-clause-turned
of_loop-returns-in_err-turns-clause-turned t c =
    turns_told (site_view c.args.site.now).integers c.args.repeated.now.at (range_view c.args.repeated.now.range) c.in_err-turns.field-0.0 _ c.from_residual.result c.from_residual.ensures.1 (λ e p. p) c.in_err-turns.ensures

pub of_loop-returns-in_err-charge_turns-clause-turned : goal.of_loop-returns-in_err-charge_turns-clause-turned
of_loop-returns-in_err-charge_turns-clause-turned t c = turns_given (site_view c.args.site.now).integers c.args.repeated.now.at (range_view c.args.repeated.now.range) _ _ c.in_ok-turns.ensures

pub of_loop-returns-in_err-of_turn-clause-turned : goal.of_loop-returns-in_err-of_turn-clause-turned
of_loop-returns-in_err-of_turn-clause-turned t c = turns_given (site_view c.args.site.now).integers c.args.repeated.now.at (range_view c.args.repeated.now.range) _ _ c.in_ok-turns.ensures

pub of_loop-returns-clause-turned : goal.of_loop-returns-clause-turned
of_loop-returns-clause-turned t c = turns_given {X = Unit {0}} (site_view c.args.site.now).integers c.args.repeated.now.at (range_view c.args.repeated.now.range) _ (Ok tt) c.in_ok-turns.ensures

-- ---- what is paid at once, and the ends of lists

pub of_statement-returns-in-Null : goal.of_statement-returns-in-Null
unfolding statement_costs
of_statement-returns-in-Null t c =
    charges_alike _ _ _ _ _ (alike_same (ap (λ x. paid (budget_view c.args.budget.now) (statement_costs (site_view c.args.site.now) (analysed.statement_view x))) c.in-Null.is))
    (charged_alone _ _ c.args.at (budget_view c.args.budget.now) a_statement _ (first_among c.args.at _) c.charge_statement.ensures.spent c.charge_statement.ensures.fault)

pub of_statement-returns-in-Assign : goal.of_statement-returns-in-Assign
unfolding statement_costs
of_statement-returns-in-Assign t c =
    charges_alike _ _ _ _ _ (alike_same (ap (λ x. paid (budget_view c.args.budget.now) (statement_costs (site_view c.args.site.now) (analysed.statement_view x))) c.in-Assign.is))
    (charged_alone _ _ c.in-Assign.target.at (budget_view c.args.budget.now) a_statement _ (shown c.args.at _ (statement_bytes (analysed.statement_view (variants.Assign c.in-Assign.target c.in-Assign.value))) (ap (λ x. statement_bytes (analysed.statement_view x)) c.in-Assign.is) _ (first_among c.in-Assign.target.at _)) c.charge_statement-in-Assign.ensures.spent c.charge_statement-in-Assign.ensures.fault)

pub of_statement-returns-in-Set : goal.of_statement-returns-in-Set
unfolding statement_costs
of_statement-returns-in-Set t c =
    charges_alike _ _ _ _ _ (alike_same (ap (λ x. paid (budget_view c.args.budget.now) (statement_costs (site_view c.args.site.now) (analysed.statement_view x))) c.in-Set.is))
    (charged_alone _ _ c.in-Set.at (budget_view c.args.budget.now) a_statement _ (shown c.args.at _ (statement_bytes (analysed.statement_view (variants.Set c.in-Set.at c.in-Set.variable c.in-Set.part c.in-Set.value))) (ap (λ x. statement_bytes (analysed.statement_view x)) c.in-Set.is) _ (first_among c.in-Set.at _)) c.charge_statement-in-Set.ensures.spent c.charge_statement-in-Set.ensures.fault)

pub of_statement-returns-in-AssignIn : goal.of_statement-returns-in-AssignIn
unfolding statement_costs
of_statement-returns-in-AssignIn t c =
    charges_alike _ _ _ _ _ (alike_same (ap (λ x. paid (budget_view c.args.budget.now) (statement_costs (site_view c.args.site.now) (analysed.statement_view x))) c.in-AssignIn.is))
    (charged_alone _ _ c.in-AssignIn.at (budget_view c.args.budget.now) a_statement _ (shown c.args.at _ (statement_bytes (analysed.statement_view (variants.AssignIn c.in-AssignIn.at c.in-AssignIn.signal c.in-AssignIn.part c.in-AssignIn.value))) (ap (λ x. statement_bytes (analysed.statement_view x)) c.in-AssignIn.is) _ (first_among c.in-AssignIn.at _)) c.charge_statement-in-AssignIn.ensures.spent c.charge_statement-in-AssignIn.ensures.fault)

pub of_statement-returns-in-SetIn : goal.of_statement-returns-in-SetIn
unfolding statement_costs
of_statement-returns-in-SetIn t c =
    charges_alike _ _ _ _ _ (alike_same (ap (λ x. paid (budget_view c.args.budget.now) (statement_costs (site_view c.args.site.now) (analysed.statement_view x))) c.in-SetIn.is))
    (charged_alone _ _ c.in-SetIn.at (budget_view c.args.budget.now) a_statement _ (shown c.args.at _ (statement_bytes (analysed.statement_view (variants.SetIn c.in-SetIn.at c.in-SetIn.variable c.in-SetIn.part c.in-SetIn.value))) (ap (λ x. statement_bytes (analysed.statement_view x)) c.in-SetIn.is) _ (first_among c.in-SetIn.at _)) c.charge_statement-in-SetIn.ensures.spent c.charge_statement-in-SetIn.ensures.fault)

pub of_statements-returns : goal.of_statements-returns
of_statements-returns t c =
    list_end (statement_costs (site_view c.args.site.now)) analysed.statement_view _ (budget_view c.loop-statement.budget) _ (none_left c.args.list.now c.loop-statement.statement-index (omega arith)) c.loop-statement.invariant

pub of_branches-loop-branch-init : goal.of_branches-loop-branch-init
of_branches-loop-branch-init t c =
    alike_same refl

pub of_branches-returns : goal.of_branches-returns
of_branches-returns t c =
    list_end (guarded_costs (site_view c.args.site.now)) analysed.branch_view _ (budget_view c.loop-branch.budget) _ (none_left c.args.list.now c.loop-branch.branch-index (omega arith)) c.loop-branch.invariant

pub of_alternatives-loop-alternative-init : goal.of_alternatives-loop-alternative-init
of_alternatives-loop-alternative-init t c =
    alike_same refl

pub of_alternatives-returns : goal.of_alternatives-returns
of_alternatives-returns t c =
    list_end (chosen_costs (site_view c.args.site.now)) analysed.alternative_view _ (budget_view c.loop-alternative.budget) _ (none_left c.args.list.now c.loop-alternative.alternative-index (omega arith)) c.loop-alternative.invariant
