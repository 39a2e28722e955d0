use Rattle.std.proofs.Common.{List, Vec, Global, Err, ◌≡◌, ◌<◌, length, map, ap, ◌∙◌, sym, subst, refl, arith, rules}
use Rattle.std.specs.Prelude.{◌≢◌, Ok}
use Rattle.std.proofs.lemmas.Grind.{common_steps}
use Rattle.rtl_model.specs.bodies.Body as bodies
use Rattle.rtl_net.specs.declared.body.Choice.{Choice}
use Rattle.rtl_net.specs.declared.body.Test.{Test}
use Rattle.rtl_net.specs.declared.body.Statement.TheVariants as s
use Rattle.rtl_net.specs.Bodies as net
use Rattle.rtl_net.specs.Bodies.{statements_of}
use Rattle.vhdl_names_trees.specs.views.Integers.{range_view}
use Rattle.vhdl_names_trees.specs.views.Vectors.{value_view}
use Rattle.vhdl_names_units.specs.declared.sequential.Case.{out-Case}
use Rattle.vhdl_names_units.specs.declared.sequential.If.{out-If}
use Rattle.vhdl_names_units.specs.declared.sequential.Statement as analysed_statement
use Rattle.vhdl_names_units.specs.views.Answers as answers
use Rattle.vhdl_names_units.specs.views.Sequential as analysed
use Rattle.vhdl_expand_rules.specs.declared.fault.ElabFault.TheVariants.{NoMemory}
use Rattle.vhdl_expand_rules.specs.Statements as definition
use Rattle.vhdl_expand_rules.proofs.Modulus.{same_word}
use Rattle.vhdl_expand_rules.proofs.Items.{none_left}
use Rattle.vhdl_expand_choices.specs.Views.{codes_by}
use Rattle.vhdl_expand_bodies.specs.Sites.{site_view}
use Rattle.vhdl_expand_statements.specs.Statements.{branch_view, branches_view, alternative_view, alternatives_view, otherwise_view}
use Rattle.vhdl_expand_statements.specs.steps.Statements as steps
use Rattle.vhdl_expand_statements.specs.steps.Statements.{after}
use Rattle.vhdl_expand_operands.proofs.Passing.{expands_along, passed_on, none_behind, made_by, refused_by, on}
use Rattle.vhdl_expand_statements.proofs.Parts.{branch_of, alternative_of, added_gives, null_one, assign_by, set_by, assign_in_by, set_in_by, if_made, if_by, case_made, case_by, loop_is, same_turn, turned_goes}
use Rattle.vhdl_expand_statements.proofs.Sequences.{list_goes, list_stops, list_ends, turns_go, turns_stop, turns_end}
use Rattle.vhdl_expand_operands.proofs.Several.{each_adds, each_refuses, each_ends}
use Rattle.vhdl_expand_rules.specs.Elab.{Elab, ◌>>=◌, each, fault_told}
use Rattle.vhdl_expand_statements.proofs.statements.+statement.Goals as goal

pub add_statement-returns-in-Null : goal.add_statement-returns-in-Null
add_statement-returns-in-Null t c =
    let here = site_view c.args.site.now in
    let h = ap (λ x. definition.statement here (analysed.statement_view x)) c.in-Null.is ∙ null_one here in
    added_gives c.args.body.now.items c.add.new.list.items (Ok bodies.null_of) _ (Ok s.Null) c.add.result h refl c.add.ensures

pub add_statement-returns-in-Assign : goal.add_statement-returns-in-Assign
add_statement-returns-in-Assign t c =
    let here = site_view c.args.site.now in
    let h = ap (λ x. definition.statement here (analysed.statement_view x)) c.in-Assign.is ∙ assign_by here _ _ in
    added_gives c.args.body.now.items c.add-in-Assign.new.list.items _ _ c.assign.result c.add-in-Assign.result h c.assign.ensures c.add-in-Assign.ensures

pub add_statement-returns-in-Set : goal.add_statement-returns-in-Set
add_statement-returns-in-Set t c =
    let here = site_view c.args.site.now in
    let h = ap (λ x. definition.statement here (analysed.statement_view x)) c.in-Set.is ∙ set_by here _ _ _ _ in
    added_gives c.args.body.now.items c.add-in-Set.new.list.items _ _ c.set.result c.add-in-Set.result h c.set.ensures c.add-in-Set.ensures

pub add_statement-returns-in-AssignIn : goal.add_statement-returns-in-AssignIn
add_statement-returns-in-AssignIn t c =
    let here = site_view c.args.site.now in
    let h = ap (λ x. definition.statement here (analysed.statement_view x)) c.in-AssignIn.is ∙ assign_in_by here _ _ _ _ in
    added_gives c.args.body.now.items c.add-in-AssignIn.new.list.items _ _ c.assign_in.result c.add-in-AssignIn.result h c.assign_in.ensures c.add-in-AssignIn.ensures

pub add_statement-returns-in-SetIn : goal.add_statement-returns-in-SetIn
add_statement-returns-in-SetIn t c =
    let here = site_view c.args.site.now in
    let h = ap (λ x. definition.statement here (analysed.statement_view x)) c.in-SetIn.is ∙ set_in_by here _ _ _ _ in
    added_gives c.args.body.now.items c.add-in-SetIn.new.list.items _ _ c.set_in.result c.add-in-SetIn.result h c.set_in.ensures c.add-in-SetIn.ensures

pub add_statement-returns-in-If : goal.add_statement-returns-in-If
add_statement-returns-in-If t c =
    let here = site_view c.args.site.now in
    let h = ap (λ x. definition.statement here (analysed.statement_view x)) c.in-If.is ∙ if_by here c.in-If.branched in
    added_gives c.args.body.now.items c.add-in-If.new.list.items _ _ c.conditional.result c.add-in-If.result h c.conditional.ensures c.add-in-If.ensures

pub add_statement-returns-in-Case : goal.add_statement-returns-in-Case
add_statement-returns-in-Case t c =
    let here = site_view c.args.site.now in
    let h = ap (λ x. definition.statement here (analysed.statement_view x)) c.in-Case.is ∙ case_by here c.in-Case.selected in
    added_gives c.args.body.now.items c.add-in-Case.new.list.items _ _ c.selection.result c.add-in-Case.result h c.selection.ensures c.add-in-Case.ensures

pub add_statement-returns-in-Loop : goal.add_statement-returns-in-Loop
add_statement-returns-in-Loop t c =
    let here = site_view c.args.site.now in
    let h = ap (λ x. definition.statement here (analysed.statement_view x)) c.in-Loop.is
    ∙ loop_is here c.in-Loop.repeated in
    expands_along _ _ _ _ (ap (after _) h) c.add_turns.ensures

pub conditional-returns : goal.conditional-returns
conditional-returns t c =
    let made = c.in_ok-branches-2 in
    let here = site_view c.args.site.now in
    let is : steps.conditional here (analysed.branches_view (out-If c.args.conditional.now).branches)
    (analysed.last_of (analysed.option_statements_view (out-If c.args.conditional.now).otherwise))
    ≡ Ok (bodies.if_of (steps.branches_before (otherwise_view made.otherwise) (branches_view made.branches))) = first_of (search rules, grind (arith, common_steps)) in
    is ∙ ap Ok (sym (if_made c.byte.result made.branches made.otherwise))

pub selection-returns : goal.selection-returns
unfolding out-Case
selection-returns t c =
    let made = c.in_ok-selector-3 in
    let here = site_view c.args.site.now in
    let is : steps.selection here (out-Case c.args.selection.now).at (value_view (out-Case c.args.selection.now).selector) (analysed.alternatives_view (out-Case c.args.selection.now).alternatives)
    (answers.choices_view (out-Case c.args.selection.now).last) (analysed.statements_of (analysed.statements_view (out-Case c.args.selection.now).others))
    ≡ Ok (bodies.case_of (net.value_view made.selector.value) (steps.alternatives_before (statements_of made.others.items) (alternatives_view made.alternatives)))
    = first_of (search rules, grind (arith, common_steps)) in
    is ∙ ap Ok (sym (case_made c.byte.result made.selector.value made.alternatives made.others))

pub add_statements-loop-statement-preserved : goal.add_statements-loop-statement-preserved
add_statements-loop-statement-preserved t c =
    let i = c.loop-statement.statement-index in
    let below : i < length c.args.list.now = omega arith in
    list_goes (site_view c.args.site.now) analysed.statement_view _ _ _ c.args.list.now i c.statement-item.result below c.statement-item.is
    c.loop-statement.invariant c.in_ok-add_statement.ensures

pub add_statements-returns : goal.add_statements-returns
add_statements-returns t c =
    list_ends (site_view c.args.site.now) analysed.statement_view _ _ c.args.list.now _ (none_left c.args.list.now c.loop-statement.statement-index (omega arith)) c.loop-statement.invariant

pub add_statements-returns-in_err-add_statement : goal.add_statements-returns-in_err-add_statement
add_statements-returns-in_err-add_statement t c =
    let here = site_view c.args.site.now in
    let i = c.loop-statement.statement-index in
    let below : i < length c.args.list.now = omega arith in
    let stopped : c.in_err-add_statement.field-0.0 ≢ NoMemory
    → (after (statements_of c.args.body.now.items) (definition.statements here (analysed.statements_of (map analysed.statement_view c.args.list.now)))) ≡ Err (fault_told c.in_err-add_statement.field-0.0) =
    λ n. list_stops here analysed.statement_view _ _ c.args.list.now i c.statement-item.result below c.statement-item.is c.loop-statement.invariant (c.in_err-add_statement.ensures n) in
    passed_on _ _ c.in_err-add_statement.field-0.0 _ c.from_residual.result c.from_residual.ensures.1 (λ e p. p) stopped

pub add_turns-returns-in_err-add_turn : goal.add_turns-returns-in_err-add_turn
add_turns-returns-in_err-add_turn t c =
    let here = site_view c.args.site.now in
    let body = analysed.statements_of (analysed.statements_view c.args.repeated.now.statements) in
    let fixed = same_word c.parameter-value.result (search rules) in
    let stopped : c.in_err-add_turn.field-0.0 ≢ NoMemory
    → (after (statements_of c.args.body.now.items) (steps.turned here c.args.repeated.now.at (range_view c.args.repeated.now.range) body)) ≡ Err (fault_told c.in_err-add_turn.field-0.0) =
    λ n. subst (λ (r : Elab bodies.Stmts). r ≡ Err (fault_told c.in_err-add_turn.field-0.0)) (sym (turned_goes here c.args.repeated.now.at (range_view c.args.repeated.now.range) body _ (statements_of c.args.body.now.items) c.in_ok-turns.ensures))
    (turns_stop here body _ (statements_of c.loop-turn.body.items) c.in_ok-turns.turns.direction c.in_ok-turns.turns.first c.parameter-value.result c.in_ok-turns.turns.count c.loop-turn.turn c.loop-turn-test.true c.loop-turn.invariant c.parameter-value.ensures
    (subst (λ (r : Elab bodies.Stmts). r ≡ Err (fault_told c.in_err-add_turn.field-0.0)) (sym (same_turn here (statements_of c.loop-turn.body.items) _ _ _ _ fixed c.deref.ensures.value)) (c.in_err-add_turn.ensures n))) in
    passed_on _ _ c.in_err-add_turn.field-0.0 _ c.from_residual-in_err-add_turn.result c.from_residual-in_err-add_turn.ensures.1 (λ e p. p) stopped

pub add_turns-loop-turn-preserved : goal.add_turns-loop-turn-preserved
add_turns-loop-turn-preserved t c =
    let here = site_view c.args.site.now in
    let body = analysed.statements_of (analysed.statements_view c.args.repeated.now.statements) in
    let fixed = same_word c.parameter-value.result (search rules) in
    turns_go here body _ (statements_of c.loop-turn.body.items) _ c.in_ok-turns.turns.direction c.in_ok-turns.turns.first c.parameter-value.result c.in_ok-turns.turns.count c.loop-turn.turn c.loop-turn-test.true c.loop-turn.invariant c.parameter-value.ensures
    (same_turn here (statements_of c.loop-turn.body.items) _ _ _ _ fixed c.deref.ensures.value ∙ c.in_ok-add_turn.ensures)

pub add_turns-returns : goal.add_turns-returns
add_turns-returns t c =
    let here = site_view c.args.site.now in
    let body = analysed.statements_of (analysed.statements_view c.args.repeated.now.statements) in
    turned_goes here c.args.repeated.now.at (range_view c.args.repeated.now.range) body _ (statements_of c.args.body.now.items) c.in_ok-turns.ensures
    ∙ turns_end here body _ _ c.in_ok-turns.turns.direction c.in_ok-turns.turns.first c.in_ok-turns.turns.count c.loop-turn.turn (omega arith) c.loop-turn.invariant

-- ---- branches and alternatives

pub branches-loop-item-init : goal.branches-loop-item-init
branches-loop-item-init t c =
    none_behind _ (each (steps.branch (site_view c.args.site.now)) (map analysed.branch_view c.args.list.now)) (ap (map branch_view) c.new-branches.ensures.items)

pub branches-loop-item-preserved : goal.branches-loop-item-preserved
branches-loop-item-preserved t c =
    let i = c.loop-item.item-index in
    let below : i < length c.args.list.now = omega arith in
    each_adds (steps.branch (site_view c.args.site.now)) analysed.branch_view branch_view _ c.loop-item.branches.items c.add.new.list.items c.args.list.now i c.item-item.result c.branch-site.result below c.item-item.is c.loop-item.invariant c.branch-site.ensures c.in_ok-add.ensures

pub branches-returns-in_err-add : goal.branches-returns-in_err-add
branches-returns-in_err-add t c =
    let i = c.loop-item.item-index in
    let below : i < length c.args.list.now = omega arith in
    let stopped : c.in_err-add.field-0.0 ≢ NoMemory → each (steps.branch (site_view c.args.site.now)) (map analysed.branch_view c.args.list.now) ≡ Err (fault_told c.in_err-add.field-0.0) =
    each_refuses (steps.branch (site_view c.args.site.now)) analysed.branch_view branch_view _ c.loop-item.branches.items c.add.new.list.items c.args.list.now i c.item-item.result c.branch-site.result c.in_err-add.field-0.0 below c.item-item.is c.loop-item.invariant c.branch-site.ensures c.in_err-add.ensures in
    passed_on _ _ c.in_err-add.field-0.0 _ c.from_residual.result c.from_residual.ensures.1 (λ e p. p) stopped

pub branches-returns : goal.branches-returns
branches-returns t c =
    each_ends (steps.branch (site_view c.args.site.now)) analysed.branch_view _ (map branch_view c.loop-item.branches.items) _ (none_left c.args.list.now c.loop-item.item-index (omega arith)) c.loop-item.invariant

pub alternatives-loop-item-init : goal.alternatives-loop-item-init
alternatives-loop-item-init t c =
    none_behind _ (each (steps.alternative (site_view c.args.site.now) (codes_by (site_view c.args.site.now).integers c.args.at c.args.coding)) (map analysed.alternative_view c.args.list.now)) (ap (map alternative_view) c.new-alternatives.ensures.items)

pub alternatives-loop-item-preserved : goal.alternatives-loop-item-preserved
alternatives-loop-item-preserved t c =
    let i = c.loop-item.item-index in
    let below : i < length c.args.list.now = omega arith in
    each_adds (steps.alternative (site_view c.args.site.now) (codes_by (site_view c.args.site.now).integers c.args.at c.args.coding)) analysed.alternative_view alternative_view _ c.loop-item.alternatives.items c.add.new.list.items c.args.list.now i c.item-item.result c.alternative.result below c.item-item.is c.loop-item.invariant c.alternative.ensures c.in_ok-add.ensures

pub alternatives-returns-in_err-add : goal.alternatives-returns-in_err-add
alternatives-returns-in_err-add t c =
    let i = c.loop-item.item-index in
    let below : i < length c.args.list.now = omega arith in
    let stopped : c.in_err-add.field-0.0 ≢ NoMemory → each (steps.alternative (site_view c.args.site.now) (codes_by (site_view c.args.site.now).integers c.args.at c.args.coding)) (map analysed.alternative_view c.args.list.now) ≡ Err (fault_told c.in_err-add.field-0.0) =
    each_refuses (steps.alternative (site_view c.args.site.now) (codes_by (site_view c.args.site.now).integers c.args.at c.args.coding)) analysed.alternative_view alternative_view _ c.loop-item.alternatives.items c.add.new.list.items c.args.list.now i c.item-item.result c.alternative.result c.in_err-add.field-0.0 below c.item-item.is c.loop-item.invariant c.alternative.ensures c.in_err-add.ensures in
    passed_on _ _ c.in_err-add.field-0.0 _ c.from_residual.result c.from_residual.ensures.1 (λ e p. p) stopped

pub alternatives-returns : goal.alternatives-returns
alternatives-returns t c =
    each_ends (steps.alternative (site_view c.args.site.now) (codes_by (site_view c.args.site.now).integers c.args.at c.args.coding)) analysed.alternative_view _ (map alternative_view c.loop-item.alternatives.items) _ (none_left c.args.list.now c.loop-item.item-index (omega arith)) c.loop-item.invariant

-- ---- two parts, one after the other

pub branch-returns-in_err-test : goal.branch-returns-in_err-test
branch-returns-in_err-test t c =
    passed_on _ _ c.in_err-test.field-0.0 _ c.from_residual.result c.from_residual.ensures.1 (λ e p. p)
    (λ n. on (λ b. definition.statements (site_view c.args.site.now) (analysed.statements_of (analysed.branch_view c.args.branch.now).statements) >>= λ x. branch_of b x) _ _ (c.in_err-test.ensures n))

pub branch-returns-in_err-test-2 : goal.branch-returns-in_err-test-2
branch-returns-in_err-test-2 t c =
    passed_on _ _ c.in_err-test-2.field-0.0 _ c.from_residual-in_err-test-2.result c.from_residual-in_err-test-2.ensures.1 (λ e p. p)
    (λ n. on (λ b. definition.statements (site_view c.args.site.now) (analysed.statements_of (analysed.branch_view c.args.branch.now).statements) >>= λ x. branch_of b x) _ _ c.in_ok-test.ensures
    ∙ on (λ x. branch_of (net.test_view c.in_ok-test.test) x) _ _ (ap (λ (xs : List analysed_statement.Statement). definition.statements (site_view c.args.site.now) (analysed.statements_of (map analysed.statement_view xs))) (sym c.deref.ensures.value) ∙ refused_by _ _ _ _ c.in_err-test-2.ensures.fault c.body.ensures n))

pub branch-returns : goal.branch-returns
branch-returns t c =
    on (λ b. definition.statements (site_view c.args.site.now) (analysed.statements_of (analysed.branch_view c.args.branch.now).statements) >>= λ x. branch_of b x) _ _ c.in_ok-test.ensures
    ∙ on (λ x. branch_of (net.test_view c.in_ok-test.test) x) _ _ (ap (λ (xs : List analysed_statement.Statement). definition.statements (site_view c.args.site.now) (analysed.statements_of (map analysed.statement_view xs))) (sym c.deref.ensures.value) ∙ made_by (λ v. statements_of v.items) _ _ _ c.in_ok-test-2.ensures.both.0 c.body.ensures)
    ∙ ap (λ (b : Test). branch_of (net.test_view b) (statements_of c.in_ok-test-2.statements.items)) c.in_ok-test-2.ensures.both.1

pub alternative-returns-in_err-choices : goal.alternative-returns-in_err-choices
alternative-returns-in_err-choices t c =
    passed_on _ _ c.in_err-choices.field-0.0 _ c.from_residual.result c.from_residual.ensures.1 (λ e p. p)
    (λ n. on (λ l. definition.statements (site_view c.args.site.now) (analysed.statements_of (analysed.alternative_view c.args.alternative.now).statements) >>= λ x. alternative_of l x) _ _ (ap (λ xs. codes_by (site_view c.args.site.now).integers c.args.at c.args.coding (map answers.choice_view xs)) (sym c.deref.ensures.value) ∙ c.in_err-choices.ensures n))

pub alternative-returns-in_err-choices-2 : goal.alternative-returns-in_err-choices-2
alternative-returns-in_err-choices-2 t c =
    passed_on _ _ c.in_err-choices-2.field-0.0 _ c.from_residual-in_err-choices-2.result c.from_residual-in_err-choices-2.ensures.1 (λ e p. p)
    (λ n. on (λ l. definition.statements (site_view c.args.site.now) (analysed.statements_of (analysed.alternative_view c.args.alternative.now).statements) >>= λ x. alternative_of l x) _ _ (ap (λ xs. codes_by (site_view c.args.site.now).integers c.args.at c.args.coding (map answers.choice_view xs)) (sym c.deref.ensures.value) ∙ c.in_ok-choices.ensures)
    ∙ on (λ x. alternative_of (map net.choice_view c.in_ok-choices.choices.items) x) _ _ (ap (λ (xs : List analysed_statement.Statement). definition.statements (site_view c.args.site.now) (analysed.statements_of (map analysed.statement_view xs))) (sym c.deref-2.ensures.value) ∙ refused_by _ _ _ _ c.in_err-choices-2.ensures.fault c.body-statements.ensures n))

pub alternative-returns : goal.alternative-returns
alternative-returns t c =
    on (λ l. definition.statements (site_view c.args.site.now) (analysed.statements_of (analysed.alternative_view c.args.alternative.now).statements) >>= λ x. alternative_of l x) _ _ (ap (λ xs. codes_by (site_view c.args.site.now).integers c.args.at c.args.coding (map answers.choice_view xs)) (sym c.deref.ensures.value) ∙ c.in_ok-choices.ensures)
    ∙ on (λ x. alternative_of (map net.choice_view c.in_ok-choices.choices.items) x) _ _ (ap (λ (xs : List analysed_statement.Statement). definition.statements (site_view c.args.site.now) (analysed.statements_of (map analysed.statement_view xs))) (sym c.deref-2.ensures.value) ∙ made_by (λ v. statements_of v.items) _ _ _ c.in_ok-choices-2.ensures.both.0 c.body-statements.ensures)
    ∙ ap (λ (v : Vec Choice Global). alternative_of (map net.choice_view v.items) (statements_of c.in_ok-choices-2.statements.items)) c.in_ok-choices-2.ensures.both.1
