use Rattle.std.proofs.Common.{◌<◌, length, map, drop, refl, sym, ap, ◌∙◌, arith, subst}
use Rattle.std.proofs.lemmas.List.{drop_all, length-map}
use Rattle.rtl_model.specs.bodies.Body as bodies
use Rattle.vhdl_values.specs.Scalar.{code_of}
use Rattle.rtl_model.specs.bodies.Rows.{row_at}
use Rattle.rtl_model.specs.bodies.Values.{Seen, elements_of, value_of, targets_at, given_at}
use Rattle.rtl_model.specs.bodies.Variables.{values_put}
use Rattle.rtl_net.specs.Indices.{numbers}
use Rattle.rtl_net.specs.Bodies.{spacing_view, expr_view, value_view, statement_view, statements_of}
use Rattle.rtl_eval.specs.Evaluations.{codes_of}
use Rattle.rtl_eval.specs.Seeing.{seen_of}
use Rattle.rtl_eval.specs.Running.{seen_by, assigned, IsFirstTrue, NoneIsTrue, else_of, met_by, chosen_by}
use Rattle.rtl_eval.proofs.Doing.{does_assign, does_put, places_fit, elements_fit, rows_fit, rows_of_elements_fit}
use Rattle.rtl_eval.proofs.Ready.{part, whole, if_ready, if_done, else_ready, else_done, no_else_done, case_ready, case_done, first_ready, rest_ready, all_done, none_left}
use Rattle.rtl_eval.proofs.Ready.{tests_ready, branch_ready, last_ready, branch_done, last_done, alternative_ready, others_ready, alternative_done, others_done}
use Rattle.rtl_eval.proofs.StatementWeights.{weight, weight_of, branches_weight, otherwise_weight, alternatives_weight, branch_weight, alternative_weight, if_weight, case_weight}
use Rattle.rtl_eval.proofs.Totals.{lighter, lighter_at}
use Rattle.rtl_eval.proofs.statements.+statement.Goals as goal

-- ---- assignments

pub run-assign-requires : goal.run-assign-requires
run-assign-requires t c =
    let o = c.args.out.now in
    let v = value_view c.in-Assign.value in
    let codes = c.evaluate-value.ensures ∙ ap (λ (seen : Seen). value_of seen v) c.seeing.ensures in
    let fit = places_fit c.args.nets o (numbers c.in-Assign.places) (codes_of c.evaluate-value.result) v (part c.args.nets o c.args.statement.now (bodies.assign (numbers c.in-Assign.places) v) c.requires (ap statement_view c.in-Assign.is)) codes in
    record { as_many = fit.0; there = fit.1 }

pub run-returns-in-Assign : goal.run-returns-in-Assign
run-returns-in-Assign t c =
    let o = c.args.out.now in
    let v = value_view c.in-Assign.value in
    let codes = c.evaluate-value.ensures ∙ ap (λ (seen : Seen). value_of seen v) c.seeing.ensures in
    whole c.args.nets o c.args.statement.now (bodies.assign (numbers c.in-Assign.places) v) c.assign.new.out (ap statement_view c.in-Assign.is)
    (does_assign (numbers c.in-Assign.places) (value_of (seen_by c.args.nets o) v) (codes_of c.evaluate-value.result) o c.assign.new.out codes c.assign.ensures)

pub run-set-requires : goal.run-set-requires
run-set-requires t c =
    let o = c.args.out.now in
    let v = value_view c.in-Set.value in
    let codes = c.evaluate-value-in-Set.ensures ∙ ap (λ (seen : Seen). value_of seen v) c.seeing-in-Set.ensures in
    let fit = elements_fit c.args.nets o (numbers c.in-Set.elements) (codes_of c.evaluate-value-in-Set.result) v (part c.args.nets o c.args.statement.now (bodies.set (numbers c.in-Set.elements) v) c.requires (ap statement_view c.in-Set.is)) codes in
    record { as_many = fit.0; there = fit.1 }

-- ---- assignments to rows

pub run-assign_row-requires : goal.run-assign_row-requires
run-assign_row-requires t c =
    let o = c.args.out.now in
    let i = c.in-AssignAt in
    let x = bodies.assign_at (expr_view i.index) (spacing_view i.spacing) (numbers i.places) (expr_view i.value) in
    let fit = rows_fit c.args.nets o (expr_view i.index) (spacing_view i.spacing) (expr_view i.value) (numbers i.places) (part c.args.nets o c.args.statement.now x c.requires (ap statement_view i.is)) in
    let value = c.value-value.ensures ∙ ap (λ (seen : Seen). elements_of seen (expr_view i.value)) c.seeing-in-AssignAt-2.ensures in
    record { spacing = fit.0; as_long = fit.1 ∙ ap length (sym value); there = fit.2 }

pub run-returns-in-AssignAt : goal.run-returns-in-AssignAt
run-returns-in-AssignAt t c =
    let o = c.args.out.now in
    let i = c.in-AssignAt in
    let x = bodies.assign_at (expr_view i.index) (spacing_view i.spacing) (numbers i.places) (expr_view i.value) in
    let index = c.value-index.ensures ∙ ap (λ (seen : Seen). elements_of seen (expr_view i.index)) c.seeing-in-AssignAt.ensures in
    let value = c.value-value.ensures ∙ ap (λ (seen : Seen). elements_of seen (expr_view i.value)) c.seeing-in-AssignAt-2.ensures in
    let row = row_at (spacing_view i.spacing) (numbers i.places) (elements_of (seen_by c.args.nets o) (expr_view i.index)) in
    let given = given_at (numbers i.places) row (map code_of (elements_of (seen_by c.args.nets o) (expr_view i.value))) in
    whole c.args.nets o c.args.statement.now x c.assign_row.new.out (ap statement_view i.is)
    (does_assign (targets_at (numbers i.places) row) given given o c.assign_row.new.out refl
    (c.assign_row.ensures ∙ (λ k. record o {
      entries = assigned (targets_at (numbers i.places) (row_at (spacing_view i.spacing) (numbers i.places) (index k)))
          (given_at (numbers i.places) (row_at (spacing_view i.spacing) (numbers i.places) (index k)) (map code_of (value k))) o.entries;
    })))

pub run-set_row-requires : goal.run-set_row-requires
run-set_row-requires t c =
    let o = c.args.out.now in
    let i = c.in-SetAt in
    let x = bodies.set_at (expr_view i.index) (spacing_view i.spacing) (numbers i.targets) (expr_view i.value) in
    let fit = rows_of_elements_fit c.args.nets o (expr_view i.index) (spacing_view i.spacing) (expr_view i.value) (numbers i.targets) (part c.args.nets o c.args.statement.now x c.requires (ap statement_view i.is)) in
    let value = c.value-value-in-SetAt.ensures ∙ ap (λ (seen : Seen). elements_of seen (expr_view i.value)) c.seeing-in-SetAt-2.ensures in
    record { spacing = fit.0; as_long = fit.1 ∙ ap length (sym value); there = fit.2 }

pub run-returns-in-SetAt : goal.run-returns-in-SetAt
run-returns-in-SetAt t c =
    let o = c.args.out.now in
    let i = c.in-SetAt in
    let x = bodies.set_at (expr_view i.index) (spacing_view i.spacing) (numbers i.targets) (expr_view i.value) in
    let index = c.value-index-in-SetAt.ensures ∙ ap (λ (seen : Seen). elements_of seen (expr_view i.index)) c.seeing-in-SetAt.ensures in
    let value = c.value-value-in-SetAt.ensures ∙ ap (λ (seen : Seen). elements_of seen (expr_view i.value)) c.seeing-in-SetAt-2.ensures in
    let row = row_at (spacing_view i.spacing) (numbers i.targets) (elements_of (seen_by c.args.nets o) (expr_view i.index)) in
    let given = given_at (numbers i.targets) row (map code_of (elements_of (seen_by c.args.nets o) (expr_view i.value))) in
    whole c.args.nets o c.args.statement.now x c.set_row.new.out (ap statement_view i.is)
    (does_put (targets_at (numbers i.targets) row) given given o c.set_row.new.out refl
    (c.set_row.ensures ∙ (λ k. record o {
      variables = values_put (targets_at (numbers i.targets) (row_at (spacing_view i.spacing) (numbers i.targets) (index k)))
          (given_at (numbers i.targets) (row_at (spacing_view i.spacing) (numbers i.targets) (index k)) (map code_of (value k))) o.variables;
    })))

-- ---- an if

pub run-run_if-requires : goal.run-run_if-requires
run-run_if-requires t c = (
  omega (arith, c.decreases, ap weight c.in-If.is, if_weight c.in-If.at c.in-If.branches c.in-If.otherwise, ap branches_weight c.deref.ensures.value),
  if_ready c.args.nets c.args.out.now c.args.statement.now c.in-If.at c.in-If.branches c.in-If.otherwise c.deref.result.now c.requires c.in-If.is c.deref.ensures.value,
)

pub run-returns-in-If : goal.run-returns-in-If
run-returns-in-If t c =
    if_done c.args.nets c.args.out.now c.args.statement.now c.in-If.at c.in-If.branches c.in-If.otherwise c.deref.result.now c.run_if.new.out c.in-If.is c.deref.ensures.value c.run_if.ensures

pub run_if-first_met-requires : goal.run_if-first_met-requires
run_if-first_met-requires t c = tests_ready c.args.nets c.args.out.now (else_of c.args.otherwise.now) c.args.branches.now _ c.seeing.ensures c.requires

pub run_if-run_all-requires : goal.run_if-run_all-requires
run_if-run_all-requires t c =
    let b = c.index-branches-at.result in
    let bs = c.args.branches.now in
    let l : c.in-Some.at < length bs = let h = c.in-Some.ensures.there in omega (arith, h, length-map bs (met_by (seen_of c.seeing.result))) in (
      omega (arith, c.decreases, lighter_at branch_weight bs c.in-Some.at b l, ap weight_of c.deref.ensures.value),
      branch_ready c.args.nets c.args.out.now (else_of c.args.otherwise.now) bs c.in-Some.at b c.deref.result.now l c.deref.ensures.value c.requires,
    )

pub run_if-returns-in-Some : goal.run_if-returns-in-Some
run_if-returns-in-Some t c =
    let first = subst (λ (seen : Seen). IsFirstTrue (map (met_by seen) c.args.branches.now) c.in-Some.at) c.seeing.ensures c.in-Some.ensures in
    branch_done c.args.nets c.args.out.now (else_of c.args.otherwise.now) c.args.branches.now c.in-Some.at c.index-branches-at.result c.deref.result.now c.run_all.new.out
    first c.deref.ensures.value c.run_all.ensures

pub run_if-run_all-requires-in-Some-otherwise : goal.run_if-run_all-requires-in-Some-otherwise
run_if-run_all-requires-in-Some-otherwise t c =
    let v = c.in-Some-otherwise.statements in
    let w = last_ready c.args.nets c.args.out.now (else_of c.args.otherwise.now) c.args.branches.now c.requires in (
      omega (arith, c.decreases, ap otherwise_weight c.in-Some-otherwise.is, ap weight_of c.deref-in-Some-otherwise.ensures.value),
      else_ready c.args.nets c.args.out.now c.args.otherwise.now v c.deref-in-Some-otherwise.result.now c.in-Some-otherwise.is c.deref-in-Some-otherwise.ensures.value w,
    )

pub run_if-returns-in-Some-otherwise : goal.run_if-returns-in-Some-otherwise
run_if-returns-in-Some-otherwise t c =
    let none = subst (λ (seen : Seen). NoneIsTrue (map (met_by seen) c.args.branches.now)) c.seeing.ensures c.in-None.ensures in
    last_done c.args.nets c.args.out.now (else_of c.args.otherwise.now) c.args.branches.now c.run_all-in-Some-otherwise.new.out none
    (else_done c.args.nets c.args.out.now c.args.otherwise.now c.in-Some-otherwise.statements c.deref-in-Some-otherwise.result.now c.run_all-in-Some-otherwise.new.out
    c.in-Some-otherwise.is c.deref-in-Some-otherwise.ensures.value c.run_all-in-Some-otherwise.ensures)

pub run_if-returns-in_default : goal.run_if-returns-in_default
run_if-returns-in_default t c =
    let none = subst (λ (seen : Seen). NoneIsTrue (map (met_by seen) c.args.branches.now)) c.seeing.ensures c.in-None.ensures in
    last_done c.args.nets c.args.out.now (else_of c.args.otherwise.now) c.args.branches.now c.args.out.now none
    (no_else_done c.args.nets c.args.out.now c.args.otherwise.now c.in_default.is)

-- ---- a case

pub run-run_case-requires : goal.run-run_case-requires
run-run_case-requires t c = (
  omega (arith, c.decreases, ap weight c.in-Case.is, case_weight c.in-Case.at c.in-Case.selector c.in-Case.alternatives c.in-Case.others, ap alternatives_weight c.deref-in-Case.ensures.value, ap weight_of c.deref-in-Case-2.ensures.value),
  case_ready c.args.nets c.args.out.now c.args.statement.now c.in-Case.at c.in-Case.selector c.in-Case.alternatives c.in-Case.others c.deref-in-Case.result.now c.deref-in-Case-2.result.now
      c.requires c.in-Case.is c.deref-in-Case.ensures.value c.deref-in-Case-2.ensures.value,
)

pub run-returns-in-Case : goal.run-returns-in-Case
run-returns-in-Case t c =
    let value = c.evaluate-value-in-Case.ensures ∙ ap (λ (seen : Seen). value_of seen (value_view c.in-Case.selector)) c.seeing-in-Case.ensures in
    case_done c.args.nets c.args.out.now c.args.statement.now c.in-Case.at c.in-Case.selector c.in-Case.alternatives c.in-Case.others c.deref-in-Case.result.now c.deref-in-Case-2.result.now
    (codes_of c.evaluate-value-in-Case.result) c.run_case.new.out c.in-Case.is c.deref-in-Case.ensures.value c.deref-in-Case-2.ensures.value value c.run_case.ensures

pub run_case-run_all-requires : goal.run_case-run_all-requires
run_case-run_all-requires t c =
    let a = c.index-alternatives-at.result in
    let xs = c.args.alternatives.now in
    let l : c.in-Some.at < length xs = let h = c.in-Some.ensures.there in omega (arith, h, length-map xs (chosen_by (codes_of c.args.value.now))) in (
      omega (arith, c.decreases, lighter_at alternative_weight xs c.in-Some.at a l, ap weight_of c.deref.ensures.value),
      alternative_ready c.args.nets c.args.out.now (statements_of c.args.others.now) xs c.in-Some.at a c.deref.result.now l c.deref.ensures.value c.requires,
    )

pub run_case-returns-in-Some : goal.run_case-returns-in-Some
run_case-returns-in-Some t c =
    alternative_done c.args.nets c.args.out.now (statements_of c.args.others.now) c.args.alternatives.now (codes_of c.args.value.now) c.in-Some.at c.index-alternatives-at.result c.deref.result.now c.run_all.new.out
    c.in-Some.ensures c.deref.ensures.value c.run_all.ensures

pub run_case-run_all-requires-in-None : goal.run_case-run_all-requires-in-None
run_case-run_all-requires-in-None t c = (omega (arith, c.decreases), others_ready c.args.nets c.args.out.now (statements_of c.args.others.now) c.args.alternatives.now c.requires)

pub run_case-returns-in-None : goal.run_case-returns-in-None
run_case-returns-in-None t c =
    others_done c.args.nets c.args.out.now (statements_of c.args.others.now) c.args.alternatives.now (codes_of c.args.value.now) c.run_all-in-None.new.out c.in-None.ensures c.run_all-in-None.ensures

-- ---- a sequence

pub run_all-run-requires : goal.run_all-run-requires
run_all-run-requires t c =
    let x = c.statement-item.result in
    let ss = c.args.statements.now in
    let i = c.loop-statement.statement-index in (
      omega (arith, c.decreases, lighter weight ss i x c.loop-statement-test.true c.statement-item.is),
      first_ready c.args.nets c.loop-statement.out ss i x c.loop-statement-test.true c.statement-item.is c.loop-statement.invariant.ready,
    )

pub run_all-loop-statement-preserved : goal.run_all-loop-statement-preserved
run_all-loop-statement-preserved t c =
    let x = c.statement-item.result in
    let ss = c.args.statements.now in
    let i = c.loop-statement.statement-index in
    let o = c.loop-statement.out in
    let I = c.loop-statement.invariant in
    record {
      ready = rest_ready c.args.nets o ss i x c.loop-statement-test.true c.statement-item.is c.run.new.out c.run.ensures I.ready;
      leads = λ last d. I.leads last (all_done c.args.nets o ss i x c.loop-statement-test.true c.statement-item.is c.run.new.out c.run.ensures last d);
    }

pub run_all-returns : goal.run_all-returns
run_all-returns t c =
    let i = c.loop-statement.statement-index in
    let ss = c.args.statements.now in
    c.loop-statement.invariant.leads c.loop-statement.out (none_left c.args.nets c.loop-statement.out (drop i ss) (drop_all i ss (omega (arith, c.loop-statement-test.false))))
